-- What stands in lists as rows and nodes one behind the other stands there by its parts.
--
-- `placed_form`: statements stand in their own form. `stands-onto` and `onto-stands` go between an expression that stands by its parts
-- and one whose nodes are those from a place on.
use Rattle.std.proofs.Common.{◌≡◌, ℕ, zero, suc, ◌+◌, ◌<◌, List, [], ◌∷◌, ◌++◌, length, get_or, drop, sym, refl, ap, ◌∙◌, subst, arith}
use Rattle.std.proofs.lemmas.List.{drop-drop, drop_more}
use Rattle.syntax.specs.declared.form.Node.{Node}
use Rattle.syntax.specs.declared.form.Node.TheVariants.{Numeral, Variable, Apply}
use Rattle.syntax.specs.declared.form.Row.{Row}
use Rattle.syntax.specs.declared.form.Row.TheVariants.{Skip, Else, EndIf, EndWhile}
use Rattle.syntax.specs.Trees.{Expression, number, variable, apply, size, Statement, Statements, none, then, skip, assign, release, write, stop, branch, while}
use Rattle.syntax.specs.Form.{nodes_onto, form_rows, form_nodes}
use Rattle.syntax.specs.Parts.{row_count, row_counts, node_count, node_counts, expression_nodes, nodes_of, nodes_in, rows_of, rows_in, Stands, Placed, PlacedIn}
use Rattle.syntax.proofs.Complete.{drop_nodes}
use Rattle.syntax.proofs.Appends.{expression_length, row_length, rows-length, node_length, nodes_length, form_rows_lem, form_nodes_lem}

-- the list xs has us from place b on
abbrev Has : {A : Type 0} → A → List A → ℕ → List A → Type 0
Has z xs b [] = Unit {0}
Has z xs b (r ∷ l) = ((b < length xs) × (get_or xs b z ≡ r)) × Has z xs (suc b) l

shift : {A : Type 0} (z x : A) (xs : List A) (b : ℕ) (us : List A) → Has z xs b us → Has z (x ∷ xs) (suc b) us
shift z x xs b [] h = tt
shift z x xs b (r ∷ l) h = ((omega (arith, h.0.0), h.0.1), shift z x xs (suc b) l h.1)

self : {A : Type 0} (z : A) (us : List A) → Has z us 0 us
self z [] = tt
self z (r ∷ l) = ((omega arith, refl), shift z r l 0 l (self z l))

module _ {A : Type 0} (z : A) (xs : List A) where
  left : (b : ℕ) (us vs : List A) → Has z xs b (us ++ vs) → Has z xs b us
  left b [] vs h = tt
  left b (r ∷ l) vs h = (h.0, left (suc b) l vs h.1)

  right : (b : ℕ) (us vs : List A) (q : ℕ) → q ≡ b + length us → Has z xs b (us ++ vs) → Has z xs q vs
  right b [] vs q e h = let f : b ≡ q = omega arith in subst (λ x. Has z xs x vs) f h
  right b (r ∷ l) vs q e h = right (suc b) l vs q (omega arith) h.1

stands : (xs : List Node) (at : ℕ) (e : Expression) → Has (Numeral 0) xs at (expression_nodes e) → Stands xs at e
stands xs at (number n) h = h.0
stands xs at (variable v) h = h.0
stands xs at (apply o a b) h =
    let f : suc at ≡ at + 1 = omega arith in
    let k = subst (λ x. Has (Numeral 0) xs x (expression_nodes a ++ expression_nodes b)) f h.1 in (
      h.0,
      stands xs (at + 1) a (left (Numeral 0) xs (at + 1) (expression_nodes a) (expression_nodes b) k),
      stands xs (at + 1 + size a) b (right (Numeral 0) xs (at + 1) (expression_nodes a) (expression_nodes b) (at + 1 + size a) (omega (arith, expression_length a)) k),
    )

module _ (rows : List Row) (nodes : List Node) where
  abbrev HasRows : ℕ → List Row → Type 0
  HasRows = Has Skip rows

  abbrev HasNodes : ℕ → List Node → Type 0
  HasNodes = Has (Numeral 0) nodes

  mutual
    placed : (b n : ℕ) (s : Statement) → HasRows b (rows_of b n s) → HasNodes n (nodes_of s) → Placed rows nodes b n s
    placed b n skip h k = h.0
    placed b n (assign v e) h k = (h.0, stands nodes n e k)
    placed b n (release v e) h k = (h.0, stands nodes n e k)
    placed b n (write t e) h k = (h.0, stands nodes n e k)
    placed b n (stop x) h k = h.0
    placed b n (branch e A B) h k =
        let ra = rows_in (b + 1) (n + size e) A in
        let rb = rows_in (b + 2 + row_counts A) (n + size e + node_counts A) B in
        let u = Else (b + 2 + row_counts A + row_counts B) in
        let f : suc b ≡ b + 1 = omega arith in
        let h1 = subst (λ x. HasRows x (ra ++ (u ∷ (rb ++ (EndIf ∷ []))))) f h.1 in
        let h2 = right Skip rows (b + 1) ra (u ∷ (rb ++ (EndIf ∷ []))) (b + 1 + row_counts A) (omega (arith, rows-length (b + 1) (n + size e) A)) h1 in
        let g : suc (b + 1 + row_counts A) ≡ b + 2 + row_counts A = omega arith in
        let h3 = subst (λ x. HasRows x (rb ++ (EndIf ∷ []))) g h2.1 in
        let h4 = right Skip rows (b + 2 + row_counts A) rb (EndIf ∷ []) (b + 2 + row_counts A + row_counts B) (omega (arith, rows-length (b + 2 + row_counts A) (n + size e + node_counts A) B)) h3 in
        let k1 = right (Numeral 0) nodes n (expression_nodes e) (nodes_in A ++ nodes_in B) (n + size e) (omega (arith, expression_length e)) k in
        let k2 = right (Numeral 0) nodes (n + size e) (nodes_in A) (nodes_in B) (n + size e + node_counts A) (omega (arith, nodes_length A)) k1 in
        record {
          if_row = h.0;
          condition = stands nodes n e (left (Numeral 0) nodes n (expression_nodes e) (nodes_in A ++ nodes_in B) k);
          first_arm = placed_in (b + 1) (n + size e) A (left Skip rows (b + 1) ra (u ∷ (rb ++ (EndIf ∷ []))) h1) (left (Numeral 0) nodes (n + size e) (nodes_in A) (nodes_in B) k1);
          else_row = h2.0;
          second_arm = placed_in (b + 2 + row_counts A) (n + size e + node_counts A) B (left Skip rows (b + 2 + row_counts A) rb (EndIf ∷ []) h3) k2;
          end_row = h4.0;
        }
    placed b n (while e A) h k =
        let ra = rows_in (b + 1) (n + size e) A in
        let f : suc b ≡ b + 1 = omega arith in
        let h1 = subst (λ x. HasRows x (ra ++ (EndWhile b ∷ []))) f h.1 in
        let h2 = right Skip rows (b + 1) ra (EndWhile b ∷ []) (b + 1 + row_counts A) (omega (arith, rows-length (b + 1) (n + size e) A)) h1 in
        let k1 = right (Numeral 0) nodes n (expression_nodes e) (nodes_in A) (n + size e) (omega (arith, expression_length e)) k in
        record {
          while_row = h.0;
          condition = stands nodes n e (left (Numeral 0) nodes n (expression_nodes e) (nodes_in A) k);
          body = placed_in (b + 1) (n + size e) A (left Skip rows (b + 1) ra (EndWhile b ∷ []) h1) k1;
          end_row = h2.0;
        }

    placed_in : (b n : ℕ) (S : Statements) → HasRows b (rows_in b n S) → HasNodes n (nodes_in S) → PlacedIn rows nodes b n S
    placed_in b n none h k = tt
    placed_in b n (then s l) h k =
        let rs = rows_of b n s in
        let rl = rows_in (b + row_count s) (n + node_count s) l in (
          placed b n s (left Skip rows b rs rl h) (left (Numeral 0) nodes n (nodes_of s) (nodes_in l) k),
          placed_in (b + row_count s) (n + node_count s) l (right Skip rows b rs rl (b + row_count s) (omega (arith, row_length b n s)) h) (right (Numeral 0) nodes n (nodes_of s) (nodes_in l) (n + node_count s) (omega (arith, node_length s)) k),
        )

-- statements stand in their own rows and nodes
pub placed_parts : (S : Statements) → PlacedIn (rows_in 0 0 S) (nodes_in S) 0 0 S
placed_parts S = placed_in (rows_in 0 0 S) (nodes_in S) 0 0 S (self Skip (rows_in 0 0 S)) (self (Numeral 0) (nodes_in S))

pub placed_form : (S : Statements) (rows : List Row) (nodes : List Node) → rows ≡ form_rows S → nodes ≡ form_nodes S → PlacedIn rows nodes 0 0 S
placed_form S rows nodes p q =
    subst (λ r. PlacedIn r nodes 0 0 S) (sym (p ∙ form_rows_lem S)) (subst (λ n. PlacedIn (rows_in 0 0 S) n 0 0 S) (sym (q ∙ form_nodes_lem S)) (placed_parts S))

-- what a list has at a place where the rest is known
front : {A : Type 0} (z x : A) (xs : List A) (at : ℕ) (l : List A) → drop at xs ≡ x ∷ l → (at < length xs) × (get_or xs at z ≡ x) × (drop (at + 1) xs ≡ l)
front z x [] zero l e = absurd (omega (arith, ap length e))
front z x (y ∷ xs) zero l e = (omega arith, cc, cc)
front z x [] (suc at) l e = absurd (omega (arith, ap length e))
front z x (y ∷ xs) (suc at) l e =
    let h = front z x xs at l e in
    let f : suc at + 1 ≡ suc (at + 1) = omega arith in
    (omega (arith, h.0), h.1, rw f h.2)

pub stands-onto : (nodes : List Node) (at : ℕ) (e : Expression) (rest : List Node) → drop at nodes ≡ nodes_onto e rest → Stands nodes at e
stands-onto nodes at (number n) rest h = let f = front (Numeral 0) (Numeral n) nodes at rest h in (f.0, f.1)
stands-onto nodes at (variable v) rest h = let f = front (Numeral 0) (Variable v) nodes at rest h in (f.0, f.1)
stands-onto nodes at (apply o a b) rest h =
    let f = front (Numeral 0) (Apply o) nodes at (nodes_onto a (nodes_onto b rest)) h in
    let g : drop (at + 1 + size a) nodes ≡ nodes_onto b rest = sym (drop-drop (size a) (at + 1) nodes) ∙ ap (drop (size a)) f.2 ∙ drop_nodes a (nodes_onto b rest) in
    ((f.0, f.1), stands-onto nodes (at + 1) a (nodes_onto b rest) f.2, stands-onto nodes (at + 1 + size a) b rest g)

pub onto-stands : (nodes : List Node) (at : ℕ) (e : Expression) → Stands nodes at e → drop at nodes ≡ nodes_onto e (drop (at + size e) nodes)
onto-stands nodes at (number n) h = drop_more nodes at (Numeral 0) h.0 ∙ ap (λ x. x ∷ drop (at + 1) nodes) h.1
onto-stands nodes at (variable v) h = drop_more nodes at (Numeral 0) h.0 ∙ ap (λ x. x ∷ drop (at + 1) nodes) h.1
onto-stands nodes at (apply o a b) h =
    let end : at + 1 + size a + size b ≡ at + suc (size a + size b) = omega arith in
    drop_more nodes at (Numeral 0) h.0.0 ∙ ap (λ x. x ∷ drop (at + 1) nodes) h.0.1
    ∙ ap (λ l. Apply o ∷ l) (onto-stands nodes (at + 1) a h.1 ∙ ap (nodes_onto a) (onto-stands nodes (at + 1 + size a) b h.2 ∙ ap (λ n. nodes_onto b (drop n nodes)) end))
