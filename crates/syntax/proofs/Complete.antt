-- The form of a legal script is decoded as that script (`reads_form`).
--
-- By induction on the statements: what is decoded from the rows behind a statement, with what is open there, gives what is decoded from its
-- own rows on. `From` keeps that the nodes from a place on are those that the rows from there on need.
use Rattle.std.proofs.Common.{◌≡◌, ℕ, suc, ◌+◌, ◌≤◌, true, eqb, List, [], ◌∷◌, length, drop, Some, sym, refl, ap, ◌∙◌, arith, length-drop}
use Rattle.std.proofs.lemmas.Bool.{cond-true, lt-ltb, le-leb, eq-eqb, and_from}
use Rattle.std.proofs.lemmas.List.{drop-drop}
use Rattle.syntax.specs.declared.form.Node.{Node}
use Rattle.syntax.specs.declared.form.Row.{Row}
use Rattle.syntax.specs.Trees.{Expression, number, variable, apply, size, Statement, Statements, none, then, skip, assign, release, write, stop, branch, while, nesting_of, nesting_in, LegalExpression, LegalStatement, LegalStatements}
use Rattle.syntax.specs.Form.{TreeRow, skips, assigns, releases, writes, stops, branches, leaves, closes, repeats, goes_back, row_after_of, row_after_in, tree_rows_of, tree_rows_in, nodes_onto, node_after_row, node_after_of, node_after_in, as_row, rows_from, nodes_from, form_rows, form_nodes}
use Rattle.syntax.specs.Decoder.{bind, when, expression_of, Frame, in_else, in_then, in_body, stack, state, value_at, first_node, row_expression, prepend, decode_row, decode_rows, finish, statements_of}
use Rattle.syntax.proofs.Prefix.{reads_nodes}

pub same : (n : ℕ) → eqb n n ≡ true
same n = eq-eqb n n refl

pub drop_nodes : (e : Expression) (l : List Node) → drop (size e) (nodes_onto e l) ≡ l
drop_nodes (number n) l = refl
drop_nodes (variable v) l = refl
drop_nodes (apply o a b) l = sym (drop-drop (size b) (size a) (nodes_onto a (nodes_onto b l))) ∙ ap (drop (size b)) (drop_nodes a (nodes_onto b l)) ∙ drop_nodes b l

pub length_nodes : (e : Expression) (l : List Node) → length (nodes_onto e l) ≡ size e + length l
length_nodes (number n) l = omega arith
length_nodes (variable v) l = omega arith
length_nodes (apply o a b) l = omega (arith, length_nodes a (nodes_onto b l), length_nodes b l)

-- the nodes from a on are these
pub record From (nodes : List Node) (a : ℕ) (l : List Node) : Type 0 where
  pub rest : drop a nodes ≡ l
  pub within : a ≤ length nodes

module _ (k : ℕ) (nodes : List Node) where
  -- behind an expression
  pub moved : (e : Expression) (a : ℕ) (l : List Node) → From nodes a (nodes_onto e l) → From nodes (a + size e) l
  moved e a l h = record {
    rest = sym (drop-drop (size e) a nodes) ∙ ap (drop (size e)) h.rest ∙ drop_nodes e l;
    within = omega (arith, h.within, length_nodes e l, sym (length-drop a nodes) ∙ ap length h.rest);
  }

  value_at_lem : (e : Expression) (a : ℕ) (l : List Node) → LegalExpression k e → From nodes a (nodes_onto e l) → value_at k nodes (a + size e) a ≡ Some e
  value_at_lem e a l s h =
      ap (λ x. bind x (λ p. when (eqb (a + size p.expression) (a + size e)) p.expression)) (ap (expression_of k 20) h.rest ∙ reads_nodes k 20 e l s.ranged s.shallow)
      ∙ cond-true _ _ _ (same (a + size e))

  -- a row whose expression is found, and that fits in front
  turned : (b : ℕ) (r : Row) (next : ℕ) (l : Statements) (fs : List Frame) (e : Expression) (m : Statements) (gs : List Frame)
      → row_expression k nodes next r ≡ Some e → prepend b r e l fs ≡ Some (stack m gs) → decode_row k nodes b r (state next (stack l fs)) ≡ Some (state (first_node next r) (stack m gs))
  turned b r next l fs e m gs p q = ap (λ x. bind x (λ x. bind (prepend b r x l fs) (λ t. Some (state (first_node next r) t)))) p ∙ ap (λ x. bind x (λ t. Some (state (first_node next r) t))) q

  -- what is read from rows whose nodes begin at a
  abbrev Met : ℕ → ℕ → List TreeRow → Statements → List Frame → Type 0
  Met b a fs l gs = decode_rows k nodes b (rows_from a fs) ≡ Some (state a (stack l gs))

  begins : (a : ℕ) (f : TreeRow) → first_node (node_after_row a f) (as_row a f) ≡ a
  begins a skips = refl
  begins a (assigns v e) = refl
  begins a (releases v e) = refl
  begins a (writes t e) = refl
  begins a (stops n) = refl
  begins a (branches e m) = refl
  begins a (leaves m) = refl
  begins a closes = refl
  begins a (repeats e m) = refl
  begins a (goes_back m) = refl

  one : (b a : ℕ) (f : TreeRow) (fs : List TreeRow) (l : Statements) (gs : List Frame) (e : Expression) (m : Statements) (hs : List Frame)
      → Met (suc b) (node_after_row a f) fs l gs → row_expression k nodes (node_after_row a f) (as_row a f) ≡ Some e → prepend b (as_row a f) e l gs ≡ Some (stack m hs) → Met b a (f ∷ fs) m hs
  one b a f fs l gs e m hs h p q = ap (λ x. bind x (decode_row k nodes b (as_row a f))) h ∙ turned b (as_row a f) (node_after_row a f) l gs e m hs p q ∙ ap (λ x. Some (state x (stack m hs))) (begins a f)

  mutual
    of : (s : Statement) (b a : ℕ) (fs : List TreeRow) (l : Statements) (gs : List Frame) → LegalStatement k s → length gs + nesting_of s ≤ 20 → From nodes a (nodes_from (tree_rows_of b s fs))
        → (From nodes (node_after_of a s) (nodes_from fs) → Met (row_after_of b s) (node_after_of a s) fs l gs) → Met b a (tree_rows_of b s fs) (then s l) gs
    of skip b a fs l gs s r d h = one b a skips fs l gs (number 0) _ _ (h d) refl refl
    of (assign v e) b a fs l gs s r d h =
        one b a (assigns v e) fs l gs e _ _ (h (moved e a (nodes_from fs) d)) (cond-true _ _ _ (lt-ltb v k s.0) ∙ value_at_lem e a (nodes_from fs) s.1 d) refl
    of (release v e) b a fs l gs s r d h =
        one b a (releases v e) fs l gs e _ _ (h (moved e a (nodes_from fs) d)) (cond-true _ _ _ (lt-ltb v k s.0) ∙ value_at_lem e a (nodes_from fs) s.1 d) refl
    of (write t e) b a fs l gs s r d h =
        one b a (writes t e) fs l gs e _ _ (h (moved e a (nodes_from fs) d)) (cond-true _ _ _ (le-leb t 2147483647 s.0) ∙ value_at_lem e a (nodes_from fs) s.1 d) refl
    of (stop n) b a fs l gs s r d h = one b a (stops n) fs l gs (number 0) _ _ (h d) (cond-true _ _ _ (le-leb n 2147483647 s)) refl
    of (branch e A B) b a fs l gs s r d h =
        let m = row_after_in (suc b) A in
        let n = row_after_in (suc m) B in
        let rest = leaves n ∷ tree_rows_in (suc m) B (closes ∷ fs) in
        one b a (branches e m) (tree_rows_in (suc b) A rest) A (in_then m n B l ∷ gs) e _ _
        (inside A (suc b) (a + size e) rest (in_then m n B l ∷ gs) s.1 (omega arith) (moved e a _ d) (λ d1.
        one m _ (leaves n) (tree_rows_in (suc m) B (closes ∷ fs)) B (in_else n l ∷ gs) (number 0) _ _
        (inside B (suc m) _ (closes ∷ fs) (in_else n l ∷ gs) s.2 (omega arith) d1 (λ d2.
        one n _ closes fs l gs (number 0) _ _ (h d2) refl (cond-true _ _ _ (lt-ltb (length gs) 20 (omega arith)))))
        refl (cond-true _ _ _ (same n))))
        (value_at_lem e a _ s.0 d) (cond-true _ _ _ (same m))
    of (while e A) b a fs l gs s r d h =
        let m = row_after_in (suc b) A in
        one b a (repeats e m) (tree_rows_in (suc b) A (goes_back b ∷ fs)) A (in_body b m l ∷ gs) e _ _
        (inside A (suc b) (a + size e) (goes_back b ∷ fs) (in_body b m l ∷ gs) s.1 (omega arith) (moved e a _ d) (λ d1.
        one m _ (goes_back b) fs l gs (number 0) _ _ (h d1) refl (cond-true _ _ _ (lt-ltb (length gs) 20 (omega arith)))))
        (value_at_lem e a _ s.0 d) (cond-true _ _ _ (and_from _ _ (same b) (same m)))

    inside : (l : Statements) (b a : ℕ) (fs : List TreeRow) (gs : List Frame) → LegalStatements k l → length gs + nesting_in l ≤ 20 → From nodes a (nodes_from (tree_rows_in b l fs))
        → (From nodes (node_after_in a l) (nodes_from fs) → Met (row_after_in b l) (node_after_in a l) fs none gs) → Met b a (tree_rows_in b l fs) l gs
    inside none b a fs gs s r d h = h d
    inside (then x l) b a fs gs s r d h =
        of x b a (tree_rows_in (row_after_of b x) l fs) l gs s.0 (omega arith) d (λ d1. inside l (row_after_of b x) (node_after_of a x) fs gs s.1 (omega arith) d1 h)

-- the form is read as the program
pub reads_form : (k : ℕ) (p : Statements) → LegalStatements k p → nesting_in p ≤ 20 → statements_of k (form_rows p) (form_nodes p) ≡ Some p
unfolding statements_of
reads_form k p s r =
    let nodes = form_nodes p in
    ap (λ x. bind x finish)
    (inside k nodes p 0 0 [] [] s (omega arith) (record { rest = refl; within = omega arith }) (λ e.
    let n : length nodes ≡ node_after_in 0 p = omega (arith, e.within, sym (length-drop (node_after_in 0 p) nodes) ∙ ap length e.rest) in
    ap (λ x. Some (state x (stack none []))) n))
