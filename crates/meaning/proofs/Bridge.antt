-- The rewriting of the rules is the rewriting over named registers, row by row and place by place.
--
-- `named_in` turns a list of statements into a sequence of two parts. `onto` puts numbers for the names of code again, in front of a rest. The rows of
-- what `onto` gives are the rows that the code is laid out to, with numbers for names; and what `onto` gives of the named rewriting is the
-- rewriting of the rules. So row p of the rewritten script is row p of the named one, and likewise for the script as bought and for the places.
use Rattle.std.proofs.Common.{◌≡◌, ℕ, zero, suc, ◌+◌, ◌-◌, max, Bool, true, false, cond, ◌||◌, List, [], ◌∷◌, ◌++◌, map, pos, Some, None, Option, sym, refl, ap, ◌∙◌, ap₂, append_assoc, append-nil, add-zero, zero-add, arith}
use Rattle.std.proofs.lemmas.Bool.{and_parts}
use mathlib.Core.Path.{fun_ext}
use mathlib.Core.Bool.{false≢true}
use Rattle.values.specs.declared.Operator.{Operator}
use Rattle.values.specs.declared.Operator.TheVariants.{Equal, Less, Maximum}
use Rattle.syntax.specs.Trees as tree
use Rattle.syntax.specs.Trees.{Expression, number, variable, apply, Statement, Statements, none, then, join, single, nesting_of, nesting_in}
use Rattle.syntax.specs.Form.{TreeRow, branches, leaves, closes, repeats, goes_back, row_after_in, tree_rows_in, tree_rows}
use Rattle.meaning.specs.Families.{Family, joiner}
use Rattle.meaning.specs.Machine.{row_at}
use Rattle.meaning.specs.Rules.{level_register, mark_register, guard_register, level_of, mark_of, guard_of, guarded_level, has_while, has_while_in, changes, changes_in, raised, toll, tolls, padding, stop_check, rewritten_arms, rewritten_of, rewritten_in}
use Rattle.meaning.specs.Rules as rule
use Rattle.meaning.specs.Rewriting.{never_stops, never_stops_in, first_rows}
use Rattle.meaning.proofs.NamedCode.{Interpretation, Exp, num, var, op, Reg, own, level, mark, guard, Code, cnil, cskip, cassign, crelease, cwrite, cstop, cseq, cif, cwhile, Origin, bought, withholding, stopping, inside, withholds, Row, Laid, laid-at, lay, after, natural}
use Rattle.meaning.proofs.NamedRules.{Script, nil, skip, assign, release, write, seq, if, while, plus, named_has_while, assigns, rising, pads, own_exp, level_exp, mark_exp, guard_exp, stop_check_lem, raise, branch, rewrite}
use Rattle.meaning.proofs.NamedRules as named
use Rattle.meaning.proofs.Programs.{at, named_first_rows, nesting}
use Rattle.meaning.proofs.Programs as code
use Rattle.meaning.proofs.Interpretations.{machine}
use Rattle.meaning.proofs.Numbers as numbers
use Rattle.meaning.proofs.Numbers.{register_number, tree_row}
use Rattle.meaning.proofs.Frames.{plus_is}

-- ---- scripts by two parts

abbrev pub exp_of : Expression → Exp ℕ
exp_of (number k) = num (pos k)
exp_of (variable k) = var k
exp_of (apply o a b) = op o (exp_of a) (exp_of b)

-- a script to be rewritten has no `stop`
abbrev mutual
  pub named_of : Statement → Script
  named_of tree.skip = skip
  named_of (tree.assign k e) = assign k (exp_of e)
  named_of (tree.release k e) = release k (exp_of e)
  named_of (tree.write t e) = write (pos t) (exp_of e)
  named_of (tree.stop n) = nil
  named_of (tree.branch e A B) = if (exp_of e) (named_in A) (named_in B)
  named_of (tree.while e A) = while (exp_of e) (named_in A)

  pub named_in : Statements → Script
  named_in none = nil
  named_in (then s l) = seq (named_of s) (named_in l)

mutual
  nesting_of_lem : (s : Statement) → nesting (named_of s) ≡ nesting_of s
  nesting_of_lem tree.skip = refl
  nesting_of_lem (tree.assign k e) = refl
  nesting_of_lem (tree.release k e) = refl
  nesting_of_lem (tree.write t e) = refl
  nesting_of_lem (tree.stop n) = refl
  nesting_of_lem (tree.branch e A B) = ap suc (ap₂ max (nesting_in_lem A) (nesting_in_lem B))
  nesting_of_lem (tree.while e A) = ap suc (nesting_in_lem A)

  pub nesting_in_lem : (l : Statements) → nesting (named_in l) ≡ nesting_in l
  nesting_in_lem none = refl
  nesting_in_lem (then s l) = ap₂ max (nesting_of_lem s) (nesting_in_lem l)

mutual
  while_of : (s : Statement) → named_has_while (named_of s) ≡ has_while s
  while_of tree.skip = refl
  while_of (tree.assign k e) = refl
  while_of (tree.release k e) = refl
  while_of (tree.write t e) = refl
  while_of (tree.stop n) = refl
  while_of (tree.branch e A B) = ap₂ ◌||◌ (while_in A) (while_in B)
  while_of (tree.while e A) = refl

  pub while_in : (l : Statements) → named_has_while (named_in l) ≡ has_while_in l
  while_in none = refl
  while_in (then s l) = ap₂ ◌||◌ (while_of s) (while_in l)

mutual
  changes_of : (s : Statement) (k : ℕ) → assigns (named_of s) k ≡ changes s k
  changes_of tree.skip k = refl
  changes_of (tree.assign i e) k = refl
  changes_of (tree.release i e) k = refl
  changes_of (tree.write t e) k = refl
  changes_of (tree.stop n) k = refl
  changes_of (tree.branch e A B) k = ap₂ ◌||◌ (changes_in_lem A k) (changes_in_lem B k)
  changes_of (tree.while e A) k = changes_in_lem A k

  changes_in_lem : (l : Statements) (k : ℕ) → assigns (named_in l) k ≡ changes_in l k
  changes_in_lem none k = refl
  changes_in_lem (then s l) k = ap₂ ◌||◌ (changes_of s k) (changes_in_lem l k)

-- the two ways to list rising numbers are one
rising_is : (n : ℕ) (p : ℕ → Bool) → rising n p ≡ rule.rising n p
rising_is zero p = refl
rising_is (suc n) p = ap (λ l. l ++ cond (p n) (n ∷ []) []) (rising_is n p)

-- ---- numbers for names

abbrev pub onto : ℕ → Code Reg → Statements → Statements
onto n cnil rest = rest
onto n cskip rest = then tree.skip rest
onto n (cassign r e) rest = then (tree.assign (register_number n r) (numbers.tree n e)) rest
onto n (crelease r e) rest = then (tree.release (register_number n r) (numbers.tree n e)) rest
onto n (cwrite t e) rest = then (tree.write (natural t) (numbers.tree n e)) rest
onto n (cstop k) rest = then (tree.stop k) rest
onto n (cseq A B) rest = onto n A (onto n B rest)
onto n (cif x e A B) rest = then (tree.branch (numbers.tree n e) (onto n A none) (onto n B none)) rest
onto n (cwhile e A) rest = then (tree.while (numbers.tree n e) (onto n A none)) rest

pub join_none : (l : Statements) → join l none ≡ l
join_none none = refl
join_none (then s l) = ap (then s) (join_none l)

join_assoc : (a b c : Statements) → join (join a b) c ≡ join a (join b c)
join_assoc none b c = refl
join_assoc (then s a) b c = ap (then s) (join_assoc a b c)

-- ---- the rows of code with numbers for names

abbrev some_rows : List TreeRow → List (Option TreeRow)
some_rows [] = []
some_rows (x ∷ xs) = Some x ∷ some_rows xs

abbrev tree_list : ℕ → List (Laid Reg) → List (Option TreeRow)
tree_list n [] = []
tree_list n (x ∷ xs) = tree_row n x.row ∷ tree_list n xs

tree_list-append : (n : ℕ) (xs ys : List (Laid Reg)) → tree_list n (xs ++ ys) ≡ tree_list n xs ++ tree_list n ys
tree_list-append n [] ys = refl
tree_list-append n (x ∷ xs) ys = ap (λ l. tree_row n x.row ∷ l) (tree_list-append n xs ys)

row_after : (n b : ℕ) (c : Code Reg) (rest : Statements) → row_after_in b (onto n c rest) ≡ row_after_in (after b c) rest
row_after n b cnil rest = refl
row_after n b cskip rest = refl
row_after n b (cassign r e) rest = refl
row_after n b (crelease r e) rest = refl
row_after n b (cwrite t e) rest = refl
row_after n b (cstop k) rest = refl
row_after n b (cseq A B) rest = row_after n b A (onto n B rest) ∙ row_after n (after b A) B rest
row_after n b (cif x e A B) rest = ap (λ k. row_after_in (suc k) rest) (row_after n (suc (row_after_in (suc b) (onto n A none))) B none ∙ ap (λ k. after (suc k) B) (row_after n (suc b) A none))
row_after n b (cwhile e A) rest = ap (λ k. row_after_in (suc k) rest) (row_after n (suc b) A none)

rows-onto : (n D b : ℕ) (c : Code Reg) (rest : Statements) (fs : List TreeRow) →
    some_rows (tree_rows_in b (onto n c rest) fs) ≡ tree_list n (lay D b c) ++ some_rows (tree_rows_in (after b c) rest fs)
rows-onto n D b cnil rest fs = refl
rows-onto n D b cskip rest fs = refl
rows-onto n D b (cassign r e) rest fs = refl
rows-onto n D b (crelease r e) rest fs = refl
rows-onto n D b (cwrite t e) rest fs = refl
rows-onto n D b (cstop k) rest fs = refl
rows-onto n D b (cseq A B) rest fs =
    rows-onto n D b A (onto n B rest) fs ∙ ap (λ l. tree_list n (lay D b A) ++ l) (rows-onto n D (after b A) B rest fs)
    ∙ sym (append_assoc (tree_list n (lay D b A)) (tree_list n (lay D (after b A) B)) _) ∙ ap (λ l. l ++ some_rows (tree_rows_in (after (after b A) B) rest fs)) (sym (tree_list-append n (lay D b A) _))
rows-onto n D b (cif x e A B) rest fs =
    ap₂ (λ m k. Some (branches t m) ∷ some_rows (tree_rows_in (suc b) A' (leaves k ∷ tree_rows_in (suc m) B' (closes ∷ tree_rows_in (suc k) rest fs)))) at_else at_end_lem
    ∙ ap (λ l. Some (branches t m₁) ∷ l) (rows-onto n (inside x D) (suc b) A none _ ∙ ap (λ l. tree_list n (lay (inside x D) (suc b) A) ++ (Some (leaves n₁) ∷ l)) (rows-onto n (inside x D) (suc m₁) B none _)
    ∙ sym together)
  where
    t : Expression
    t = numbers.tree n e

    A' : Statements
    A' = onto n A none

    B' : Statements
    B' = onto n B none

    m₁ : ℕ
    m₁ = after (suc b) A

    n₁ : ℕ
    n₁ = after (suc m₁) B

    at_else : row_after_in (suc b) A' ≡ m₁
    at_else = row_after n (suc b) A none

    at_end_lem : row_after_in (suc (row_after_in (suc b) A')) B' ≡ n₁
    at_end_lem = ap (λ m. row_after_in (suc m) B') at_else ∙ row_after n (suc m₁) B none

    together : tree_list n (lay (inside x D) (suc b) A ++ (laid-at D (Rattle.meaning.proofs.NamedCode.relse n₁) ∷ (lay (inside x D) (suc m₁) B ++ (laid-at D Rattle.meaning.proofs.NamedCode.rend ∷ [])))) ++ some_rows (tree_rows_in (suc n₁) rest fs)
        ≡ tree_list n (lay (inside x D) (suc b) A) ++ (Some (leaves n₁) ∷ (tree_list n (lay (inside x D) (suc m₁) B) ++ (Some closes ∷ some_rows (tree_rows_in (suc n₁) rest fs))))
    together =
        ap (λ l. l ++ some_rows (tree_rows_in (suc n₁) rest fs)) (tree_list-append n (lay (inside x D) (suc b) A) _)
        ∙ append_assoc (tree_list n (lay (inside x D) (suc b) A)) _ _
        ∙ ap (λ l. tree_list n (lay (inside x D) (suc b) A) ++ (Some (leaves n₁) ∷ l))
        (ap (λ l. l ++ some_rows (tree_rows_in (suc n₁) rest fs)) (tree_list-append n (lay (inside x D) (suc m₁) B) _) ∙ append_assoc (tree_list n (lay (inside x D) (suc m₁) B)) _ _)
rows-onto n D b (cwhile e A) rest fs =
    ap (λ m. Some (repeats (numbers.tree n e) m) ∷ some_rows (tree_rows_in (suc b) (onto n A none) (goes_back b ∷ tree_rows_in (suc m) rest fs))) (row_after n (suc b) A none)
    ∙ ap (λ l. Some (repeats (numbers.tree n e) (after (suc b) A)) ∷ l) (rows-onto n (suc D) (suc b) A none _
    ∙ sym (ap (λ l. l ++ some_rows (tree_rows_in (suc (after (suc b) A)) rest fs)) (tree_list-append n (lay (suc D) (suc b) A) _) ∙ append_assoc (tree_list n (lay (suc D) (suc b) A)) _ _))

abbrev pick : List (Option TreeRow) → ℕ → Option TreeRow
pick [] p = None
pick (x ∷ xs) zero = x
pick (x ∷ xs) (suc p) = pick xs p

pick_some : (xs : List TreeRow) (p : ℕ) → row_at xs p ≡ pick (some_rows xs) p
pick_some [] p = refl
pick_some (x ∷ xs) zero = refl
pick_some (x ∷ xs) (suc p) = pick_some xs p

pick-laid : (n : ℕ) (xs : List (Laid Reg)) (p : ℕ) → tree_row n (at xs p).row ≡ pick (tree_list n xs) p
pick-laid n [] p = refl
pick-laid n (x ∷ xs) zero = refl
pick-laid n (x ∷ xs) (suc p) = pick-laid n xs p

-- row p of a program that is code with numbers for names
pub row_at_lem : (n : ℕ) (c : Code Reg) (l : Statements) → onto n c none ≡ l → (p : ℕ) → row_at (tree_rows l) p ≡ tree_row n (at (lay 0 0 c) p).row
row_at_lem n c l e p =
    ap (λ x. row_at (tree_rows_in 0 x []) p) (sym e) ∙ pick_some (tree_rows_in 0 (onto n c none) []) p
    ∙ ap (λ xs. pick xs p) (rows-onto n 0 0 c none [] ∙ append-nil (tree_list n (lay 0 0 c))) ∙ sym (pick-laid n (lay 0 0 c) p)

-- ---- the named rewriting, with numbers for names, is the rewriting of the rules

-- the toll of code is that of its statements
pub toll-onto : (n : ℕ) (c : Code Reg) (rest : Statements) → tolls (onto n c rest) ≡ named.toll c + tolls rest
toll-onto n cnil rest = sym (zero-add (tolls rest))
toll-onto n cskip rest = refl
toll-onto n (cassign r e) rest = refl
toll-onto n (crelease r e) rest = refl
toll-onto n (cwrite t e) rest = refl
toll-onto n (cstop k) rest = refl
toll-onto n (cseq A B) rest = let a = toll-onto n A (onto n B rest) in let b = toll-onto n B rest in let p = plus_is (named.toll A) (named.toll B) in omega arith
toll-onto n (cif x e A B) rest = let a = toll-onto n A none in let p = plus_is (named.toll A) 1 in omega arith
toll-onto n (cwhile e A) rest = refl

pads-onto : (n k : ℕ) (rest : Statements) → onto n (pads k) rest ≡ join (padding k) rest
pads-onto n zero rest = refl
pads-onto n (suc k) rest = ap (then tree.skip) (pads-onto n k rest)

module _ (G : Family) (n : ℕ) where
  abbrev F : Interpretation
  F = machine G

  abbrev j : Operator
  j = joiner G

  own_tree : (e : Expression) → numbers.tree n (own_exp F (exp_of e)) ≡ e
  own_tree (number k) = refl
  own_tree (variable k) = refl
  own_tree (apply o a b) = ap₂ (apply o) (own_tree a) (own_tree b)

  level_tree : (e : Expression) → numbers.tree n (level_exp F (exp_of e)) ≡ level_of n j e
  level_tree (number k) = refl
  level_tree (variable k) = refl
  level_tree (apply o a b) = ap₂ (apply j) (level_tree a) (level_tree b)

  mark_tree : (e : Expression) → numbers.tree n (mark_exp F (exp_of e)) ≡ mark_of n e
  mark_tree (number k) = refl
  mark_tree (variable k) = refl
  mark_tree (apply o a b) = ap₂ (apply Maximum) (mark_tree a) (mark_tree b)

  pub guard_tree : (D : ℕ) → numbers.tree n (guard_exp F D) ≡ guard_of n D
  guard_tree zero = refl
  guard_tree (suc d) = refl

  guarded_tree : (D : ℕ) (e : Expression) → numbers.tree n (op j (level_exp F (exp_of e)) (guard_exp F D)) ≡ guarded_level n j D e
  guarded_tree D e = ap₂ (apply j) (level_tree e) (guard_tree D)

  raise-onto : (D : ℕ) (ks : List ℕ) (rest : Statements) → onto n (raise F D ks) rest ≡ join (raised n j (guard_register n D) ks) rest
  raise-onto D [] rest = refl
  raise-onto D (k ∷ ks) rest = ap (λ l. then (tree.assign (level_register n k) (apply j (variable (level_register n k)) (variable (guard_register n D))))
      (then (tree.assign (mark_register n k) (apply Maximum (variable (mark_register n k)) (apply Less (number 0) (variable (guard_register n D))))) l)) (raise-onto D ks rest)

  pub raised_is : (A B : Statements) → rising n (λ k. assigns (named_in A) k || assigns (named_in B) k) ≡ rule.rising n (λ k. changes_in A k || changes_in B k)
  raised_is A B = ap (rising n) (fun_ext (λ k. ap₂ ◌||◌ (changes_in_lem A k) (changes_in_lem B k))) ∙ rising_is n _

  -- the arms of an `if`, given their own rewriting
  arms_onto : (D : ℕ) (e : Expression) (A B : Code Reg) (A' B' : Statements) → ((rest : Statements) → onto n A rest ≡ join A' rest) → ((rest : Statements) → onto n B rest ≡ join B' rest) →
      (w : Bool) (rest : Statements) → onto n (branch F D (own_exp F (exp_of e)) A B w) rest ≡ join (rewritten_arms w (guard_register n D) e A' B') rest
  arms_onto D e A B A' B' a b true rest =
      ap (λ x. then (stop_check (guard_register n D) 1) (then x rest)) (ap₂ (λ t x. tree.branch t x (onto n B none)) (own_tree e) (a none ∙ join_none A') ∙ ap (tree.branch e A') (b none ∙ join_none B'))
  arms_onto D e A B A' B' a b false rest =
      ap (λ x. then x rest) (ap₂ (λ t x. tree.branch t x (onto n B (onto n (pads (named.toll A - named.toll B)) none))) (own_tree e) first ∙ ap (tree.branch e (join A' (padding (tolls B' - tolls A')))) second)
    where
      toll_A : named.toll A ≡ tolls A'
      toll_A = let x = toll-onto n A none in sym (ap tolls (sym (join_none A')) ∙ ap tolls (sym (a none)) ∙ x ∙ add-zero (named.toll A))

      toll_B : named.toll B ≡ tolls B'
      toll_B = let x = toll-onto n B none in sym (ap tolls (sym (join_none B')) ∙ ap tolls (sym (b none)) ∙ x ∙ add-zero (named.toll B))

      first : onto n A (onto n (pads (named.toll B - named.toll A)) none) ≡ join A' (padding (tolls B' - tolls A'))
      first = a _ ∙ ap (join A') (pads-onto n (named.toll B - named.toll A) none ∙ join_none (padding (named.toll B - named.toll A)) ∙ ap₂ (λ x y. padding (x - y)) toll_B toll_A)

      second : onto n B (onto n (pads (named.toll A - named.toll B)) none) ≡ join B' (padding (tolls A' - tolls B'))
      second = b _ ∙ ap (join B') (pads-onto n (named.toll A - named.toll B) none ∙ join_none (padding (named.toll A - named.toll B)) ∙ ap₂ (λ x y. padding (x - y)) toll_A toll_B)

  mutual
    rules_of : (D : ℕ) (s : Statement) → never_stops s ≡ true → (rest : Statements) → onto n (rewrite F n D (named_of s)) rest ≡ join (rewritten_of n j D s) rest
    rules_of D tree.skip h rest = refl
    rules_of D (tree.assign k e) h rest =
        ap₂ (λ x y. then (tree.assign (level_register n k) x) (then (tree.assign (mark_register n k) (number 1)) (then (tree.assign k y) rest))) (guarded_tree D e) (own_tree e)
    rules_of D (tree.release k e) h rest =
        ap₂ (λ x y. then (tree.branch (apply Equal x (number 0))
        (then (tree.assign (level_register n k) (number 0)) (then (tree.assign (mark_register n k) (number 1)) (then (tree.release k y) none)))
        (then tree.skip (then tree.skip (then tree.skip none)))) rest) (ap₂ (apply Maximum) (guard_tree D) (mark_tree e)) (own_tree e)
    rules_of D (tree.write t e) h rest =
        ap₂ (λ x y. then (tree.branch (apply Equal (apply j x (number t)) (number t)) (then (tree.write t y) none) (then tree.skip none)) rest) (guarded_tree D e) (own_tree e)
    rules_of D (tree.stop k) h rest = absurd (false≢true h)
    rules_of D (tree.branch e A B) h rest =
        let hs = and_parts (never_stops_in A) (never_stops_in B) h in
        let arms : Bool → Statements = λ w. rewritten_arms w (guard_register n D) e (rewritten_in n j (suc D) A) (rewritten_in n j (suc D) B) in
        let up : Statements = raised n j (guard_register n D) (rule.rising n (λ k. changes_in A k || changes_in B k)) in
        ap₂ (λ x y. then (tree.assign (guard_register n D) x) y) (guarded_tree D e)
        (arms_onto D e (rewrite F n (suc D) (named_in A)) (rewrite F n (suc D) (named_in B)) (rewritten_in n j (suc D) A) (rewritten_in n j (suc D) B)
        (rules_in (suc D) A hs.0) (rules_in (suc D) B hs.1) (named_has_while (named_in A) || named_has_while (named_in B)) _
        ∙ ap₂ (λ w l. join (arms w) l) (ap₂ ◌||◌ (while_in A) (while_in B)) (raise-onto D _ rest ∙ ap (λ ks. join (raised n j (guard_register n D) ks) rest) (raised_is A B))
        ∙ sym (join_assoc (arms (has_while_in A || has_while_in B)) up rest))
    rules_of D (tree.while e A) h rest =
        ap₂ (λ x y. then (tree.assign (guard_register n D) x) (then (stop_check (guard_register n D) 2) (then y rest))) (guarded_tree D e)
        (ap₂ tree.while (own_tree e) (rules_in (suc D) A h _ ∙ ap (λ x. join (rewritten_in n j (suc D) A) (then (tree.assign (guard_register n D) x) (then (stop_check (guard_register n D) 2) none))) (guarded_tree (suc D) e)))

    pub rules_in : (D : ℕ) (l : Statements) → never_stops_in l ≡ true → (rest : Statements) → onto n (rewrite F n D (named_in l)) rest ≡ join (rewritten_in n j D l) rest
    rules_in D none h rest = refl
    rules_in D (then s l) h rest =
        let hs = and_parts (never_stops s) (never_stops_in l) h in
        rules_of D s hs.0 (onto n (rewrite F n D (named_in l)) rest) ∙ ap (join (rewritten_of n j D s)) (rules_in D l hs.1 rest)
        ∙ sym (join_assoc (rewritten_of n j D s) (rewritten_in n j D l) rest)

  first-onto : (k : ℕ) (ls : List ℕ) (rest : Statements) → onto n (named_first_rows k (map pos ls)) rest ≡ join (first_rows n k ls) rest
  first-onto k [] rest = refl
  first-onto k (l ∷ ls) rest = ap (then (tree.assign (level_register n k) (number l))) (first-onto (suc k) ls rest)

  -- the statements of a rewritten script
  pub rewritten-onto : (ls : List ℕ) (l : Statements) → never_stops_in l ≡ true →
      onto n (cseq (named_first_rows 0 (map pos ls)) (rewrite F n 0 (named_in l))) none ≡ join (first_rows n 0 ls) (rewritten_in n j 0 l)
  rewritten-onto ls l h = first-onto 0 ls _ ∙ ap (join (first_rows n 0 ls)) (rules_in 0 l h none ∙ join_none (rewritten_in n j 0 l))

  -- and those of the script as bought
  mutual
    bought_of : (s : Statement) → never_stops s ≡ true → (rest : Statements) → onto n (code.plain F (named_of s)) rest ≡ then s rest
    bought_of tree.skip h rest = refl
    bought_of (tree.assign k e) h rest = ap (λ x. then (tree.assign k x) rest) (own_tree e)
    bought_of (tree.release k e) h rest = ap (λ x. then (tree.release k x) rest) (own_tree e)
    bought_of (tree.write t e) h rest = ap (λ x. then (tree.write t x) rest) (own_tree e)
    bought_of (tree.stop k) h rest = absurd (false≢true h)
    bought_of (tree.branch e A B) h rest =
        let hs = and_parts (never_stops_in A) (never_stops_in B) h in
        ap (λ x. then x rest) (ap₂ (λ t x. tree.branch t x (onto n (code.plain F (named_in B)) none)) (own_tree e) (bought_in A hs.0 none ∙ join_none A)
        ∙ ap (tree.branch e A) (bought_in B hs.1 none ∙ join_none B))
    bought_of (tree.while e A) h rest = ap (λ x. then x rest) (ap₂ tree.while (own_tree e) (bought_in A h none ∙ join_none A))

    bought_in : (l : Statements) → never_stops_in l ≡ true → (rest : Statements) → onto n (code.plain F (named_in l)) rest ≡ join l rest
    bought_in none h rest = refl
    bought_in (then s l) h rest =
        let hs = and_parts (never_stops s) (never_stops_in l) h in
        bought_of s hs.0 _ ∙ ap (then s) (bought_in l hs.1 rest)

  pub bought_onto : (l : Statements) → never_stops_in l ≡ true → onto n (code.plain F (named_in l)) none ≡ l
  bought_onto l h = bought_in l h none ∙ join_none l
