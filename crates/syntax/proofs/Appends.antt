-- The form by its parts is the form: rows and nodes written in front of what follows are those of the parts, one list behind the other.
--
-- `form_rows_lem` and `form_nodes_lem` say it of whole scripts, `rows_in_parts` and `nodes_in_parts` of statements in front of others.
use Rattle.std.proofs.Common.{◌≡◌, ℕ, suc, ◌+◌, List, [], ◌∷◌, ◌++◌, length, sym, refl, ap, ◌∙◌, append_assoc, append-nil, add-zero, add_assoc, arith, length-append}
use Rattle.syntax.specs.declared.form.Node.{Node}
use Rattle.syntax.specs.declared.form.Node.TheVariants.{Apply}
use Rattle.syntax.specs.declared.form.Row.TheVariants.{Skip, Stop, Else, EndIf, EndWhile}
use Rattle.syntax.specs.Trees.{Expression, number, variable, apply, size, Statement, Statements, none, then, skip, assign, release, write, stop, branch, while}
use Rattle.syntax.specs.Form.{TreeRow, leaves, closes, goes_back, row_after_of, row_after_in, tree_rows_of, tree_rows_in, nodes_onto, node_after_of, node_after_in, rows_from, nodes_from, form_rows, form_nodes}
use Rattle.syntax.specs.Parts.{row_count, row_counts, node_count, node_counts, expression_nodes, nodes_of, nodes_in, rows_of, rows_in}

-- counts

pub expression_length : (e : Expression) → length (expression_nodes e) ≡ size e
expression_length (number n) = refl
expression_length (variable v) = refl
expression_length (apply o a b) = omega (arith, length-append (expression_nodes a) (expression_nodes b), expression_length a, expression_length b)

mutual
  pub row_length : (b n : ℕ) (s : Statement) → length (rows_of b n s) ≡ row_count s
  row_length b n skip = refl
  row_length b n (assign v e) = refl
  row_length b n (release v e) = refl
  row_length b n (write t e) = refl
  row_length b n (stop k) = refl
  row_length b n (branch e A B) =
      let x = rows_in (b + 1) (n + size e) A in
      let y = rows_in (b + 2 + row_counts A) (n + size e + node_counts A) B in
      let z = Else (b + 2 + row_counts A + row_counts B) in
      omega (arith, length-append x (z ∷ (y ++ (EndIf ∷ []))), length-append y (EndIf ∷ []), rows-length (b + 1) (n + size e) A, rows-length (b + 2 + row_counts A) (n + size e + node_counts A) B)
  row_length b n (while e A) = omega (arith, length-append (rows_in (b + 1) (n + size e) A) (EndWhile b ∷ []), rows-length (b + 1) (n + size e) A)

  pub rows-length : (b n : ℕ) (S : Statements) → length (rows_in b n S) ≡ row_counts S
  rows-length b n none = refl
  rows-length b n (then s l) =
      omega (arith, length-append (rows_of b n s) (rows_in (b + row_count s) (n + node_count s) l), row_length b n s, rows-length (b + row_count s) (n + node_count s) l)

mutual
  pub node_length : (s : Statement) → length (nodes_of s) ≡ node_count s
  node_length skip = refl
  node_length (assign v e) = expression_length e
  node_length (release v e) = expression_length e
  node_length (write t e) = expression_length e
  node_length (stop k) = refl
  node_length (branch e A B) =
      omega (arith, length-append (expression_nodes e) (nodes_in A ++ nodes_in B), length-append (nodes_in A) (nodes_in B), expression_length e, nodes_length A, nodes_length B)
  node_length (while e A) = omega (arith, length-append (expression_nodes e) (nodes_in A), expression_length e, nodes_length A)

  pub nodes_length : (S : Statements) → length (nodes_in S) ≡ node_counts S
  nodes_length none = refl
  nodes_length (then s l) = omega (arith, length-append (nodes_of s) (nodes_in l), node_length s, nodes_length l)

-- the places behind

mutual
  pub row_after_of_lem : (b : ℕ) (s : Statement) → row_after_of b s ≡ b + row_count s
  row_after_of_lem b skip = omega arith
  row_after_of_lem b (assign v e) = omega arith
  row_after_of_lem b (release v e) = omega arith
  row_after_of_lem b (write t e) = omega arith
  row_after_of_lem b (stop n) = omega arith
  row_after_of_lem b (branch e A B) = omega (arith, row_after_in_lem (suc b) A, row_after_in_lem (suc (row_after_in (suc b) A)) B)
  row_after_of_lem b (while e A) = omega (arith, row_after_in_lem (suc b) A)

  pub row_after_in_lem : (b : ℕ) (l : Statements) → row_after_in b l ≡ b + row_counts l
  row_after_in_lem b none = omega arith
  row_after_in_lem b (then s l) = omega (arith, row_after_of_lem b s, row_after_in_lem (row_after_of b s) l)

mutual
  pub node_after_of_lem : (n : ℕ) (s : Statement) → node_after_of n s ≡ n + node_count s
  node_after_of_lem n skip = omega arith
  node_after_of_lem n (assign v e) = refl
  node_after_of_lem n (release v e) = refl
  node_after_of_lem n (write t e) = refl
  node_after_of_lem n (stop k) = omega arith
  node_after_of_lem n (branch e A B) = omega (arith, node_after_in_lem (n + size e) A, node_after_in_lem (node_after_in (n + size e) A) B)
  node_after_of_lem n (while e A) = omega (arith, node_after_in_lem (n + size e) A)

  pub node_after_in_lem : (n : ℕ) (l : Statements) → node_after_in n l ≡ n + node_counts l
  node_after_in_lem n none = omega arith
  node_after_in_lem n (then s l) = omega (arith, node_after_of_lem n s, node_after_in_lem (node_after_of n s) l)

-- nodes

pub nodes_onto_lem : (e : Expression) (rest : List Node) → nodes_onto e rest ≡ expression_nodes e ++ rest
nodes_onto_lem (number n) rest = refl
nodes_onto_lem (variable v) rest = refl
nodes_onto_lem (apply o a b) rest =
    ap (λ l. Apply o ∷ l) (nodes_onto_lem a (nodes_onto b rest) ∙ ap (λ l. expression_nodes a ++ l) (nodes_onto_lem b rest) ∙ sym (append_assoc (expression_nodes a) (expression_nodes b) rest))

mutual
  pub nodes_of_parts : (b : ℕ) (s : Statement) (fs : List TreeRow) → nodes_from (tree_rows_of b s fs) ≡ nodes_of s ++ nodes_from fs
  nodes_of_parts b skip fs = refl
  nodes_of_parts b (assign v e) fs = nodes_onto_lem e (nodes_from fs)
  nodes_of_parts b (release v e) fs = nodes_onto_lem e (nodes_from fs)
  nodes_of_parts b (write t e) fs = nodes_onto_lem e (nodes_from fs)
  nodes_of_parts b (stop n) fs = refl
  nodes_of_parts b (branch e A B) fs =
      let m = row_after_in (suc b) A in
      let n = row_after_in (suc m) B in
      let rest = nodes_from fs in
      let second = tree_rows_in (suc m) B (closes ∷ fs) in
      nodes_onto_lem e (nodes_from (tree_rows_in (suc b) A (leaves n ∷ second)))
      ∙ ap (λ l. expression_nodes e ++ l) (nodes_in_parts (suc b) A (leaves n ∷ second) ∙ ap (λ l. nodes_in A ++ l) (nodes_in_parts (suc m) B (closes ∷ fs)) ∙ sym (append_assoc (nodes_in A) (nodes_in B) rest))
      ∙ sym (append_assoc (expression_nodes e) (nodes_in A ++ nodes_in B) rest)
  nodes_of_parts b (while e A) fs =
      nodes_onto_lem e (nodes_from (tree_rows_in (suc b) A (goes_back b ∷ fs)))
      ∙ ap (λ l. expression_nodes e ++ l) (nodes_in_parts (suc b) A (goes_back b ∷ fs)) ∙ sym (append_assoc (expression_nodes e) (nodes_in A) (nodes_from fs))

  pub nodes_in_parts : (b : ℕ) (l : Statements) (fs : List TreeRow) → nodes_from (tree_rows_in b l fs) ≡ nodes_in l ++ nodes_from fs
  nodes_in_parts b none fs = refl
  nodes_in_parts b (then s l) fs =
      nodes_of_parts b s (tree_rows_in (row_after_of b s) l fs) ∙ ap (λ x. nodes_of s ++ x) (nodes_in_parts (row_after_of b s) l fs) ∙ sym (append_assoc (nodes_of s) (nodes_in l) (nodes_from fs))

-- rows

mutual
  pub rows_of_parts : (b n : ℕ) (s : Statement) (fs : List TreeRow) → rows_from n (tree_rows_of b s fs) ≡ rows_of b n s ++ rows_from (n + node_count s) fs
  rows_of_parts b n skip fs = ap (λ a. Skip ∷ rows_from a fs) (sym (add-zero n))
  rows_of_parts b n (assign v e) fs = refl
  rows_of_parts b n (release v e) fs = refl
  rows_of_parts b n (write t e) fs = refl
  rows_of_parts b n (stop k) fs = ap (λ a. Stop k ∷ rows_from a fs) (sym (add-zero n))
  rows_of_parts b n (branch e A B) fs =
      let m = row_after_in (suc b) A in
      let k = row_after_in (suc m) B in
      let a = n + size e in
      let c = a + node_counts A in
      let rest = rows_from (n + node_count (branch e A B)) fs in
      let one : suc b ≡ b + 1 = omega arith in
      let two : m ≡ b + 1 + row_counts A = omega (arith, row_after_in_lem (suc b) A) in
      let three : suc m ≡ b + 2 + row_counts A = omega arith in
      let four : k ≡ b + 2 + row_counts A + row_counts B = omega (arith, row_after_in_lem (suc m) B) in
      let five : c + node_counts B ≡ n + node_count (branch e A B) = omega arith in
      let first = rows_in_parts (suc b) a A (leaves k ∷ tree_rows_in (suc m) B (closes ∷ fs)) in
      let second = rows_in_parts (suc m) c B (closes ∷ fs) in
      let inner = append_assoc (rows_in (b + 2 + row_counts A) c B) (EndIf ∷ []) rest in
      let outer = append_assoc (rows_in (b + 1) a A) (Else (b + 2 + row_counts A + row_counts B) ∷ (rows_in (b + 2 + row_counts A) c B ++ (EndIf ∷ []))) rest in
      cc
  rows_of_parts b n (while e A) fs =
      let m = row_after_in (suc b) A in
      let a = n + size e in
      let rest = rows_from (n + node_count (while e A)) fs in
      let one : suc b ≡ b + 1 = omega arith in
      let two : m ≡ b + 1 + row_counts A = omega (arith, row_after_in_lem (suc b) A) in
      let three : a + node_counts A ≡ n + node_count (while e A) = omega arith in
      let body = rows_in_parts (suc b) a A (goes_back b ∷ fs) in
      let outer = append_assoc (rows_in (b + 1) a A) (EndWhile b ∷ []) rest in
      cc

  pub rows_in_parts : (b n : ℕ) (l : Statements) (fs : List TreeRow) → rows_from n (tree_rows_in b l fs) ≡ rows_in b n l ++ rows_from (n + node_counts l) fs
  rows_in_parts b n none fs = ap (λ a. rows_from a fs) (sym (add-zero n))
  rows_in_parts b n (then s l) fs =
      rows_of_parts b n s (tree_rows_in (row_after_of b s) l fs)
      ∙ ap (λ x. rows_of b n s ++ x)
      (ap (λ r. rows_from (n + node_count s) (tree_rows_in r l fs)) (row_after_of_lem b s) ∙ rows_in_parts (b + row_count s) (n + node_count s) l fs
      ∙ ap (λ a. rows_in (b + row_count s) (n + node_count s) l ++ rows_from a fs) (add_assoc n (node_count s) (node_counts l)))
      ∙ sym (append_assoc (rows_of b n s) (rows_in (b + row_count s) (n + node_count s) l) (rows_from (n + (node_count s + node_counts l)) fs))

-- the form

pub form_rows_lem : (p : Statements) → form_rows p ≡ rows_in 0 0 p
form_rows_lem p = rows_in_parts 0 0 p [] ∙ append-nil (rows_in 0 0 p)

pub form_nodes_lem : (p : Statements) → form_nodes p ≡ nodes_in p
form_nodes_lem p = nodes_in_parts 0 p [] ∙ append-nil (nodes_in p)
