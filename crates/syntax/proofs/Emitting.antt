-- Writing statements into lists: the rows and nodes of a statement from those of its parts.
--
-- What writes a script begins with `emits_none`, adds one statement by `emits_skip`, `emits_assign` and their like, puts lists one behind
-- the other by `emits_join`, and makes an `if` or a `while` of lists by `emits_branch` and `emits_while`. The row of an `if` or a `while` is
-- written last, into a place left free for it (`laid_slot` of the crate `lists`), since only then its target is known.
-- `rows_end` and `nodes_end` give the places used as sums of counts, so that a bound on the counts bounds them.
use Rattle.std.proofs.Common.{◌≡◌, ℕ, ◌+◌, List, [], ◌∷◌, ◌++◌, sym, refl, ap, ◌∙◌, ap₂, append_assoc, append-nil, add-zero, add_assoc, arith}
use Rattle.lists.specs.Overlay.{overlay, Laid}
use Rattle.lists.proofs.Laws.{laid_none, laid_more, laid_slot, laid_as}
use Rattle.values.specs.declared.Operator.{Operator}
use Rattle.syntax.specs.declared.form.Node.{Node}
use Rattle.syntax.specs.declared.form.Node.TheVariants.{Apply}
use Rattle.syntax.specs.declared.form.Row.{Row}
use Rattle.syntax.specs.declared.form.Row.TheVariants.{Skip, Assign, Release, Write, Stop, If, Else, EndIf, While, EndWhile}
use Rattle.syntax.specs.Trees.{Expression, apply, size, Statements, none, then, skip, assign, release, write, stop, branch, while, single, join}
use Rattle.syntax.specs.Form.{form_rows, form_nodes}
use Rattle.syntax.specs.Parts.{row_count, row_counts, node_count, node_counts, expression_nodes, nodes_of, nodes_in, rows_of, rows_in}
use Rattle.syntax.specs.Emits.{Emits}
use Rattle.syntax.proofs.Appends.{expression_length, rows-length, nodes_length, form_rows_lem, form_nodes_lem}

-- one list behind another

pub join_none : (A : Statements) → join A none ≡ A
join_none none = refl
join_none (then s l) = ap (λ x. then s x) (join_none l)

pub join_assoc : (A B C : Statements) → join (join A B) C ≡ join A (join B C)
join_assoc none B C = refl
join_assoc (then s l) B C = ap (λ x. then s x) (join_assoc l B C)

pub row_counts_join : (A B : Statements) → row_counts (join A B) ≡ row_counts A + row_counts B
row_counts_join none B = omega arith
row_counts_join (then s l) B = omega (arith, row_counts_join l B)

pub node_counts_join : (A B : Statements) → node_counts (join A B) ≡ node_counts A + node_counts B
node_counts_join none B = omega arith
node_counts_join (then s l) B = omega (arith, node_counts_join l B)

pub rows_join : (b n : ℕ) (A B : Statements) → rows_in b n (join A B) ≡ rows_in b n A ++ rows_in (b + row_counts A) (n + node_counts A) B
rows_join b n none B = ap₂ (λ x y. rows_in x y B) (sym (add-zero b)) (sym (add-zero n))
rows_join b n (then s l) B =
    ap (λ x. rows_of b n s ++ x) (rows_join (b + row_count s) (n + node_count s) l B
    ∙ ap₂ (λ x y. rows_in (b + row_count s) (n + node_count s) l ++ rows_in x y B) (add_assoc b (row_count s) (row_counts l)) (add_assoc n (node_count s) (node_counts l)))
    ∙ sym (append_assoc (rows_of b n s) (rows_in (b + row_count s) (n + node_count s) l) (rows_in (b + (row_count s + row_counts l)) (n + (node_count s + node_counts l)) B))

pub nodes_join : (A B : Statements) → nodes_in (join A B) ≡ nodes_in A ++ nodes_in B
nodes_join none B = refl
nodes_join (then s l) B = ap (λ x. nodes_of s ++ x) (nodes_join l B) ∙ sym (append_assoc (nodes_of s) (nodes_in l) (nodes_in B))

-- the places used

module _ {rows rows' : List Row} {nodes nodes' : List Node} {i k j l : ℕ} where
  pub rows_end : {S : Statements} → Emits S rows nodes i k rows' nodes' j l → j ≡ i + row_counts S
  rows_end {S} p = omega (arith, p.rows_laid.behind, rows-length i k S)

  pub nodes_end : {S : Statements} → Emits S rows nodes i k rows' nodes' j l → l ≡ k + node_counts S
  nodes_end {S} p = omega (arith, p.nodes_laid.behind, nodes_length S)

-- an operator in the place that was left free before its parts
pub laid_apply : (o : Operator) (a b : Expression) {xs x1 x2 x3 : List Node} {k k1 k2 : ℕ}
    → Laid xs (k + 1) (expression_nodes a) x1 k1 → Laid x1 k1 (expression_nodes b) x2 k2 → x3 ≡ overlay x2 k (Apply o ∷ []) → Laid xs k (expression_nodes (apply o a b)) x3 k2
laid_apply o a b p q e = laid_slot (laid_more p q) e

-- lists of statements

pub emits_none : {rows : List Row} {nodes : List Node} {i k : ℕ} → Emits none rows nodes i k rows nodes i k
emits_none {rows} {nodes} {i} {k} = record { rows_laid = laid_none rows i; nodes_laid = laid_none nodes k }

pub emits_join : {A B : Statements} {xs ys zs : List Row} {ms ns os : List Node} {i k j l p q : ℕ} → Emits A xs ms i k ys ns j l → Emits B ys ns j l zs os p q → Emits (join A B) xs ms i k zs os p q
emits_join {A} {B} {i = i} {k = k} a b = record {
  rows_laid = laid_as (ap₂ (λ x y. rows_in i k A ++ rows_in x y B) (rows_end a) (nodes_end a) ∙ sym (rows_join i k A B)) (laid_more a.rows_laid b.rows_laid);
  nodes_laid = laid_as (sym (nodes_join A B)) (laid_more a.nodes_laid b.nodes_laid);
}

-- the same statements under another name
pub emits_as : {A B : Statements} {xs ys : List Row} {ms ns : List Node} {i k j l : ℕ} → A ≡ B → Emits A xs ms i k ys ns j l → Emits B xs ms i k ys ns j l
emits_as {i = i} {k = k} e p = record { rows_laid = laid_as (ap (rows_in i k) e) p.rows_laid; nodes_laid = laid_as (ap nodes_in e) p.nodes_laid }

-- one statement

module _ {xs ys : List Row} {ms : List Node} {i k j : ℕ} where
  pub emits_skip : Laid xs i (Skip ∷ []) ys j → Emits (single skip) xs ms i k ys ms j k
  emits_skip r = record { rows_laid = r; nodes_laid = laid_none ms k }

  pub emits_stop : (n : ℕ) → Laid xs i (Stop n ∷ []) ys j → Emits (single (stop n)) xs ms i k ys ms j k
  emits_stop n r = record { rows_laid = r; nodes_laid = laid_none ms k }

module _ {xs ys : List Row} {ms ns : List Node} {i k j l : ℕ} where
  pub emits_assign : (v : ℕ) (e : Expression) → Laid xs i (Assign v k ∷ []) ys j → Laid ms k (expression_nodes e) ns l → Emits (single (assign v e)) xs ms i k ys ns j l
  emits_assign v e r n = record { rows_laid = r; nodes_laid = laid_as (sym (append-nil (expression_nodes e))) n }

  pub emits_release : (v : ℕ) (e : Expression) → Laid xs i (Release v k ∷ []) ys j → Laid ms k (expression_nodes e) ns l → Emits (single (release v e)) xs ms i k ys ns j l
  emits_release v e r n = record { rows_laid = r; nodes_laid = laid_as (sym (append-nil (expression_nodes e))) n }

  pub emits_write : (t : ℕ) (e : Expression) → Laid xs i (Write t k ∷ []) ys j → Laid ms k (expression_nodes e) ns l → Emits (single (write t e)) xs ms i k ys ns j l
  emits_write t e r n = record { rows_laid = r; nodes_laid = laid_as (sym (append-nil (expression_nodes e))) n }

-- an `if` from its two arms, each behind the row before it
pub emits_branch : {e : Expression} {A B : Statements} {xs x1 x2 x3 : List Row} {ms m1 m2 m3 : List Node} {i i1 i2 i3 k k1 k2 k3 t u : ℕ}
    → Laid xs i (If k t ∷ rows_in (i + 1) k1 A) x1 i1 → Laid x1 i1 (Else u ∷ rows_in (i1 + 1) k2 B) x2 i2 → Laid x2 i2 (EndIf ∷ []) x3 i3
    → Laid ms k (expression_nodes e) m1 k1 → Laid m1 k1 (nodes_in A) m2 k2 → Laid m2 k2 (nodes_in B) m3 k3
    → t ≡ i1 → u ≡ i2 → Emits (single (branch e A B)) xs ms i k x3 m3 i3 k3
emits_branch {e} {A} {B} {i = i} {i1 = i1} {i2 = i2} {k = k} {k1 = k1} {k2 = k2} {t = t} {u = u} ra rb foot test na nb et eu =
    let f1 : t ≡ i + 1 + row_counts A = omega (arith, et, ra.behind, rows-length (i + 1) k1 A) in
    let f2 : i1 + 1 ≡ i + 2 + row_counts A = omega (arith, ra.behind, rows-length (i + 1) k1 A) in
    let f3 : u ≡ i + 2 + row_counts A + row_counts B = omega (arith, eu, ra.behind, rb.behind, rows-length (i + 1) k1 A, rows-length (i1 + 1) k2 B) in
    let f4 : k1 ≡ k + size e = omega (arith, test.behind, expression_length e) in
    let f5 : k2 ≡ k + size e + node_counts A = omega (arith, test.behind, expression_length e, na.behind, nodes_length A) in
    let same : If k t ∷ (rows_in (i + 1) k1 A ++ (Else u ∷ (rows_in (i1 + 1) k2 B ++ (EndIf ∷ [])))) ≡ rows_of i k (branch e A B) = cc (f1, f2, f3, f4, f5) in
    record {
      rows_laid = laid_as (same ∙ sym (append-nil (rows_of i k (branch e A B)))) (laid_more ra (laid_more rb foot));
      nodes_laid = laid_as (sym (append-nil (nodes_of (branch e A B)))) (laid_more test (laid_more na nb));
    }

-- a `while` from its body, behind its row
pub emits_while : {e : Expression} {A : Statements} {xs x1 x2 : List Row} {ms m1 m2 : List Node} {i i1 i2 k k1 k2 t : ℕ}
    → Laid xs i (While k t ∷ rows_in (i + 1) k1 A) x1 i1 → Laid x1 i1 (EndWhile i ∷ []) x2 i2
    → Laid ms k (expression_nodes e) m1 k1 → Laid m1 k1 (nodes_in A) m2 k2
    → t ≡ i1 → Emits (single (while e A)) xs ms i k x2 m2 i2 k2
emits_while {e} {A} {i = i} {i1 = i1} {k = k} {k1 = k1} {t = t} ra foot test na et =
    let f1 : t ≡ i + 1 + row_counts A = omega (arith, et, ra.behind, rows-length (i + 1) k1 A) in
    let f4 : k1 ≡ k + size e = omega (arith, test.behind, expression_length e) in
    let same : While k t ∷ (rows_in (i + 1) k1 A ++ (EndWhile i ∷ [])) ≡ rows_of i k (while e A) = cc (f1, f4) in
    record {
      rows_laid = laid_as (same ∙ sym (append-nil (rows_of i k (while e A)))) (laid_more ra foot);
      nodes_laid = laid_as (sym (append-nil (nodes_of (while e A)))) (laid_more test na);
    }

-- a whole script: what is laid from the front is its form
pub rows_laid_form : {S : Statements} {xs ys : List Row} {ms ns : List Node} {j l : ℕ} → Emits S xs ms 0 0 ys ns j l → Laid xs 0 (form_rows S) ys j
rows_laid_form {S} p = laid_as (sym (form_rows_lem S)) p.rows_laid

pub nodes_laid_form : {S : Statements} {xs ys : List Row} {ms ns : List Node} {j l : ℕ} → Emits S xs ms 0 0 ys ns j l → Laid ms 0 (form_nodes S) ns l
nodes_laid_form {S} p = laid_as (sym (form_nodes_lem S)) p.nodes_laid
