-- What a held program's lists are: its rows one by one, and its statements by their parts.
--
-- `held_program` gathers it, and `row_held` is for code that has read row r as x.
use Rattle.std.proofs.Common.{◌≡◌, ℕ, zero, suc, ◌+◌, ◌<◌, ◌≤◌, true, List, [], ◌∷◌, length, get_or, drop, is_some, Some, None, Option, sym, refl, ap, ◌∙◌, subst, arith}
use Rattle.std.proofs.lemmas.Bool.{false≢true}
use Rattle.syntax.specs.declared.form.Node.{Node}
use Rattle.syntax.specs.declared.form.Row.{Row}
use Rattle.syntax.specs.declared.form.Row.TheVariants.{Skip}
use Rattle.syntax.specs.declared.held.Program.{Program}
use Rattle.syntax.specs.Trees.{Expression, number, Statement, Statements, none, then, skip, assign, release, write, stop, branch, while, LegalStatement, LegalStatements}
use Rattle.syntax.specs.Scripts.{Script, WellFormed}
use Rattle.syntax.specs.Form.{TreeRow, skips, assigns, releases, writes, stops, branches, leaves, closes, repeats, goes_back, row_after_of, row_after_in, tree_rows_of, tree_rows_in, row_nodes_onto, node_after_row, as_row, rows_from, nodes_from}
use Rattle.syntax.specs.Decoder.{first_node}
use Rattle.syntax.specs.Forms.{IsForm, script_of}
use Rattle.syntax.specs.Held.{script_or_empty, script_held, tree_rows_held, with_tree, RowFits, RowHeld, Held}
use Rattle.syntax.proofs.Complete.{From, moved}
use Rattle.syntax.proofs.Forms.{forms}
use Rattle.syntax.proofs.Placing.{placed_form}

-- where the nodes of row r begin
abbrev pub start_of : ℕ → List TreeRow → ℕ → ℕ
start_of a [] r = a
start_of a (f ∷ fs) zero = a
start_of a (f ∷ fs) (suc r) = start_of (node_after_row a f) fs r

pub length-rows : (a : ℕ) (fs : List TreeRow) → length (rows_from a fs) ≡ length fs
length-rows a [] = refl
length-rows a (f ∷ fs) = ap suc (length-rows (node_after_row a f) fs)

pub row_at_lem : (a : ℕ) (fs : List TreeRow) (r : ℕ) → get_or (rows_from a fs) r Skip ≡ as_row (start_of a fs r) (get_or fs r skips)
row_at_lem a [] r = refl
row_at_lem a (f ∷ fs) zero = refl
row_at_lem a (f ∷ fs) (suc r) = row_at_lem (node_after_row a f) fs r

-- behind a row's nodes
behind : (nodes : List Node) (a : ℕ) (f : TreeRow) (l : List Node) → From nodes a (row_nodes_onto f l) → From nodes (node_after_row a f) l
behind nodes a skips l h = h
behind nodes a (assigns v e) l h = moved 0 nodes e a l h
behind nodes a (releases v e) l h = moved 0 nodes e a l h
behind nodes a (writes v e) l h = moved 0 nodes e a l h
behind nodes a (stops n) l h = h
behind nodes a (branches e m) l h = moved 0 nodes e a l h
behind nodes a (leaves m) l h = h
behind nodes a closes l h = h
behind nodes a (repeats e m) l h = moved 0 nodes e a l h
behind nodes a (goes_back m) l h = h

pub nodes_at : (nodes : List Node) (a : ℕ) (fs : List TreeRow) (r : ℕ) → From nodes a (nodes_from fs) → (l : List Node) × (drop (start_of a fs r) nodes ≡ row_nodes_onto (get_or fs r skips) l)
nodes_at nodes a [] r h = ([], h.rest)
nodes_at nodes a (f ∷ fs) zero h = (nodes_from fs, h.rest)
nodes_at nodes a (f ∷ fs) (suc r) h = nodes_at nodes (node_after_row a f) fs r (behind nodes a f (nodes_from fs) h)

-- each row fits
abbrev pub AllFit : ℕ → ℕ → List TreeRow → Type 0
AllFit k n [] = Unit {0}
AllFit k n (f ∷ fs) = RowFits k n f × AllFit k n fs

mutual
  pub rises_of : (b : ℕ) (s : Statement) → b < row_after_of b s
  rises_of b skip = omega arith
  rises_of b (assign v e) = omega arith
  rises_of b (release v e) = omega arith
  rises_of b (write v e) = omega arith
  rises_of b (stop v) = omega arith
  rises_of b (branch e A B) = omega (arith, rises_in (suc b) A, rises_in (suc (row_after_in (suc b) A)) B)
  rises_of b (while e A) = omega (arith, rises_in (suc b) A)

  pub rises_in : (b : ℕ) (l : Statements) → b ≤ row_after_in b l
  rises_in b none = omega arith
  rises_in b (then s l) = omega (arith, rises_of b s, rises_in (row_after_of b s) l)

mutual
  fit_of : (k n b : ℕ) (s : Statement) (fs : List TreeRow) → LegalStatement k s → row_after_of b s ≤ n → AllFit k n fs → AllFit k n (tree_rows_of b s fs)
  fit_of k n b skip fs s h a = (tt, a)
  fit_of k n b (assign v e) fs s h a = (s, a)
  fit_of k n b (release v e) fs s h a = (s, a)
  fit_of k n b (write v e) fs s h a = (s, a)
  fit_of k n b (stop v) fs s h a = (s, a)
  fit_of k n b (branch e A B) fs s h a =
      let m = row_after_in (suc b) A in
      let o = rises_in (suc m) B in
      ((s.0, omega arith), fit_in k n (suc b) A _ s.1 (omega arith) (omega arith, fit_in k n (suc m) B (closes ∷ fs) s.2 (omega arith) (tt, a)))
  fit_of k n b (while e A) fs s h a =
      let o = rises_in (suc b) A in
      ((s.0, omega arith), fit_in k n (suc b) A (goes_back b ∷ fs) s.1 (omega arith) (omega arith, a))

  pub fit_in : (k n b : ℕ) (l : Statements) (fs : List TreeRow) → LegalStatements k l → row_after_in b l ≤ n → AllFit k n fs → AllFit k n (tree_rows_in b l fs)
  fit_in k n b none fs s h a = a
  fit_in k n b (then x l) fs s h a =
      let o = rises_in (row_after_of b x) l in
      fit_of k n b x _ s.0 (omega arith) (fit_in k n (row_after_of b x) l fs s.1 h a)

fit_at : (k n : ℕ) (fs : List TreeRow) (r : ℕ) → r < length fs → AllFit k n fs → RowFits k n (get_or fs r skips)
fit_at k n [] r h a = absurd (omega arith)
fit_at k n (f ∷ fs) zero h a = a.0
fit_at k n (f ∷ fs) (suc r) h a = fit_at k n fs r (omega arith) a.1

mutual
  long_of : (b : ℕ) (s : Statement) (fs : List TreeRow) → length (tree_rows_of b s fs) + b ≡ row_after_of b s + length fs
  long_of b skip fs = omega arith
  long_of b (assign v e) fs = omega arith
  long_of b (release v e) fs = omega arith
  long_of b (write v e) fs = omega arith
  long_of b (stop v) fs = omega arith
  long_of b (branch e A B) fs =
      let m = row_after_in (suc b) A in
      let n = row_after_in (suc m) B in
      omega (arith, long_in (suc b) A (leaves n ∷ tree_rows_in (suc m) B (closes ∷ fs)), long_in (suc m) B (closes ∷ fs))
  long_of b (while e A) fs = omega (arith, long_in (suc b) A (goes_back b ∷ fs))

  long_in : (b : ℕ) (l : Statements) (fs : List TreeRow) → length (tree_rows_in b l fs) + b ≡ row_after_in b l + length fs
  long_in b none fs = omega arith
  long_in b (then s l) fs = omega (arith, long_of b s (tree_rows_in (row_after_of b s) l fs), long_in (row_after_of b s) l fs)

-- the expression of a row, 0 where it has none; and the row again, from what the code sees of it
abbrev pub expression_in : TreeRow → Expression
expression_in skips = number 0
expression_in (assigns v e) = e
expression_in (releases v e) = e
expression_in (writes t e) = e
expression_in (stops n) = number 0
expression_in (branches e m) = e
expression_in (leaves m) = number 0
expression_in closes = number 0
expression_in (repeats e m) = e
expression_in (goes_back m) = number 0

again : (a : ℕ) (f : TreeRow) → f ≡ with_tree (as_row a f) (expression_in f)
again a skips = refl
again a (assigns v e) = refl
again a (releases v e) = refl
again a (writes t e) = refl
again a (stops n) = refl
again a (branches e m) = refl
again a (leaves m) = refl
again a closes = refl
again a (repeats e m) = refl
again a (goes_back m) = refl

begins : (a : ℕ) (f : TreeRow) → a ≡ first_node a (as_row a f)
begins a skips = refl
begins a (assigns v e) = refl
begins a (releases v e) = refl
begins a (writes t e) = refl
begins a (stops n) = refl
begins a (branches e m) = refl
begins a (leaves m) = refl
begins a closes = refl
begins a (repeats e m) = refl
begins a (goes_back m) = refl

-- the lists of a held program are the form of its script
pub record Found (p : Program) : Type 0 where
  pub well_formed : WellFormed (script_held p)
  pub is_form : IsForm (script_held p) p.declarations.now p.rows.now p.nodes.now

found_script : (p : Program) → is_some (script_of p.declarations.now p.rows.now p.nodes.now) ≡ true → Found p
found_script p h = by (script_of p.declarations.now p.rows.now p.nodes.now) refl h
  where
    by : (o : Option Script) → script_of p.declarations.now p.rows.now p.nodes.now ≡ o → is_some o ≡ true → Found p
    by None e h = absurd (false≢true h)
    by (Some s) e h =
        let w = forms.1 s p.declarations.now p.rows.now p.nodes.now e in
        let m : s ≡ script_held p = sym (ap script_or_empty e) in
        record {
          well_formed = subst WellFormed m w.0;
          is_form = subst (λ s. IsForm s p.declarations.now p.rows.now p.nodes.now) m w.1;
        }

count_rows : (p : Program) → Found p → length (tree_rows_held p) ≡ length p.rows.now
count_rows p h = sym (ap length h.is_form.rows_are ∙ length-rows 0 (tree_rows_held p))

row_found : (p : Program) → Found p → (r : ℕ) (x : Row) → r < length p.rows.now → get_or p.rows.now r Skip ≡ x → RowHeld p r x
row_found p h r x lt e =
    let fs = tree_rows_held p in
    let f = get_or fs r skips in
    let a = start_of 0 fs r in
    let shows : as_row a f ≡ x = sym (row_at_lem 0 fs r) ∙ ap (λ l. get_or l r Skip) (sym h.is_form.rows_are) ∙ e in
    let n = nodes_at p.nodes.now 0 fs r (record { rest = h.is_form.nodes_are; within = omega arith }) in
    let is : f ≡ with_tree x (expression_in f) = again a f ∙ ap (λ y. with_tree y (expression_in f)) shows in
    let long : length fs ≡ length p.rows.now = count_rows p h in
    let last : length fs + 0 ≡ row_after_in 0 (script_held p).statements + 0 = long_in 0 (script_held p).statements [] in
    let k = length p.declarations.now in
    let kd : length (script_held p).declarations ≡ k = ap length (sym h.is_form.declarations_are) in
    let s : LegalStatements k (script_held p).statements = subst (λ n. LegalStatements n (script_held p).statements) kd h.well_formed.legal in
    record {
      expression = expression_in f;
      from = a;
      rest = n.0;
      is = is;
      starts = begins a f ∙ ap (first_node a) shows;
      nodes_are = n.1 ∙ ap (λ y. row_nodes_onto y n.0) is;
      fits = subst (RowFits k (length p.rows.now)) is (fit_at k (length p.rows.now) fs r (omega arith) (fit_in k (length p.rows.now) 0 (script_held p).statements [] s (omega arith) tt));
    }

-- every held program is one
pub held_program : (p : Program) → Held p
held_program p =
    let h = found_script p p.ok in
    record {
      well_formed = h.well_formed;
      is_form = h.is_form;
      placed = placed_form (script_held p).statements p.rows.now p.nodes.now h.is_form.rows_are h.is_form.nodes_are;
      count = count_rows p h;
      row = λ r lt. row_found p h r _ lt refl;
    }

-- row r of a held program, under the name that code has for it
pub row_held : (p : Program) (r : ℕ) (x : Row) → r < length p.rows.now → get_or p.rows.now r Skip ≡ x → RowHeld p r x
row_held p r x lt e = row_found p (found_script p p.ok) r x lt e
