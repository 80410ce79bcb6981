-- Tolls are steps, and both arms of a padded `if` have the same toll.
--
-- The rules pad the arms of an `if` without whiles to equal tolls, so that the steps of a run do not tell which arm it took. For this a toll has to
-- be what it is called: the number of rows that a run takes from the first row of a rewritten list to the row behind its last, whatever the
-- registers hold. This is said of rows in the machine's own words, wherever the list stands among other rows.
--
-- Example: `if h then skip; skip; else skip; end;` is rewritten to a guard, an `if` with two rows in each arm, and no more. Its toll is 5. From the
-- guard's row on, a run takes 5 rows with 1 in register h (guard, if, skip, skip, else) and 5 with 0 in it (guard, if, skip, skip, end).
use Rattle.std.specs.Prelude.{◌≡◌, ℕ, zero, suc, ◌-◌, Bool, true, false, List, ◌++◌, length, ℤ, Some, None, Option}
use Rattle.values.specs.declared.Operator.{Operator}
use Rattle.syntax.specs.Trees.{Statements, join}
use Rattle.syntax.specs.Form.{TreeRow, skips, assigns, releases, writes, stops, branches, leaves, closes, repeats, goes_back, row_after_in, tree_rows_in}
use Rattle.meaning.specs.Machine.{register, row_at, next_row, registers_after}
use Rattle.meaning.specs.Rules.{has_while_in, tolls, padding, rewritten_in}
use Rattle.meaning.specs.Rewriting.{never_stops_in}

-- whether a run goes on behind a row: there is one, and it is no `stop`
abbrev pub goes_on : Option TreeRow → Bool
goes_on None = false
goes_on (Some skips) = true
goes_on (Some (assigns v e)) = true
goes_on (Some (releases v e)) = true
goes_on (Some (writes t e)) = true
goes_on (Some (stops n)) = false
goes_on (Some (branches e m)) = true
goes_on (Some (leaves m)) = true
goes_on (Some closes) = true
goes_on (Some (repeats e m)) = true
goes_on (Some (goes_back m)) = true

-- n rows are taken from row p on, with these registers at first, and then the run is at row q
abbrev pub Reaches : List TreeRow → ℕ → ℕ → List ℤ → ℕ → Type 0
Reaches rows zero p bank q = p ≡ q
Reaches rows (suc n) p bank q =
    (goes_on (row_at rows p) ≡ true)
    × Reaches rows n (next_row (row_at rows p) p (register bank)) (registers_after (row_at rows p) bank) q

-- a rewritten list without whiles and stops stands in some rows, from row b on: a run takes as many rows as its toll says, and is then behind it
abbrev pub TollsAreSteps : Type 0
TollsAreSteps =
    (v : ℕ) (j : Operator) (d : ℕ) (l : Statements) → has_while_in l ≡ false → never_stops_in l ≡ true →
    (before after : List TreeRow) (bank : List ℤ) →
    let L = rewritten_in v j d l in
    let b = length before in
    Reaches (before ++ tree_rows_in b L after) (tolls L) b bank (row_after_in b L)

-- the arms that the rules make of A and B
abbrev pub EqualArms : Type 0
EqualArms =
    (v : ℕ) (j : Operator) (d : ℕ) (A B : Statements) →
    let A' = rewritten_in v j (suc d) A in
    let B' = rewritten_in v j (suc d) B in
    tolls (join A' (padding (tolls B' - tolls A'))) ≡ tolls (join B' (padding (tolls A' - tolls B')))

abbrev pub TollLaws : Type 0
TollLaws = TollsAreSteps × EqualArms
