-- What holds of every run, in the words of its caller: of any program, whether rewritten or not, any family and any reader.
--
-- A settled run stays as it is. Each row taken is one step; `go n` takes n rows, or fewer where the run settles, and never passes the budget.
-- Two calls of `go` are one for the sum, so a run does not depend on how its steps are dealt out. Bank and sheet keep their lengths; lines once kept
-- stay where they are, and what stands behind the lines kept is not touched. There are never more lines than steps, nor more than the sheet has
-- places. Registers of 32 bits stay of 32 bits, when a program is opened, a figure entered, or rows taken.
--
-- Example: of a run that takes 10 rows, `go 4` takes 4, a second 4, and a third 2; `go 12` takes the same 10 and leaves the same run.
use Rattle.std.specs.Prelude.{◌≡◌, ℕ, ◌+◌, ◌<◌, ◌≤◌, false, List, length, take, drop, ℤ, FitsSigned}
use Rattle.std.specs.Int.{w32}
use Rattle.syntax.specs.Scripts.{Script, WellFormed}
use Rattle.meaning.specs.Families.{Family}
use Rattle.meaning.specs.Machine.{register}
use Rattle.meaning.specs.Runs.{Progress, is_going, opened_bank, entered_bank, run, taken, gone}

-- every register holds a signed number of 32 bits
abbrev pub AllValues : List ℤ → Type 0
AllValues bank = (i : ℕ) → FitsSigned w32 (register bank i)

pub record RunLaws (G : Family) (reader budget : ℕ) (P : Script) : Type 0 where
  pub settled_stays : (n : ℕ) (s : Progress) → is_going s.standing ≡ false → run G reader budget P n s ≡ s
  -- one `go` after another
  pub go_adds : (n m : ℕ) (s : Progress) → gone G reader budget P m (gone G reader budget P n s) ≡ gone G reader budget P (n + m) s
  -- steps
  pub steps_are_rows : (n : ℕ) (s : Progress) → (run G reader budget P n s).steps ≡ s.steps + length (taken G reader budget P n s)
  pub at_most : (n : ℕ) (s : Progress) → length (taken G reader budget P n s) ≤ n
  pub fewer_settles : (n : ℕ) (s : Progress) → length (taken G reader budget P n s) < n → is_going (run G reader budget P n s).standing ≡ false
  pub within_budget : (n : ℕ) (s : Progress) → s.steps ≤ budget → (run G reader budget P n s).steps ≤ budget
  -- a `go` for as many steps as the budget leaves
  pub budget_settles : (n : ℕ) (s : Progress) → budget ≤ s.steps + n → is_going (run G reader budget P n s).standing ≡ false
  -- lengths
  pub bank_length : (n : ℕ) (s : Progress) → length (run G reader budget P n s).bank ≡ length s.bank
  pub sheet_length : (n : ℕ) (s : Progress) → length (run G reader budget P n s).sheet ≡ length s.sheet
  -- lines
  pub lines_fit : (n : ℕ) (s : Progress) → s.kept ≤ length s.sheet → (run G reader budget P n s).kept ≤ length s.sheet
  pub no_more_than_steps : (n : ℕ) (s : Progress) → s.kept ≤ s.steps → (run G reader budget P n s).kept ≤ (run G reader budget P n s).steps
  pub lines_stay : (n : ℕ) (s : Progress) → (s.kept ≤ (run G reader budget P n s).kept) × (take s.kept (run G reader budget P n s).sheet ≡ take s.kept s.sheet)
  pub rest_stays : (n : ℕ) (s : Progress) → drop (run G reader budget P n s).kept (run G reader budget P n s).sheet ≡ drop (run G reader budget P n s).kept s.sheet
  -- values
  pub values_opened : (bank : List ℤ) → AllValues bank → AllValues (opened_bank P bank)
  pub values_entered : (bank : List ℤ) (k : ℕ) (v : ℤ) → FitsSigned w32 v → AllValues bank → AllValues (entered_bank P bank k v)
  pub values_stay : WellFormed P → (n : ℕ) (s : Progress) → AllValues s.bank → AllValues (run G reader budget P n s).bank

abbrev pub RunLawsHold : Type 0
RunLawsHold = (G : Family) (reader budget : ℕ) (P : Script) → RunLaws G reader budget P
