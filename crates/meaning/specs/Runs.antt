-- A run: what each call answers, and what it leaves.
--
-- A run is opened for a reader's level and a budget of steps; these stay with it. The program, the family, the bank and the sheet are handed in
-- anew at each call that uses them, and each definition here speaks of those that are handed in at that call. A call that is refused leaves
-- everything as it was.
--
-- While a run is filling, figures are entered into its bank. Under way, it takes rows in counted steps. `Progress` is a run under way together
-- with the bank and the sheet at hand: its next row, the lines kept and the steps taken so far, and the standing. A line to be kept goes to
-- the next free place of the sheet. The standing is judged at the start, before each row and at the end of a `go`; once settled it stays.
--
-- Example: a run of `write 0 7;` for reader 0 with a budget of 1 and a sheet of 1 place takes 1 step, keeps the line (0, 7) and has then ended: no
-- row is left, which counts before the budget being spent. With a sheet without places, `go` takes no step, and the sheet is full.
use Rattle.std.specs.Prelude.{ℕ, zero, suc, ◌-◌, Bool, true, false, cond, not, ◌&&◌, ◌||◌, List, [], ◌∷◌, length, take, ℤ, Some, None, Option, nat_le, nat_lt, slice_index_or, slice_set}
use Rattle.refusals.specs.declared.Refusal.{Refusal}
use Rattle.refusals.specs.declared.Reason.{Reason}
use Rattle.refusals.specs.declared.Reason.TheVariants as reason
use Rattle.banks.specs.Cleared.{cleared}
use Rattle.syntax.specs.declared.form.Declaration.{Declaration}
use Rattle.syntax.specs.Form.{TreeRow, tree_rows}
use Rattle.syntax.specs.Scripts.{Script}
use Rattle.meaning.specs.declared.answers.Line.{Line}
use Rattle.meaning.specs.declared.answers.Standing.{Standing}
use Rattle.meaning.specs.declared.answers.Standing.TheVariants.{Ended, Stopped, SheetFull, BudgetSpent, MoreToDo}
use Rattle.meaning.specs.declared.answers.Answer.{Answer}
use Rattle.meaning.specs.declared.answers.Answer.TheVariants.{Done, Went, Kept, Sums, Refused}
use Rattle.meaning.specs.Families.{Family}
use Rattle.meaning.specs.Machine.{register, row_at, next_row, registers_after, Shown, silent, printed, no_row, stopped, shows, line_of}
use Rattle.meaning.specs.Rewriting.{variables, levels_of, all_codes, writes_codes_in, is_reserved}

-- a refusal without a place
abbrev pub refusal : Reason → Refusal
refusal r = record { reason = r; place = 0 }

-- Opening.

-- 9 where the reader's level, or one declared or written, is no code; then 12 where the bank has fewer registers than there are variables
abbrev pub open_refusal : Family → Script → ℕ → List ℤ → Option Refusal
open_refusal G P reader bank =
    cond (G.code reader && (all_codes G (levels_of P.declarations) && writes_codes_in G P.statements))
    (cond (nat_lt (length bank) (variables P)) (Some (refusal reason.BankTooSmall)) None)
    (Some (refusal reason.NotACode))

-- an accepted `open` sets the variables' registers to 0, and no other
abbrev pub opened_bank : Script → List ℤ → List ℤ
opened_bank P bank = cleared (variables P) bank

-- Filling.

-- whether a figure may be entered for variable K: it is declared, and its name does not begin with `_`
abbrev pub enterable_at : List Declaration → ℕ → Bool
enterable_at [] K = false
enterable_at (d ∷ ds) zero = not (is_reserved d.name)
enterable_at (d ∷ ds) (suc K) = enterable_at ds K

abbrev pub enterable : Script → ℕ → Bool
enterable P K = enterable_at P.declarations K

-- whether the bank has too few registers for the program
abbrev pub lacks_registers : Script → List ℤ → Bool
lacks_registers P bank = nat_lt (length bank) (variables P)

-- 23, then 14
abbrev pub enter_answer : Script → List ℤ → ℕ → Answer
enter_answer P bank K = cond (lacks_registers P bank) (Refused (refusal reason.TooShort)) (cond (enterable P K) Done (Refused (refusal reason.NoSuchVariable)))

abbrev pub entered_bank : Script → List ℤ → ℕ → ℤ → List ℤ
entered_bank P bank K v = cond (lacks_registers P bank) bank (cond (enterable P K) (slice_set bank K v) bank)

-- Under way.

pub record Progress : Type 0 where
  pub row : ℕ
  pub bank : List ℤ
  pub sheet : List Line
  pub kept : ℕ
  pub steps : ℕ
  pub standing : Standing

-- the lines kept: the first of the sheet
abbrev pub lines : Progress → List Line
lines s = take s.kept s.sheet

abbrev pub is_going : Standing → Bool
is_going Ended = false
is_going (Stopped n) = false
is_going SheetFull = false
is_going BudgetSpent = false
is_going MoreToDo = true

-- a settled standing stays
abbrev pub settle : Standing → Standing → Standing
settle Ended new = Ended
settle (Stopped n) new = Stopped n
settle SheetFull new = SheetFull
settle BudgetSpent new = BudgetSpent
settle MoreToDo new = new

-- the first that applies of: no row is left; a line to be kept finds no place; the budget is spent; there is more to do
abbrev pub judge : ℕ → Shown → (kept size steps : ℕ) → Standing
judge budget no_row kept size steps = Ended
judge budget (printed l) kept size steps = cond (nat_le size kept) SheetFull (cond (nat_le budget steps) BudgetSpent MoreToDo)
judge budget silent kept size steps = cond (nat_le budget steps) BudgetSpent MoreToDo
judge budget (stopped n) kept size steps = cond (nat_le budget steps) BudgetSpent MoreToDo

-- at the start no sheet is at hand
abbrev pub judge_start : ℕ → Option TreeRow → Standing
judge_start budget None = Ended
judge_start budget (Some r) = cond (nat_le budget 0) BudgetSpent MoreToDo

-- a line to be kept goes to the next free place
abbrev pub sheet_after : Shown → ℕ → List Line → List Line
sheet_after silent k sheet = sheet
sheet_after (printed l) k sheet = slice_set sheet k l
sheet_after no_row k sheet = sheet
sheet_after (stopped n) k sheet = sheet

abbrev pub kept_after : Shown → ℕ → ℕ
kept_after silent k = k
kept_after (printed l) k = suc k
kept_after no_row k = k
kept_after (stopped n) k = k

-- a run that took a `stop` has stopped
abbrev pub standing_after : Shown → Standing
standing_after silent = MoreToDo
standing_after (printed l) = MoreToDo
standing_after no_row = MoreToDo
standing_after (stopped n) = Stopped n

-- row p of a program
abbrev pub program_row : Script → ℕ → Option TreeRow
program_row P p = row_at (tree_rows P.statements) p

-- `start` begins at the first row, with nothing kept or spent
abbrev pub started : ℕ → Script → List ℤ → List Line → Progress
started budget P bank sheet = record {
  row = 0;
  bank = bank;
  sheet = sheet;
  kept = 0;
  steps = 0;
  standing = judge_start budget (program_row P 0);
}

module _ (G : Family) (reader budget : ℕ) (P : Script) where
  -- what the next row would show the reader
  abbrev pub ahead : Progress → Shown
  ahead s = shows G reader (program_row P s.row) (register s.bank)

  -- the same run, its standing judged
  abbrev pub judged : Progress → Progress
  judged s = record {
    row = s.row;
    bank = s.bank;
    sheet = s.sheet;
    kept = s.kept;
    steps = s.steps;
    standing = settle s.standing (judge budget (ahead s) s.kept (length s.sheet) s.steps);
  }

  -- the run after the next row
  abbrev pub step : Progress → Progress
  step s = record {
    row = next_row (program_row P s.row) s.row (register s.bank);
    bank = registers_after (program_row P s.row) s.bank;
    sheet = sheet_after (ahead s) s.kept s.sheet;
    kept = kept_after (ahead s) s.kept;
    steps = suc s.steps;
    standing = standing_after (ahead s);
  }

  -- rows are taken until n steps are spent or the standing is settled
  abbrev pub run : ℕ → Progress → Progress
  run zero s = judged s
  run (suc n) s = let after = run n (step (judged s)) in cond (is_going (judged s).standing) after (judged s)

  -- the states in which those rows are taken
  abbrev pub taken : ℕ → Progress → List Progress
  taken zero s = []
  taken (suc n) s = let after = taken n (step (judged s)) in cond (is_going (judged s).standing) (judged s ∷ after) []

  -- 23: the bank has too few registers, or the sheet is shorter than the lines kept
  abbrev pub too_short : Progress → Bool
  too_short s = lacks_registers P s.bank || nat_lt (length s.sheet) s.kept

  -- `go n`
  abbrev pub go_answer : ℕ → Progress → Answer
  go_answer n s = cond (too_short s) (Refused (refusal reason.TooShort)) (Went ((run n s).steps - s.steps) (run n s).standing)

  abbrev pub gone : ℕ → Progress → Progress
  gone n s = cond (too_short s) s (run n s)

-- `finish`: 21 while there is more to do
abbrev pub finish_answer : Progress → Answer
finish_answer s = cond (is_going s.standing) (Refused (refusal reason.MoreToDo)) Done

-- Closed.

-- `line k`: 23 where the sheet is shorter than the lines kept, then 22 at or behind their count
abbrev pub line_answer : ℕ → ℕ → List Line → Answer
line_answer kept k sheet =
    cond (nat_lt (length sheet) kept) (Refused (refusal reason.TooShort))
    (cond (nat_lt k kept) (Kept (slice_index_or sheet k (line_of 0 (lib.IntN.pos 0)))) (Refused (refusal reason.NoSuchLine)))

abbrev pub totals_answer : Progress → Answer
totals_answer s = Sums s.kept s.steps s.standing
