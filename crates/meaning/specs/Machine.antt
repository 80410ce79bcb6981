-- Rows and steps: what each row of a program does.
--
-- A program is run row by row. Taking a row may change a register, leads to a next row, and may show the reader something: a line, a stop, or
-- that no row is left. Each row taken is one step. What a row does depends on the registers of the bank alone.
--
-- `if` and `while` go to the next row where their condition is not 0; else `if` goes behind its `else` and `while` behind its `end`. `else` goes
-- behind its `end`, and the `end` of a `while` back to the `while`. A release assigns. A `stop` stays where it is.
--
-- Example: with 3 in register 0, the row `repeats (variable 0) 2` in row 0 goes to row 1; with 0 in it, to row 3.
use Rattle.std.specs.Prelude.{ℕ, zero, suc, Bool, false, cond, List, [], ◌∷◌, ℤ, pos, Some, None, Option, slice_index_or, slice_set}
use Rattle.std.specs.Ordering.{int_eq}
use Rattle.values.specs.Operators.{operate}
use Rattle.syntax.specs.Trees.{Expression, number, variable, apply}
use Rattle.syntax.specs.Form.{TreeRow, skips, assigns, releases, writes, stops, branches, leaves, closes, repeats, goes_back}
use Rattle.meaning.specs.declared.answers.Line.{Line}
use Rattle.meaning.specs.Families.{Family, flows}

-- what a register holds; one that the bank does not have reads as 0
unfoldable pub register : List ℤ → ℕ → ℤ
register bank v = slice_index_or bank v (pos 0)

-- the value of an expression
abbrev pub value_of : (ℕ → ℤ) → Expression → ℤ
value_of regs (number n) = pos n
value_of regs (variable v) = regs v
value_of regs (apply o a b) = operate o (value_of regs a) (value_of regs b)

abbrev pub is_zero : ℤ → Bool
is_zero v = int_eq v (pos 0)

-- row p of a program, or none behind the last
abbrev pub row_at : List TreeRow → ℕ → Option TreeRow
row_at [] p = None
row_at (r ∷ rows) zero = Some r
row_at (r ∷ rows) (suc p) = row_at rows p

-- the steps that a row counts
abbrev pub row_steps : TreeRow → ℕ
row_steps skips = 1
row_steps (assigns v e) = 1
row_steps (releases v e) = 1
row_steps (writes t e) = 1
row_steps (stops n) = 1
row_steps (branches e m) = 1
row_steps (leaves m) = 1
row_steps closes = 1
row_steps (repeats e m) = 1
row_steps (goes_back m) = 1

-- the row behind row p
abbrev pub next_row : Option TreeRow → ℕ → (ℕ → ℤ) → ℕ
next_row None p regs = p
next_row (Some skips) p regs = suc p
next_row (Some (assigns v e)) p regs = suc p
next_row (Some (releases v e)) p regs = suc p
next_row (Some (writes t e)) p regs = suc p
next_row (Some (stops n)) p regs = p
next_row (Some (branches e m)) p regs = cond (is_zero (value_of regs e)) (suc m) (suc p)
next_row (Some (leaves m)) p regs = suc m
next_row (Some closes) p regs = suc p
next_row (Some (repeats e m)) p regs = cond (is_zero (value_of regs e)) (suc m) (suc p)
next_row (Some (goes_back m)) p regs = m

-- the registers after a row
abbrev pub registers_after : Option TreeRow → List ℤ → List ℤ
registers_after None bank = bank
registers_after (Some skips) bank = bank
registers_after (Some (assigns v e)) bank = slice_set bank v (value_of (register bank) e)
registers_after (Some (releases v e)) bank = slice_set bank v (value_of (register bank) e)
registers_after (Some (writes t e)) bank = bank
registers_after (Some (stops n)) bank = bank
registers_after (Some (branches e m)) bank = bank
registers_after (Some (leaves m)) bank = bank
registers_after (Some closes) bank = bank
registers_after (Some (repeats e m)) bank = bank
registers_after (Some (goes_back m)) bank = bank

-- what a line carries
unfoldable pub line_of : ℕ → ℤ → Line
line_of t v = record { level = t; value = v }

-- what taking a row shows a reader
pub data Shown : Type 0 where
  silent : Shown
  printed : Line → Shown
  no_row : Shown
  stopped : ℕ → Shown

-- a line is for the reader where its level flows to his
abbrev pub shows : Family → ℕ → Option TreeRow → (ℕ → ℤ) → Shown
shows G reader None regs = no_row
shows G reader (Some skips) regs = silent
shows G reader (Some (assigns v e)) regs = silent
shows G reader (Some (releases v e)) regs = silent
shows G reader (Some (writes t e)) regs = cond (flows G t reader) (printed (line_of t (value_of regs e))) silent
shows G reader (Some (stops n)) regs = stopped n
shows G reader (Some (branches e m)) regs = silent
shows G reader (Some (leaves m)) regs = silent
shows G reader (Some closes) regs = silent
shows G reader (Some (repeats e m)) regs = silent
shows G reader (Some (goes_back m)) regs = silent

-- the row is an `if` whose condition is 0
abbrev pub takes_else : Option TreeRow → (ℕ → ℤ) → Bool
takes_else None regs = false
takes_else (Some skips) regs = false
takes_else (Some (assigns v e)) regs = false
takes_else (Some (releases v e)) regs = false
takes_else (Some (writes t e)) regs = false
takes_else (Some (stops n)) regs = false
takes_else (Some (branches e m)) regs = is_zero (value_of regs e)
takes_else (Some (leaves m)) regs = false
takes_else (Some closes) regs = false
takes_else (Some (repeats e m)) regs = false
takes_else (Some (goes_back m)) regs = false

-- if the row is a release, Q holds of what it releases
abbrev pub IfReleases : (Expression → Type 0) → Option TreeRow → Type 0
IfReleases Q None = Unit {0}
IfReleases Q (Some skips) = Unit {0}
IfReleases Q (Some (assigns v e)) = Unit {0}
IfReleases Q (Some (releases v e)) = Q e
IfReleases Q (Some (writes t e)) = Unit {0}
IfReleases Q (Some (stops n)) = Unit {0}
IfReleases Q (Some (branches e m)) = Unit {0}
IfReleases Q (Some (leaves m)) = Unit {0}
IfReleases Q (Some closes) = Unit {0}
IfReleases Q (Some (repeats e m)) = Unit {0}
IfReleases Q (Some (goes_back m)) = Unit {0}
