-- The statement on two runs: what a reader can learn from a rewritten script.
--
-- Two runs are opened alike for one reader: the same rewritten script, family, reader's level, budget and sheet length, each with its own bank and
-- sheet that only its calls change. Both get the same list of calls, in any order, but that figures entered above the reader may differ.
--
-- (a) If every release made in the first run has the same opening figure in both, each call gives both the same answer, and their sheets keep
--     the same lines.
-- (b) Every release made hands over its expression's opening figure, and never in a private branch.
-- (c) If a run ended and withheld nothing, the script as bought, with the same entries, budget and sheet length, ends with the same lines
--     once it is settled; and some call of `go` settles it.
--
-- A release is made where its own row is taken. Its opening figure is the value of its expression in the registers when `start` was accepted.
use Rattle.std.specs.Prelude.{◌≡◌, ℕ, true, false, List, [], ◌∷◌, length, ℤ, pos, None, slice_index}
use Rattle.syntax.specs.Trees.{Expression}
use Rattle.syntax.specs.Scripts.{Script, WellFormed}
use Rattle.meaning.specs.declared.answers.Line.{Line}
use Rattle.meaning.specs.declared.answers.Standing.TheVariants.{Ended}
use Rattle.meaning.specs.declared.answers.Call.{Call}
use Rattle.meaning.specs.declared.answers.Call.TheVariants.{Enter, Start, Go}
use Rattle.meaning.specs.declared.answers.Answer.{Answer}
use Rattle.meaning.specs.Families.{Family, FamilyLaws, flows}
use Rattle.meaning.specs.Machine.{register, value_of, takes_else, IfReleases}
use Rattle.meaning.specs.Rewriting.{levels_of, Rewritable, rewritten}
use Rattle.meaning.specs.Places.{guard_at, is_test}
use Rattle.meaning.specs.Runs.{Progress, lines, is_going, program_row, open_refusal}
use Rattle.meaning.specs.Sessions.{Session, filling, under_way, closed, opened, entries, opening_bank, answers_from, session_after, taken_from}

-- Q holds of each element
abbrev pub All : {A : Type 0} → (A → Type 0) → List A → Type 0
All Q [] = Unit {0}
All Q (x ∷ xs) = Q x × All Q xs

-- the lines that a run's sheet keeps
abbrev pub kept_lines : Session → List Line
kept_lines (filling bank sheet) = []
kept_lines (under_way s) = lines s
kept_lines (closed s) = lines s

-- Q holds of a run, and it has started
abbrev pub HasStarted : (Progress → Type 0) → Session → Type 0
HasStarted Q (filling bank sheet) = ⊥
HasStarted Q (under_way s) = Q s
HasStarted Q (closed s) = Q s

abbrev pub HasEnded : Session → Type 0
HasEnded = HasStarted (λ s. s.standing ≡ Ended)

abbrev pub IsSettled : Session → Type 0
IsSettled = HasStarted (λ s. is_going s.standing ≡ false)

-- the entries, as calls
abbrev pub entering : List (ℕ × ℤ) → List Call → List Call
entering [] cs = cs
entering (e ∷ es) cs = Enter e.0 e.1 ∷ entering es cs

-- A family, a reader's level, a budget and a script: what runs opened alike have in common.
module _ (G : Family) (reader budget : ℕ) (s : Script) where
  abbrev pub program : Script
  program = rewritten G s

  -- a program can be opened on a bank
  abbrev pub Opens : Script → List ℤ → Type 0
  Opens P bank = open_refusal G P reader bank ≡ None

  -- a run is opened on a bank and a sheet and gets a list of calls: the answers, the run after them, the states in which it took rows
  abbrev pub answers : Script → List ℤ → List Line → List Call → List Answer
  answers P bank sheet cs = answers_from G reader budget P cs (opened P bank sheet)

  abbrev pub outcome : Script → List ℤ → List Line → List Call → Session
  outcome P bank sheet cs = session_after G reader budget P cs (opened P bank sheet)

  abbrev pub rows_taken : Script → List ℤ → List Line → List Call → List Progress
  rows_taken P bank sheet cs = taken_from G reader budget P cs (opened P bank sheet)

  -- the opening figure of an expression
  abbrev pub opening_figure : List ℤ → List Call → Expression → ℤ
  opening_figure bank cs e = value_of (register (opening_bank program cs bank)) e

  -- if a release is made, Q holds of its expression
  abbrev pub OfRelease : (Expression → Type 0) → Progress → Type 0
  OfRelease Q t = IfReleases Q (program_row program t.row)

  -- variable K's declared level is above the reader
  abbrev pub Above : ℕ → Type 0
  Above K = flows G (slice_index (levels_of s.declarations) K) reader ≡ false

  -- one call in each of two runs, and lists of calls: the same, but that figures entered above the reader may differ
  pub data AlikeCall : Call → Call → Type 0 where
    same : (c : Call) → AlikeCall c c
    above : (K : ℕ) (u v : ℤ) → Above K → AlikeCall (Enter K u) (Enter K v)

  pub data AlikeCalls : List Call → List Call → Type 0 where
    no_calls : AlikeCalls [] []
    more_calls : {c d : Call} {cs ds : List Call} → AlikeCall c d → AlikeCalls cs ds → AlikeCalls (c ∷ cs) (d ∷ ds)

  -- (a)
  abbrev pub AlikeRuns : Type 0
  AlikeRuns =
      (bank₁ bank₂ : List ℤ) → Opens program bank₁ → Opens program bank₂ →
      (sheet₁ sheet₂ : List Line) → length sheet₁ ≡ length sheet₂ →
      (cs ds : List Call) → AlikeCalls cs ds →
      All (OfRelease (λ e. opening_figure bank₁ cs e ≡ opening_figure bank₂ ds e)) (rows_taken program bank₁ sheet₁ cs) →
      (answers program bank₁ sheet₁ cs ≡ answers program bank₂ sheet₂ ds)
      × (kept_lines (outcome program bank₁ sheet₁ cs) ≡ kept_lines (outcome program bank₂ sheet₂ ds))

  -- (b)
  abbrev pub HonestReleases : Type 0
  HonestReleases =
      (bank : List ℤ) → Opens program bank → (sheet : List Line) (cs : List Call) →
      All (λ t. OfRelease (λ e. (value_of (register t.bank) e ≡ opening_figure bank cs e) × (value_of (register t.bank) (guard_at G s t.row) ≡ pos 0)) t)
      (rows_taken program bank sheet cs)

  -- nothing is withheld where a test for a line or a release does not take its `else`
  abbrev pub WithholdsNothing : Progress → Type 0
  WithholdsNothing t = is_test G s t.row ≡ true → takes_else (program_row program t.row) (register t.bank) ≡ false

  -- (c)
  abbrev pub LinesAsBought : Type 0
  LinesAsBought =
      (bank₁ bank₂ : List ℤ) → Opens program bank₁ → Opens s bank₂ →
      (sheet₁ sheet₂ : List Line) → length sheet₁ ≡ length sheet₂ →
      (cs ds : List Call) → entries cs ≡ entries ds →
      HasEnded (outcome program bank₁ sheet₁ cs) → All WithholdsNothing (rows_taken program bank₁ sheet₁ cs) →
      IsSettled (outcome s bank₂ sheet₂ ds) →
      HasEnded (outcome s bank₂ sheet₂ ds) × (kept_lines (outcome s bank₂ sheet₂ ds) ≡ kept_lines (outcome program bank₁ sheet₁ cs))

  -- whatever is entered, one `go` for the whole budget settles the script as bought
  abbrev pub Settles : Type 0
  Settles = (bank : List ℤ) → Opens s bank → (sheet : List Line) (es : List (ℕ × ℤ)) → IsSettled (outcome s bank sheet (entering es (Start ∷ Go budget ∷ [])))

  pub record Guarantees : Type 0 where
    pub alike : AlikeRuns
    pub honest : HonestReleases
    pub as_bought : LinesAsBought
    pub settles : Settles

-- of a family: every reader, every budget, every script that can be rewritten
abbrev pub ConfinedFor : Family → Type 0
ConfinedFor G = (s : Script) → WellFormed s → Rewritable G s → (reader budget : ℕ) → Guarantees G reader budget s

-- of every family that keeps the laws
abbrev pub Confined : Type 0
Confined = (G : Family) → FamilyLaws G → ConfinedFor G
