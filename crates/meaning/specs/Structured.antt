-- Running a script by its structure: what a whole run comes to, without rows and jumps.
--
-- `Does s bank n lines bank'` says that the statement s, begun with these registers, is over after n steps, has shown the reader these lines and
-- leaves these registers; `DoesIn` says the same of a list. An `if` does one of its arms; with the two steps of its own rows it takes two more than the
-- arm. A `while` does its body as long as its condition is not 0, each round taking two steps more than the body, and one step to find it 0.
--
-- `StructuredRuns` says that the machine of rows does just that: a run that is started on these registers, with a budget and a sheet that suffice, has
-- ended once it is settled, after these steps, with these lines and registers, however its steps are dealt out over calls of `go`.
--
-- Example: with 2 in register 0, `while x do x := (x - 1); end;`, with x as variable 0, takes 2 + 1 steps for each of two rounds and 1 to end: 7.
use Rattle.std.specs.Prelude.{◌≡◌, ℕ, ◌+◌, ◌≤◌, true, false, List, [], ◌∷◌, ◌++◌, length, ℤ, slice_set}
use Rattle.syntax.specs.Trees.{Expression, Statement, Statements, none, then, skip, assign, release, write, branch, while}
use Rattle.syntax.specs.Scripts.{Script}
use Rattle.meaning.specs.declared.answers.Line.{Line}
use Rattle.meaning.specs.declared.answers.Standing.TheVariants.{Ended}
use Rattle.meaning.specs.declared.answers.Call.{Call}
use Rattle.meaning.specs.Families.{Family, flows}
use Rattle.meaning.specs.Machine.{register, value_of, is_zero, line_of}
use Rattle.meaning.specs.Runs.{lines, started}
use Rattle.meaning.specs.Sessions.{under_way, session_after}
use Rattle.meaning.specs.Confinement.{HasStarted, IsSettled}

mutual
  pub data Does (G : Family) (reader : ℕ) : Statement → List ℤ → ℕ → List Line → List ℤ → Type 0 where
    does_skip : {b : List ℤ} → Does G reader skip b 1 [] b
    does_assign : {b : List ℤ} (v : ℕ) (e : Expression) → Does G reader (assign v e) b 1 [] (slice_set b v (value_of (register b) e))
    does_release : {b : List ℤ} (v : ℕ) (e : Expression) → Does G reader (release v e) b 1 [] (slice_set b v (value_of (register b) e))
    -- a line for the reader is shown, and any other is passed over
    shows_line : {b : List ℤ} (t : ℕ) (e : Expression) → flows G t reader ≡ true → Does G reader (write t e) b 1 (line_of t (value_of (register b) e) ∷ []) b
    hides_line : {b : List ℤ} (t : ℕ) (e : Expression) → flows G t reader ≡ false → Does G reader (write t e) b 1 [] b
    first_arm : {b c : List ℤ} {n : ℕ} {l : List Line} (e : Expression) (A B : Statements) → is_zero (value_of (register b) e) ≡ false → DoesIn G reader A b n l c → Does G reader (branch e A B) b (n + 2) l c
    second_arm : {b c : List ℤ} {n : ℕ} {l : List Line} (e : Expression) (A B : Statements) → is_zero (value_of (register b) e) ≡ true → DoesIn G reader B b n l c → Does G reader (branch e A B) b (n + 2) l c
    loop_over : {b : List ℤ} (e : Expression) (A : Statements) → is_zero (value_of (register b) e) ≡ true → Does G reader (while e A) b 1 [] b
    loop_again : {b c d : List ℤ} {n m : ℕ} {k l : List Line} (e : Expression) (A : Statements) → is_zero (value_of (register b) e) ≡ false →
        DoesIn G reader A b n k c → Does G reader (while e A) c m l d → Does G reader (while e A) b (n + 2 + m) (k ++ l) d

  pub data DoesIn (G : Family) (reader : ℕ) : Statements → List ℤ → ℕ → List Line → List ℤ → Type 0 where
    does_none : {b : List ℤ} → DoesIn G reader none b 0 [] b
    does_then : {b c d : List ℤ} {n m : ℕ} {k l : List Line} {x : Statement} {xs : Statements} → Does G reader x b n k c → DoesIn G reader xs c m l d → DoesIn G reader (then x xs) b (n + m) (k ++ l) d

abbrev pub StructuredRuns : Type 0
StructuredRuns =
    (G : Family) (reader budget : ℕ) (P : Script) (bank bank' : List ℤ) (n : ℕ) (l : List Line) → DoesIn G reader P.statements bank n l bank' →
    n ≤ budget → (sheet : List Line) → length l ≤ length sheet → (cs : List Call) →
    let end = session_after G reader budget P cs (under_way (started budget P bank sheet)) in
    IsSettled end → HasStarted (λ s. (s.standing ≡ Ended) × (lines s ≡ l) × ((s.steps ≡ n) × (s.bank ≡ bank'))) end
