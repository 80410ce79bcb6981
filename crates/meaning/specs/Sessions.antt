-- A run from `open` on: a list of calls carried out one after the other.
--
-- A session is one run with one bank and one sheet that nothing else touches, always handed the same program and family. Each call begins where
-- the one before stopped. A call that the run's state does not have is left out.
--
-- Example: the calls `enter 0 7`, `go 5`, `start`, `finish` on a newly opened run are answered: done, left out, started, and refused with 21 if
-- there is more to do.
use Rattle.std.specs.Prelude.{ℕ, cond, List, [], ◌∷◌, ◌++◌, ℤ}
use Rattle.syntax.specs.Scripts.{Script}
use Rattle.meaning.specs.declared.answers.Line.{Line}
use Rattle.meaning.specs.declared.answers.Call.{Call}
use Rattle.meaning.specs.declared.answers.Call.TheVariants.{Enter, Start, Go, Finish, ReadLine, Totals}
use Rattle.meaning.specs.declared.answers.Answer.{Answer}
use Rattle.meaning.specs.declared.answers.Answer.TheVariants.{LeftOut, Started}
use Rattle.meaning.specs.Families.{Family}
use Rattle.meaning.specs.Runs.{Progress, is_going, enter_answer, entered_bank, opened_bank, started, go_answer, gone, taken, too_short, finish_answer, line_answer, totals_answer}

-- a run with its bank and its sheet; a closed run is the one that was under way
pub data Session : Type 0 where
  filling : List ℤ → List Line → Session
  under_way : Progress → Session
  closed : Progress → Session

abbrev pub opened : Script → List ℤ → List Line → Session
opened P bank sheet = filling (opened_bank P bank) sheet

-- the entries made before the run starts
abbrev pub entries : List Call → List (ℕ × ℤ)
entries [] = []
entries (Enter K v ∷ cs) = (K, v) ∷ entries cs
entries (Start ∷ cs) = []
entries (Go n ∷ cs) = entries cs
entries (Finish ∷ cs) = entries cs
entries (ReadLine k ∷ cs) = entries cs
entries (Totals ∷ cs) = entries cs

abbrev pub enter_all : Script → List (ℕ × ℤ) → List ℤ → List ℤ
enter_all P [] bank = bank
enter_all P (e ∷ es) bank = enter_all P es (entered_bank P bank e.0 e.1)

-- the registers when `start` is accepted
abbrev pub opening_bank : Script → List Call → List ℤ → List ℤ
opening_bank P cs bank = enter_all P (entries cs) (opened_bank P bank)

module _ (G : Family) (reader budget : ℕ) (P : Script) where
  abbrev pub while_filling : Call → List ℤ → List Line → Answer × Session
  while_filling (Enter K v) bank sheet = (enter_answer P bank K, filling (entered_bank P bank K v) sheet)
  while_filling Start bank sheet = (Started (started budget P bank sheet).standing, under_way (started budget P bank sheet))
  while_filling (Go n) bank sheet = (LeftOut, filling bank sheet)
  while_filling Finish bank sheet = (LeftOut, filling bank sheet)
  while_filling (ReadLine k) bank sheet = (LeftOut, filling bank sheet)
  while_filling Totals bank sheet = (LeftOut, filling bank sheet)

  abbrev pub while_under_way : Call → Progress → Answer × Session
  while_under_way (Enter K v) s = (LeftOut, under_way s)
  while_under_way Start s = (LeftOut, under_way s)
  while_under_way (Go n) s = (go_answer G reader budget P n s, under_way (gone G reader budget P n s))
  while_under_way Finish s = (finish_answer s, cond (is_going s.standing) (under_way s) (closed s))
  while_under_way (ReadLine k) s = (LeftOut, under_way s)
  while_under_way Totals s = (LeftOut, under_way s)

  abbrev pub when_closed : Call → Progress → Answer × Session
  when_closed (Enter K v) s = (LeftOut, closed s)
  when_closed Start s = (LeftOut, closed s)
  when_closed (Go n) s = (LeftOut, closed s)
  when_closed Finish s = (LeftOut, closed s)
  when_closed (ReadLine k) s = (line_answer s.kept k s.sheet, closed s)
  when_closed Totals s = (totals_answer s, closed s)

  -- a call's answer, and the run after it
  abbrev pub carry : Call → Session → Answer × Session
  carry c (filling bank sheet) = while_filling c bank sheet
  carry c (under_way s) = while_under_way c s
  carry c (closed s) = when_closed c s

  -- the answers to a list of calls
  abbrev pub answers_from : List Call → Session → List Answer
  answers_from [] s = []
  answers_from (c ∷ cs) s = (carry c s).0 ∷ answers_from cs (carry c s).1

  -- the run after a list of calls
  abbrev pub session_after : List Call → Session → Session
  session_after [] s = s
  session_after (c ∷ cs) s = session_after cs (carry c s).1

  -- the states in which a call takes rows
  abbrev pub taken_by_go : ℕ → Session → List Progress
  taken_by_go n (filling bank sheet) = []
  taken_by_go n (under_way s) = cond (too_short G reader budget P s) [] (taken G reader budget P n s)
  taken_by_go n (closed s) = []

  abbrev pub taken_by : Call → Session → List Progress
  taken_by (Enter K v) s = []
  taken_by Start s = []
  taken_by (Go n) s = taken_by_go n s
  taken_by Finish s = []
  taken_by (ReadLine k) s = []
  taken_by Totals s = []

  -- and those of a list of calls
  abbrev pub taken_from : List Call → Session → List Progress
  taken_from [] s = []
  taken_from (c ∷ cs) s = taken_by c s ++ taken_from cs (carry c s).1
