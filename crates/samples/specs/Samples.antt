-- The worked samples, as one table.
--
-- Each field of `Samples` is one sample. Its proof computes with the definitions of the other crates and with nothing else, so the table shows
-- that these are the definitions meant. The scripts stand in Scripts.antt.
--
-- Runs are for reader 0 of the ladder, on a bank that held 9 in each register before, and on a sheet that held a line before. A run is told
-- call by call, each call beside its answer.
--
-- Example: `Runs P 10 one_line ((Start, Started MoreToDo) ∷ (Go 4, Went 4 MoreToDo) ∷ [])` says that program P is opened with a budget of 10 steps;
-- that `start` answers that there is more to do; and that `go 4` then takes 4 steps, and there is more to do.
use Rattle.std.specs.Prelude.{◌≡◌, ℕ, List, [], ◌∷◌, ◌++◌, map, length, replicate, ℤ, pos, negsuc, Some, None, codes}
use Prim.Native.String.{String}
use Rattle.values.specs.declared.Operator.TheVariants as op
use Rattle.values.specs.Operators.{operate}
use Rattle.refusals.specs.declared.Reason.{Reason}
use Rattle.refusals.specs.declared.Reason.TheVariants as reason
use Rattle.refusals.specs.Reasons.{reason_number}
use Rattle.letters.specs.Tokens.{token, numeral, next_at}
use Rattle.syntax.specs.Trees.{number, variable, apply}
use Rattle.syntax.specs.Form.{skips, assigns, writes, branches, leaves, closes, tree_rows}
use Rattle.syntax.specs.Scripts.{Script}
use Rattle.reading.specs.Grammar.{TextOf}
use Rattle.reading.specs.Scripts.{Judged}
use Rattle.spelling.specs.Spelling.{spelling}
use Rattle.meaning.specs.declared.answers.Line.{Line}
use Rattle.meaning.specs.declared.answers.Standing.TheVariants.{Ended, Stopped, SheetFull, BudgetSpent, MoreToDo}
use Rattle.meaning.specs.declared.answers.Call.{Call}
use Rattle.meaning.specs.declared.answers.Call.TheVariants.{Enter, Start, Go, Finish, ReadLine, Totals}
use Rattle.meaning.specs.declared.answers.Answer.{Answer}
use Rattle.meaning.specs.declared.answers.Answer.TheVariants.{LeftOut, Done, Started, Went, Kept, Sums, Refused}
use Rattle.meaning.specs.Families.{ladder}
use Rattle.meaning.specs.Machine.{line_of}
use Rattle.meaning.specs.Rewriting.{rewritten, Rewritable}
use Rattle.meaning.specs.Places.{plain, testing, places_in_script}
use Rattle.meaning.specs.Runs.{open_refusal, refusal}
use Rattle.meaning.specs.Sessions.{opened, answers_from}
use Rattle.samples.specs.Scripts.{empty, writing, releasing, branching, looping, replacing, choosing, marking, releasing_inside, guessing, counting, nesting, writing_up, writing_high, writing_greatest}

-- lines of text, with a line feed behind each
abbrev pub lines : List String → List ℕ
lines [] = []
lines (x ∷ xs) = codes x ++ (10 ∷ lines xs)

-- a text of a script, and the script's text in the standard layout
pub record Texts (text : String) (layout : List String) (S : Script) : Type 0 where
  pub text_of : TextOf (codes text) S
  pub spelled : spelling S ≡ lines layout

-- so many registers that held 9
abbrev pub nines : ℕ → List ℤ
nines n = replicate n (pos 9)

-- a sheet with one place, which held a line
abbrev pub one_line : List Line
one_line = line_of 5 (pos 5) ∷ []

-- a call is refused, without a place
abbrev pub refused_for : Reason → Answer
refused_for r = Refused (refusal r)

-- program P is opened for a reader with a budget, and the calls are answered so
abbrev pub RunsFor : ℕ → Script → ℕ → List Line → List (Call × Answer) → Type 0
RunsFor reader P budget sheet told =
    (open_refusal ladder P reader (nines 15) ≡ None)
    × (answers_from ladder reader budget P (map (λ x. x.0) told) (opened P (nines 15) sheet) ≡ map (λ x. x.1) told)

abbrev pub Runs : Script → ℕ → List Line → List (Call × Answer) → Type 0
Runs = RunsFor 0

-- script S can be rewritten, and its rewriting runs so
abbrev pub RunsRewritten : Script → ℕ → List Line → List (Call × Answer) → Type 0
RunsRewritten S budget sheet told = Rewritable ladder S × Runs (rewritten ladder S) budget sheet told

pub record Samples : Type 0 where
  -- Scripts and their texts.
  pub empty_text : Texts "" [] empty
  pub writing_text : Texts "var p : 0; write 0 p;" ("var p : 0 ;" ∷ "write 0 p ;" ∷ []) writing
  pub releasing_text : Texts "var h : 1; var p : 0; p := declassify(h); write 0 p;"
      ("var h : 1 ;" ∷ "var p : 0 ;" ∷ "p := declassify ( h ) ;" ∷ "write 0 p ;" ∷ []) releasing
  pub branching_text : Texts "var h : 1; if h then write 0 1; else skip; end;"
      ("var h : 1 ;" ∷ "if h then" ∷ "write 0 1 ;" ∷ "else" ∷ "skip ;" ∷ "end ;" ∷ []) branching
  pub looping_text : Texts "var h : 1; while h do h := (h - 1); end;"
      ("var h : 1 ;" ∷ "while h do" ∷ "h := ( h - 1 ) ;" ∷ "end ;" ∷ []) looping
  pub replacing_text : Texts "var h : 1; var k : 1; var p : 0; h := k; p := declassify(h); write 0 p;"
      ("var h : 1 ;" ∷ "var k : 1 ;" ∷ "var p : 0 ;" ∷ "h := k ;" ∷ "p := declassify ( h ) ;" ∷ "write 0 p ;" ∷ []) replacing
  pub choosing_text : Texts "var h : 1; var p : 0; if h then p := 1; else skip; end; write 0 p;"
      ("var h : 1 ;" ∷ "var p : 0 ;" ∷ "if h then" ∷ "p := 1 ;" ∷ "else" ∷ "skip ;" ∷ "end ;" ∷ "write 0 p ;" ∷ []) choosing
  pub marking_text : Texts "var h : 1; var k : 1; var p : 0; if h then k := 1; else skip; end; p := declassify(k); write 0 p;"
      ("var h : 1 ;" ∷ "var k : 1 ;" ∷ "var p : 0 ;" ∷ "if h then" ∷ "k := 1 ;" ∷ "else" ∷ "skip ;" ∷ "end ;" ∷ "p := declassify ( k ) ;" ∷ "write 0 p ;" ∷ []) marking
  pub releasing_inside_text : Texts "var h : 1; var p : 0; if h then p := declassify(h); else skip; end; write 0 p;"
      ("var h : 1 ;" ∷ "var p : 0 ;" ∷ "if h then" ∷ "p := declassify ( h ) ;" ∷ "else" ∷ "skip ;" ∷ "end ;" ∷ "write 0 p ;" ∷ []) releasing_inside
  pub guessing_text : Texts "var k : 1; var g : 0; var p : 0; g := k; p := declassify(g); write 0 p;"
      ("var k : 1 ;" ∷ "var g : 0 ;" ∷ "var p : 0 ;" ∷ "g := k ;" ∷ "p := declassify ( g ) ;" ∷ "write 0 p ;" ∷ []) guessing
  pub counting_text : Texts "var n : 0; while n do write 0 n; n := (n - 1); end;"
      ("var n : 0 ;" ∷ "while n do" ∷ "write 0 n ;" ∷ "n := ( n - 1 ) ;" ∷ "end ;" ∷ []) counting
  pub nesting_text : Texts "var h : 1; var p : 0; if h then p := declassify((h + p)); else while p do p := (p - 1); end; end; write 1 p;"
      ("var h : 1 ;" ∷ "var p : 0 ;" ∷ "if h then" ∷ "p := declassify ( ( h + p ) ) ;" ∷ "else" ∷ "while p do" ∷ "p := ( p - 1 ) ;" ∷ "end ;" ∷ "end ;" ∷ "write 1 p ;" ∷ []) nesting
  pub writing_up_text : Texts "write 1 7;" ("write 1 7 ;" ∷ []) writing_up
  pub writing_high_text : Texts "write 16 1;" ("write 16 1 ;" ∷ []) writing_high
  -- Numerals: 2147483647 is the greatest, and a leading zero is not allowed. The two refusals have number 2 and the numeral's place.
  pub greatest_text : Texts "write 0 2147483647;" ("write 0 2147483647 ;" ∷ []) writing_greatest
  pub greatest_token : next_at (codes "2147483647") 0 ≡ token (numeral (codes "2147483647") 2147483647) 0 10
  pub too_great : Judged (codes "write 0 2147483648;") (record { reason = reason.Malformed; place = 8 })
  pub leading_zeros : Judged (codes "var p : 007;") (record { reason = reason.Malformed; place = 8 })
  -- The numbers of the reasons in this table.
  pub numbers : map reason_number (reason.Malformed ∷ reason.NotACode ∷ reason.BankTooSmall ∷ reason.NoSuchVariable ∷ reason.MoreToDo ∷ reason.NoSuchLine ∷ [])
      ≡ (2 ∷ 9 ∷ 12 ∷ 14 ∷ 21 ∷ 22 ∷ [])
  -- Quotients: -7 / 2 is -3, 5 / 0 is 0, and the least number over -1 is the least number.
  pub drops_fraction : operate op.Divide (negsuc 6) (pos 2) ≡ negsuc 2
  pub by_zero : operate op.Divide (pos 5) (pos 0) ≡ pos 0
  pub least_over : operate op.Divide (negsuc 2147483647) (negsuc 0) ≡ negsuc 2147483647
  -- What `var p : 0; write 0 p;` is rewritten to, as it is spelled.
  pub rewritten_writing : spelling (rewritten ladder writing)
      ≡ lines ("var p : 0 ;"
      ∷ "var _s0 : 0 ;"
      ∷ "var _t0 : 0 ;"
      ∷ "_s0 := 0 ;"
      ∷ "if ( ( ( _s0 max 0 ) max 0 ) = 0 ) then"
      ∷ "write 0 p ;"
      ∷ "else"
      ∷ "skip ;"
      ∷ "end ;"
      ∷ [])
  -- What a script with an assignment in an `if` is rewritten to: the guard, arms of equal steps, and behind them the level and the mark raised.
  pub rewritten_choosing : spelling (rewritten ladder choosing)
      ≡ lines ("var h : 1 ;"
      ∷ "var p : 0 ;"
      ∷ "var _s0 : 0 ;"
      ∷ "var _s1 : 0 ;"
      ∷ "var _t0 : 0 ;"
      ∷ "var _t1 : 0 ;"
      ∷ "var _g1 : 0 ;"
      ∷ "_s0 := 1 ;"
      ∷ "_s1 := 0 ;"
      ∷ "_g1 := ( _s0 max 0 ) ;"
      ∷ "if h then"
      ∷ "_s1 := ( 0 max _g1 ) ;"
      ∷ "_t1 := 1 ;"
      ∷ "p := 1 ;"
      ∷ "else"
      ∷ "skip ;"
      ∷ "skip ;"
      ∷ "skip ;"
      ∷ "end ;"
      ∷ "_s1 := ( _s1 max _g1 ) ;"
      ∷ "_t1 := ( _t1 max ( 0 < _g1 ) ) ;"
      ∷ "if ( ( ( _s1 max 0 ) max 0 ) = 0 ) then"
      ∷ "write 0 p ;"
      ∷ "else"
      ∷ "skip ;"
      ∷ "end ;"
      ∷ [])
  -- What a script with a release, a `while` and a line at level 1 is rewritten to: checks that stop with 1 and 2 instead of arms of equal steps.
  pub rewritten_nesting : spelling (rewritten ladder nesting)
      ≡ lines ("var h : 1 ;"
      ∷ "var p : 0 ;"
      ∷ "var _s0 : 0 ;"
      ∷ "var _s1 : 0 ;"
      ∷ "var _t0 : 0 ;"
      ∷ "var _t1 : 0 ;"
      ∷ "var _g1 : 0 ;"
      ∷ "var _g2 : 0 ;"
      ∷ "_s0 := 1 ;"
      ∷ "_s1 := 0 ;"
      ∷ "_g1 := ( _s0 max 0 ) ;"
      ∷ "if ( _g1 = 0 ) then"
      ∷ "skip ;"
      ∷ "else"
      ∷ "stop 1 ;"
      ∷ "end ;"
      ∷ "if h then"
      ∷ "if ( ( _g1 max ( _t0 max _t1 ) ) = 0 ) then"
      ∷ "_s1 := 0 ;"
      ∷ "_t1 := 1 ;"
      ∷ "p := declassify ( ( h + p ) ) ;"
      ∷ "else"
      ∷ "skip ;"
      ∷ "skip ;"
      ∷ "skip ;"
      ∷ "end ;"
      ∷ "else"
      ∷ "_g2 := ( _s1 max _g1 ) ;"
      ∷ "if ( _g2 = 0 ) then"
      ∷ "skip ;"
      ∷ "else"
      ∷ "stop 2 ;"
      ∷ "end ;"
      ∷ "while p do"
      ∷ "_s1 := ( ( _s1 max 0 ) max _g2 ) ;"
      ∷ "_t1 := 1 ;"
      ∷ "p := ( p - 1 ) ;"
      ∷ "_g2 := ( _s1 max _g2 ) ;"
      ∷ "if ( _g2 = 0 ) then"
      ∷ "skip ;"
      ∷ "else"
      ∷ "stop 2 ;"
      ∷ "end ;"
      ∷ "end ;"
      ∷ "end ;"
      ∷ "_s1 := ( _s1 max _g1 ) ;"
      ∷ "_t1 := ( _t1 max ( 0 < _g1 ) ) ;"
      ∷ "if ( ( ( _s1 max 0 ) max 1 ) = 1 ) then"
      ∷ "write 1 p ;"
      ∷ "else"
      ∷ "skip ;"
      ∷ "end ;"
      ∷ [])
  -- A run of the empty script has ended when it starts, after 0 steps.
  pub empty_run : RunsRewritten empty 1000 one_line ((Start, Started Ended) ∷ (Finish, Done) ∷ (Totals, Sums 0 0 Ended) ∷ [])
  -- The release is made: with h 7, 10 steps and the line (0, 7). Of three times `go 4` the last takes 2 steps. Variable 2 is `_s0`, for which
  -- nothing can be entered. Calls that the run's state does not have are left out.
  pub releasing_run : RunsRewritten releasing 1000 one_line
      ((Enter 0 (pos 7), Done)
      ∷ (Enter 2 (pos 1), refused_for reason.NoSuchVariable)
      ∷ (Go 4, LeftOut)
      ∷ (Start, Started MoreToDo)
      ∷ (Enter 0 (pos 8), LeftOut)
      ∷ (Go 4, Went 4 MoreToDo)
      ∷ (Finish, refused_for reason.MoreToDo)
      ∷ (Go 4, Went 4 MoreToDo)
      ∷ (Go 4, Went 2 Ended)
      ∷ (ReadLine 0, LeftOut)
      ∷ (Finish, Done)
      ∷ (ReadLine 0, Kept (line_of 0 (pos 7)))
      ∷ (ReadLine 1, refused_for reason.NoSuchLine)
      ∷ (Totals, Sums 1 10 Ended)
      ∷ (Go 4, LeftOut)
      ∷ [])
  -- For it a budget of 10 steps is enough and one of 9 is spent; a sheet without places is full after 8.
  pub budget_enough : RunsRewritten releasing 10 one_line ((Enter 0 (pos 7), Done) ∷ (Start, Started MoreToDo) ∷ (Go 100, Went 10 Ended) ∷ [])
  pub budget_spent : RunsRewritten releasing 9 one_line ((Enter 0 (pos 7), Done) ∷ (Start, Started MoreToDo) ∷ (Go 100, Went 9 BudgetSpent) ∷ [])
  pub sheet_full : RunsRewritten releasing 10 [] ((Enter 0 (pos 7), Done) ∷ (Start, Started MoreToDo) ∷ (Go 100, Went 8 SheetFull) ∷ [])
  -- The script of that run as it is, not rewritten, keeps the same line in 2 steps.
  pub releasing_bare : Runs releasing 1000 one_line
      ((Enter 0 (pos 7), Done)
      ∷ (Start, Started MoreToDo)
      ∷ (Go 100, Went 2 Ended)
      ∷ (Finish, Done)
      ∷ (ReadLine 0, Kept (line_of 0 (pos 7)))
      ∷ (Totals, Sums 1 2 Ended)
      ∷ [])
  -- A line in a private branch is withheld, and both arms take the same steps: 7 for h 0 and for h 1.
  pub branching_zero : RunsRewritten branching 1000 one_line
      ((Enter 0 (pos 0), Done) ∷ (Start, Started MoreToDo) ∷ (Go 100, Went 7 Ended) ∷ (Finish, Done) ∷ (ReadLine 0, refused_for reason.NoSuchLine) ∷ (Totals, Sums 0 7 Ended) ∷ [])
  pub branching_one : RunsRewritten branching 1000 one_line
      ((Enter 0 (pos 1), Done) ∷ (Start, Started MoreToDo) ∷ (Go 100, Went 7 Ended) ∷ (Finish, Done) ∷ (ReadLine 0, refused_for reason.NoSuchLine) ∷ (Totals, Sums 0 7 Ended) ∷ [])
  -- A `while` on h stops with 2 after 4 steps, for h 3 and for h 0, and stays so.
  pub looping_three : RunsRewritten looping 1000 one_line
      ((Enter 0 (pos 3), Done) ∷ (Start, Started MoreToDo) ∷ (Go 100, Went 4 (Stopped 2)) ∷ (Go 100, Went 0 (Stopped 2)) ∷ (Finish, Done) ∷ (Totals, Sums 0 4 (Stopped 2)) ∷ [])
  pub looping_zero : RunsRewritten looping 1000 one_line
      ((Enter 0 (pos 0), Done) ∷ (Start, Started MoreToDo) ∷ (Go 100, Went 4 (Stopped 2)) ∷ (Go 100, Went 0 (Stopped 2)) ∷ (Finish, Done) ∷ (Totals, Sums 0 4 (Stopped 2)) ∷ [])
  -- A `while` on n, which anyone may know, goes round twice for n 2: the lines (0, 2) and (0, 1) in 30 steps.
  pub counting_two : RunsRewritten counting 1000 (line_of 5 (pos 5) ∷ line_of 6 (pos 6) ∷ [])
      ((Enter 0 (pos 2), Done)
      ∷ (Start, Started MoreToDo)
      ∷ (Go 100, Went 30 Ended)
      ∷ (Finish, Done)
      ∷ (ReadLine 0, Kept (line_of 0 (pos 2)))
      ∷ (ReadLine 1, Kept (line_of 0 (pos 1)))
      ∷ (Totals, Sums 2 30 Ended)
      ∷ [])
  -- A `while` within a private branch: the check before the branch stops with 1 after 5 steps, for h 0 and for h 1.
  pub nesting_zero : RunsRewritten nesting 1000 one_line
      ((Enter 0 (pos 0), Done) ∷ (Start, Started MoreToDo) ∷ (Go 100, Went 5 (Stopped 1)) ∷ (Finish, Done) ∷ (Totals, Sums 0 5 (Stopped 1)) ∷ [])
  pub nesting_one : RunsRewritten nesting 1000 one_line
      ((Enter 0 (pos 1), Done) ∷ (Start, Started MoreToDo) ∷ (Go 100, Went 5 (Stopped 1)) ∷ (Finish, Done) ∷ (Totals, Sums 0 5 (Stopped 1)) ∷ [])
  -- A line at level 1 takes the same 3 steps for readers 0 and 1, and is kept for reader 1 only.
  pub writing_up_low : RunsFor 0 (rewritten ladder writing_up) 1000 one_line
      ((Start, Started MoreToDo) ∷ (Go 100, Went 3 Ended) ∷ (Finish, Done) ∷ (Totals, Sums 0 3 Ended) ∷ [])
  pub writing_up_high : RunsFor 1 (rewritten ladder writing_up) 1000 one_line
      ((Start, Started MoreToDo) ∷ (Go 100, Went 3 Ended) ∷ (Finish, Done) ∷ (ReadLine 0, Kept (line_of 1 (pos 7))) ∷ (Totals, Sums 1 3 Ended) ∷ [])
  -- h was assigned before it is released, so the release is not made: with k 5, 14 steps and the line (0, 0).
  pub replacing_run : RunsRewritten replacing 1000 one_line
      ((Enter 1 (pos 5), Done)
      ∷ (Start, Started MoreToDo)
      ∷ (Go 100, Went 14 Ended)
      ∷ (Finish, Done)
      ∷ (ReadLine 0, Kept (line_of 0 (pos 0)))
      ∷ (Totals, Sums 1 14 Ended)
      ∷ [])
  -- p may be assigned in a private branch, so its level is raised, whichever arm is taken: 13 steps and no line for h 0 and for h 1.
  pub choosing_zero : RunsRewritten choosing 1000 one_line
      ((Enter 0 (pos 0), Done) ∷ (Start, Started MoreToDo) ∷ (Go 100, Went 13 Ended) ∷ (Finish, Done) ∷ (Totals, Sums 0 13 Ended) ∷ [])
  pub choosing_one : RunsRewritten choosing 1000 one_line
      ((Enter 0 (pos 1), Done) ∷ (Start, Started MoreToDo) ∷ (Go 100, Went 13 Ended) ∷ (Finish, Done) ∷ (Totals, Sums 0 13 Ended) ∷ [])
  -- k may be assigned in a private branch, so it is marked, whichever arm is taken, and its release is not made: with k 5, 19 steps and the line
  -- (0, 0) for h 0 and for h 1.
  pub marking_zero : RunsRewritten marking 1000 one_line
      ((Enter 1 (pos 5), Done)
      ∷ (Start, Started MoreToDo)
      ∷ (Go 100, Went 19 Ended)
      ∷ (Finish, Done)
      ∷ (ReadLine 0, Kept (line_of 0 (pos 0)))
      ∷ (Totals, Sums 1 19 Ended)
      ∷ [])
  pub marking_one : RunsRewritten marking 1000 one_line
      ((Enter 0 (pos 1), Done)
      ∷ (Enter 1 (pos 5), Done)
      ∷ (Start, Started MoreToDo)
      ∷ (Go 100, Went 19 Ended)
      ∷ (Finish, Done)
      ∷ (ReadLine 0, Kept (line_of 0 (pos 0)))
      ∷ (Totals, Sums 1 19 Ended)
      ∷ [])
  -- A release within a private branch is not made, and p is raised behind the branch, whichever arm was taken: 15 steps and no line for h 0 and
  -- for h 1. Rules that raise p only in the arm that was not taken would write a line for h 1.
  pub releasing_inside_zero : RunsRewritten releasing_inside 1000 one_line
      ((Enter 0 (pos 0), Done) ∷ (Start, Started MoreToDo) ∷ (Go 100, Went 15 Ended) ∷ (Finish, Done) ∷ (Totals, Sums 0 15 Ended) ∷ [])
  pub releasing_inside_one : RunsRewritten releasing_inside 1000 one_line
      ((Enter 0 (pos 1), Done) ∷ (Start, Started MoreToDo) ∷ (Go 100, Went 15 Ended) ∷ (Finish, Done) ∷ (Totals, Sums 0 15 Ended) ∷ [])
  -- g was assigned before it is released, so the release is not made, also where g has its opening value again: with the guess 7 in g, 14 steps and
  -- the line (0, 0) for k 7 and for k 8. Rules that compare values would write (0, 7) for k 7.
  pub guessing_right : RunsRewritten guessing 1000 one_line
      ((Enter 0 (pos 7), Done)
      ∷ (Enter 1 (pos 7), Done)
      ∷ (Start, Started MoreToDo)
      ∷ (Go 100, Went 14 Ended)
      ∷ (Finish, Done)
      ∷ (ReadLine 0, Kept (line_of 0 (pos 0)))
      ∷ (Totals, Sums 1 14 Ended)
      ∷ [])
  pub guessing_wrong : RunsRewritten guessing 1000 one_line
      ((Enter 0 (pos 8), Done)
      ∷ (Enter 1 (pos 7), Done)
      ∷ (Start, Started MoreToDo)
      ∷ (Go 100, Went 14 Ended)
      ∷ (Finish, Done)
      ∷ (ReadLine 0, Kept (line_of 0 (pos 0)))
      ∷ (Totals, Sums 1 14 Ended)
      ∷ [])
  -- Opening: 9 for reader 16, which is no code of the ladder, whatever the bank; 12 for a bank of one register less than the 6 variables; 9 for a
  -- script that writes at level 16; all at place 0.
  pub reader_no_code : open_refusal ladder (rewritten ladder releasing) 16 (nines 15) ≡ Some (record { reason = reason.NotACode; place = 0 })
  pub reader_first : open_refusal ladder (rewritten ladder releasing) 16 (nines 5) ≡ Some (record { reason = reason.NotACode; place = 0 })
  pub bank_enough : open_refusal ladder (rewritten ladder releasing) 0 (nines 6) ≡ None
  pub bank_too_small : open_refusal ladder (rewritten ladder releasing) 0 (nines 5) ≡ Some (record { reason = reason.BankTooSmall; place = 0 })
  pub writes_no_code : open_refusal ladder writing_high 0 (nines 15) ≡ Some (record { reason = reason.NotACode; place = 0 })
  -- The rows of the rewriting of `branching`, whose registers are h, `_s0`, `_t0` and `_g1`, and beside each its place: how many ifs of the script
  -- are around it, and `testing` where the row tests if a line is withheld.
  pub branching_rows : tree_rows (rewritten ladder branching).statements
      ≡ (assigns 1 (number 1)
      ∷ assigns 3 (apply op.Maximum (variable 1) (number 0))
      ∷ branches (variable 0) 8
      ∷ branches (apply op.Equal (apply op.Maximum (apply op.Maximum (number 0) (variable 3)) (number 0)) (number 0)) 5
      ∷ writes 0 (number 1)
      ∷ leaves 7
      ∷ skips
      ∷ closes
      ∷ leaves 12
      ∷ skips
      ∷ skips
      ∷ skips
      ∷ closes
      ∷ [])
  pub branching_places : places_in_script ladder branching
      ≡ (plain 0
      ∷ plain 0
      ∷ plain 0
      ∷ testing 1
      ∷ plain 1
      ∷ plain 1
      ∷ plain 1
      ∷ plain 1
      ∷ plain 0
      ∷ plain 1
      ∷ plain 1
      ∷ plain 1
      ∷ plain 0
      ∷ [])
  pub as_many_places : length (places_in_script ladder branching) ≡ length (tree_rows (rewritten ladder branching).statements)
