-- A rewritten script is a script again.
--
-- Rewriting a well-formed script that may be rewritten gives a well-formed script, within smaller limits than a script has to keep: at most 208
-- variables, ifs and whiles nested at most 17 deep, expressions at most 19 deep. So its form can be held, spelled and run like that of any other
-- script. Its rows are as many as the places that Places.antt gives them. The own variables are those into which figures may be entered.
--
-- A run of the rewritten script, or of the script itself, can be opened for every reader's level on every bank with enough registers.
--
-- Example: a script of 64 variables, nested 16 deep, has 64 own variables, 64 levels, 64 marks and 16 guards once it is rewritten: 208 in all.
use Rattle.std.specs.Prelude.{◌≡◌, ℕ, ◌+◌, ◌≤◌, true, List, length, ℤ, Some, None, nat_lt}
use Rattle.syntax.specs.Trees.{nesting_in}
use Rattle.syntax.specs.Parts.{row_counts}
use Rattle.syntax.specs.Scripts.{Script, WellFormed}
use Rattle.syntax.specs.Form.{form_rows, form_nodes}
use Rattle.syntax.specs.Forms.{script_of}
use Rattle.meaning.specs.Families.{Family, FamilyLaws, IsCode}
use Rattle.meaning.specs.Rewriting.{variables, deepest_in, Rewritable, rewritten}
use Rattle.meaning.specs.Places.{places_in_script, is_test, is_if}
use Rattle.meaning.specs.Runs.{enterable, open_refusal, program_row}

pub record RewrittenStands (G : Family) (s : Script) : Type 0 where
  pub well_formed : WellFormed (rewritten G s)
  -- the own variables, their levels and marks, and the guards
  pub count : variables (rewritten G s) ≡ variables s + variables s + variables s + nesting_in s.statements
  pub few : variables (rewritten G s) ≤ 208
  pub nested : nesting_in (rewritten G s).statements ≤ 17
  pub shallow : deepest_in (rewritten G s).statements ≤ 19
  -- each row has its place, and one that tests is an `if`
  pub aligned : length (places_in_script G s) ≡ row_counts (rewritten G s).statements
  pub tests_are_ifs : (p : ℕ) → is_test G s p ≡ true → is_if (program_row (rewritten G s) p) ≡ true
  -- figures may be entered into the own variables, and into no other
  pub own_enterable : (K : ℕ) → enterable (rewritten G s) K ≡ nat_lt K (variables s)
  -- its lists can be held
  pub held : script_of (rewritten G s).declarations (form_rows (rewritten G s).statements) (form_nodes (rewritten G s).statements) ≡ Some (rewritten G s)
  -- runs can be opened
  pub opens : (reader : ℕ) (bank : List ℤ) → IsCode G reader → variables (rewritten G s) ≤ length bank → open_refusal G (rewritten G s) reader bank ≡ None
  pub opens_bought : (reader : ℕ) (bank : List ℤ) → IsCode G reader → variables s ≤ length bank → open_refusal G s reader bank ≡ None

abbrev pub RewrittenScripts : Type 0
RewrittenScripts = (G : Family) → FamilyLaws G → (s : Script) → WellFormed s → Rewritable G s → RewrittenStands G s
