-- A script, and what every script keeps.
--
-- Example: `var x : 3; write 3 x;` is the script with one declaration, `x` of level 3, and the list of the one statement
-- `write 3 (variable 0)`. It would not be well-formed with `write 3 (variable 1)`, which is not declared.
use Rattle.std.specs.Prelude.{◌≡◌, ◌≤◌, true, List, length}
use Rattle.syntax.specs.declared.form.Declaration.{Declaration}
use Rattle.syntax.specs.Names.{well_declared}
use Rattle.syntax.specs.Trees.{Statements, LegalStatements, nesting_in}

pub record Script : Type 0 where
  pub declarations : List Declaration
  pub statements : Statements

pub record WellFormed (s : Script) : Type 0 where
  -- at most 256 declarations, with legal names that differ and levels up to 2147483647
  pub names : well_declared s.declarations ≡ true
  -- numbers up to 2147483647, declared variables, expressions up to 20 deep
  pub legal : LegalStatements (length s.declarations) s.statements
  -- ifs and whiles nested up to 20 deep
  pub room : nesting_in s.statements ≤ 20
