-- One form a script, and one script a form.
--
-- `IsForm` says that three lists are the form of a script, and `script_of` finds the script of three lists. `Forms` ties them together: the
-- lists of a well-formed script are decoded as that script, and lists that are decoded are the form of the script found, which is
-- well-formed. So no two scripts share a form, and no script has two.
--
-- Example: no declarations, the rows `Stop 4` and `Skip`, and no nodes are the form of the script `stop 4; skip;` and of no other. With one node
-- they are the form of no script, since no row uses it.
use Rattle.std.specs.Prelude.{◌≡◌, cond, List, length, Some, None, Option}
use Rattle.syntax.specs.declared.form.Node.{Node}
use Rattle.syntax.specs.declared.form.Row.{Row}
use Rattle.syntax.specs.declared.form.Declaration.{Declaration}
use Rattle.syntax.specs.Names.{well_declared}
use Rattle.syntax.specs.Scripts.{Script, WellFormed}
use Rattle.syntax.specs.Form.{form_rows, form_nodes}
use Rattle.syntax.specs.Decoder.{bind, statements_of}

-- the three lists are the form of the script
pub record IsForm (s : Script) (declarations : List Declaration) (rows : List Row) (nodes : List Node) : Type 0 where
  pub declarations_are : declarations ≡ s.declarations
  pub rows_are : rows ≡ form_rows s.statements
  pub nodes_are : nodes ≡ form_nodes s.statements

-- the script that three lists are the form of
unfoldable pub script_of : List Declaration → List Row → List Node → Option Script
script_of ds rows nodes = cond (well_declared ds) (bind (statements_of (length ds) rows nodes) (λ l. Some (record { declarations = ds; statements = l }))) None

abbrev pub Forms : Type 0
Forms =
    ((s : Script) (ds : List Declaration) (rows : List Row) (nodes : List Node) → WellFormed s → IsForm s ds rows nodes → script_of ds rows nodes ≡ Some s)
    × ((s : Script) (ds : List Declaration) (rows : List Row) (nodes : List Node) → script_of ds rows nodes ≡ Some s → WellFormed s × IsForm s ds rows nodes)
