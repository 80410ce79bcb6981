-- What a held program means, and what its readers may rely on.
--
-- A held program is three lists that are known to be the form of a script; `script_held` is that script, and `tree_rows_held` its rows with
-- their expressions as trees. `Held` gathers what follows: the script is well-formed, the lists are its form, its statements stand in the
-- lists by their parts, and each single row can be read: `RowHeld` says which row it is, where the nodes of its expression begin, and that
-- its variable, its level and its target are in range.
--
-- Example: row 0 of the rows of Form.antt is `While`, condition at node 0, end in row 2. So it is `repeats e 2` for the expression e whose
-- nodes begin at node 0, and 2 is one of the program's rows.
use Rattle.std.specs.Prelude.{◌≡◌, ℕ, ◌<◌, ◌≤◌, List, [], length, get_or, drop, Some, None, Option, slice_index_or}
use Rattle.syntax.specs.declared.form.Node.{Node}
use Rattle.syntax.specs.declared.form.Row.{Row}
use Rattle.syntax.specs.declared.form.Row.TheVariants.{Skip, Assign, Release, Write, Stop, If, Else, EndIf, While, EndWhile}
use Rattle.syntax.specs.declared.held.Program.{Program}
use Rattle.syntax.specs.Trees.{Expression, none, LegalExpression}
use Rattle.syntax.specs.Scripts.{Script, WellFormed}
use Rattle.syntax.specs.Form.{TreeRow, skips, assigns, releases, writes, stops, branches, leaves, closes, repeats, goes_back, tree_rows, row_nodes_onto}
use Rattle.syntax.specs.Decoder.{first_node}
use Rattle.syntax.specs.Forms.{IsForm, script_of}
use Rattle.syntax.specs.Parts.{PlacedIn}

abbrev pub script_or_empty : Option Script → Script
script_or_empty None = record { declarations = []; statements = none }
script_or_empty (Some s) = s

-- the script that a held program is
abbrev pub script_held : Program → Script
script_held p = script_or_empty (script_of p.declarations.now p.rows.now p.nodes.now)

abbrev pub tree_rows_held : Program → List TreeRow
tree_rows_held p = tree_rows (script_held p).statements

-- a row as it is kept, with its expression as a tree
abbrev pub with_tree : Row → Expression → TreeRow
with_tree Skip e = skips
with_tree (Assign v i) e = assigns v e
with_tree (Release v i) e = releases v e
with_tree (Write t i) e = writes t e
with_tree (Stop n) e = stops n
with_tree (If i m) e = branches e m
with_tree (Else m) e = leaves m
with_tree EndIf e = closes
with_tree (While i m) e = repeats e m
with_tree (EndWhile m) e = goes_back m

-- a row among n rows and k variables: its numbers and its expression are legal, and its target is a row
abbrev pub RowFits : ℕ → ℕ → TreeRow → Type 0
RowFits k n skips = Unit {0}
RowFits k n (assigns v e) = (v < k) × LegalExpression k e
RowFits k n (releases v e) = (v < k) × LegalExpression k e
RowFits k n (writes t e) = (t ≤ 2147483647) × LegalExpression k e
RowFits k n (stops s) = s ≤ 2147483647
RowFits k n (branches e m) = LegalExpression k e × (m < n)
RowFits k n (leaves m) = m < n
RowFits k n closes = Unit {0}
RowFits k n (repeats e m) = LegalExpression k e × (m < n)
RowFits k n (goes_back m) = m < n

-- row r of a held program, which its list has as x
pub record RowHeld (p : Program) (r : ℕ) (x : Row) : Type 0 where
  -- the row's expression, where its nodes begin, and the nodes behind them
  pub expression : Expression
  pub from : ℕ
  pub rest : List Node
  pub is : get_or (tree_rows_held p) r skips ≡ with_tree x expression
  -- the row itself says where they begin, if it has an expression
  pub starts : from ≡ first_node from x
  pub nodes_are : drop from p.nodes.now ≡ row_nodes_onto (with_tree x expression) rest
  pub fits : RowFits (length p.declarations.now) (length p.rows.now) (with_tree x expression)

pub record Held (p : Program) : Type 0 where
  pub well_formed : WellFormed (script_held p)
  pub is_form : IsForm (script_held p) p.declarations.now p.rows.now p.nodes.now
  pub placed : PlacedIn p.rows.now p.nodes.now 0 0 (script_held p).statements
  pub count : length (tree_rows_held p) ≡ length p.rows.now
  pub row : (r : ℕ) → r < length p.rows.now → RowHeld p r (slice_index_or p.rows.now r Skip)

-- every held program is one
abbrev pub HeldPrograms : Type 0
HeldPrograms = (p : Program) → Held p
