-- The form of a script: its rows and nodes.
--
-- Rows are numbered from 0 in the order of the text. An `if` has three rows: its own, that of its `else`, and that of its `end`. A `while`
-- has two: its own and that of its `end`. Every other statement has one. A row that jumps holds the number of the row that it looks to:
-- an `if` its `else`, an `else` its `end`, a `while` its `end`, and the end of a `while` its `while`. A row with an expression holds the
-- place of that expression's first node.
--
-- Nodes are the numbers, variables and operators of all expressions: the operator before its two parts, and the expressions one behind
-- the other in the order of their rows. So where the nodes of a row begin follows from what stands before.
--
-- `tree_rows` gives the rows with their expressions as trees; `form_rows` and `form_nodes` are the lists. All are written in front of what
-- follows (`rest`), so that no list is appended to another. Parts.antt says the same by appended lists.
--
-- Example: `while (0 < x) do x := (x - 1); end;`, with `x` as variable 0, has these rows and nodes.
--   row 0   While, condition at node 0, end in row 2          nodes 0 to 2   Apply Less, Numeral 0, Variable 0
--   row 1   Assign, variable 0, value at node 3               nodes 3 to 5   Apply Subtract, Variable 0, Numeral 1
--   row 2   EndWhile, while in row 0
use Rattle.std.specs.Prelude.{ℕ, suc, ◌+◌, List, [], ◌∷◌}
use Rattle.syntax.specs.declared.form.Node.{Node}
use Rattle.syntax.specs.declared.form.Node.TheVariants.{Numeral, Variable, Apply}
use Rattle.syntax.specs.declared.form.Row.{Row}
use Rattle.syntax.specs.declared.form.Row.TheVariants.{Skip, Assign, Release, Write, Stop, If, Else, EndIf, While, EndWhile}
use Rattle.syntax.specs.Trees.{Expression, number, variable, apply, size, Statement, Statements, none, then, skip, assign, release, write, stop, branch, while}

-- a row with its expression as a tree
pub data TreeRow : Type 0 where
  skips : TreeRow
  assigns : ℕ → Expression → TreeRow
  releases : ℕ → Expression → TreeRow
  writes : ℕ → Expression → TreeRow
  stops : ℕ → TreeRow
  -- the row of an `if`, with the row of its `else`
  branches : Expression → ℕ → TreeRow
  -- the row of an `else`, which leaves the first arm, with the row of its `end`
  leaves : ℕ → TreeRow
  -- the end of an `if`
  closes : TreeRow
  -- the row of a `while`, with the row of its `end`
  repeats : Expression → ℕ → TreeRow
  -- the end of a `while`, with the row of that `while`
  goes_back : ℕ → TreeRow

-- the row behind what begins at row b
abbrev mutual
  pub row_after_of : ℕ → Statement → ℕ
  row_after_of b skip = suc b
  row_after_of b (assign v e) = suc b
  row_after_of b (release v e) = suc b
  row_after_of b (write t e) = suc b
  row_after_of b (stop n) = suc b
  row_after_of b (branch e A B) = suc (row_after_in (suc (row_after_in (suc b) A)) B)
  row_after_of b (while e A) = suc (row_after_in (suc b) A)

  pub row_after_in : ℕ → Statements → ℕ
  row_after_in b none = b
  row_after_in b (then s l) = row_after_in (row_after_of b s) l

-- the rows of what begins at row b, in front of the rest
abbrev mutual
  pub tree_rows_of : ℕ → Statement → List TreeRow → List TreeRow
  tree_rows_of b skip rest = skips ∷ rest
  tree_rows_of b (assign v e) rest = assigns v e ∷ rest
  tree_rows_of b (release v e) rest = releases v e ∷ rest
  tree_rows_of b (write t e) rest = writes t e ∷ rest
  tree_rows_of b (stop n) rest = stops n ∷ rest
  tree_rows_of b (branch e A B) rest =
      let m = row_after_in (suc b) A in
      let n = row_after_in (suc m) B in
      branches e m ∷ tree_rows_in (suc b) A (leaves n ∷ tree_rows_in (suc m) B (closes ∷ rest))
  tree_rows_of b (while e A) rest =
      let m = row_after_in (suc b) A in
      repeats e m ∷ tree_rows_in (suc b) A (goes_back b ∷ rest)

  pub tree_rows_in : ℕ → Statements → List TreeRow → List TreeRow
  tree_rows_in b none rest = rest
  tree_rows_in b (then s l) rest = tree_rows_of b s (tree_rows_in (row_after_of b s) l rest)

abbrev pub tree_rows : Statements → List TreeRow
tree_rows p = tree_rows_in 0 p []

-- the nodes of an expression and of a row, in front of the rest
abbrev pub nodes_onto : Expression → List Node → List Node
nodes_onto (number n) rest = Numeral n ∷ rest
nodes_onto (variable v) rest = Variable v ∷ rest
nodes_onto (apply o a b) rest = Apply o ∷ nodes_onto a (nodes_onto b rest)

abbrev pub row_nodes_onto : TreeRow → List Node → List Node
row_nodes_onto skips rest = rest
row_nodes_onto (assigns v e) rest = nodes_onto e rest
row_nodes_onto (releases v e) rest = nodes_onto e rest
row_nodes_onto (writes t e) rest = nodes_onto e rest
row_nodes_onto (stops n) rest = rest
row_nodes_onto (branches e m) rest = nodes_onto e rest
row_nodes_onto (leaves m) rest = rest
row_nodes_onto closes rest = rest
row_nodes_onto (repeats e m) rest = nodes_onto e rest
row_nodes_onto (goes_back m) rest = rest

-- the place behind the nodes of a row and of a statement, where the first node has the place a
abbrev pub node_after_row : ℕ → TreeRow → ℕ
node_after_row a skips = a
node_after_row a (assigns v e) = a + size e
node_after_row a (releases v e) = a + size e
node_after_row a (writes t e) = a + size e
node_after_row a (stops n) = a
node_after_row a (branches e m) = a + size e
node_after_row a (leaves m) = a
node_after_row a closes = a
node_after_row a (repeats e m) = a + size e
node_after_row a (goes_back m) = a

abbrev mutual
  pub node_after_of : ℕ → Statement → ℕ
  node_after_of a skip = a
  node_after_of a (assign v e) = a + size e
  node_after_of a (release v e) = a + size e
  node_after_of a (write t e) = a + size e
  node_after_of a (stop n) = a
  node_after_of a (branch e A B) = node_after_in (node_after_in (a + size e) A) B
  node_after_of a (while e A) = node_after_in (a + size e) A

  pub node_after_in : ℕ → Statements → ℕ
  node_after_in a none = a
  node_after_in a (then s l) = node_after_in (node_after_of a s) l

-- a row as it is kept, where its expression begins at node a
abbrev pub as_row : ℕ → TreeRow → Row
as_row a skips = Skip
as_row a (assigns v e) = Assign v a
as_row a (releases v e) = Release v a
as_row a (writes t e) = Write t a
as_row a (stops n) = Stop n
as_row a (branches e m) = If a m
as_row a (leaves m) = Else m
as_row a closes = EndIf
as_row a (repeats e m) = While a m
as_row a (goes_back m) = EndWhile m

-- rows as they are kept, where the first expression begins at node a, and the nodes of all
abbrev pub rows_from : ℕ → List TreeRow → List Row
rows_from a [] = []
rows_from a (f ∷ fs) = as_row a f ∷ rows_from (node_after_row a f) fs

abbrev pub nodes_from : List TreeRow → List Node
nodes_from [] = []
nodes_from (f ∷ fs) = row_nodes_onto f (nodes_from fs)

-- the form
abbrev pub form_rows : Statements → List Row
form_rows p = rows_from 0 (tree_rows p)

abbrev pub form_nodes : Statements → List Node
form_nodes p = nodes_from (tree_rows p)
