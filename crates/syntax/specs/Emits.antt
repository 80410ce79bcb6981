-- Statements written into a list of rows and a list of nodes, which may be too short.
--
-- `Emits S rows nodes i k rows' nodes' j l` says: where `rows` was used up to place i and `nodes` up to place k, the rows and nodes of S are laid
-- over them from there on, as far as they fit, which gives rows' and nodes'; the places then used are j and l. What writes statements
-- one behind the other, or an `if` from its arms, puts such facts together (proofs/Emitting.antt).
--
-- Example: `single (assign 0 (number 5))` from row 3 and node 4 on writes `Assign 0 4` at row 3 and `Numeral 5` at node 4, and the places used
-- are 4 and 5.
use Rattle.std.specs.Prelude.{ℕ, List}
use Rattle.lists.specs.Overlay.{Laid}
use Rattle.syntax.specs.declared.form.Node.{Node}
use Rattle.syntax.specs.declared.form.Row.{Row}
use Rattle.syntax.specs.Trees.{Statements}
use Rattle.syntax.specs.Parts.{rows_in, nodes_in}

pub record Emits (S : Statements) (rows : List Row) (nodes : List Node) (i k : ℕ) (rows' : List Row) (nodes' : List Node) (j l : ℕ) : Type 0 where
  pub rows_laid : Laid rows i (rows_in i k S) rows' j
  pub nodes_laid : Laid nodes k (nodes_in S) nodes' l
