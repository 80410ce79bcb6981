-- The form by its parts, for what writes rows or walks over them.
--
-- Form.antt writes rows and nodes in front of what follows. Here the rows of a statement are those of its parts, one list behind the other,
-- and places are sums of counts. Both give the same lists (proofs/Appends.antt). `PlacedIn` says the same of lists that hold more than the
-- statements: each row and each node is where it should be.
--
-- Example: `if x then skip; else stop 2; end;`, with `x` as variable 0, has 5 rows and 1 node. From row 10 and node 7 on its rows are `If` with
-- node 7 and `else` in row 12, `Skip`, `Else` with the end in row 14, `Stop 2` and `EndIf`.
use Rattle.std.specs.Prelude.{◌≡◌, ℕ, ◌+◌, ◌<◌, List, [], ◌∷◌, ◌++◌, length, slice_index_or}
use Rattle.syntax.specs.declared.form.Node.{Node}
use Rattle.syntax.specs.declared.form.Node.TheVariants.{Numeral, Variable, Apply}
use Rattle.syntax.specs.declared.form.Row.{Row}
use Rattle.syntax.specs.declared.form.Row.TheVariants.{Skip, Assign, Release, Write, Stop, If, Else, EndIf, While, EndWhile}
use Rattle.syntax.specs.Trees.{Expression, number, variable, apply, size, Statement, Statements, none, then, skip, assign, release, write, stop, branch, while}

-- how many rows
abbrev mutual
  pub row_count : Statement → ℕ
  row_count skip = 1
  row_count (assign v e) = 1
  row_count (release v e) = 1
  row_count (write t e) = 1
  row_count (stop n) = 1
  row_count (branch e A B) = 3 + row_counts A + row_counts B
  row_count (while e A) = 2 + row_counts A

  pub row_counts : Statements → ℕ
  row_counts none = 0
  row_counts (then s l) = row_count s + row_counts l

-- how many nodes
abbrev mutual
  pub node_count : Statement → ℕ
  node_count skip = 0
  node_count (assign v e) = size e
  node_count (release v e) = size e
  node_count (write t e) = size e
  node_count (stop n) = 0
  node_count (branch e A B) = size e + node_counts A + node_counts B
  node_count (while e A) = size e + node_counts A

  pub node_counts : Statements → ℕ
  node_counts none = 0
  node_counts (then s l) = node_count s + node_counts l

-- the nodes of an expression
abbrev pub expression_nodes : Expression → List Node
expression_nodes (number n) = Numeral n ∷ []
expression_nodes (variable v) = Variable v ∷ []
expression_nodes (apply o a b) = Apply o ∷ (expression_nodes a ++ expression_nodes b)

-- the nodes of statements
abbrev mutual
  pub nodes_of : Statement → List Node
  nodes_of skip = []
  nodes_of (assign v e) = expression_nodes e
  nodes_of (release v e) = expression_nodes e
  nodes_of (write t e) = expression_nodes e
  nodes_of (stop n) = []
  nodes_of (branch e A B) = expression_nodes e ++ (nodes_in A ++ nodes_in B)
  nodes_of (while e A) = expression_nodes e ++ nodes_in A

  pub nodes_in : Statements → List Node
  nodes_in none = []
  nodes_in (then s l) = nodes_of s ++ nodes_in l

-- the rows of statements from row b on, where their nodes go from node n on
abbrev mutual
  pub rows_of : ℕ → ℕ → Statement → List Row
  rows_of b n skip = Skip ∷ []
  rows_of b n (assign v e) = Assign v n ∷ []
  rows_of b n (release v e) = Release v n ∷ []
  rows_of b n (write t e) = Write t n ∷ []
  rows_of b n (stop k) = Stop k ∷ []
  rows_of b n (branch e A B) =
      If n (b + 1 + row_counts A) ∷ (rows_in (b + 1) (n + size e) A
      ++ (Else (b + 2 + row_counts A + row_counts B) ∷ (rows_in (b + 2 + row_counts A) (n + size e + node_counts A) B
      ++ (EndIf ∷ []))))
  rows_of b n (while e A) = While n (b + 1 + row_counts A) ∷ (rows_in (b + 1) (n + size e) A ++ (EndWhile b ∷ []))

  pub rows_in : ℕ → ℕ → Statements → List Row
  rows_in b n none = []
  rows_in b n (then s l) = rows_of b n s ++ rows_in (b + row_count s) (n + node_count s) l

-- a node and a row at a place of a list
abbrev pub NodeAt : List Node → ℕ → Node → Type 0
NodeAt nodes at x = (at < length nodes) × (slice_index_or nodes at (Numeral 0) ≡ x)

abbrev pub RowAt : List Row → ℕ → Row → Type 0
RowAt rows at r = (at < length rows) × (slice_index_or rows at Skip ≡ r)

-- an expression stands in nodes from a place on
abbrev pub Stands : List Node → ℕ → Expression → Type 0
Stands nodes at (number n) = NodeAt nodes at (Numeral n)
Stands nodes at (variable v) = NodeAt nodes at (Variable v)
Stands nodes at (apply o a b) = NodeAt nodes at (Apply o) × Stands nodes (at + 1) a × Stands nodes (at + 1 + size a) b

-- statements stand in rows from row b on and in nodes from node n on
abbrev mutual
  pub Placed : List Row → List Node → ℕ → ℕ → Statement → Type 0
  Placed rows nodes b n skip = RowAt rows b Skip
  Placed rows nodes b n (assign v e) = RowAt rows b (Assign v n) × Stands nodes n e
  Placed rows nodes b n (release v e) = RowAt rows b (Release v n) × Stands nodes n e
  Placed rows nodes b n (write t e) = RowAt rows b (Write t n) × Stands nodes n e
  Placed rows nodes b n (stop k) = RowAt rows b (Stop k)
  Placed rows nodes b n (branch e A B) = record {
    if_row : RowAt rows b (If n (b + 1 + row_counts A));
    condition : Stands nodes n e;
    first_arm : PlacedIn rows nodes (b + 1) (n + size e) A;
    else_row : RowAt rows (b + 1 + row_counts A) (Else (b + 2 + row_counts A + row_counts B));
    second_arm : PlacedIn rows nodes (b + 2 + row_counts A) (n + size e + node_counts A) B;
    end_row : RowAt rows (b + 2 + row_counts A + row_counts B) EndIf;
  }
  Placed rows nodes b n (while e A) = record {
    while_row : RowAt rows b (While n (b + 1 + row_counts A));
    condition : Stands nodes n e;
    body : PlacedIn rows nodes (b + 1) (n + size e) A;
    end_row : RowAt rows (b + 1 + row_counts A) (EndWhile b);
  }

  pub PlacedIn : List Row → List Node → ℕ → ℕ → Statements → Type 0
  PlacedIn rows nodes b n none = Unit {0}
  PlacedIn rows nodes b n (then s l) = Placed rows nodes b n s × PlacedIn rows nodes (b + row_count s) (n + node_count s) l
