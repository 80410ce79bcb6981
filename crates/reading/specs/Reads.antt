-- What the reader's functions give, each for the part of a script that it reads.
--
-- `Ahead` says which tokens stand from a place on. A function that reads what is expected either passes it: the tokens are those of the part
-- read, and the left-to-right rule goes on behind it with whatever is expected then; or it fails: the rule refuses the text, with that reason
-- and place, whatever would have been expected behind.
use Rattle.std.specs.Prelude.{◌≡◌, ℕ, ◌≤◌, List, [], ◌∷◌, ◌++◌, length, drop}
use Rattle.refusals.specs.declared.Refusal.{Refusal}
use Rattle.values.specs.declared.Operator.{Operator}
use Rattle.letters.specs.declared.symbols.Symbol.TheVariants.{Close, Semicolon}
use Rattle.letters.specs.Texts.{Piece, Ending, MadeOf}
use Rattle.lists.specs.Overlay.{Laid}
use Rattle.syntax.specs.declared.form.Node.{Node}
use Rattle.syntax.specs.declared.form.Row.{Row}
use Rattle.syntax.specs.Emits.{Emits}
use Rattle.syntax.specs.Trees.{Expression, apply, InRange, depth_of, Statement, LegalStatement, nesting_of, single, Statements, LegalStatements, nesting_in}
use Rattle.syntax.specs.Parts.{expression_nodes}
use Rattle.reading.specs.Grammar.{Terminal, symbol, terminals, operator_terminal, expression_tokens, statement_tokens, statements_tokens}
use Rattle.reading.specs.Rule.{Expected, statements, expression, operator, the_symbol, judge, refused}

-- the place in the text, and how many rows and nodes are used, whether they found room or not
pub record Progress : Type 0 where
  pub at : ℕ
  pub rows : ℕ
  pub nodes : ℕ

-- the tokens from a place on, and how the text ends
pub record Ahead (text : List ℕ) (at : ℕ) (ps : List Piece) (f : Ending) : Type 0 where
  pub within : at ≤ length text
  pub made : MadeOf at (drop at text) ps f

-- what is expected is read up to the place `to`
pub record Passed (text : List ℕ) (names : List (List ℕ)) (X : List Expected) (tokens : List Terminal → List Terminal) (ps : List Piece) (f : Ending) (to : ℕ) : Type 0 where
  pub rest : List Piece
  pub ahead : Ahead text to rest f
  pub reads : terminals ps ≡ tokens (terminals rest)
  pub passes : (K : List Expected) → judge (length text) ps f names (X ++ K) ≡ judge (length text) rest f names K

-- an expression is read: its tree, and its nodes, which are laid over a list from `used` on
pub record ExpressionRead (text : List ℕ) (names : List (List ℕ)) (room : ℕ) (X : List Expected) (ps : List Piece) (f : Ending) (nodes : List Node) (used : ℕ) (nodes' : List Node) (to used' : ℕ) : Type 0 where
  pub tree : Expression
  pub passed : Passed text names X (expression_tokens names tree) ps f to
  pub ranged : InRange (length names) tree
  pub shallow : depth_of tree ≤ room
  pub laid : Laid nodes used (expression_nodes tree) nodes' used'

-- what is expected behind the bracket of an expression, and that it is read
abbrev pub applied : ℕ → List Expected
applied room = expression room ∷ operator ∷ expression room ∷ the_symbol Close ∷ []

pub record ApplicationRead (text : List ℕ) (names : List (List ℕ)) (room : ℕ) (ps : List Piece) (f : Ending) (nodes : List Node) (used : ℕ) (nodes' : List Node) (to used' : ℕ) : Type 0 where
  pub by : Operator
  pub left : Expression
  pub right : Expression
  pub passed : Passed text names (applied room) (λ rest. expression_tokens names left (operator_terminal by ∷ expression_tokens names right (symbol Close ∷ rest))) ps f to
  pub ranged : InRange (length names) (apply by left right)
  pub shallow_left : depth_of left ≤ room
  pub shallow_right : depth_of right ≤ room
  pub laid : Laid nodes used (expression_nodes (apply by left right)) nodes' used'

-- the text is refused there
abbrev pub Fails : List ℕ → List (List ℕ) → List Expected → List Piece → Ending → Refusal → Type 0
Fails text names X ps f e = (K : List Expected) → judge (length text) ps f names (X ++ K) ≡ refused e.reason e.place

-- the rest of a statement is read, whose first token was `first`, with the `;` behind it: its tree, and its rows and nodes
pub record StatementRead (text : List ℕ) (names : List (List ℕ)) (room : ℕ) (X : List Expected) (first : Terminal) (ps : List Piece) (f : Ending) (rows : List Row) (nodes : List Node) (from : Progress) (rows' : List Row) (nodes' : List Node) (to : Progress) : Type 0 where
  pub tree : Statement
  pub tokens : List Terminal → List Terminal
  pub passed : Passed text names X tokens ps f to.at
  pub written : (rest : List Terminal) → first ∷ tokens rest ≡ statement_tokens names tree (symbol Semicolon ∷ rest)
  pub legal : LegalStatement (length names) tree
  pub nested : nesting_of tree ≤ room
  pub emits : Emits (single tree) rows nodes from.rows from.nodes rows' nodes' to.rows to.nodes

-- a list of statements is read
pub record ListRead (text : List ℕ) (names : List (List ℕ)) (room : ℕ) (ps : List Piece) (f : Ending) (rows : List Row) (nodes : List Node) (from : Progress) (rows' : List Row) (nodes' : List Node) (to : Progress) : Type 0 where
  pub tree : Statements
  pub passed : Passed text names (statements room ∷ []) (statements_tokens names tree) ps f to.at
  pub legal : LegalStatements (length names) tree
  pub nested : nesting_in tree ≤ room
  pub emits : Emits tree rows nodes from.rows from.nodes rows' nodes' to.rows to.nodes

-- statements of a list are read, and the list goes on
pub record ListGoing (text : List ℕ) (names : List (List ℕ)) (room : ℕ) (ps : List Piece) (f : Ending) (rows : List Row) (nodes : List Node) (from : Progress) (rows' : List Row) (nodes' : List Node) (to : Progress) : Type 0 where
  pub tree : Statements
  pub rest : List Piece
  pub ahead : Ahead text to.at rest f
  pub reads : terminals ps ≡ statements_tokens names tree (terminals rest)
  pub passes : (K : List Expected) → judge (length text) ps f names (statements room ∷ K) ≡ judge (length text) rest f names (statements room ∷ K)
  pub legal : LegalStatements (length names) tree
  pub nested : nesting_in tree ≤ room
  pub emits : Emits tree rows nodes from.rows from.nodes rows' nodes' to.rows to.nodes
