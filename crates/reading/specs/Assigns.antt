-- What stands behind `:=`, and that it is read: an expression, or the release of one.
use Rattle.std.specs.Prelude.{◌≡◌, ℕ, Bool, true, false, List, [], ◌∷◌, length}
use Rattle.letters.specs.declared.keywords.Keyword.TheVariants.{Declassify}
use Rattle.letters.specs.declared.symbols.Symbol.TheVariants.{Open, Close}
use Rattle.letters.specs.Texts.{Piece, Ending}
use Rattle.lists.specs.Overlay.{Laid}
use Rattle.syntax.specs.declared.form.Node.{Node}
use Rattle.syntax.specs.declared.form.Row.{Row}
use Rattle.syntax.specs.declared.form.Row.TheVariants.{Assign, Release}
use Rattle.syntax.specs.Trees.{Expression, LegalExpression, Statement, assign, release}
use Rattle.syntax.specs.Parts.{expression_nodes}
use Rattle.reading.specs.Grammar.{Terminal, keyword, symbol, expression_tokens}
use Rattle.reading.specs.Rule.{expression, assigned, the_symbol}
use Rattle.reading.specs.Reads.{Passed}

-- the tokens behind `:=`
abbrev pub assigned_tokens : Bool → List (List ℕ) → Expression → List Terminal → List Terminal
assigned_tokens false names e rest = expression_tokens names e rest
assigned_tokens true names e rest = keyword Declassify ∷ symbol Open ∷ expression_tokens names e (symbol Close ∷ rest)

-- the statement
abbrev pub assigning : Bool → ℕ → Expression → Statement
assigning false v e = assign v e
assigning true v e = release v e

-- and its row
abbrev pub assigning_row : Bool → ℕ → ℕ → Row
assigning_row false v at = Assign v at
assigning_row true v at = Release v at

pub record AssignedRead (text : List ℕ) (names : List (List ℕ)) (variable : ℕ) (ps : List Piece) (f : Ending) (nodes : List Node) (used : ℕ) (nodes' : List Node) (row : Row) (to used' : ℕ) : Type 0 where
  pub released : Bool
  pub tree : Expression
  pub passed : Passed text names (assigned ∷ []) (assigned_tokens released names tree) ps f to
  pub legal : LegalExpression (length names) tree
  pub laid : Laid nodes used (expression_nodes tree) nodes' used'
  pub row_is : row ≡ assigning_row released variable used

pub record ReleasedRead (text : List ℕ) (names : List (List ℕ)) (ps : List Piece) (f : Ending) (nodes : List Node) (used : ℕ) (nodes' : List Node) (to used' : ℕ) : Type 0 where
  pub tree : Expression
  pub passed : Passed text names (the_symbol Open ∷ expression 20 ∷ the_symbol Close ∷ []) (λ rest. symbol Open ∷ expression_tokens names tree (symbol Close ∷ rest)) ps f to
  pub legal : LegalExpression (length names) tree
  pub laid : Laid nodes used (expression_nodes tree) nodes' used'
