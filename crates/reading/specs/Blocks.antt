-- What stands behind `if` and `while`, and that a condition is read.
use Rattle.std.specs.Prelude.{ℕ, List, [], ◌∷◌, length}
use Rattle.letters.specs.declared.keywords.Keyword.{Keyword}
use Rattle.letters.specs.declared.keywords.Keyword.TheVariants as word
use Rattle.letters.specs.declared.symbols.Symbol.TheVariants as mark
use Rattle.letters.specs.Texts.{Piece, Ending}
use Rattle.lists.specs.Overlay.{Laid}
use Rattle.syntax.specs.declared.form.Node.{Node}
use Rattle.syntax.specs.Trees.{Expression, LegalExpression}
use Rattle.syntax.specs.Parts.{expression_nodes}
use Rattle.reading.specs.Grammar.{keyword, expression_tokens}
use Rattle.reading.specs.Rule.{Expected, statements, expression, the_keyword, the_symbol}
use Rattle.reading.specs.Reads.{Passed}

abbrev pub behind_if : ℕ → List Expected
behind_if room = expression 20 ∷ the_keyword word.Then ∷ statements room ∷ the_keyword word.Else ∷ statements room ∷ the_keyword word.End ∷ the_symbol mark.Semicolon ∷ []

abbrev pub behind_while : ℕ → List Expected
behind_while room = expression 20 ∷ the_keyword word.Do ∷ statements room ∷ the_keyword word.End ∷ the_symbol mark.Semicolon ∷ []

pub record ConditionRead (text : List ℕ) (names : List (List ℕ)) (k : Keyword) (ps : List Piece) (f : Ending) (nodes : List Node) (used : ℕ) (nodes' : List Node) (to used' : ℕ) : Type 0 where
  pub tree : Expression
  pub passed : Passed text names (expression 20 ∷ the_keyword k ∷ []) (λ rest. expression_tokens names tree (keyword k ∷ rest)) ps f to
  pub legal : LegalExpression (length names) tree
  pub laid : Laid nodes used (expression_nodes tree) nodes' used'
