-- What the text of a script is.
--
-- A script is written as a list of tokens, told here by what the grammar sees of them: a name by its bytes, a numeral by its value. A text is
-- the text of a script where it is made of just these tokens, with any blanks between them, and the script keeps the limits of the
-- language. Nothing here says how a script is read. `OneScript` says that a text is the text of one script at most.
--
-- Declarations come first, each as `var` name `:` level `;`. Each statement is followed by `;`. An expression with an operator stands in
-- brackets. All is written in front of what follows (`rest`), so that no list is appended to another.
--
-- Example: `write 3 (x + 1);`, with `x` as variable 0, is the keyword `write`, the numeral 3, `(`, the name `x`, `+`, the numeral 1, `)` and `;`.
use Rattle.std.specs.Prelude.{◌≡◌, ℕ, ◌≤◌, List, [], ◌∷◌, map, length, slice_index_or}
use Rattle.values.specs.declared.Operator.{Operator}
use Rattle.values.specs.declared.Operator.TheVariants as op
use Rattle.letters.specs.declared.keywords.Keyword.{Keyword}
use Rattle.letters.specs.declared.keywords.Keyword.TheVariants as word
use Rattle.letters.specs.declared.symbols.Symbol.{Symbol}
use Rattle.letters.specs.declared.symbols.Symbol.TheVariants as mark
use Rattle.letters.specs.Tokens as lex
use Rattle.letters.specs.Texts.{Piece, MadeOf, finished}
use Rattle.syntax.specs.declared.form.Declaration.{Declaration}
use Rattle.syntax.specs.Names.{spelled, spellings}
use Rattle.syntax.specs.Trees.{Expression, number, variable, apply, Statement, Statements, none, then, skip, assign, release, write, stop, branch, while}
use Rattle.syntax.specs.Scripts.{Script, WellFormed}

-- what the grammar sees of a token
pub data Terminal : Type 0 where
  name : List ℕ → Terminal
  numeral : ℕ → Terminal
  keyword : Keyword → Terminal
  symbol : Symbol → Terminal
  nothing : Terminal

abbrev pub terminal : lex.Lexeme → Terminal
terminal lex.end = nothing
terminal (lex.name w) = name w
terminal (lex.numeral ds n) = numeral n
terminal (lex.keyword k) = keyword k
terminal (lex.symbol s) = symbol s
terminal (lex.broken r) = nothing

abbrev pub terminals : List Piece → List Terminal
terminals = map (λ p. terminal p.token)

-- the token of an operator
abbrev pub operator_terminal : Operator → Terminal
operator_terminal op.Add = symbol mark.Plus
operator_terminal op.Subtract = symbol mark.Minus
operator_terminal op.Multiply = symbol mark.Times
operator_terminal op.Divide = symbol mark.Over
operator_terminal op.Equal = symbol mark.Equals
operator_terminal op.Less = symbol mark.Less
operator_terminal op.Maximum = keyword word.Max
operator_terminal op.Or = symbol mark.Bar

-- an expression over named variables
abbrev pub expression_tokens : List (List ℕ) → Expression → List Terminal → List Terminal
expression_tokens names (number n) rest = numeral n ∷ rest
expression_tokens names (variable v) rest = name (slice_index_or names v []) ∷ rest
expression_tokens names (apply o a b) rest = symbol mark.Open ∷ expression_tokens names a (operator_terminal o ∷ expression_tokens names b (symbol mark.Close ∷ rest))

-- a statement, without the `;` behind it, and a list of statements
abbrev mutual
  pub statement_tokens : List (List ℕ) → Statement → List Terminal → List Terminal
  statement_tokens names skip rest = keyword word.Skip ∷ rest
  statement_tokens names (assign v e) rest = name (slice_index_or names v []) ∷ symbol mark.Assign ∷ expression_tokens names e rest
  statement_tokens names (release v e) rest = name (slice_index_or names v []) ∷ symbol mark.Assign ∷ keyword word.Declassify ∷ symbol mark.Open ∷ expression_tokens names e (symbol mark.Close ∷ rest)
  statement_tokens names (write t e) rest = keyword word.Write ∷ numeral t ∷ expression_tokens names e rest
  statement_tokens names (stop n) rest = keyword word.Stop ∷ numeral n ∷ rest
  statement_tokens names (branch e A B) rest = keyword word.If ∷ expression_tokens names e (keyword word.Then ∷ statements_tokens names A (keyword word.Else ∷ statements_tokens names B (keyword word.End ∷ rest)))
  statement_tokens names (while e A) rest = keyword word.While ∷ expression_tokens names e (keyword word.Do ∷ statements_tokens names A (keyword word.End ∷ rest))

  pub statements_tokens : List (List ℕ) → Statements → List Terminal → List Terminal
  statements_tokens names none rest = rest
  statements_tokens names (then s l) rest = statement_tokens names s (symbol mark.Semicolon ∷ statements_tokens names l rest)

-- a declaration, and all of them
abbrev pub declaration_tokens : Declaration → List Terminal → List Terminal
declaration_tokens d rest = keyword word.Var ∷ name (spelled d.name) ∷ symbol mark.Colon ∷ numeral d.level ∷ symbol mark.Semicolon ∷ rest

abbrev pub declarations_tokens : List Declaration → List Terminal → List Terminal
declarations_tokens [] rest = rest
declarations_tokens (d ∷ ds) rest = declaration_tokens d (declarations_tokens ds rest)

-- a script
abbrev pub script_tokens : Script → List Terminal
script_tokens s = declarations_tokens s.declarations (statements_tokens (spellings s.declarations) s.statements [])

-- the text is the text of the script
pub record TextOf (text : List ℕ) (s : Script) : Type 0 where
  pub short : length text ≤ 1048576
  pub pieces : List Piece
  pub made : MadeOf 0 text pieces finished
  pub tokens : terminals pieces ≡ script_tokens s
  pub well_formed : WellFormed s

-- a text is the text of one script at most
abbrev pub OneScript : Type 0
OneScript = (text : List ℕ) (s t : Script) → TextOf text s → TextOf text t → s ≡ t
