-- The spelling by its parts, for what writes it.
--
-- Spelling.antt lays out a list of tokens. Here each part of a script has its bytes, and the spelling is those of the declarations and of the rows,
-- one behind the other: the row of an `if` is spelled up to `then`, that of its `else` is the word alone, and the end of an `if` or a
-- `while` is `end` and `;`. Both give the same bytes (proofs/Appends.antt).
--
-- Example: `if x then skip; else stop 2; end;` has five rows, which are spelled `if x then`, `skip ;`, `else`, `stop 2 ;` and `end ;`.
use Rattle.std.specs.Prelude.{◌≡◌, ℕ, ◌+◌, List, [], ◌∷◌, ◌++◌, length, drop, slice_index_or}
use Rattle.letters.specs.declared.keywords.Keyword.TheVariants as word
use Rattle.letters.specs.declared.symbols.Symbol.TheVariants as mark
use Rattle.lists.specs.declared.Places.{Places}
use Rattle.syntax.specs.declared.form.Node.{Node}
use Rattle.syntax.specs.declared.form.Declaration.{Declaration}
use Rattle.syntax.specs.declared.held.Program.{Program}
use Rattle.syntax.specs.Names.{spelled, spellings}
use Rattle.syntax.specs.Trees.{Expression, number, variable, apply, size, InRange}
use Rattle.syntax.specs.Form.{TreeRow, skips, assigns, releases, writes, stops, branches, leaves, closes, repeats, goes_back, nodes_onto}
use Rattle.reading.specs.Grammar.{Terminal, name, numeral, keyword, symbol, operator_terminal}
use Rattle.spelling.specs.Spelling.{terminal_bytes, separator}
use Rattle.spelling.specs.Buffers.{Put}

-- a token with its separator
abbrev pub token_bytes : Terminal → List ℕ
token_bytes t = terminal_bytes t ++ (separator t ∷ [])

abbrev pub expression_bytes : List (List ℕ) → Expression → List ℕ
expression_bytes names (number n) = token_bytes (numeral n)
expression_bytes names (variable v) = token_bytes (name (slice_index_or names v []))
expression_bytes names (apply o a b) =
    token_bytes (symbol mark.Open) ++ (expression_bytes names a ++ (token_bytes (operator_terminal o) ++ (expression_bytes names b ++ token_bytes (symbol mark.Close))))

-- a name and `:=`
abbrev pub target_bytes : List (List ℕ) → ℕ → List ℕ
target_bytes names v = token_bytes (name (slice_index_or names v [])) ++ token_bytes (symbol mark.Assign)

abbrev pub row_bytes : List (List ℕ) → TreeRow → List ℕ
row_bytes names skips = token_bytes (keyword word.Skip) ++ token_bytes (symbol mark.Semicolon)
row_bytes names (assigns v e) = target_bytes names v ++ (expression_bytes names e ++ token_bytes (symbol mark.Semicolon))
row_bytes names (releases v e) =
    target_bytes names v ++ (token_bytes (keyword word.Declassify) ++ (token_bytes (symbol mark.Open)
    ++ (expression_bytes names e ++ (token_bytes (symbol mark.Close) ++ token_bytes (symbol mark.Semicolon)))))
row_bytes names (writes t e) = token_bytes (keyword word.Write) ++ (token_bytes (numeral t) ++ (expression_bytes names e ++ token_bytes (symbol mark.Semicolon)))
row_bytes names (stops n) = token_bytes (keyword word.Stop) ++ (token_bytes (numeral n) ++ token_bytes (symbol mark.Semicolon))
row_bytes names (branches e m) = token_bytes (keyword word.If) ++ (expression_bytes names e ++ token_bytes (keyword word.Then))
row_bytes names (leaves m) = token_bytes (keyword word.Else)
row_bytes names closes = token_bytes (keyword word.End) ++ token_bytes (symbol mark.Semicolon)
row_bytes names (repeats e m) = token_bytes (keyword word.While) ++ (expression_bytes names e ++ token_bytes (keyword word.Do))
row_bytes names (goes_back m) = token_bytes (keyword word.End) ++ token_bytes (symbol mark.Semicolon)

abbrev pub rows_bytes : List (List ℕ) → List TreeRow → List ℕ
rows_bytes names [] = []
rows_bytes names (f ∷ fs) = row_bytes names f ++ rows_bytes names fs

abbrev pub declaration_bytes : Declaration → List ℕ
declaration_bytes d =
    token_bytes (keyword word.Var) ++ (token_bytes (name (spelled d.name)) ++ (token_bytes (symbol mark.Colon)
    ++ (token_bytes (numeral d.level) ++ token_bytes (symbol mark.Semicolon))))

abbrev pub declarations_bytes : List Declaration → List ℕ
declarations_bytes [] = []
declarations_bytes (d ∷ ds) = declaration_bytes d ++ declarations_bytes ds

-- the names of a held program
abbrev pub names_held : Program → List (List ℕ)
names_held p = spellings p.declarations.now

-- an expression stands in the nodes of a held program from a place on
pub record ExpressionAt (p : Program) (at : ℕ) : Type 0 where
  pub expression : Expression
  pub rest : List Node
  pub is : drop at p.nodes.now ≡ nodes_onto expression rest
  pub ranged : InRange (length p.declarations.now) expression

-- whichever expression stands there, the bytes that a function gives of it are written
abbrev pub Writes : Program → ℕ → (Expression → List ℕ) → Places ℕ → Places ℕ → Type 0
Writes p at bytes before after =
    (e : Expression) (rest : List Node) → drop at p.nodes.now ≡ nodes_onto e rest → Put before after (bytes e)

-- and its nodes end at `stop`
abbrev pub EndsAt : Program → ℕ → ℕ → Type 0
EndsAt p at stop = (e : Expression) (rest : List Node) → drop at p.nodes.now ≡ nodes_onto e rest → stop ≡ at + size e
