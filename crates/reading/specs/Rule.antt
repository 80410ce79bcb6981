-- Why a text is the text of no script: the first token, from left to right, that no script could have there.
--
-- What may come next is kept as a list of things expected, the nearest first. Each token is looked at once: it is what is expected, or it begins
-- a statement or a list that is expected, which is then replaced by what it is made of, or else it is refused. A list that is expected may
-- also be over, and then the token is asked of what is expected behind it. A token is refused with 3 where it is not allowed, else with 4 or 5
-- where it is a name that is not declared or must not be, else with 6 where it would nest too deep. A text that ends where more is expected
-- is refused with 3 at its end.
--
-- Example: in `if p then skip; end;` the list of the first arm is over at `end`, and behind it `else` is expected, so `end` is refused with 3.
use Rattle.std.specs.Prelude.{ℕ, zero, suc, cond, ◌||◌, List, [], ◌∷◌, ◌++◌, length, is_some, Some, None, Option, ◌==◌, nat_le}
use Rattle.refusals.specs.declared.Reason.{Reason}
use Rattle.refusals.specs.declared.Reason.TheVariants.{Unexpected, Undeclared, BadDeclaration, TooDeep}
use Rattle.values.specs.declared.Operator.{Operator}
use Rattle.values.specs.declared.Operator.TheVariants as op
use Rattle.letters.specs.declared.keywords.Keyword.{Keyword}
use Rattle.letters.specs.declared.keywords.Keyword.TheVariants as word
use Rattle.letters.specs.declared.symbols.Symbol.{Symbol}
use Rattle.letters.specs.declared.symbols.Symbol.TheVariants as mark
use Rattle.letters.specs.Texts.{Piece, Ending, finished, faulty}
use Rattle.syntax.specs.Names.{among}
use Rattle.reading.specs.Grammar.{Terminal, name, numeral, keyword, symbol, nothing, terminal}

-- what may be expected
pub data Expected : Type 0 where
  -- declarations, and then what follows
  declarations : Expected
  -- a name that is not declared yet
  new_name : Expected
  -- statements with room for so many nested ifs and whiles
  statements : ℕ → Expected
  -- an expression with room for so many nested brackets
  expression : ℕ → Expected
  -- what stands behind `:=`: an expression or a release
  assigned : Expected
  operator : Expected
  a_numeral : Expected
  the_keyword : Keyword → Expected
  the_symbol : Symbol → Expected

-- keywords and symbols by number, to tell them apart
abbrev pub keyword_number : Keyword → ℕ
keyword_number word.Var = 0
keyword_number word.Skip = 1
keyword_number word.If = 2
keyword_number word.Then = 3
keyword_number word.Else = 4
keyword_number word.End = 5
keyword_number word.While = 6
keyword_number word.Do = 7
keyword_number word.Write = 8
keyword_number word.Stop = 9
keyword_number word.Declassify = 10
keyword_number word.Max = 11

abbrev pub symbol_number : Symbol → ℕ
symbol_number mark.Assign = 0
symbol_number mark.Colon = 1
symbol_number mark.Semicolon = 2
symbol_number mark.Open = 3
symbol_number mark.Close = 4
symbol_number mark.Plus = 5
symbol_number mark.Minus = 6
symbol_number mark.Times = 7
symbol_number mark.Over = 8
symbol_number mark.Equals = 9
symbol_number mark.Less = 10
symbol_number mark.Bar = 11

-- the operator that a symbol is
abbrev pub symbol_operator : Symbol → Option Operator
symbol_operator mark.Assign = None
symbol_operator mark.Colon = None
symbol_operator mark.Semicolon = None
symbol_operator mark.Open = None
symbol_operator mark.Close = None
symbol_operator mark.Plus = Some op.Add
symbol_operator mark.Minus = Some op.Subtract
symbol_operator mark.Times = Some op.Multiply
symbol_operator mark.Over = Some op.Divide
symbol_operator mark.Equals = Some op.Equal
symbol_operator mark.Less = Some op.Less
symbol_operator mark.Bar = Some op.Or

-- the operator that a token is
abbrev pub terminal_operator : Terminal → Option Operator
terminal_operator (name w) = None
terminal_operator (numeral n) = None
terminal_operator (keyword k) = cond (keyword_number k == 11) (Some op.Maximum) None
terminal_operator (symbol s) = symbol_operator s
terminal_operator nothing = None

-- what one token leads to: other names and expectations, or a reason to refuse it
pub data Verdict : Type 0 where
  onward : List (List ℕ) → List Expected → Verdict
  turned : Reason → Verdict

-- with room left, one nested deeper
abbrev pub deeper : ℕ → (ℕ → Verdict) → Verdict
deeper zero f = turned TooDeep
deeper (suc n) f = f n

module _ (names : List (List ℕ)) (K : List Expected) where
  abbrev pub declared : List ℕ → List Expected → Verdict
  declared w next = cond (among w names) (onward names next) (turned Undeclared)

  abbrev pub in_expression : ℕ → Terminal → Verdict
  in_expression room (name w) = declared w K
  in_expression room (numeral n) = onward names K
  in_expression room (keyword k) = turned Unexpected
  in_expression room (symbol s) =
      cond (symbol_number s == 3)
      (deeper room (λ less. onward names (expression less ∷ operator ∷ expression less ∷ the_symbol mark.Close ∷ K)))
      (turned Unexpected)
  in_expression room nothing = turned Unexpected

  abbrev pub in_assigned : Terminal → Verdict
  in_assigned (name w) = in_expression 20 (name w)
  in_assigned (numeral n) = in_expression 20 (numeral n)
  in_assigned (keyword k) = cond (keyword_number k == 10) (onward names (the_symbol mark.Open ∷ expression 20 ∷ the_symbol mark.Close ∷ K)) (turned Unexpected)
  in_assigned (symbol s) = in_expression 20 (symbol s)
  in_assigned nothing = turned Unexpected

  abbrev pub in_operator : Terminal → Verdict
  in_operator t = cond (is_some (terminal_operator t)) (onward names K) (turned Unexpected)

  abbrev pub in_new_name : Terminal → Verdict
  in_new_name (name w) = cond (among w names || nat_le 256 (length names)) (turned BadDeclaration) (onward (names ++ (w ∷ [])) K)
  in_new_name (numeral n) = turned Unexpected
  in_new_name (keyword k) = turned Unexpected
  in_new_name (symbol s) = turned Unexpected
  in_new_name nothing = turned Unexpected

  abbrev pub in_numeral : Terminal → Verdict
  in_numeral (name w) = turned Unexpected
  in_numeral (numeral n) = onward names K
  in_numeral (keyword k) = turned Unexpected
  in_numeral (symbol s) = turned Unexpected
  in_numeral nothing = turned Unexpected

  abbrev pub in_keyword : Keyword → Terminal → Verdict
  in_keyword wanted (name w) = turned Unexpected
  in_keyword wanted (numeral n) = turned Unexpected
  in_keyword wanted (keyword k) = cond (keyword_number k == keyword_number wanted) (onward names K) (turned Unexpected)
  in_keyword wanted (symbol s) = turned Unexpected
  in_keyword wanted nothing = turned Unexpected

  abbrev pub in_symbol : Symbol → Terminal → Verdict
  in_symbol wanted (name w) = turned Unexpected
  in_symbol wanted (numeral n) = turned Unexpected
  in_symbol wanted (keyword k) = turned Unexpected
  in_symbol wanted (symbol s) = cond (symbol_number s == symbol_number wanted) (onward names K) (turned Unexpected)
  in_symbol wanted nothing = turned Unexpected

  -- a keyword that begins a statement of a list with that room, or else `over`
  abbrev pub in_statements : ℕ → Verdict → Keyword → Verdict
  in_statements room over word.Var = over
  in_statements room over word.Skip = onward names (the_symbol mark.Semicolon ∷ statements room ∷ K)
  in_statements room over word.If =
      deeper room (λ less. onward names (expression 20 ∷ the_keyword word.Then ∷ statements less ∷ the_keyword word.Else ∷ statements less ∷ the_keyword word.End ∷ the_symbol mark.Semicolon ∷ statements room ∷ K))
  in_statements room over word.Then = over
  in_statements room over word.Else = over
  in_statements room over word.End = over
  in_statements room over word.While =
      deeper room (λ less. onward names (expression 20 ∷ the_keyword word.Do ∷ statements less ∷ the_keyword word.End ∷ the_symbol mark.Semicolon ∷ statements room ∷ K))
  in_statements room over word.Do = over
  in_statements room over word.Write = onward names (a_numeral ∷ expression 20 ∷ the_symbol mark.Semicolon ∷ statements room ∷ K)
  in_statements room over word.Stop = onward names (a_numeral ∷ the_symbol mark.Semicolon ∷ statements room ∷ K)
  in_statements room over word.Declassify = over
  in_statements room over word.Max = over

  abbrev pub in_list : ℕ → Verdict → Terminal → Verdict
  in_list room over (name w) = declared w (the_symbol mark.Assign ∷ assigned ∷ the_symbol mark.Semicolon ∷ statements room ∷ K)
  in_list room over (numeral n) = over
  in_list room over (keyword k) = in_statements room over k
  in_list room over (symbol s) = over
  in_list room over nothing = over

  abbrev pub in_declarations : Verdict → Terminal → Verdict
  in_declarations over (name w) = over
  in_declarations over (numeral n) = over
  in_declarations over (keyword k) =
      cond (keyword_number k == 0) (onward names (new_name ∷ the_symbol mark.Colon ∷ a_numeral ∷ the_symbol mark.Semicolon ∷ declarations ∷ K)) over
  in_declarations over (symbol s) = over
  in_declarations over nothing = over

-- what a token leads to
abbrev pub step : List (List ℕ) → List Expected → Terminal → Verdict
step names [] t = turned Unexpected
step names (declarations ∷ K) t = in_declarations names K (step names K t) t
step names (new_name ∷ K) t = in_new_name names K t
step names (statements room ∷ K) t = in_list names K room (step names K t) t
step names (expression room ∷ K) t = in_expression names K room t
step names (assigned ∷ K) t = in_assigned names K t
step names (operator ∷ K) t = in_operator names K t
step names (a_numeral ∷ K) t = in_numeral names K t
step names (the_keyword k ∷ K) t = in_keyword names K k t
step names (the_symbol s ∷ K) t = in_symbol names K s t

-- what becomes of a text: it is a script's, or it is refused with a reason and a place
pub data Judgement : Type 0 where
  accepted : Judgement
  refused : Reason → ℕ → Judgement

-- the text ends: nothing may be expected but lists and declarations
abbrev pub at_end : ℕ → List Expected → Judgement
at_end long [] = accepted
at_end long (declarations ∷ K) = at_end long K
at_end long (new_name ∷ K) = refused Unexpected long
at_end long (statements room ∷ K) = at_end long K
at_end long (expression room ∷ K) = refused Unexpected long
at_end long (assigned ∷ K) = refused Unexpected long
at_end long (operator ∷ K) = refused Unexpected long
at_end long (a_numeral ∷ K) = refused Unexpected long
at_end long (the_keyword k ∷ K) = refused Unexpected long
at_end long (the_symbol s ∷ K) = refused Unexpected long

abbrev pub ended : ℕ → List Expected → Ending → Judgement
ended long K finished = at_end long K
ended long K (faulty r place) = refused r place

-- the next token, or the end of it
abbrev pub resolve : Verdict → ℕ → (List (List ℕ) → List Expected → Judgement) → Judgement
resolve (onward names K) place next = next names K
resolve (turned r) place next = refused r place

-- a text of so many bytes, made of these tokens, from left to right
abbrev pub judge : ℕ → List Piece → Ending → List (List ℕ) → List Expected → Judgement
judge long [] f names K = ended long K f
judge long (p ∷ ps) f names K = resolve (step names K (terminal p.token)) p.start (judge long ps f)

-- a whole script
abbrev pub whole : List Expected
whole = declarations ∷ statements 20 ∷ []
