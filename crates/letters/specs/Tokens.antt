-- The token at a place of a text.
--
-- The class of the first byte tells what a token is: a letter begins a word, which runs on over letters and digits; a digit begins a
-- numeral, which runs on over digits; `:` with `=` right behind it is one symbol; any other symbol has one byte. A word is a keyword,
-- or else a name, and then has at most 15 bytes. The rule of a token is asked of the whole run, so that `007` is one token, against
-- its rule, and not three.
--
-- Example: in `  p := 12ab` the token from place 0 on is the name `p`, at place 2 and with place 3 behind it; from 3 on it is `:=` at
-- 4 to 6; from 6 on the numeral 12 at 7 to 9; from 9 on the name `ab` at 9 to 11; from 11 on the end of the text.
use Rattle.std.specs.Prelude.{◌≡◌, ℕ, ◌+◌, ◌<◌, ◌≤◌, min, Bool, true, false, cond, ◌&&◌, List, [], ◌∷◌, length, take, drop, Some, None, Ok, Err, Option, Result, ◌==◌, nat_le}
use Rattle.std.specs.List.{prefix_len}
use Rattle.refusals.specs.declared.Reason.{Reason}
use Rattle.refusals.specs.declared.Reason.TheVariants.{Malformed, StrayByte}
use Rattle.refusals.specs.declared.Refusal.{Refusal}
use Rattle.letters.specs.declared.keywords.Keyword.{Keyword}
use Rattle.letters.specs.declared.symbols.Symbol.{Symbol}
use Rattle.letters.specs.declared.symbols.Symbol.TheVariants.{Assign}
use Rattle.letters.specs.declared.tokens.Token.{Token}
use Rattle.letters.specs.declared.tokens.Token.TheVariants as case
use Rattle.letters.specs.declared.tokens.Lexed.{Lexed}
use Rattle.letters.specs.Classes.{is_letter, is_digit, is_word, is_blank}
use Rattle.letters.specs.Keywords.{keyword_of}
use Rattle.letters.specs.Symbols.{symbol_of}
use Rattle.letters.specs.Numerals.{numeral_of}

-- what stands at a place: a token by what it holds, the end of the text, or nothing that can be read, with the reason
pub data Lexeme : Type 0 where
  end : Lexeme
  name : List ℕ → Lexeme
  numeral : List ℕ → ℕ → Lexeme
  keyword : Keyword → Lexeme
  symbol : Symbol → Lexeme
  broken : Reason → Lexeme

-- a token of the code, without where its bytes lie in memory
abbrev pub view : Token → Lexeme
view case.End = end
view (case.Name bytes) = name bytes.now
view (case.Numeral digits value) = numeral digits.now value
view (case.Keyword k) = keyword k
view (case.Symbol s) = symbol s

abbrev pub seen : Result Token Reason → Lexeme
seen (Ok t) = view t
seen (Err r) = broken r

-- letters and digits, a letter first
abbrev pub named : Option Keyword → List ℕ → Lexeme
named (Some k) w = keyword k
named None w = cond (nat_le (length w) 15) (name w) (broken Malformed)

abbrev pub word_lexeme : List ℕ → Lexeme
word_lexeme w = named (keyword_of w) w

abbrev pub counted : Option ℕ → List ℕ → Lexeme
counted (Some n) ds = numeral ds n
counted None ds = broken Malformed

abbrev pub digits_lexeme : List ℕ → Lexeme
digits_lexeme ds = counted (numeral_of ds) ds

-- a symbol of one byte
abbrev pub marked : Option Symbol → Lexeme × ℕ
marked (Some s) = (symbol s, 1)
marked None = (broken StrayByte, 0)

abbrev pub follows : ℕ → List ℕ → Bool
follows b [] = false
follows b (c ∷ cs) = c == b

-- the token that a text begins with, where no blank comes first, and how many bytes it has
abbrev pub lexeme : List ℕ → Lexeme × ℕ
lexeme [] = (end, 0)
lexeme (c ∷ cs) =
    cond (is_letter c) (word_lexeme (take (prefix_len is_word (c ∷ cs)) (c ∷ cs)), prefix_len is_word (c ∷ cs))
    (cond (is_digit c) (digits_lexeme (take (prefix_len is_digit (c ∷ cs)) (c ∷ cs)), prefix_len is_digit (c ∷ cs))
    (cond (c == 58 && follows 61 cs) (symbol Assign, 2) (marked (symbol_of c))))

-- where the first token from a place on begins; a place behind the text counts as its end
abbrev pub start_of : List ℕ → ℕ → ℕ
start_of text at = min at (length text) + prefix_len is_blank (drop at text)

-- what a look at a text gives: a token from `start` up to `stop`, or a refusal at a place
pub data Next : Type 0 where
  token : Lexeme → (start stop : ℕ) → Next
  refused : Reason → ℕ → Next

abbrev pub placed : Lexeme → ℕ → ℕ → Next
placed end start long = token end start (start + long)
placed (name w) start long = token (name w) start (start + long)
placed (numeral ds n) start long = token (numeral ds n) start (start + long)
placed (keyword k) start long = token (keyword k) start (start + long)
placed (symbol s) start long = token (symbol s) start (start + long)
placed (broken r) start long = refused r start

abbrev pub next_from : List ℕ → ℕ → Next
next_from text start = placed (lexeme (drop start text)).0 start (lexeme (drop start text)).1

-- the first token from a place on
abbrev pub next_at : List ℕ → ℕ → Next
next_at text at = next_from text (start_of text at)

abbrev pub is_end : Lexeme → Bool
is_end end = true
is_end (name w) = false
is_end (numeral ds n) = false
is_end (keyword k) = false
is_end (symbol s) = false
is_end (broken r) = false

-- it lies in the text, not before the place looked from, and every token has a byte
abbrev pub Inside : List ℕ → ℕ → Next → Type 0
Inside text at (token l start stop) = (min at (length text) ≤ start) × (start ≤ stop) × (stop ≤ length text) × (is_end l ≡ false → start < stop)
Inside text at (refused r place) = (min at (length text) ≤ place) × (place < length text)

-- what the code answers
abbrev pub told : Result Lexed Refusal → Next
told (Ok x) = token (view x.token) x.start x.end
told (Err e) = refused e.reason e.place
