-- Each token as it is written is that token, and the separator behind it ends it.
use Rattle.std.proofs.Common.{◌≡◌, ℕ, zero, suc, ◌^◌, ◌<◌, ◌≤◌, true, false, List, [], ◌∷◌, length, get_or, Some, decimal, refl, ap, arith, rules, le-leb}
use Rattle.std.proofs.lemmas.Fmt.{decimal_digit, decimal_nonempty, first_decimal, digits_decimal, digits_value-decimal}
use Rattle.std.proofs.lemmas.Str.Parse.{IsNumeralModel, numerals_by_fold}
use Rattle.std.proofs.lemmas.Bool.{and_from}
use Rattle.std.proofs.lemmas.Bool.Decides.{nat_tests}
use Rattle.letters.specs.declared.keywords.Keyword.{Keyword}
use Rattle.letters.specs.declared.keywords.Keyword.TheVariants as word
use Rattle.letters.specs.declared.symbols.Symbol.{Symbol}
use Rattle.letters.specs.declared.symbols.Symbol.TheVariants as mark
use Rattle.letters.specs.Classes.{is_digit, is_word, is_blank, every}
use Rattle.letters.specs.Keywords.{keyword_of, keyword_bytes}
use Rattle.letters.specs.Numerals.{value_from, well_formed_digits, numeral_of}
use Rattle.letters.specs.Tokens as lex
use Rattle.letters.specs.Texts.{Name, Spells, widens, takes_in}
use Rattle.reading.specs.Grammar.{Terminal, name, numeral, keyword, symbol, nothing, terminal}
use Rattle.spelling.specs.Spelling.{terminal_bytes, keyword_separator, symbol_separator, separator}

-- the digits of a number are a numeral of that value
own : IsNumeralModel (λ ds. every is_digit ds ≡ true) (value_from 0)
own = numerals_by_fold _ (search rules) value_from (search rules)

well_formed : (ds : List ℕ) → every is_digit ds ≡ true → 0 < length ds → (1 < length ds → 48 < get_or ds 0 0) → well_formed_digits ds ≡ true
well_formed [] d some first = absurd (omega arith)
well_formed (c ∷ []) d some first = grind (arith, nat_tests)
well_formed (c ∷ d ∷ cs) h some first = and_from _ _ (le-leb 49 c (first (omega arith))) h

no_zero : (n : ℕ) → n < 2147483648 → 1 < length (decimal n) → 48 < get_or (decimal n) 0 0
no_zero zero small long = absurd (omega (arith, ap length (decimal_digit 0 (omega arith))))
no_zero (suc n) small long = first_decimal (suc n) (omega arith) (omega arith)

of_value : (ds : List ℕ) (n : ℕ) → well_formed_digits ds ≡ true → value_from 0 ds ≡ n → n ≤ 2147483647 → numeral_of ds ≡ Some n
of_value ds n w e small = rw (w, e, le-leb n 2147483647 small) refl

pub numeral_written : (n : ℕ) → n ≤ 2147483647 → numeral_of (decimal n) ≡ Some n
numeral_written n small =
    let fits : n < 2 ^ 64 = omega arith in
    of_value (decimal n) n (well_formed (decimal n) (digits_decimal own n fits) (decimal_nonempty n fits) (no_zero n (omega arith))) (digits_value-decimal own n fits) small

-- a keyword is that keyword
pub keyword_written : (k : Keyword) → keyword_of (keyword_bytes k) ≡ Some k
keyword_written word.Var = refl
keyword_written word.Skip = refl
keyword_written word.If = refl
keyword_written word.Then = refl
keyword_written word.Else = refl
keyword_written word.End = refl
keyword_written word.While = refl
keyword_written word.Do = refl
keyword_written word.Write = refl
keyword_written word.Stop = refl
keyword_written word.Declassify = refl
keyword_written word.Max = refl

-- a separator is a blank, which belongs to no keyword and no symbol
keyword_blank : (k : Keyword) → (is_blank (keyword_separator k) ≡ true) × (is_word (keyword_separator k) ≡ false)
keyword_blank word.Var = (refl, refl)
keyword_blank word.Skip = (refl, refl)
keyword_blank word.If = (refl, refl)
keyword_blank word.Then = (refl, refl)
keyword_blank word.Else = (refl, refl)
keyword_blank word.End = (refl, refl)
keyword_blank word.While = (refl, refl)
keyword_blank word.Do = (refl, refl)
keyword_blank word.Write = (refl, refl)
keyword_blank word.Stop = (refl, refl)
keyword_blank word.Declassify = (refl, refl)
keyword_blank word.Max = (refl, refl)

symbol_blank : (s : Symbol) → (is_blank (symbol_separator s) ≡ true) × (widens s (symbol_separator s) ≡ false)
symbol_blank mark.Assign = (refl, refl)
symbol_blank mark.Colon = (refl, refl)
symbol_blank mark.Semicolon = (refl, refl)
symbol_blank mark.Open = (refl, refl)
symbol_blank mark.Close = (refl, refl)
symbol_blank mark.Plus = (refl, refl)
symbol_blank mark.Minus = (refl, refl)
symbol_blank mark.Times = (refl, refl)
symbol_blank mark.Over = (refl, refl)
symbol_blank mark.Equals = (refl, refl)
symbol_blank mark.Less = (refl, refl)
symbol_blank mark.Bar = (refl, refl)

-- what can be written: legal names, and numerals that are not too large
abbrev pub Writable : Terminal → Type 0
Writable (name w) = Name w
Writable (numeral n) = n ≤ 2147483647
Writable (keyword k) = Unit {0}
Writable (symbol s) = Unit {0}
Writable nothing = ⊥

-- the token that is written for a terminal
abbrev pub lexeme_of : Terminal → lex.Lexeme
lexeme_of (name w) = lex.name w
lexeme_of (numeral n) = lex.numeral (decimal n) n
lexeme_of (keyword k) = lex.keyword k
lexeme_of (symbol s) = lex.symbol s
lexeme_of nothing = lex.end

pub seen_again : (t : Terminal) → terminal (lexeme_of t) ≡ t
seen_again (name w) = refl
seen_again (numeral n) = refl
seen_again (keyword k) = refl
seen_again (symbol s) = refl
seen_again nothing = refl

pub written : (t : Terminal) → Writable t → Spells (lexeme_of t) (terminal_bytes t)
written (name w) h = (refl, h)
written (numeral n) h = (refl, numeral_written n h)
written (keyword k) h = keyword_written k
written (symbol s) h = refl
written nothing h = h

pub ended : (t : Terminal) → takes_in (lexeme_of t) (separator t) ≡ false
ended (name w) = refl
ended (numeral n) = refl
ended (keyword k) = (keyword_blank k).1
ended (symbol s) = (symbol_blank s).1
ended nothing = refl

pub blank-behind : (t : Terminal) → is_blank (separator t) ≡ true
blank-behind (name w) = refl
blank-behind (numeral n) = refl
blank-behind (keyword k) = (keyword_blank k).0
blank-behind (symbol s) = (symbol_blank s).0
blank-behind nothing = refl
