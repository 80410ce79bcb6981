-- Tokens that are written in one way only, and what is expected where one must stand.
use Rattle.std.proofs.Common.{◌≡◌, ℕ, true, false, cond, eqb, List, ◌∷◌, sym, refl, ap, ◌∙◌, ⊎_elim, eq-eqb}
use Rattle.std.proofs.lemmas.Bool.{cond-true, cond-false, cases_Bool, eqb-true}
use Rattle.refusals.specs.declared.Reason.TheVariants.{Unexpected}
use Rattle.letters.specs.declared.keywords.Keyword.{Keyword}
use Rattle.letters.specs.declared.keywords.Keyword.TheVariants as word
use Rattle.letters.specs.declared.symbols.Symbol.{Symbol}
use Rattle.letters.specs.declared.symbols.Symbol.TheVariants as mark
use Rattle.letters.specs.declared.tokens.Token.{Token}
use Rattle.letters.specs.declared.tokens.Token.TheVariants as case
use Rattle.letters.specs.Tokens.{Lexeme, view, is_end}
use Rattle.letters.specs.Tokens as lex
use Rattle.reading.specs.Grammar.{keyword, symbol, terminal}
use Rattle.reading.specs.Rule.{Expected, the_keyword, the_symbol, onward, turned, step, at_end, refused, keyword_number, symbol_number}

-- where x is expected, the token l passes, and every other is refused
pub record Fixes (l : Lexeme) (x : Expected) : Type 0 where
  pub no_end : is_end l ≡ false
  pub takes : (names : List (List ℕ)) (K : List Expected) → step names (x ∷ K) (terminal l) ≡ onward names K
  pub others : (names : List (List ℕ)) (t : Token) → (view t ≡ l → ⊥) → (K : List Expected) → step names (x ∷ K) (terminal (view t)) ≡ turned Unexpected
  pub ends : (long : ℕ) (K : List Expected) → at_end long (x ∷ K) ≡ refused Unexpected long

-- a symbol and a keyword by their numbers
pub symbol_at : ℕ → Symbol
symbol_at n =
    cond (eqb n 0) mark.Assign (cond (eqb n 1) mark.Colon (cond (eqb n 2) mark.Semicolon (cond (eqb n 3) mark.Open (cond (eqb n 4) mark.Close (cond (eqb n 5) mark.Plus
    (cond (eqb n 6) mark.Minus (cond (eqb n 7) mark.Times (cond (eqb n 8) mark.Over (cond (eqb n 9) mark.Equals (cond (eqb n 10) mark.Less mark.Bar))))))))))

pub symbol_again : (s : Symbol) → symbol_at (symbol_number s) ≡ s
unfolding symbol_at
symbol_again mark.Assign = refl
symbol_again mark.Colon = refl
symbol_again mark.Semicolon = refl
symbol_again mark.Open = refl
symbol_again mark.Close = refl
symbol_again mark.Plus = refl
symbol_again mark.Minus = refl
symbol_again mark.Times = refl
symbol_again mark.Over = refl
symbol_again mark.Equals = refl
symbol_again mark.Less = refl
symbol_again mark.Bar = refl

pub symbols_differ : (s t : Symbol) → (s ≡ t → ⊥) → eqb (symbol_number s) (symbol_number t) ≡ false
symbols_differ s t h =
    ⊎_elim (λ e. absurd (h (sym (symbol_again s) ∙ ap symbol_at (eqb-true (symbol_number s) (symbol_number t) e) ∙ symbol_again t))) (λ f. f)
    (cases_Bool (eqb (symbol_number s) (symbol_number t)))

pub keyword_at : ℕ → Keyword
keyword_at n =
    cond (eqb n 0) word.Var (cond (eqb n 1) word.Skip (cond (eqb n 2) word.If (cond (eqb n 3) word.Then (cond (eqb n 4) word.Else (cond (eqb n 5) word.End
    (cond (eqb n 6) word.While (cond (eqb n 7) word.Do (cond (eqb n 8) word.Write (cond (eqb n 9) word.Stop (cond (eqb n 10) word.Declassify word.Max))))))))))

pub keyword_again : (k : Keyword) → keyword_at (keyword_number k) ≡ k
unfolding keyword_at
keyword_again word.Var = refl
keyword_again word.Skip = refl
keyword_again word.If = refl
keyword_again word.Then = refl
keyword_again word.Else = refl
keyword_again word.End = refl
keyword_again word.While = refl
keyword_again word.Do = refl
keyword_again word.Write = refl
keyword_again word.Stop = refl
keyword_again word.Declassify = refl
keyword_again word.Max = refl

pub keywords_differ : (k l : Keyword) → (k ≡ l → ⊥) → eqb (keyword_number k) (keyword_number l) ≡ false
keywords_differ k l h =
    ⊎_elim (λ e. absurd (h (sym (keyword_again k) ∙ ap keyword_at (eqb-true (keyword_number k) (keyword_number l) e) ∙ keyword_again l))) (λ f. f)
    (cases_Bool (eqb (keyword_number k) (keyword_number l)))

same_number : (n : ℕ) → eqb n n ≡ true
same_number n = eq-eqb n n refl

-- what is expected comes
pub takes_symbol : (names : List (List ℕ)) (s : Symbol) (K : List Expected) → step names (the_symbol s ∷ K) (symbol s) ≡ onward names K
takes_symbol names s K = cond-true _ _ _ (same_number (symbol_number s))

pub takes_keyword : (names : List (List ℕ)) (k : Keyword) (K : List Expected) → step names (the_keyword k ∷ K) (keyword k) ≡ onward names K
takes_keyword names k K = cond-true _ _ _ (same_number (keyword_number k))

-- something else comes
other_symbol : (names : List (List ℕ)) (wanted : Symbol) (t : Token) → (view t ≡ lex.symbol wanted → ⊥) → (K : List Expected) → step names (the_symbol wanted ∷ K) (terminal (view t)) ≡ turned Unexpected
other_symbol names wanted case.End h K = refl
other_symbol names wanted (case.Name w) h K = refl
other_symbol names wanted (case.Numeral w n) h K = refl
other_symbol names wanted (case.Keyword k) h K = refl
other_symbol names wanted (case.Symbol s) h K = cond-false _ _ _ (symbols_differ s wanted (λ e. h (ap lex.symbol e)))

other_keyword : (names : List (List ℕ)) (wanted : Keyword) (t : Token) → (view t ≡ lex.keyword wanted → ⊥) → (K : List Expected) → step names (the_keyword wanted ∷ K) (terminal (view t)) ≡ turned Unexpected
other_keyword names wanted case.End h K = refl
other_keyword names wanted (case.Name w) h K = refl
other_keyword names wanted (case.Numeral w n) h K = refl
other_keyword names wanted (case.Keyword k) h K = cond-false _ _ _ (keywords_differ k wanted (λ e. h (ap lex.keyword e)))
other_keyword names wanted (case.Symbol s) h K = refl

pub fixed_symbol : (s : Symbol) → Fixes (lex.symbol s) (the_symbol s)
fixed_symbol s = record { no_end = refl; takes = λ names. takes_symbol names s; others = λ names. other_symbol names s; ends = λ long K. refl }

pub fixed_keyword : (k : Keyword) → Fixes (lex.keyword k) (the_keyword k)
fixed_keyword k = record { no_end = refl; takes = λ names. takes_keyword names k; others = λ names. other_keyword names k; ends = λ long K. refl }
