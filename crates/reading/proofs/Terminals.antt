-- Tokens that are, or are not, what is expected.
use Rattle.std.proofs.Common.{◌≡◌, ℕ, ◌<◌, ◌≤◌, Bool, true, false, cond, ◌&&◌, eqb, leb, List, [], ◌∷◌, length, drop, is_some, Some, None, sym, refl, ap, ◌∙◌, subst, ap₂, arith, Bor, leb-true}
use Rattle.std.proofs.lemmas.Bool.{cond-true, cond-false, eqb-true, true≢false, and_parts}
use Rattle.values.specs.declared.Operator.{Operator}
use Rattle.values.specs.declared.Operator.TheVariants as op
use Rattle.refusals.specs.declared.Reason.{Reason}
use Rattle.refusals.specs.declared.Reason.TheVariants.{Unexpected}
use Rattle.refusals.specs.declared.Refusal.{Refusal}
use Rattle.letters.specs.declared.keywords.Keyword.{Keyword}
use Rattle.letters.specs.declared.keywords.Keyword.TheVariants as word
use Rattle.letters.specs.declared.symbols.Symbol.{Symbol}
use Rattle.letters.specs.declared.symbols.Symbol.TheVariants as mark
use Rattle.letters.specs.declared.tokens.Token.{Token}
use Rattle.letters.specs.declared.tokens.Token.TheVariants as case
use Rattle.letters.specs.Tokens.{Lexeme, view, Next, token, is_end, next_at, Inside}
use Rattle.letters.specs.Tokens as lex
use Rattle.letters.specs.Texts.{Piece, Ending, MadeOf}
use Rattle.letters.specs.Numerals.{numeral_of, well_formed_digits, value_from}
use Rattle.reading.specs.Grammar.{Terminal, name, numeral, keyword, symbol, nothing, terminal, operator_terminal}
use Rattle.reading.specs.Rule.{Expected, a_numeral, operator, onward, step, judge, refused, keyword_number, symbol_operator, terminal_operator}
use Rattle.reading.specs.Reads.{Ahead, Fails}
use Rattle.reading.specs.Fixed.{Fixes, keyword_at, keyword_again}
use Rattle.reading.proofs.Aheads.{Bad}

-- something else comes
pub bad_other : {l : Lexeme} {x : Expected} (names : List (List ℕ)) (t : Token) → Fixes l x → (view t ≡ l → ⊥) → Bad names x (view t) Unexpected
bad_other names t F h = record { turns = F.others names t h; ends = λ _. (refl, F.ends) }

pub bad_numeral : (names : List (List ℕ)) (t : Token) → ((w : Bor (List ℕ)) (n : ℕ) → t ≡ case.Numeral w n → ⊥) → Bad names a_numeral (view t) Unexpected
bad_numeral names case.End h = record { turns = λ K. refl; ends = λ _. (refl, λ long K. refl) }
bad_numeral names (case.Name w) h = record { turns = λ K. refl; ends = λ e. absurd (true≢false (sym e)) }
bad_numeral names (case.Numeral w n) h = absurd (h w n refl)
bad_numeral names (case.Keyword k) h = record { turns = λ K. refl; ends = λ e. absurd (true≢false (sym e)) }
bad_numeral names (case.Symbol s) h = record { turns = λ K. refl; ends = λ e. absurd (true≢false (sym e)) }

some_none : {A : Type 0} (x : A) → Some x ≡ None → ⊥
some_none x e = let z : ◌≡◌ {A = ℕ} 0 1 = cc in omega arith

pub bad_operator : (names : List (List ℕ)) (t : Token) → terminal_operator (terminal (view t)) ≡ None → Bad names operator (view t) Unexpected
bad_operator names t h = record { turns = λ K. cond-false _ _ _ (ap is_some h); ends = λ _. (refl, λ long K. refl) }

-- the token of an operator is that operator's
symbol_operator_lem : (s : Symbol) (o : Operator) → symbol_operator s ≡ Some o → symbol s ≡ operator_terminal o
symbol_operator_lem mark.Assign o e = absurd (some_none o (sym e))
symbol_operator_lem mark.Colon o e = absurd (some_none o (sym e))
symbol_operator_lem mark.Semicolon o e = absurd (some_none o (sym e))
symbol_operator_lem mark.Open o e = absurd (some_none o (sym e))
symbol_operator_lem mark.Close o e = absurd (some_none o (sym e))
symbol_operator_lem mark.Plus o e = let h : op.Add ≡ o = cc in ap operator_terminal h
symbol_operator_lem mark.Minus o e = let h : op.Subtract ≡ o = cc in ap operator_terminal h
symbol_operator_lem mark.Times o e = let h : op.Multiply ≡ o = cc in ap operator_terminal h
symbol_operator_lem mark.Over o e = let h : op.Divide ≡ o = cc in ap operator_terminal h
symbol_operator_lem mark.Equals o e = let h : op.Equal ≡ o = cc in ap operator_terminal h
symbol_operator_lem mark.Less o e = let h : op.Less ≡ o = cc in ap operator_terminal h
symbol_operator_lem mark.Bar o e = let h : op.Or ≡ o = cc in ap operator_terminal h

keyword_operator : (b : Bool) (k : Keyword) (o : Operator) → (b ≡ true → k ≡ word.Max) → cond b (Some op.Maximum) None ≡ Some o → keyword k ≡ operator_terminal o
keyword_operator true k o h e = let m : op.Maximum ≡ o = cc in ap keyword (h refl) ∙ ap operator_terminal m
keyword_operator false k o h e = absurd (some_none o (sym e))

pub terminal_operator_lem : (t : Terminal) (o : Operator) → terminal_operator t ≡ Some o → t ≡ operator_terminal o
terminal_operator_lem (name w) o e = absurd (some_none o (sym e))
terminal_operator_lem (numeral n) o e = absurd (some_none o (sym e))
terminal_operator_lem (keyword k) o e =
    keyword_operator (eqb (keyword_number k) 11) k o (λ h. sym (keyword_again k) ∙ ap keyword_at (eqb-true (keyword_number k) 11 h) ∙ keyword_again word.Max) e
terminal_operator_lem (symbol s) o e = symbol_operator_lem s o e
terminal_operator_lem nothing o e = absurd (some_none o (sym e))

pub takes_operator : (names : List (List ℕ)) (t : Terminal) (o : Operator) → terminal_operator t ≡ Some o → (K : List Expected) → step names (operator ∷ K) t ≡ onward names K
takes_operator names t o e K = cond-true _ _ _ (ap is_some e)

pub operator_no_end : (t : Token) (o : Operator) → terminal_operator (terminal (view t)) ≡ Some o → is_end (view t) ≡ false
operator_no_end case.End o e = absurd (some_none o (sym e))
operator_no_end (case.Name w) o e = refl
operator_no_end (case.Numeral w n) o e = refl
operator_no_end (case.Keyword k) o e = refl
operator_no_end (case.Symbol s) o e = refl

-- a numeral that is read is no larger than it may be
some_bound : (b : Bool) (v n m : ℕ) → (b ≡ true → v ≤ m) → cond b (Some v) None ≡ Some n → n ≤ m
some_bound true v n m h e = let k : v ≡ n = cc in subst (λ x. x ≤ m) k (h refl)
some_bound false v n m h e = absurd (some_none n (sym e))

numeral_small : (w : List ℕ) (n : ℕ) → numeral_of w ≡ Some n → n ≤ 2147483647
numeral_small w n e = some_bound (well_formed_digits w && leb (value_from 0 w) 2147483647) (value_from 0 w) n 2147483647 (λ h. leb-true (value_from 0 w) 2147483647 (and_parts (well_formed_digits w) (leb (value_from 0 w) 2147483647) h).1) e

pub numeral_bound : (text : List ℕ) (at : ℕ) (ps rest : List Piece) (f : Ending) (ds : List ℕ) (n s e : ℕ) → Ahead text at ps f → ps ≡ record { token = lex.numeral ds n; start = s; stop = e } ∷ rest → n ≤ 2147483647
numeral_bound text at ps rest f ds n s e a h =
    let m : MadeOf at (drop at text) (record { token = lex.numeral ds n; start = s; stop = e } ∷ rest) f = subst (λ x. MadeOf at (drop at text) x f) h a.made in
    numeral_small m.1.bytes n m.1.spells.1

-- a refusal of the code
pub refuses : (text : List ℕ) (names : List (List ℕ)) (x : Expected) (ps : List Piece) (f : Ending) (e : Refusal) (r : Reason) (s : ℕ) → e.reason ≡ r → e.place ≡ s → ((K : List Expected) → judge (length text) ps f names (x ∷ K) ≡ refused r s) → Fails text names (x ∷ []) ps f e
refuses text names x ps f e r s a b h K = h K ∙ ap₂ refused (sym a) (sym b)

-- a token lies behind the place that was looked from
pub moved : (text : List ℕ) (at : ℕ) (l : Lexeme) (s e : ℕ) → at ≤ length text → is_end l ≡ false → Inside text at (token l s e) → (at < e) × (e ≤ length text)
moved text at l s e h more i = (omega (arith, i.0, i.3 more), i.2)
