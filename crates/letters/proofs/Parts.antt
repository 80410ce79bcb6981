-- The token that a text begins with, found by its first byte, is one that the bytes spell and that could not be longer; and there is
-- no other.
use Rattle.std.proofs.Common.{◌≡◌, ℕ, ◌<◌, ◌≤◌, true, false, ◌&&◌, eqb, leb, List, [], ◌∷◌, ◌++◌, length, take, drop, Some, None, Option, sym, refl, ap, ◌∙◌, subst, inl, inr, ⊎_elim, arith, leb-false, leb-true}
use Rattle.std.specs.List.{prefix_len}
use Rattle.std.proofs.lemmas.List.Sums.{prefix_len-le-length}
use Rattle.std.proofs.lemmas.Bool.{cond-true, cond-false, cases_Bool, and_parts, eqb-true, true≢false}
use Rattle.std.proofs.lemmas.Bool.Decides.{nat_tests}
use Rattle.refusals.specs.declared.Reason.TheVariants.{Malformed}
use Rattle.letters.specs.declared.keywords.Keyword.{Keyword}
use Rattle.letters.specs.declared.symbols.Symbol.{Symbol}
use Rattle.letters.specs.declared.symbols.Symbol.TheVariants.{Assign}
use Rattle.letters.specs.Classes.{is_letter, is_digit, is_word, is_blank, every, begins}
use Rattle.letters.specs.Keywords.{keyword_of}
use Rattle.letters.specs.Numerals.{numeral_of}
use Rattle.letters.specs.Symbols.{symbol_of}
use Rattle.letters.specs.Tokens.{Lexeme, end, name, numeral, keyword, symbol, broken, named, word_lexeme, counted, digits_lexeme, marked, follows, lexeme}
use Rattle.letters.specs.Texts.{Word, Spells, takes_in, Fault}
use Rattle.letters.proofs.Marks.{symbol_bytes_lem, no_symbol, not_widened, letter_word, stranger}
use Rattle.letters.proofs.Spans.{span_every, span_stops, span_some, begins-take, begins_never, begins_some, begins_within}

-- a token from its bytes on, and the rest behind them
pub record Fits (l : Lexeme) (w rest : List ℕ) : Type 0 where
  pub spells : Spells l w
  pub longest : begins (takes_in l) rest ≡ false
  pub some : 0 < length w

-- what a text begins with: a token, a fault, or nothing
abbrev pub Parts : Lexeme → List ℕ → List ℕ → Type 0
Parts end w rest = w ++ rest ≡ []
Parts (name v) w rest = Fits (name v) w rest
Parts (numeral ds n) w rest = Fits (numeral ds n) w rest
Parts (keyword k) w rest = Fits (keyword k) w rest
Parts (symbol s) w rest = Fits (symbol s) w rest
Parts (broken r) w rest = Fault r (w ++ rest)

word_parts : (k : Option Keyword) (w rest : List ℕ) → keyword_of w ≡ k → Word w → begins is_word rest ≡ false → Parts (named k w) w rest
word_parts (Some k) w rest e h stop = record { spells = e; longest = stop; some = begins_some is_letter w h.letter_first }
word_parts None w rest e h stop =
    ⊎_elim
    (λ t. subst (λ l. Parts l w rest) (sym (cond-true _ (name w) (broken Malformed) t))
    (record { spells = (refl, record { word = h; short = leb-true (length w) 15 t; no_keyword = e }); longest = stop; some = begins_some is_letter w h.letter_first }))
    (λ f. subst (λ l. Parts l w rest) (sym (cond-false _ (name w) (broken Malformed) f))
    (inl (record { bytes = w; rest = rest; together = refl; word = h; no_keyword = e; long = leb-false (length w) 15 f; longest = stop })))
    (cases_Bool (leb (length w) 15))

digit_parts : (v : Option ℕ) (w rest : List ℕ) → numeral_of w ≡ v → begins is_digit w ≡ true → every is_digit w ≡ true → begins is_digit rest ≡ false → Parts (counted v w) w rest
digit_parts (Some n) w rest e first all stop = record { spells = (refl, e); longest = stop; some = begins_some is_digit w first }
digit_parts None w rest e first all stop = inr (record { bytes = w; rest = rest; together = refl; digit_first = first; digits = all; no_numeral = e; longest = stop })

-- the text cut behind the token that it begins with
abbrev pub Cut : List ℕ → (Lexeme × ℕ) → Type 0
Cut bs x = Parts x.0 (take x.1 bs) (drop x.1 bs)

cut_word : (bs : List ℕ) → begins is_letter bs ≡ true → Cut bs (word_lexeme (take (prefix_len is_word bs) bs), prefix_len is_word bs)
cut_word bs l =
    let n = prefix_len is_word bs in
    let some : 0 < n = span_some is_word bs (begins_within is_letter is_word letter_word bs l) in
    word_parts _ (take n bs) (drop n bs) refl (record { letter_first = begins-take is_letter n bs some ∙ l; all_word = span_every is_word bs }) (span_stops is_word bs)

cut_digits : (bs : List ℕ) → begins is_digit bs ≡ true → Cut bs (digits_lexeme (take (prefix_len is_digit bs) bs), prefix_len is_digit bs)
cut_digits bs d =
    let n = prefix_len is_digit bs in
    let some : 0 < n = span_some is_digit bs d in
    digit_parts _ (take n bs) (drop n bs) refl (begins-take is_digit n bs some ∙ d) (span_every is_digit bs) (span_stops is_digit bs)

cut_marked : (m : Option Symbol) (c : ℕ) (cs : List ℕ) → symbol_of c ≡ m → is_letter c ≡ false → is_digit c ≡ false → is_blank c ≡ false → (c ≡ 58 → begins (λ x. eqb x 61) cs ≡ false) → Cut (c ∷ cs) (marked m)
cut_marked (Some s) c cs e l d b h = let w = symbol_bytes_lem c s e in record { spells = sym w; longest = not_widened s c cs w h; some = omega arith }
cut_marked None c cs e l d b h = stranger c l d b (no_symbol c e)

colon_alone : (c : ℕ) (cs : List ℕ) → (eqb c 58 && follows 61 cs) ≡ false → c ≡ 58 → begins (λ x. eqb x 61) cs ≡ false
colon_alone c [] e h = refl
colon_alone c (d ∷ cs) e h = let t : eqb c 58 ≡ true = grind (arith, nat_tests) in sym (ap (λ b. b && eqb d 61) t) ∙ e

cut_assign : (c : ℕ) (cs : List ℕ) → (eqb c 58 && follows 61 cs) ≡ true → Cut (c ∷ cs) (symbol Assign, 2)
cut_assign c [] e = let p = and_parts (eqb c 58) false e in absurd (true≢false (sym p.1))
cut_assign c (d ∷ cs) e =
    let p = and_parts (eqb c 58) (eqb d 61) e in
    let a : c ≡ 58 = eqb-true c 58 p.0 in
    let b : d ≡ 61 = eqb-true d 61 p.1 in
    record { spells = ap (λ x. x ∷ d ∷ []) a ∙ ap (λ x. 58 ∷ x ∷ []) b; longest = begins_never (λ x. false) (λ x. refl) cs; some = omega arith }

pub cut : (bs : List ℕ) → begins is_blank bs ≡ false → Cut bs (lexeme bs)
cut [] h = refl
cut (c ∷ cs) h =
    ⊎_elim
    (λ l. subst (Cut (c ∷ cs)) (sym (cond-true _ _ _ l)) (cut_word (c ∷ cs) l))
    (λ l. subst (Cut (c ∷ cs)) (sym (cond-false _ _ _ l))
    (⊎_elim
    (λ d. subst (Cut (c ∷ cs)) (sym (cond-true _ _ _ d)) (cut_digits (c ∷ cs) d))
    (λ d. subst (Cut (c ∷ cs)) (sym (cond-false _ _ _ d))
    (⊎_elim
    (λ a. subst (Cut (c ∷ cs)) (sym (cond-true _ _ _ a)) (cut_assign c cs a))
    (λ a. subst (Cut (c ∷ cs)) (sym (cond-false _ _ _ a)) (cut_marked (symbol_of c) c cs refl l d h (colon_alone c cs a)))
    (cases_Bool (eqb c 58 && follows 61 cs))))
    (cases_Bool (is_digit c))))
    (cases_Bool (is_letter c))

-- the token lies in the text
abbrev Short : List ℕ → (Lexeme × ℕ) → Type 0
Short bs x = x.1 ≤ length bs

short_marked : (m : Option Symbol) (c : ℕ) (cs : List ℕ) → Short (c ∷ cs) (marked m)
short_marked (Some s) c cs = omega arith
short_marked None c cs = omega arith

short_assign : (c : ℕ) (cs : List ℕ) → (eqb c 58 && follows 61 cs) ≡ true → Short (c ∷ cs) (symbol Assign, 2)
short_assign c [] e = let p = and_parts (eqb c 58) false e in absurd (true≢false (sym p.1))
short_assign c (d ∷ cs) e = omega arith

pub short : (bs : List ℕ) → (lexeme bs).1 ≤ length bs
short [] = omega arith
short (c ∷ cs) =
    ⊎_elim
    (λ l. subst (Short (c ∷ cs)) (sym (cond-true _ _ _ l)) (prefix_len-le-length is_word (c ∷ cs)))
    (λ l. subst (Short (c ∷ cs)) (sym (cond-false _ _ _ l))
    (⊎_elim
    (λ d. subst (Short (c ∷ cs)) (sym (cond-true _ _ _ d)) (prefix_len-le-length is_digit (c ∷ cs)))
    (λ d. subst (Short (c ∷ cs)) (sym (cond-false _ _ _ d))
    (⊎_elim
    (λ a. subst (Short (c ∷ cs)) (sym (cond-true _ _ _ a)) (short_assign c cs a))
    (λ a. subst (Short (c ∷ cs)) (sym (cond-false _ _ _ a)) (short_marked (symbol_of c) c cs))
    (cases_Bool (eqb c 58 && follows 61 cs))))
    (cases_Bool (is_digit c))))
    (cases_Bool (is_letter c))
