-- The token at the front of a text, by what its first byte is.
use Rattle.std.proofs.Common.{◌≡◌, ℕ, ◌<◌, Bool, true, false, cond, ◌&&◌, eqb, List, [], ◌∷◌, length, get_or, take, sym, refl, ap, ◌∙◌, ⊎_elim, arith, eq-eqb}
use Rattle.std.specs.List.{prefix_len}
use Rattle.std.proofs.lemmas.Bool.{cond-true, cond-false, cases_Bool, and_parts, eqb-true, true≢false}
use Rattle.std.proofs.lemmas.Bool.Decides.{nat_tests}
use Rattle.letters.specs.declared.classes.Class.{Class}
use Rattle.letters.specs.declared.classes.Class.TheVariants.{Stranger, Letter, Digit, Blank, Symbol}
use Rattle.letters.specs.Classes.{is_letter, is_digit, is_word, is_blank, is_symbol, class_of}
use Rattle.letters.specs.Symbols.{symbol_of}
use Rattle.letters.specs.Tokens.{word_lexeme, digits_lexeme, marked, lexeme}

pub front_word : (bs : List ℕ) → 0 < length bs → is_letter (get_or bs 0 0) ≡ true → lexeme bs ≡ (word_lexeme (take (prefix_len is_word bs) bs), prefix_len is_word bs)
front_word [] h l = absurd (omega arith)
front_word (c ∷ cs) h l = cond-true _ _ _ l

pub front_digits : (bs : List ℕ) → 0 < length bs → is_letter (get_or bs 0 0) ≡ false → is_digit (get_or bs 0 0) ≡ true → lexeme bs ≡ (digits_lexeme (take (prefix_len is_digit bs) bs), prefix_len is_digit bs)
front_digits [] h l d = absurd (omega arith)
front_digits (c ∷ cs) h l d = cond-false _ _ _ l ∙ cond-true _ _ _ d

pub front_mark : (bs : List ℕ) → 0 < length bs → is_letter (get_or bs 0 0) ≡ false → is_digit (get_or bs 0 0) ≡ false → (get_or bs 0 0 ≡ 58 → 1 < length bs → get_or bs 1 0 ≡ 61 → ⊥) → lexeme bs ≡ marked (symbol_of (get_or bs 0 0))
front_mark [] h l d n = absurd (omega arith)
front_mark (c ∷ []) h l d n =
    let t : (eqb c 58 && false) ≡ false = grind (arith, nat_tests) in
    cond-false _ _ _ l ∙ cond-false _ _ _ d ∙ cond-false _ _ _ t
front_mark (c ∷ e ∷ cs) h l d n =
    let t : (eqb c 58 && eqb e 61) ≡ false = ⊎_elim (λ y. absurd (n (eqb-true c 58 (and_parts _ _ y).0) (omega arith) (eqb-true e 61 (and_parts _ _ y).1))) (λ f. f) (cases_Bool (eqb c 58 && eqb e 61)) in
    cond-false _ _ _ l ∙ cond-false _ _ _ d ∙ cond-false _ _ _ t

-- what a class says of a byte
number : Class → ℕ
number Stranger = 0
number Letter = 1
number Digit = 2
number Blank = 3
number Symbol = 4

classes_apart : (a b : Class) → a ≡ b → (eqb (number a) (number b) ≡ false) → ⊥
unfolding number
classes_apart a b e f = true≢false (sym (eq-eqb (number a) (number a) refl) ∙ ap (λ x. eqb (number a) (number x)) e ∙ f)

not_digit : (b c : Bool) (x : Class) → x ≡ cond b Blank (cond c Symbol Stranger) → (x ≡ Letter → ⊥) × (x ≡ Digit → ⊥)
unfolding number
not_digit true c x e = (λ y. classes_apart Blank Letter (sym e ∙ y) refl, λ y. classes_apart Blank Digit (sym e ∙ y) refl)
not_digit false true x e = (λ y. classes_apart Symbol Letter (sym e ∙ y) refl, λ y. classes_apart Symbol Digit (sym e ∙ y) refl)
not_digit false false x e = (λ y. classes_apart Stranger Letter (sym e ∙ y) refl, λ y. classes_apart Stranger Digit (sym e ∙ y) refl)

by_class : (l d b s : Bool) → let x = cond l Letter (cond d Digit (cond b Blank (cond s Symbol Stranger))) in (x ≡ Letter → l ≡ true) × (x ≡ Digit → (l ≡ false) × (d ≡ true))
unfolding number
by_class true d b s = (λ _. refl, λ e. absurd (classes_apart Letter Digit e refl))
by_class false true b s = (λ e. absurd (classes_apart Digit Letter e refl), λ _. (refl, refl))
by_class false false b s = (λ e. absurd ((not_digit b s _ refl).0 e), λ e. absurd ((not_digit b s _ refl).1 e))

pub class_letter : (c : ℕ) → class_of c ≡ Letter → is_letter c ≡ true
class_letter c = (by_class (is_letter c) (is_digit c) (is_blank c) (is_symbol c)).0

pub class_digit : (c : ℕ) → class_of c ≡ Digit → (is_letter c ≡ false) × (is_digit c ≡ true)
class_digit c = (by_class (is_letter c) (is_digit c) (is_blank c) (is_symbol c)).1
