-- The table of symbols, and what the classes say of each other.
use Rattle.std.proofs.Common.{◌≡◌, ℕ, Bool, true, false, cond, not, ◌&&◌, ◌||◌, eqb, List, [], ◌∷◌, Some, None, Option, sym, refl, ap, ◌∙◌, ⊎_elim, arith}
use Rattle.std.proofs.lemmas.Bool.{cond-true, cond-false, cases_Bool, eqb-true}
use Rattle.std.proofs.lemmas.Bool.Decides.{nat_tests}
use Rattle.letters.specs.declared.symbols.Symbol.{Symbol}
use Rattle.letters.specs.declared.symbols.Symbol.TheVariants.{Assign, Colon, Semicolon, Open, Close, Plus, Minus, Times, Over, Equals, Less, Bar}
use Rattle.letters.specs.Classes.{is_letter, is_digit, is_word, is_blank, is_symbol, begins}
use Rattle.letters.specs.Symbols.{symbol_of, symbol_bytes}
use Rattle.letters.specs.Texts.{widens, is_stranger}
use Rattle.letters.proofs.Spans.{begins_never}

some_same : (x y : Symbol) → Some x ≡ Some y → x ≡ y
some_same x y e = cc

-- one entry of the table
entry : (c k : ℕ) (x s : Symbol) (rest : Option Symbol) → symbol_bytes x ≡ k ∷ [] → (rest ≡ Some s → symbol_bytes s ≡ c ∷ []) → cond (eqb c k) (Some x) rest ≡ Some s → symbol_bytes s ≡ c ∷ []
entry c k x s rest is more e =
    ⊎_elim
    (λ t. ap symbol_bytes (sym (some_same x s (sym (cond-true _ _ _ t) ∙ e))) ∙ is ∙ ap (λ n. n ∷ []) (sym (eqb-true c k t)))
    (λ f. more (sym (cond-false _ _ _ f) ∙ e))
    (cases_Bool (eqb c k))

none_some : (s : Symbol) → None ≡ Some s → ⊥
none_some s e = let z : ◌≡◌ {A = ℕ} 0 1 = cc in omega arith

pub symbol_bytes_lem : (c : ℕ) (s : Symbol) → symbol_of c ≡ Some s → symbol_bytes s ≡ c ∷ []
symbol_bytes_lem c s =
    entry c 58 Colon s _ refl (entry c 59 Semicolon s _ refl (entry c 40 Open s _ refl (entry c 41 Close s _ refl
    (entry c 43 Plus s _ refl (entry c 45 Minus s _ refl (entry c 42 Times s _ refl (entry c 47 Over s _ refl
    (entry c 61 Equals s _ refl (entry c 60 Less s _ refl (entry c 124 Bar s _ refl (λ e. absurd (none_some s e))))))))))))

-- no entry
some_none : (s : Symbol) → Some s ≡ None → ⊥
some_none s e = let z : ◌≡◌ {A = ℕ} 0 1 = cc in omega arith

passed : (c k : ℕ) (x : Symbol) (rest : Option Symbol) (more : Bool) → (rest ≡ None → more ≡ false) → cond (eqb c k) (Some x) rest ≡ None → (eqb c k || more) ≡ false
passed c k x rest more h e =
    ⊎_elim
    (λ t. absurd (some_none x (sym (cond-true _ _ _ t) ∙ e)))
    (λ f. rw f (h (sym (cond-false _ _ _ f) ∙ e)))
    (cases_Bool (eqb c k))

last : (c k : ℕ) (x : Symbol) → cond (eqb c k) (Some x) None ≡ None → eqb c k ≡ false
last c k x e = ⊎_elim (λ t. absurd (some_none x (sym (cond-true _ _ _ t) ∙ e))) (λ f. f) (cases_Bool (eqb c k))

pub no_symbol : (c : ℕ) → symbol_of c ≡ None → is_symbol c ≡ false
no_symbol c =
    passed c 58 Colon _ _ (passed c 59 Semicolon _ _ (passed c 40 Open _ _ (passed c 41 Close _ _
    (passed c 43 Plus _ _ (passed c 45 Minus _ _ (passed c 42 Times _ _ (passed c 47 Over _ _
    (passed c 61 Equals _ _ (passed c 60 Less _ _ (last c 124 Bar))))))))))

skip_entry : (c k : ℕ) (x : Symbol) (rest : Option Symbol) (more : Bool) → (more ≡ false → rest ≡ None) → (eqb c k || more) ≡ false → cond (eqb c k) (Some x) rest ≡ None
skip_entry c k x rest more h e =
    elim (eqb c k) as (λ b. (b || more) ≡ false → cond b (Some x) rest ≡ None) [
      | true ↦ λ z. let w : ◌≡◌ {A = ℕ} 0 1 = cc in absurd (omega arith)
      | false ↦ λ z. h z
    ] e

pub none_of : (c : ℕ) → is_symbol c ≡ false → symbol_of c ≡ None
none_of c =
    skip_entry c 58 Colon _ _ (skip_entry c 59 Semicolon _ _ (skip_entry c 40 Open _ _ (skip_entry c 41 Close _ _
    (skip_entry c 43 Plus _ _ (skip_entry c 45 Minus _ _ (skip_entry c 42 Times _ _ (skip_entry c 47 Over _ _
    (skip_entry c 61 Equals _ _ (skip_entry c 60 Less _ _ (λ f. cond-false _ _ _ f))))))))))

-- what stands behind a symbol of one byte widens it only where `=` stands behind `:`
same_byte : (c k : ℕ) → k ∷ [] ≡ c ∷ [] → c ≡ k
same_byte c k e = cc

pub not_widened : (s : Symbol) (c : ℕ) (rest : List ℕ) → symbol_bytes s ≡ c ∷ [] → (c ≡ 58 → begins (λ x. eqb x 61) rest ≡ false) → begins (widens s) rest ≡ false
not_widened Assign c rest e h = begins_never (λ x. false) (λ x. refl) rest
not_widened Colon c rest e h = h (same_byte c 58 e)
not_widened Semicolon c rest e h = begins_never (λ x. false) (λ x. refl) rest
not_widened Open c rest e h = begins_never (λ x. false) (λ x. refl) rest
not_widened Close c rest e h = begins_never (λ x. false) (λ x. refl) rest
not_widened Plus c rest e h = begins_never (λ x. false) (λ x. refl) rest
not_widened Minus c rest e h = begins_never (λ x. false) (λ x. refl) rest
not_widened Times c rest e h = begins_never (λ x. false) (λ x. refl) rest
not_widened Over c rest e h = begins_never (λ x. false) (λ x. refl) rest
not_widened Equals c rest e h = begins_never (λ x. false) (λ x. refl) rest
not_widened Less c rest e h = begins_never (λ x. false) (λ x. refl) rest
not_widened Bar c rest e h = begins_never (λ x. false) (λ x. refl) rest

-- classes apart
pub letter_word : (c : ℕ) → is_letter c ≡ true → is_word c ≡ true
letter_word c h = rw h refl

pub letter_no_blank : (c : ℕ) → is_letter c ≡ true → is_blank c ≡ false
letter_no_blank c h = grind (arith, nat_tests)

pub digit_no_blank : (c : ℕ) → is_digit c ≡ true → is_blank c ≡ false
digit_no_blank c h = grind (arith, nat_tests)

pub digit_no_letter : (c : ℕ) → is_digit c ≡ true → is_letter c ≡ false
digit_no_letter c h = grind (arith, nat_tests)

pub stranger : (c : ℕ) → is_letter c ≡ false → is_digit c ≡ false → is_blank c ≡ false → is_symbol c ≡ false → is_stranger c ≡ true
stranger c l d b s = rw (l, d, b, s) refl

pub stranger_parts : (l d b s : Bool) → (not (l || d) && (not b && not s)) ≡ true → (l ≡ false) × (d ≡ false) × (b ≡ false) × (s ≡ false)
stranger_parts true d b s e = let z : ◌≡◌ {A = ℕ} 0 1 = cc in absurd (omega arith)
stranger_parts false true b s e = let z : ◌≡◌ {A = ℕ} 0 1 = cc in absurd (omega arith)
stranger_parts false false true s e = let z : ◌≡◌ {A = ℕ} 0 1 = cc in absurd (omega arith)
stranger_parts false false false true e = let z : ◌≡◌ {A = ℕ} 0 1 = cc in absurd (omega arith)
stranger_parts false false false false e = (refl, refl, refl, refl)
