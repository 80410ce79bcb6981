-- The longest front of a text whose bytes are all of one kind.
use Rattle.std.proofs.Common.{◌≡◌, ℕ, zero, suc, ◌<◌, Bool, true, false, ◌&&◌, List, [], ◌∷◌, ◌++◌, length, take, drop, sym, refl, ap, ◌∙◌, subst, ⊎_elim, one-add, arith}
use Rattle.std.specs.List.{prefix_len}
use Rattle.std.proofs.lemmas.Bool.{cond-true, cond-false, cases_Bool, and_parts, true≢false}
use Rattle.letters.specs.Classes.{every, begins}

leading_yes : (f : ℕ → Bool) (c : ℕ) (cs : List ℕ) → f c ≡ true → prefix_len f (c ∷ cs) ≡ suc (prefix_len f cs)
leading_yes f c cs y = cond-true _ _ _ y ∙ one-add (prefix_len f cs)

leading_no : (f : ℕ → Bool) (c : ℕ) (cs : List ℕ) → f c ≡ false → prefix_len f (c ∷ cs) ≡ 0
leading_no f c cs n = cond-false _ _ _ n

pub and_true : (a b : Bool) → a ≡ true → b ≡ true → (a && b) ≡ true
and_true a b p q = rw (p, q) refl

-- its bytes are of the kind, and the byte behind is not
pub span_every : (f : ℕ → Bool) (bs : List ℕ) → every f (take (prefix_len f bs) bs) ≡ true
span_every f [] = refl
span_every f (c ∷ cs) =
    ⊎_elim
    (λ y. subst (λ n. every f (take n (c ∷ cs)) ≡ true) (sym (leading_yes f c cs y)) (and_true (f c) _ y (span_every f cs)))
    (λ n. subst (λ k. every f (take k (c ∷ cs)) ≡ true) (sym (leading_no f c cs n)) refl)
    (cases_Bool (f c))

pub span_stops : (f : ℕ → Bool) (bs : List ℕ) → begins f (drop (prefix_len f bs) bs) ≡ false
span_stops f [] = refl
span_stops f (c ∷ cs) =
    ⊎_elim
    (λ y. subst (λ n. begins f (drop n (c ∷ cs)) ≡ false) (sym (leading_yes f c cs y)) (span_stops f cs))
    (λ n. subst (λ k. begins f (drop k (c ∷ cs)) ≡ false) (sym (leading_no f c cs n)) n)
    (cases_Bool (f c))

-- and a front with these two properties is it
stopped : (f : ℕ → Bool) (rest : List ℕ) → begins f rest ≡ false → prefix_len f rest ≡ 0
stopped f [] h = refl
stopped f (c ∷ cs) h = leading_no f c cs h

pub span_is : (f : ℕ → Bool) (w rest : List ℕ) → every f w ≡ true → begins f rest ≡ false → prefix_len f (w ++ rest) ≡ length w
span_is f [] rest e h = stopped f rest h
span_is f (c ∷ cs) rest e h =
    let parts = and_parts (f c) (every f cs) e in
    leading_yes f c (cs ++ rest) parts.0 ∙ ap suc (span_is f cs rest parts.1 h)

-- a kind that holds of the first byte has a front
pub span_some : (f : ℕ → Bool) (bs : List ℕ) → begins f bs ≡ true → 0 < prefix_len f bs
span_some f [] h = absurd (true≢false (sym h))
span_some f (c ∷ cs) h = omega (arith, leading_yes f c cs h)

pub begins-take : (f : ℕ → Bool) (n : ℕ) (bs : List ℕ) → 0 < n → begins f (take n bs) ≡ begins f bs
begins-take f zero bs h = absurd (omega arith)
begins-take f (suc n) [] h = refl
begins-take f (suc n) (c ∷ cs) h = refl

pub begins_never : (f : ℕ → Bool) → ((c : ℕ) → f c ≡ false) → (bs : List ℕ) → begins f bs ≡ false
begins_never f h [] = refl
begins_never f h (c ∷ cs) = h c

pub begins_some : (f : ℕ → Bool) (bs : List ℕ) → begins f bs ≡ true → 0 < length bs
begins_some f [] h = absurd (true≢false (sym h))
begins_some f (c ∷ cs) h = omega arith

-- a kind within another
pub begins_within : (f g : ℕ → Bool) → ((c : ℕ) → f c ≡ true → g c ≡ true) → (bs : List ℕ) → begins f bs ≡ true → begins g bs ≡ true
begins_within f g h [] e = absurd (true≢false (sym e))
begins_within f g h (c ∷ cs) e = h c e
