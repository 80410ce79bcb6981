-- The registers after a reset.
use Rattle.std.proofs.Common.{◌≡◌, ℕ, zero, suc, ◌+◌, ◌<◌, ◌≤◌, min, ◌≢◌, List, [], ◌∷◌, length, get_or, set, ℤ, pos, sym, refl, ap, ◌∙◌, ⊎_elim, arith, length-set, get_or-set_other, get_or-set_same}
use Rattle.std.proofs.lemmas.List.{ext_get_or}
use Rattle.std.proofs.lemmas.Bool.{cases_eq, cases_lt}
use Rattle.banks.specs.Cleared.{cleared}

pub length-cleared : (n : ℕ) (rs : List ℤ) → length (cleared n rs) ≡ length rs
unfolding cleared
length-cleared zero rs = refl
length-cleared (suc n) [] = refl
length-cleared (suc n) (r ∷ rs) = ap suc (length-cleared n rs)

pub cleared-first : (n : ℕ) (rs : List ℤ) (k : ℕ) → k < n → get_or (cleared n rs) k (pos 0) ≡ pos 0
unfolding cleared
cleared-first zero rs k h = absurd (omega arith)
cleared-first (suc n) [] k h = refl
cleared-first (suc n) (r ∷ rs) zero h = refl
cleared-first (suc n) (r ∷ rs) (suc k) h = cleared-first n rs k (omega arith)

pub cleared_rest : (n : ℕ) (rs : List ℤ) (k : ℕ) → n ≤ k → get_or (cleared n rs) k (pos 0) ≡ get_or rs k (pos 0)
unfolding cleared
cleared_rest zero rs k h = refl
cleared_rest (suc n) [] k h = refl
cleared_rest (suc n) (r ∷ rs) zero h = absurd (omega arith)
cleared_rest (suc n) (r ∷ rs) (suc k) h = cleared_rest n rs k (omega arith)

pub cleared_none : (rs : List ℤ) → cleared 0 rs ≡ rs
unfolding cleared
cleared_none rs = refl

-- past the last register there is nothing more to set
pub cleared-all : (n : ℕ) (rs : List ℤ) → cleared n rs ≡ cleared (min n (length rs)) rs
cleared-all n rs =
    let m : ℕ = min n (length rs) in
    ext_get_or (pos 0) (cleared n rs) (cleared m rs) (length-cleared n rs ∙ sym (length-cleared m rs))
    (λ k l.
    let inside : k < length rs = omega (arith, length-cleared n rs) in
    ⊎_elim
    (λ (h : k < n). cleared-first n rs k h ∙ sym (cleared-first m rs k (omega arith)))
    (λ (h : n ≤ k). cleared_rest n rs k h ∙ sym (cleared_rest m rs k (omega arith)))
    (cases_lt k n))

-- one register more
pub cleared_more : (k : ℕ) (rs : List ℤ) → k < length rs → set (cleared k rs) k (pos 0) ≡ cleared (k + 1) rs
cleared_more k rs h =
    let long : length (cleared k rs) ≡ length rs = length-cleared k rs in
    let inside : k < length (cleared k rs) = omega arith in
    ext_get_or (pos 0) (set (cleared k rs) k (pos 0)) (cleared (k + 1) rs) (length-set (cleared k rs) k (pos 0) ∙ long ∙ sym (length-cleared (k + 1) rs))
    (λ j l.
    ⊎_elim
    (λ (e : j ≡ k). rw e (get_or-set_same (cleared k rs) k (pos 0) (pos 0) inside ∙ sym (cleared-first (k + 1) rs k (omega arith))))
    (λ (ne : j ≢ k).
    get_or-set_other (cleared k rs) k j (pos 0) (pos 0) ne
    ∙ ⊎_elim
    (λ (b : j < k). cleared-first k rs j b ∙ sym (cleared-first (k + 1) rs j (omega arith)))
    (λ (b : k ≤ j). cleared_rest k rs j b ∙ sym (cleared_rest (k + 1) rs j (omega arith)))
    (cases_lt j k))
    (cases_eq j k))

-- what the proof of `reset` needs
pub ruleset reset_steps = (cleared_none, cleared_more, cleared-all)
