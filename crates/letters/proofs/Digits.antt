-- A numeral read digit by digit.
use Rattle.std.proofs.Common.{◌≡◌, ℕ, ◌+◌, ◌-◌, ◌*◌, ◌<◌, ◌≤◌, Bool, true, false, cond, ◌&&◌, leb, List, [], ◌∷◌, length, get_or, drop, Some, None, Option, sym, refl, ap, ◌∙◌, ⊎_elim, add-one, arith, drop-cons}
use Rattle.std.proofs.lemmas.Bool.{cond-true, cond-false, and_left, and_right, cases_Bool}
use Rattle.std.proofs.lemmas.Bool.Decides.{nat_tests}
use Rattle.std.proofs.lemmas.List.{drop_all}
use Rattle.letters.specs.Classes.{is_digit, every}
use Rattle.letters.specs.Numerals.{value_from, numeral_of}

abbrev pub more : ℕ → ℕ → ℕ
more n c = n * 10 + (c - 48)

abbrev pub go : ℕ → List ℕ → Option ℕ
go n [] = Some n
go n (c ∷ cs) = cond (is_digit c && leb (more n c) 2147483647) (go (more n c) cs) None

grows : (n : ℕ) (cs : List ℕ) → n ≤ value_from n cs
grows n [] = omega arith
grows n (c ∷ cs) = omega (arith, grows (more n c) cs)

big : (n : ℕ) (cs : List ℕ) → leb n 2147483647 ≡ false → leb (value_from n cs) 2147483647 ≡ false
big n cs h = grind (arith, nat_tests, h, grows n cs)

pub go_is : (n : ℕ) (cs : List ℕ) → leb n 2147483647 ≡ true → go n cs ≡ cond (every is_digit cs && leb (value_from n cs) 2147483647) (Some (value_from n cs)) None
go_is n [] h = rw h refl
go_is n (c ∷ cs) h =
    let v : ℕ = more n c in
    elim (is_digit c) as (λ b. cond (b && leb v 2147483647) (go v cs) None ≡ cond ((b && every is_digit cs) && leb (value_from v cs) 2147483647) (Some (value_from v cs)) None) [
      | false ↦ refl
      | true ↦ ⊎_elim
          (λ t. cond-true _ _ _ t ∙ go_is v cs t)
          (λ f. cond-false _ _ _ f ∙ sym (cond-false _ _ _ (and_right _ _ (big v cs f))))
          (cases_Bool (leb v 2147483647))
    ]

-- one more digit
pub go-next : (n i : ℕ) (ds : List ℕ) → i < length ds → go n (drop i ds) ≡ cond (is_digit (get_or ds i 0) && leb (more n (get_or ds i 0)) 2147483647) (go (more n (get_or ds i 0)) (drop (i + 1) ds)) None
go-next n i ds h = rw (drop-cons ds i 0, add-one)

pub go_end : (n i : ℕ) (ds : List ℕ) → length ds ≤ i → go n (drop i ds) ≡ Some n
go_end n i ds h = rw (drop_all i ds h)

no_zero : (c : ℕ) (x : Bool) → (c ≡ 48 → ⊥) → (leb 49 c && (is_digit c && x)) ≡ (is_digit c && x)
no_zero c x h = grind (arith, nat_tests)

-- digits that have no leading zero
pub starts : (ds : List ℕ) → 0 < length ds → (1 < length ds → get_or ds 0 0 ≡ 48 → ⊥) → numeral_of ds ≡ go 0 ds
starts [] h z = absurd (omega arith)
starts (c ∷ []) h z = grind (arith, nat_tests)
starts (c ∷ d ∷ cs) h z =
    ap (λ b. cond (b && leb (value_from 0 (c ∷ d ∷ cs)) 2147483647) (Some (value_from 0 (c ∷ d ∷ cs))) None) (no_zero c (every is_digit (d ∷ cs)) (z (omega arith)))
    ∙ sym (go_is 0 (c ∷ d ∷ cs) refl)

-- a leading zero
pub padded : (ds : List ℕ) → 1 < length ds → get_or ds 0 0 ≡ 48 → numeral_of ds ≡ None
padded [] h z = absurd (omega arith)
padded (c ∷ []) h z = absurd (omega arith)
padded (c ∷ d ∷ cs) h z = grind (arith, nat_tests)

pub empty : (ds : List ℕ) → length ds ≡ 0 → numeral_of ds ≡ None
empty [] h = refl
empty (c ∷ cs) h = absurd (omega arith)

module _ (n i : ℕ) (ds : List ℕ) (h : i < length ds) where
  fits : Bool
  fits = is_digit (get_or ds i 0) && leb (more n (get_or ds i 0)) 2147483647

  no : fits ≡ false → go n (drop i ds) ≡ None
  unfolding fits
  no e = go-next n i ds h ∙ cond-false _ _ _ e

  pub go_no : is_digit (get_or ds i 0) ≡ false → go n (drop i ds) ≡ None
  unfolding fits
  go_no e = no (and_left _ _ e)

  pub go_big : 2147483647 < more n (get_or ds i 0) → go n (drop i ds) ≡ None
  unfolding fits
  go_big l = no (grind (arith, nat_tests))

  pub go_ok : is_digit (get_or ds i 0) ≡ true → more n (get_or ds i 0) ≤ 2147483647 → go n (drop i ds) ≡ go (more n (get_or ds i 0)) (drop (i + 1) ds)
  unfolding fits
  go_ok d s = let e : fits ≡ true = grind (arith, nat_tests) in go-next n i ds h ∙ cond-true _ _ _ e
