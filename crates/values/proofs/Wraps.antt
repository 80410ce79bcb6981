-- What is left of an integer when it wraps is the integer up to a multiple of 2 ^ 32.
use Rattle.std.proofs.Common.{◌≡◌, ℕ, zero, suc, ◌+◌, ◌-◌, ◌*◌, ◌/◌, ◌%◌, ◌<◌, ◌≤◌, ℤ, pos, negsuc, ◌+ℤ◌, ◌*ℤ◌, neg_ℤ, ⊎_elim, arith, w32, to_z}
use Rattle.std.proofs.lemmas.Int.{ints}
use Rattle.std.proofs.lemmas.Bool.{cases_lt}
use Rattle.std.proofs.lemmas.Bool.Decides.{nat_tests}
use Rattle.std.specs.Int.{int_wrap}
use Rattle.values.specs.Laws.{Congruent}

-- bits from 2 ^ 31 on read as a negative number
high : (n : ℕ) → 2147483648 ≤ n → n < 4294967296 → to_z w32 n ≡ negsuc (4294967295 - n)
high n h t = grind (arith, nat_tests)

under_high : (a q r : ℕ) → q * 4294967296 + r ≡ a → r < 2147483648 → negsuc a ≡ to_z w32 (4294967295 - r) +ℤ neg_ℤ (pos q) *ℤ pos 4294967296
under_high a zero r e h = omega (arith, ints, high (4294967295 - r) (omega arith) (omega arith))
under_high a (suc q) r e h = omega (arith, ints, high (4294967295 - r) (omega arith) (omega arith))

pub wraps_congruent : (z : ℤ) → Congruent z (int_wrap w32 z)
unfolding int_wrap
wraps_congruent (pos a) =
    ⊎_elim (λ l. (pos (a / 4294967296), omega (arith, ints))) (λ h. (pos (a / 4294967296 + 1), omega (arith, ints, high (a % 4294967296) h (omega arith)))) (cases_lt (a % 4294967296) 2147483648)
wraps_congruent (negsuc a) =
    ⊎_elim (λ l. (neg_ℤ (pos (a / 4294967296)), under_high a (a / 4294967296) (a % 4294967296) (omega arith) l)) (λ h. (negsuc (a / 4294967296), omega (arith, ints))) (cases_lt (a % 4294967296) 2147483648)
