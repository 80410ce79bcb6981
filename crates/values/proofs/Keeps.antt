-- The operators keep their laws.
use Rattle.std.proofs.Common.{◌≡◌, ℕ, zero, suc, ◌-◌, ◌*◌, ◌/◌, ◌^◌, ◌<◌, ◌≤◌, max, Bool, true, false, ◌⊎◌, ℤ, pos, negsuc, ◌+ℤ◌, ◌-ℤ◌, ◌*ℤ◌, neg_ℤ, nat_abs, ◌≤ℤ◌, ◌<ℤ◌, Some, sym, refl, ap, ◌∙◌, mul-le-mul_left, div-add-mod', div-le_self, arith, rules, w32, SFits, to_z, of_z}
use Rattle.std.proofs.Math.Nat.{div-zero}
use lib.Bits.{bit_or, or_lt, or_comm, or_self}
use lib.Signed.{mag, lt_z, quot_z, rem_z}
use mir.Facts.{Fits-of_z, sfits_to_z}
use Rattle.std.proofs.lemmas.Int.{ints, clamps, to_z-of_z, of_z-to_z, to_z_pos, SFits-int_wrap, quot-rem, quot_fits, rem_below}
use Rattle.std.proofs.lemmas.Cmp.{int_eq_equiv}
use Rattle.std.proofs.lemmas.Bool.Decides.{nat_tests, Decides-int_eq}
use Rattle.std.specs.Int.{int_max}
use Rattle.std.specs.Ordering.{int_eq}
use Rattle.values.specs.declared.Operator.{Operator}
use Rattle.values.specs.declared.Operator.TheVariants.{Add, Subtract, Multiply, Divide, Equal, Less, Maximum, Or}
use Rattle.values.specs.Operators.{operate, quotient, truth, number_of, operator_numbered}
use Rattle.values.specs.Laws.{OperatorLaws, SameSide}
use Rattle.values.proofs.Bitwise.{or_assoc}
use Rattle.values.proofs.Wraps.{wraps_congruent}

fits_truth : (b : Bool) → SFits w32 (truth b)
fits_truth b = grind arith

fits_max : (a b : ℤ) → SFits w32 a → SFits w32 b → SFits w32 (int_max a b)
fits_max a b f g = search rules

-- the bits of a result of `|`
or_fits : (a b : ℤ) → SFits w32 a → SFits w32 b → bit_or (of_z w32 a) (of_z w32 b) < 2 ^ 32
or_fits a b f g = or_lt 32 (of_z w32 a) (of_z w32 b) (Fits-of_z f).fits (Fits-of_z g).fits

neg_bits : (q : ℕ) → of_z w32 (neg_ℤ (pos q)) < 2 ^ 32
neg_bits zero = omega arith
neg_bits (suc q) = omega arith

quot_bits : (a b : ℤ) → SFits w32 a → SFits w32 b → of_z w32 (quot_z a b) < 2 ^ 32
quot_bits (pos a) (pos b) f g = omega (arith, div-le_self a b, f.sfits)
quot_bits (pos a) (negsuc b) f g = neg_bits (a / suc b)
quot_bits (negsuc a) (pos b) f g = neg_bits (suc a / b)
quot_bits (negsuc a) (negsuc b) f g = omega (arith, div-le_self (suc a) (suc b), f.sfits)

value : (o : Operator) (a b : ℤ) → SFits w32 a → SFits w32 b → SFits w32 (operate o a b)
value Add a b f g = SFits-int_wrap w32 _
value Subtract a b f g = SFits-int_wrap w32 _
value Multiply a b f g = SFits-int_wrap w32 _
value Divide a b f g = sfits_to_z (record { fits = quot_bits a b f g })
value Equal a b f g = fits_truth (int_eq a b)
value Less a b f g = fits_truth (lt_z a b)
value Maximum a b f g = fits_max a b f g
value Or a b f g = sfits_to_z (record { fits = or_fits a b f g })

one_true : (b : Bool) → truth b ≡ pos 1 → b ≡ true
one_true b e = grind arith

one_or_zero : (b : Bool) → (b ≡ true → ⊥) → truth b ≡ pos 0
one_or_zero b h = grind arith

equal_tells : (a b : ℤ) → operate Equal a b ≡ pos 1 → a ≡ b
equal_tells a b e = (Decides-int_eq a b).0 (one_true (int_eq a b) e)

equal_other : (a b : ℤ) → (a ≡ b → ⊥) → operate Equal a b ≡ pos 0
equal_other a b h = one_or_zero (int_eq a b) (λ e. h ((Decides-int_eq a b).0 e))

less : (a b : ℤ) → a <ℤ b → operate Less a b ≡ pos 1
less a b h = let t : lt_z a b ≡ true = grind (arith, ints) in ap truth t

not_less : (a b : ℤ) → b ≤ℤ a → operate Less a b ≡ pos 0
not_less a b h = let t : lt_z a b ≡ false = grind (arith, ints) in ap truth t

maximum_natural : (m n : ℕ) → operate Maximum (pos m) (pos n) ≡ pos (max m n)
maximum_natural m n = omega (arith, ints, clamps)

maximum_bounds : (a b : ℤ) → (a ≤ℤ operate Maximum a b) × (b ≤ℤ operate Maximum a b)
maximum_bounds a b = (omega (arith, ints, clamps), omega (arith, ints, clamps))

maximum_reached : (a b : ℤ) → (operate Maximum a b ≡ a) ⊎ (operate Maximum a b ≡ b)
maximum_reached a b = grind arith

or_groups : (a b c : ℤ) → SFits w32 a → SFits w32 b → SFits w32 c → operate Or (operate Or a b) c ≡ operate Or a (operate Or b c)
or_groups a b c f g h =
    ap (λ n. to_z w32 (bit_or n (of_z w32 c))) (of_z-to_z w32 _ (or_fits a b f g))
    ∙ ap (to_z w32) (or_assoc (of_z w32 a) (of_z w32 b) (of_z w32 c))
    ∙ sym (ap (λ n. to_z w32 (bit_or (of_z w32 a) n)) (of_z-to_z w32 _ (or_fits b c g h)))

or_same : (a : ℤ) → SFits w32 a → operate Or a a ≡ a
or_same a f = ap (to_z w32) (or_self (of_z w32 a)) ∙ to_z-of_z w32 a f

numbered : (o : Operator) → operator_numbered (number_of o) ≡ Some o
numbered o = grind (arith, nat_tests)

number_told : (n : ℕ) (o : Operator) → operator_numbered n ≡ Some o → n ≡ number_of o
number_told n o e = grind (arith, nat_tests)

by_zero : (a : ℤ) → quotient a (pos 0) ≡ pos 0
by_zero (pos a) = ap (λ n. to_z w32 (of_z w32 (pos n))) (div-zero a)
by_zero (negsuc a) = ap (λ n. to_z w32 (of_z w32 (neg_ℤ (pos n)))) (div-zero (suc a))

mag_neg : (q : ℕ) → mag (neg_ℤ (pos q)) ≤ q - 1
mag_neg zero = omega arith
mag_neg (suc q) = omega arith

quotient_fits : (a b : ℤ) → SFits w32 a → (b ≡ pos 0 → ⊥) → (a ≡ negsuc 2147483647 → b ≡ negsuc 0 → ⊥) → SFits w32 (quot_z a b)
quotient_fits a (pos zero) f h k = absurd (h refl)
quotient_fits a (pos (suc b)) f h k = quot_fits w32 a (pos (suc b)) f (omega (arith, ints))
quotient_fits (pos a) (negsuc b) f h k = record { sfits = omega (arith, mag_neg (a / suc b), div-le_self a (suc b), f.sfits) }
quotient_fits (negsuc a) (negsuc zero) f h k =
    let ne : a ≡ 2147483647 → ⊥ = λ e. k (ap negsuc e) refl in
    record { sfits = omega (arith, div-le_self (suc a) 1, f.sfits) }
quotient_fits (negsuc a) (negsuc (suc b)) f h k =
    let q = suc a / suc (suc b) in
    let m : q * 2 ≤ q * suc (suc b) = mul-le-mul_left q (omega arith) in
    record { sfits = omega (arith, div-add-mod' (suc a) (suc (suc b)), f.sfits) }

abs_positive : (b : ℤ) → (b ≡ pos 0 → ⊥) → 0 < nat_abs b
abs_positive (pos zero) h = absurd (h refl)
abs_positive (pos (suc b)) h = omega arith
abs_positive (negsuc b) h = omega arith

side : (a b : ℤ) → SameSide a (rem_z a b)
side (pos a) b = omega (arith, ints)
side (negsuc a) b = omega (arith, ints)

quotient_exact : (a b : ℤ) → SFits w32 a → SFits w32 b → (b ≡ pos 0 → ⊥) → (a ≡ negsuc 2147483647 → b ≡ negsuc 0 → ⊥) → ((r : ℤ) × (a ≡ operate Divide a b *ℤ b +ℤ r) × (nat_abs r < nat_abs b) × SameSide a r)
quotient_exact a b f g h k =
    let e : quotient a b ≡ quot_z a b = to_z-of_z w32 (quot_z a b) (quotient_fits a b f h k) in
    (rem_z a b, sym (ap (λ q. q *ℤ b +ℤ rem_z a b) e ∙ quot-rem a b), rem_below a b (abs_positive b h), side a b)

pub laws : OperatorLaws
laws = record {
  value = value;
  sum = λ a b. wraps_congruent (a +ℤ b);
  difference = λ a b. wraps_congruent (a -ℤ b);
  product = λ a b. wraps_congruent (a *ℤ b);
  quotient_exact = quotient_exact;
  quotient_by_zero = by_zero;
  quotient_least = refl;
  equal_same = λ a. ap truth (int_eq_equiv.refl a);
  equal_tells = equal_tells;
  equal_other = equal_other;
  less = less;
  not_less = not_less;
  positive = λ n h. less (pos 0) (pos n) (omega (arith, ints));
  not_positive = refl;
  maximum_natural = maximum_natural;
  maximum_bounds = maximum_bounds;
  maximum_reached = maximum_reached;
  or_natural = λ m n h k. to_z_pos w32 (bit_or m n) (or_lt 31 m n h k);
  or_commutes = λ a b. ap (to_z w32) (or_comm (of_z w32 a) (of_z w32 b));
  or_groups = or_groups;
  or_same = or_same;
  numbered = numbered;
  number_told = number_told;
}
