-- What the operators mean, in the words of the language and without the text of their definitions. A value is an integer from
-- -2147483648 to 2147483647, which is what `FitsSigned w32` says.
--
-- Example: by `sum` and `value`, 2147483647 + 1 is the one value that differs from 2147483648 by a multiple of 4294967296, so it is
-- -2147483648. By `quotient_exact`, -7 over 2 is the q with -7 = q * 2 + r where r is nearer to 0 than 2 and not above 0, so it is -3.
use Rattle.std.specs.Prelude.{◌≡◌, ℕ, ◌^◌, ◌<◌, max, ◌⊎◌, ℤ, pos, negsuc, ◌+ℤ◌, ◌-ℤ◌, ◌*ℤ◌, ◌≤ℤ◌, ◌<ℤ◌, Some, FitsSigned, ◌≢◌, bit_or, unsigned_abs}
use Rattle.std.specs.Int.{w32}
use Rattle.values.specs.declared.Operator.{Operator}
use Rattle.values.specs.declared.Operator.TheVariants.{Add, Subtract, Multiply, Divide, Equal, Less, Maximum, Or}
use Rattle.values.specs.Operators.{operate, number_of, operator_numbered}

-- y is x up to a multiple of 2 ^ 32
abbrev pub Congruent : ℤ → ℤ → Type 0
Congruent x y = (k : ℤ) × (x ≡ y +ℤ k *ℤ pos 4294967296)

-- r has the sign of a, or is 0
abbrev pub SameSide : ℤ → ℤ → Type 0
SameSide (pos n) r = pos 0 ≤ℤ r
SameSide (negsuc n) r = r ≤ℤ pos 0

pub record OperatorLaws : Type 0 where
  -- values give values
  pub value : (o : Operator) (a b : ℤ) → FitsSigned w32 a → FitsSigned w32 b → FitsSigned w32 (operate o a b)
  pub sum : (a b : ℤ) → Congruent (a +ℤ b) (operate Add a b)
  pub difference : (a b : ℤ) → Congruent (a -ℤ b) (operate Subtract a b)
  pub product : (a b : ℤ) → Congruent (a *ℤ b) (operate Multiply a b)
  -- the fraction is dropped: what is left over lies nearer to 0 than the divisor, on the dividend's side
  pub quotient_exact : (a b : ℤ) → FitsSigned w32 a → FitsSigned w32 b → (b ≢ pos 0) → (a ≡ negsuc 2147483647 → b ≢ negsuc 0) → ((r : ℤ) × (a ≡ operate Divide a b *ℤ b +ℤ r) × (unsigned_abs r < unsigned_abs b) × SameSide a r)
  pub quotient_by_zero : (a : ℤ) → operate Divide a (pos 0) ≡ pos 0
  pub quotient_least : operate Divide (negsuc 2147483647) (negsuc 0) ≡ negsuc 2147483647
  pub equal_same : (a : ℤ) → operate Equal a a ≡ pos 1
  pub equal_tells : (a b : ℤ) → operate Equal a b ≡ pos 1 → a ≡ b
  pub equal_other : (a b : ℤ) → (a ≢ b) → operate Equal a b ≡ pos 0
  pub less : (a b : ℤ) → a <ℤ b → operate Less a b ≡ pos 1
  pub not_less : (a b : ℤ) → b ≤ℤ a → operate Less a b ≡ pos 0
  -- on natural numbers, so on levels and on marks, which are 0 or 1
  pub positive : (n : ℕ) → 0 < n → operate Less (pos 0) (pos n) ≡ pos 1
  pub not_positive : operate Less (pos 0) (pos 0) ≡ pos 0
  pub maximum_natural : (m n : ℕ) → operate Maximum (pos m) (pos n) ≡ pos (max m n)
  pub maximum_bounds : (a b : ℤ) → (a ≤ℤ operate Maximum a b) × (b ≤ℤ operate Maximum a b)
  pub maximum_reached : (a b : ℤ) → (operate Maximum a b ≡ a) ⊎ (operate Maximum a b ≡ b)
  pub or_natural : (m n : ℕ) → m < 2 ^ 31 → n < 2 ^ 31 → operate Or (pos m) (pos n) ≡ pos (bit_or m n)
  pub or_commutes : (a b : ℤ) → operate Or a b ≡ operate Or b a
  pub or_groups : (a b c : ℤ) → FitsSigned w32 a → FitsSigned w32 b → FitsSigned w32 c → operate Or (operate Or a b) c ≡ operate Or a (operate Or b c)
  pub or_same : (a : ℤ) → FitsSigned w32 a → operate Or a a ≡ a
  -- one number an operator, one operator a number
  pub numbered : (o : Operator) → operator_numbered (number_of o) ≡ Some o
  pub number_told : (n : ℕ) (o : Operator) → operator_numbered n ≡ Some o → n ≡ number_of o
