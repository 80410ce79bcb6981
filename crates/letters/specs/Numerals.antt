-- What a numeral is, and its value: decimal digits up to 2147483647, without a leading zero except `0` itself.
--
-- Example: `0` and `2147483647` are numerals; `007`, `00` and `2147483648` are not.
use Rattle.std.specs.Prelude.{ℕ, ◌+◌, ◌-◌, ◌*◌, Bool, false, cond, ◌&&◌, List, [], ◌∷◌, Some, None, Option, nat_le}
use Rattle.letters.specs.Classes.{is_digit, every}

-- the number that digits write behind those of n
abbrev pub value_from : ℕ → List ℕ → ℕ
value_from n [] = n
value_from n (c ∷ cs) = value_from (n * 10 + (c - 48)) cs

-- one digit, or digits that do not begin with `0`
abbrev pub well_formed_digits : List ℕ → Bool
well_formed_digits [] = false
well_formed_digits (c ∷ []) = is_digit c
well_formed_digits (c ∷ d ∷ cs) = nat_le 49 c && every is_digit (c ∷ d ∷ cs)

abbrev pub numeral_of : List ℕ → Option ℕ
numeral_of ds = cond (well_formed_digits ds && nat_le (value_from 0 ds) 2147483647) (Some (value_from 0 ds)) None
