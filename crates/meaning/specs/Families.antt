-- Families of levels, as the rules and the promises see one.
--
-- A family is a set of codes, their join, and the number of the script operator that joins them. `FamilyLaws` are the laws that the trait
-- `LevelFamily` asks of its implementations, so that what is said here of every family with these laws holds of each of them.
--
-- Example: the ladder has the codes 0 to 15, joins by the greater, and names operator 6, `max`.
use Rattle.std.specs.Prelude.{◌≡◌, ℕ, ◌<◌, max, Bool, true, pos, Some, None, Option, bit_or, nat_lt}
use Rattle.values.specs.declared.Operator.{Operator}
use Rattle.values.specs.declared.Operator.TheVariants.{Maximum}
use Rattle.values.specs.Operators.{operator_numbered}
use Rattle.levels.specs.Joins.{joined_by, flows_to}

pub record Family : Type 0 where
  pub code : ℕ → Bool
  pub join : ℕ → ℕ → ℕ
  -- the number of the script operator that joins codes
  pub operator : ℕ

abbrev pub IsCode : Family → ℕ → Type 0
IsCode G a = G.code a ≡ true

pub record FamilyLaws (G : Family) : Type 0 where
  pub small : (a : ℕ) → IsCode G a → a < 65536
  pub bottom : IsCode G 0
  pub neutral : (a : ℕ) → IsCode G a → G.join 0 a ≡ a
  pub closed : (a b : ℕ) → IsCode G a → IsCode G b → IsCode G (G.join a b)
  pub commutes : (a b : ℕ) → IsCode G a → IsCode G b → G.join a b ≡ G.join b a
  pub groups : (a b c : ℕ) → IsCode G a → IsCode G b → IsCode G c → G.join (G.join a b) c ≡ G.join a (G.join b c)
  pub same : (a : ℕ) → IsCode G a → G.join a a ≡ a
  pub applies : (a b : ℕ) → IsCode G a → IsCode G b → joined_by G.operator a b ≡ Some (pos (G.join a b))

-- whether level a flows to level b: both are codes, and their join is b
abbrev pub flows : Family → ℕ → ℕ → Bool
flows G a b = flows_to G.code G.join a b

-- the operator of a number; under the laws a family's number is an operator's
abbrev pub operator_or : Operator → Option Operator → Operator
operator_or o None = o
operator_or o (Some p) = p

abbrev pub joiner : Family → Operator
joiner G = operator_or Maximum (operator_numbered G.operator)

-- the two families that are built
abbrev pub ladder : Family
ladder = record { code = λ a. nat_lt a 16; join = λ a b. max a b; operator = 6 }

abbrev pub parties : Family
parties = record { code = λ a. nat_lt a 65536; join = λ a b. bit_or a b; operator = 7 }
