-- What a family of levels answers, from its codes and their join.
--
-- Level a flows to b where their join is b: what is known at a may be told at b. A number that is no code joins with nothing, flows
-- nowhere, and nothing flows to it.
--
-- Example: on the ladder, whose join is the larger, 2 flows to 5 and 5 does not flow to 2. Of the parties, 1 and 2 join to 3, and
-- neither flows to the other.
use Rattle.std.specs.Prelude.{ℕ, Bool, cond, ◌&&◌, ℤ, pos, Some, None, Option, ◌==◌}
use Rattle.std.specs.Option.{option_map}
use Rattle.values.specs.Operators.{operate, operator_numbered}

-- the join of two codes, or none where either is no code
abbrev pub join_of : (ℕ → Bool) → (ℕ → ℕ → ℕ) → ℕ → ℕ → Option ℕ
join_of code join a b = cond (code a && code b) (Some (join a b)) None

abbrev pub flows_to : (ℕ → Bool) → (ℕ → ℕ → ℕ) → ℕ → ℕ → Bool
flows_to code join a b = (code a && code b) && join a b == b

-- what the script operator of a number gives at two natural numbers, or none where no operator has the number
abbrev pub joined_by : ℕ → ℕ → ℕ → Option ℤ
joined_by number a b = option_map (λ o. operate o (pos a) (pos b)) (operator_numbered number)
