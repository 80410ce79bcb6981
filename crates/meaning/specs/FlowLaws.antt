-- Levels are ordered by what flows to what.
--
-- Between codes of a family that keeps the laws, `flows` is a partial order with 0 below every level, and the join of two levels is the least level that
-- both flow to. So a reader at the join of two levels may read what is written at either, and a line at a level is for exactly the readers above it.
--
-- Example: of the parties, 1 and 2 both flow to 3, and to every level that has both bits, and 3 is the least of these.
use Rattle.std.specs.Prelude.{◌≡◌, ℕ, true}
use Rattle.meaning.specs.Families.{Family, FamilyLaws, IsCode, flows}

pub record FlowLaws (G : Family) : Type 0 where
  -- only codes flow, and only to codes
  pub only_codes : (a b : ℕ) → flows G a b ≡ true → IsCode G a × IsCode G b
  pub reflexive : (a : ℕ) → IsCode G a → flows G a a ≡ true
  pub antisymmetric : (a b : ℕ) → flows G a b ≡ true → flows G b a ≡ true → a ≡ b
  pub transitive : (a b c : ℕ) → flows G a b ≡ true → flows G b c ≡ true → flows G a c ≡ true
  pub from_bottom : (a : ℕ) → IsCode G a → flows G 0 a ≡ true
  -- the join is above both, and below all that are
  pub join_left : (a b : ℕ) → IsCode G a → IsCode G b → flows G a (G.join a b) ≡ true
  pub join_right : (a b : ℕ) → IsCode G a → IsCode G b → flows G b (G.join a b) ≡ true
  pub join_least : (a b c : ℕ) → flows G a c ≡ true → flows G b c ≡ true → flows G (G.join a b) c ≡ true

abbrev pub FlowLawsHold : Type 0
FlowLawsHold = (G : Family) → FamilyLaws G → FlowLaws G
