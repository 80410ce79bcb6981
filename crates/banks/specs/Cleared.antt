-- Registers of which the first n are set to 0, and the others left as they are.
--
-- Example: `cleared 2` of the registers 7 8 9 is 0 0 9, and `cleared 5` of them is 0 0 0.
use Rattle.std.specs.Prelude.{ℕ, zero, suc, List, [], ◌∷◌, ℤ, pos}

unfoldable pub cleared : ℕ → List ℤ → List ℤ
cleared zero rs = rs
cleared (suc n) [] = []
cleared (suc n) (r ∷ rs) = pos 0 ∷ cleared n rs
