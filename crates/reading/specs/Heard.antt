-- Names as the code keeps them, without where their bytes lie in memory.
use Rattle.std.specs.Prelude.{ℕ, List, map}
use Rattle.std.specs.Borrow.{Bor}

abbrev pub heard : List (Bor (List ℕ)) → List (List ℕ)
heard = map (λ r. r.now)
