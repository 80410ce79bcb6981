-- A list laid over another from a place on, as far as it fits.
--
-- This is what writing into a list of fixed length does when a write past the end is dropped: the length stays, what was there
-- before the place stays, and what does not fit is lost. `Laid` also counts the places, whether they fit or not, so that a
-- writer can go on and tell in the end that the list was too short.
--
-- Example: `8 ∷ 9 ∷ []` laid over `1 ∷ 2 ∷ 3 ∷ []` from place 1 on gives `1 ∷ 8 ∷ 9 ∷ []`, and the place behind it is 3. Laid from place 2
-- on it gives `1 ∷ 2 ∷ 8 ∷ []`, and the place behind it is 4, past the end.
use Rattle.std.specs.Prelude.{◌≡◌, ℕ, zero, suc, ◌+◌, List, [], ◌∷◌, length}

abbrev pub overlay : {A : Type 0} → List A → ℕ → List A → List A
overlay [] i ys = []
overlay (x ∷ xs) zero [] = x ∷ xs
overlay (x ∷ xs) zero (y ∷ ys) = y ∷ overlay xs zero ys
overlay (x ∷ xs) (suc i) ys = x ∷ overlay xs i ys

-- us is laid over xs from i on, which gives ys, and j is the place behind it
pub record Laid {A : Type 0} (xs : List A) (i : ℕ) (us : List A) (ys : List A) (j : ℕ) : Type 0 where
  pub gives : ys ≡ overlay xs i us
  pub behind : j ≡ i + length us
