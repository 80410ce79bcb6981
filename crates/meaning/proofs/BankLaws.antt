-- What a register of a bank reads as: the laws by which all else goes, so that nothing but this page looks into `register`.
use Rattle.std.proofs.Common.{◌≡◌, ℕ, zero, suc, ◌<◌, List, [], ◌∷◌, length, set, ℤ, pos, refl, arith, w32, SFits}
use Rattle.std.proofs.lemmas.List.{get_or-set_same, get_or-set_other}
use Rattle.banks.specs.Cleared.{cleared}
use Rattle.meaning.specs.Machine.{register}
use Rattle.meaning.specs.RunLaws.{AllValues}

-- a register that was written, and the others
pub register_set : (bank : List ℤ) (k : ℕ) (v : ℤ) → k < length bank → register (set bank k v) k ≡ v
unfolding register
register_set bank k v h = get_or-set_same bank k v (pos 0) h

pub register_other : (bank : List ℤ) (k i : ℕ) (v : ℤ) → (i ≡ k → ⊥) → register (set bank k v) i ≡ register bank i
unfolding register
register_other bank k i v h = get_or-set_other bank k i v (pos 0) h

-- `open` clears the variables' registers
pub register_cleared : (n : ℕ) (bank : List ℤ) (i : ℕ) → i < n → register (cleared n bank) i ≡ pos 0
unfolding cleared register
register_cleared zero bank i h = absurd (omega arith)
register_cleared (suc n) [] i h = refl
register_cleared (suc n) (v ∷ bank) zero h = refl
register_cleared (suc n) (v ∷ bank) (suc i) h = register_cleared n bank i (omega arith)

-- values of 32 bits stay so
pub values_set : (bank : List ℤ) (k : ℕ) (v : ℤ) → AllValues bank → SFits w32 v → AllValues (set bank k v)
unfolding register
values_set [] k v h f i = h i
values_set (y ∷ bank) zero v h f zero = f
values_set (y ∷ bank) zero v h f (suc i) = h (suc i)
values_set (y ∷ bank) (suc k) v h f zero = h zero
values_set (y ∷ bank) (suc k) v h f (suc i) = values_set bank k v (λ m. h (suc m)) f i

pub values_cleared : (n : ℕ) (bank : List ℤ) → AllValues bank → AllValues (cleared n bank)
unfolding cleared register
values_cleared zero bank h i = h i
values_cleared (suc n) [] h i = h i
values_cleared (suc n) (y ∷ bank) h zero = record { sfits = omega arith }
values_cleared (suc n) (y ∷ bank) h (suc i) = values_cleared n bank (λ m. h (suc m)) i
