-- The laws of banks: what the definitions in Words and Cleared come to. They are proved, since the contract of `bank_laws_stand`
-- is made of them.
--
-- In reading order: which bytes a register lies in, which number four bytes are, that each number is some four bytes, what a
-- write changes, that the registers and the bytes left over tell every byte, and which registers a reset leaves.
--
-- Example: by `SignedNumbers` the bytes 255 255 255 254, which are 2^32 - 2 without a sign, are 2^32 less, and that is -2.
use Rattle.std.specs.Prelude.{◌≡◌, ℕ, ◌+◌, ◌*◌, ◌/◌, ◌^◌, ◌<◌, ◌≤◌, List, length, ℤ, pos, ◌-ℤ◌, FitsSigned, slice_index, slice_index_or, slice_set}
use Rattle.std.specs.Int.{w32}
use Rattle.banks.specs.Words.{unsigned, signed, words, left_over, written}
use Rattle.banks.specs.Cleared.{cleared}

-- four numbers that are bytes
abbrev pub Bytes : (a b c d : ℕ) → Type 0
Bytes a b c d = (a < 256) × (b < 256) × (c < 256) × (d < 256)

-- a list of bytes
abbrev pub AllBytes : List ℕ → Type 0
AllBytes bs = (i : ℕ) → slice_index bs i < 256

-- a number from -2^31 to 2^31 - 1
abbrev pub Register : ℤ → Type 0
Register z = FitsSigned w32 z

-- a register for each whole four bytes: register k lies in the four from 4 * k on
abbrev pub FourEach : Type 0
FourEach =
    (bs : List ℕ)
    → (length (words bs) ≡ length bs / 4)
    × ((k : ℕ) → k < length bs / 4 → slice_index_or (words bs) k (pos 0) ≡ signed (slice_index bs (4 * k)) (slice_index bs (4 * k + 1)) (slice_index bs (4 * k + 2)) (slice_index bs (4 * k + 3)))

-- two's complement: four bytes below 2^31 are that number, and the others are 2^32 less
abbrev pub SignedNumbers : Type 0
SignedNumbers =
    (a b c d : ℕ)
    → Bytes a b c d
    → Register (signed a b c d)
    × (unsigned a b c d < 2 ^ 31 → signed a b c d ≡ pos (unsigned a b c d))
    × (2 ^ 31 ≤ unsigned a b c d → signed a b c d ≡ pos (unsigned a b c d) -ℤ pos (2 ^ 32))

-- every number that a register can hold is some four bytes
abbrev pub EveryNumber : Type 0
EveryNumber = (z : ℤ) → Register z → (a : ℕ) × (b : ℕ) × (c : ℕ) × (d : ℕ) × Bytes a b c d × (signed a b c d ≡ z)

-- a write sets its register and no other, and keeps the bytes left over and the length
abbrev pub ReadBack : Type 0
ReadBack =
    (bs : List ℕ) (k : ℕ) (v : ℤ)
    → Register v
    → (words (written bs k v) ≡ slice_set (words bs) k v)
    × (left_over (written bs k v) ≡ left_over bs)
    × (length (written bs k v) ≡ length bs)

-- no two lists of bytes have the same registers and the same bytes left over
abbrev pub NothingElse : Type 0
NothingElse = (bs cs : List ℕ) → AllBytes bs → AllBytes cs → words bs ≡ words cs → left_over bs ≡ left_over cs → bs ≡ cs

-- a reset: as many registers as before, the first n of them 0, the others as they were
abbrev pub FirstZeros : Type 0
FirstZeros =
    (n : ℕ) (rs : List ℤ)
    → (length (cleared n rs) ≡ length rs)
    × ((k : ℕ) → k < n → slice_index_or (cleared n rs) k (pos 0) ≡ pos 0)
    × ((k : ℕ) → n ≤ k → slice_index_or (cleared n rs) k (pos 0) ≡ slice_index_or rs k (pos 0))
