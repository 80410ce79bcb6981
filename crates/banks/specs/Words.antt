-- Registers in bytes. A register is four bytes, the highest first, that hold a signed 32-bit number in two's complement. Up to
-- three bytes at the end belong to no register.
--
-- In reading order: four bytes as a number without a sign and with one, the registers of a list of bytes, the bytes left over,
-- and the bytes after a write.
--
-- Example: the six bytes 255 255 255 254 1 2 are one register, and two bytes left over. Without a sign the register is 2^32 - 2,
-- with its sign it is -2. Once 3 is written into it the bytes are 0 0 0 3 1 2, and a write into register 1 changes nothing.
use Rattle.std.specs.Prelude.{ℕ, ◌+◌, ◌*◌, ◌/◌, ◌%◌, ◌^◌, cond, List, map, length, drop, ℤ, nat_lt, slice_index, slice_set}
use Rattle.std.specs.Int.{cast_signed, cast_unsigned, w32}
use Rattle.std.specs.List.{range_with_len}

-- four bytes, the highest first, as a number without a sign
abbrev pub unsigned : (a b c d : ℕ) → ℕ
unsigned a b c d = a * 2 ^ 24 + b * 2 ^ 16 + c * 2 ^ 8 + d

-- the same with a sign: `cast_signed w32` reads 32 bits as two's complement
abbrev pub signed : (a b c d : ℕ) → ℤ
signed a b c d = cast_signed w32 (unsigned a b c d)

-- register k of the bytes: `slice_index bs i` is the byte at place i
unfoldable pub word_at : List ℕ → ℕ → ℤ
word_at bs k = signed (slice_index bs (4 * k)) (slice_index bs (4 * k + 1)) (slice_index bs (4 * k + 2)) (slice_index bs (4 * k + 3))

-- every register, in order: one for each whole four bytes
abbrev pub words : List ℕ → List ℤ
words bs = map (word_at bs) (range_with_len 0 (length bs / 4))

-- the bytes that belong to no register
abbrev pub left_over : List ℕ → List ℕ
left_over bs = drop (length bs / 4 * 4) bs

-- the bytes once v stands in the four from 4 * k on: `cast_unsigned w32 v` is the 32 bits of v, and `slice_set bs i b` puts b at place i
unfoldable pub put_word : List ℕ → ℕ → ℤ → List ℕ
put_word bs k v =
    let n : ℕ = cast_unsigned w32 v in
    slice_set (slice_set (slice_set (slice_set bs (4 * k) (n / 2 ^ 24 % 256)) (4 * k + 1) (n / 2 ^ 16 % 256)) (4 * k + 2) (n / 2 ^ 8 % 256)) (4 * k + 3) (n % 256)

-- the bytes after a write of v into register k: past the last register they are as they were
abbrev pub written : List ℕ → ℕ → ℤ → List ℕ
written bs k v = cond (nat_lt k (length (words bs))) (put_word bs k v) bs
