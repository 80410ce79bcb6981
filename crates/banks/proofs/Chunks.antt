-- Registers in bytes, four bytes at once: the chunk that holds a register, and the four bytes that are copied over it.
use Rattle.std.proofs.Common.{◌≡◌, ℕ, zero, suc, ◌+◌, ◌*◌, ◌/◌, ◌%◌, ◌^◌, ◌<◌, List, [], ◌∷◌, ◌++◌, length, get_or, take, drop, set, ℤ, Some, sym, refl, ap, ◌∙◌, arith, append_assoc, length-set, w32, of_z}
use borrow.Rule.Slice.PartMut.{put_mid}
use Rattle.std.specs.Int.{cast_signed, from_be_bytes, to_be_bytes}
use Rattle.std.specs.Simd.{first_chunks}
use Rattle.std.specs.List.{slice_get}
use Rattle.std.proofs.lemmas.List.{drop-drop, get_or-take, get_or-drop, drop-set-lt, take-append-drop}
use Rattle.std.proofs.lemmas.Grind.{take-set_at}
use Rattle.banks.specs.Words.{word_at, words, put_word, written}
use Rattle.banks.proofs.Registers.{length-words, words_nth, words_past, written_in, written_past, words-written, left_over_written}

-- four bytes in the place of those from i on
put_four : (bs : List ℕ) (i a b c d : ℕ) → i + 3 < length bs → put_mid i 4 bs (a ∷ b ∷ c ∷ d ∷ []) ≡ set (set (set (set bs i a) (i + 1) b) (i + 2) c) (i + 3) d
put_four bs i a b c d h =
    let s1 : List ℕ = set bs i a in
    let s2 : List ℕ = set s1 (i + 1) b in
    let s3 : List ℕ = set s2 (i + 2) c in
    let s4 : List ℕ = set s3 (i + 3) d in
    let l1 : length s1 ≡ length bs = simp length-set in
    let l2 : length s2 ≡ length bs = simp length-set in
    let l3 : length s3 ≡ length bs = simp length-set in
    let e1 : take (i + 1) s1 ≡ take i bs ++ a ∷ [] = take-set_at bs i (i + 1) a (omega arith) (omega arith) in
    let e2 : take (i + 2) s2 ≡ take (i + 1) s1 ++ b ∷ [] = take-set_at s1 (i + 1) (i + 2) b (omega arith) (omega arith) in
    let e3 : take (i + 3) s3 ≡ take (i + 2) s2 ++ c ∷ [] = take-set_at s2 (i + 2) (i + 3) c (omega arith) (omega arith) in
    let e4 : take (i + 4) s4 ≡ take (i + 3) s3 ++ d ∷ [] = take-set_at s3 (i + 3) (i + 4) d (omega arith) (omega arith) in
    let r : drop (i + 4) s4 ≡ drop (i + 4) bs =
    drop-set-lt (i + 4) s3 (i + 3) d (omega arith)
    ∙ drop-set-lt (i + 4) s2 (i + 2) c (omega arith)
    ∙ drop-set-lt (i + 4) s1 (i + 1) b (omega arith)
    ∙ drop-set-lt (i + 4) bs i a (omega arith)
    in
    let whole : put_mid i 4 bs (a ∷ b ∷ c ∷ d ∷ []) ≡ take (i + 4) s4 ++ drop (i + 4) s4 = rw (e4, e3, e2, e1, r) (simp append_assoc (ap (λ (zs : List ℕ). take i bs ++ (a ∷ b ∷ c ∷ d ∷ zs)) (drop-drop 4 i bs))) in
    whole ∙ take-append-drop (i + 4) s4

-- chunk k: the four bytes from 4 * k on
chunk_at : (m : ℕ) (bs : List ℕ) (k : ℕ) (d : List ℕ) → k < m → get_or (first_chunks 4 m bs) k d ≡ take 4 (drop (4 * k) bs)
chunk_at zero bs k d h = absurd (omega arith)
chunk_at (suc m) bs zero d h = refl
chunk_at (suc m) bs (suc k) d h = chunk_at m (drop 4 bs) k d (omega arith) ∙ ap (λ (ys : List ℕ). take 4 ys) (drop-drop (4 * k) 4 bs) ∙ ap (λ (n : ℕ). take 4 (drop n bs)) (omega arith)

-- the number in it
word_of : (bs : List ℕ) (k : ℕ) → cast_signed w32 (from_be_bytes w32 (take 4 (drop (4 * k) bs))) ≡ word_at bs k
unfolding word_at
word_of bs k =
    let at : (j : ℕ) → j < 4 → get_or (take 4 (drop (4 * k) bs)) j 0 ≡ get_or bs (4 * k + j) 0 = λ j h. get_or-take 4 (drop (4 * k) bs) j 0 h ∙ get_or-drop (4 * k) bs j 0 in
    let e0 : get_or (take 4 (drop (4 * k) bs)) 0 0 ≡ get_or bs (4 * k) 0 = at 0 (omega arith) ∙ ap (λ (n : ℕ). get_or bs n 0) (omega arith) in
    ap (cast_signed w32) (omega (arith, e0, at 1 (omega arith), at 2 (omega arith), at 3 (omega arith)))

-- register k, read from its chunk
pub chunk_read : (bs : List ℕ) (k : ℕ) (ws : List ℕ) → k < length bs / 4 → ws ≡ get_or (first_chunks 4 (length bs / 4) bs) k ws → Some (cast_signed w32 (from_be_bytes w32 ws)) ≡ slice_get (words bs) k
chunk_read bs k ws h e =
    let f : ws ≡ take 4 (drop (4 * k) bs) = e ∙ chunk_at (length bs / 4) bs k ws h in
    rw f (ap Some (word_of bs k)) ∙ sym (words_nth bs k h)

-- register k, once the bytes of a number are copied over its own
pub chunk_written : (bs ws : List ℕ) (k n : ℕ) (v : ℤ) → k < length bs / 4 → n ≡ 4 → ws ≡ to_be_bytes w32 (of_z w32 v) → put_mid (4 * k) n bs ws ≡ written bs k v
unfolding put_word
chunk_written bs ws k n v h e f =
    let m : ℕ = of_z w32 v in
    rw (e, f) (put_four bs (4 * k) (m / 2 ^ 24 % 256) (m / 2 ^ 16 % 256) (m / 2 ^ 8 % 256) (m % 256) (omega arith)) ∙ sym (written_in bs k v h)

-- what the proofs of the code on bytes need
pub ruleset byte_registers = (length-words, words_past, written_past, words-written, left_over_written, chunk_read)
