-- Registers in bytes: reading one, and writing one.
use Rattle.std.proofs.Common.{◌≡◌, ℕ, ◌+◌, ◌*◌, ◌/◌, ◌%◌, ◌^◌, ◌<◌, ◌≤◌, true, false, cond, ltb, ◌≢◌, ◌⊎◌, List, length, get_or, drop, set, ℤ, pos, Some, None, sym, refl, ap, ◌∙◌, subst, ⊎_elim, arith, length-set, get_or-set_other, get_or-set_same, w32, SFits, to_z, of_z}
use borrow.Author.Tests.{lt-true, le-false}
use mir.Facts.{Fits-of_z}
use Rattle.std.specs.List.{slice_get}
use Rattle.std.proofs.lemmas.Nat.{from_be_bytes-to_be_bytes_4}
use Rattle.std.proofs.lemmas.List.FromFn.{length-map-range_with_len, get_or-map-range_with_len}
use Rattle.std.proofs.lemmas.List.{ext_get_or, set_past, drop-set-lt}
use Rattle.std.proofs.lemmas.Option.{slice_get-get_or, slice_get_past}
use Rattle.std.proofs.lemmas.Int.{to_z-of_z}
use Rattle.std.proofs.lemmas.Bool.{cases_eq, cases_lt}
use Rattle.banks.specs.Words.{word_at, words, left_over, put_word, written}

pub length-words : (bs : List ℕ) → length (words bs) ≡ length bs / 4
length-words bs = length-map-range_with_len (word_at bs) 0 (length bs / 4)

pub words-at : (bs : List ℕ) (k : ℕ) → k < length bs / 4 → get_or (words bs) k (pos 0) ≡ word_at bs k
words-at bs k h = get_or-map-range_with_len (word_at bs) 0 (length bs / 4) k k (pos 0) h (omega arith)

pub words_nth : (bs : List ℕ) (k : ℕ) → k < length bs / 4 → slice_get (words bs) k ≡ Some (word_at bs k)
words_nth bs k h = slice_get-get_or (words bs) k (pos 0) (subst (λ n. k < n) (sym (length-words bs)) h) ∙ ap Some (words-at bs k h)

pub words_past : (bs : List ℕ) (k : ℕ) → length bs / 4 ≤ k → slice_get (words bs) k ≡ None
words_past bs k h = slice_get_past (words bs) k (subst (λ n. n ≤ k) (sym (length-words bs)) h)

-- whether there is a register k
pub within : (bs : List ℕ) (k : ℕ) → k < length bs / 4 → true ≡ ltb k (length (words bs))
within bs k h = lt-true k (length (words bs)) (subst (λ n. k < n) (sym (length-words bs)) h)

pub past : (bs : List ℕ) (k : ℕ) → length bs / 4 ≤ k → false ≡ ltb k (length (words bs))
past bs k h = le-false k (length (words bs)) (subst (λ n. n ≤ k) (sym (length-words bs)) h)

pub length-put : (bs : List ℕ) (k : ℕ) (v : ℤ) → length (put_word bs k v) ≡ length bs
unfolding put_word
length-put bs k v = simp length-set

-- four bytes from the place i on
abbrev put4 : List ℕ → (i a b c d : ℕ) → List ℕ
put4 bs i a b c d = set (set (set (set bs i a) (i + 1) b) (i + 2) c) (i + 3) d

put4_0 : (bs : List ℕ) (i a b c d : ℕ) → i + 3 < length bs → get_or (put4 bs i a b c d) i 0 ≡ a
put4_0 bs i a b c d h = grind (arith, get_or-set_same, get_or-set_other)

put4_1 : (bs : List ℕ) (i a b c d : ℕ) → i + 3 < length bs → get_or (put4 bs i a b c d) (i + 1) 0 ≡ b
put4_1 bs i a b c d h = grind (arith, get_or-set_same, get_or-set_other, length-set)

put4_2 : (bs : List ℕ) (i a b c d : ℕ) → i + 3 < length bs → get_or (put4 bs i a b c d) (i + 2) 0 ≡ c
put4_2 bs i a b c d h = grind (arith, get_or-set_same, get_or-set_other, length-set)

put4_3 : (bs : List ℕ) (i a b c d : ℕ) → i + 3 < length bs → get_or (put4 bs i a b c d) (i + 3) 0 ≡ d
put4_3 bs i a b c d h = grind (arith, get_or-set_same, get_or-set_other, length-set)

put4_other : (bs : List ℕ) (i j a b c d : ℕ) → (j < i) ⊎ (i + 3 < j) → get_or (put4 bs i a b c d) j 0 ≡ get_or bs j 0
put4_other bs i j a b c d h = grind (arith, get_or-set_other)

-- the register that was written
put_same : (bs : List ℕ) (k : ℕ) (v : ℤ) → k < length bs / 4 → SFits w32 v → word_at (put_word bs k v) k ≡ v
unfolding put_word word_at
put_same bs k v h f =
    let n = of_z w32 v in
    let l : 4 * k + 3 < length bs = omega arith in
    let top : n < 2 ^ 32 = (Fits-of_z f).fits in
    let p0 : get_or (put_word bs k v) (4 * k) 0 ≡ n / 2 ^ 24 % 256 = put4_0 bs (4 * k) _ _ _ _ l in
    let p1 : get_or (put_word bs k v) (4 * k + 1) 0 ≡ n / 2 ^ 16 % 256 = put4_1 bs (4 * k) _ _ _ _ l in
    let p2 : get_or (put_word bs k v) (4 * k + 2) 0 ≡ n / 256 % 256 = put4_2 bs (4 * k) _ _ _ _ l in
    let p3 : get_or (put_word bs k v) (4 * k + 3) 0 ≡ n % 256 = put4_3 bs (4 * k) _ _ _ _ l in
    ap (to_z w32) (omega (arith, from_be_bytes-to_be_bytes_4 n top)) ∙ to_z-of_z w32 v f

-- another register
put_other : (bs : List ℕ) (k j : ℕ) (v : ℤ) → j ≢ k → word_at (put_word bs k v) j ≡ word_at bs j
unfolding put_word word_at
put_other bs k j v ne =
    let far : (p : ℕ) → 4 * j ≤ p → p < 4 * j + 4 → get_or (put_word bs k v) p 0 ≡ get_or bs p 0 =
    λ p lo hi. put4_other bs (4 * k) p _ _ _ _ (grind arith)
    in
    let q0 = far (4 * j) (omega arith) (omega arith) in
    let q1 = far (4 * j + 1) (omega arith) (omega arith) in
    let q2 = far (4 * j + 2) (omega arith) (omega arith) in
    let q3 = far (4 * j + 3) (omega arith) (omega arith) in
    ap (to_z w32) (omega arith)

pub words-put : (bs : List ℕ) (k : ℕ) (v : ℤ) → k < length bs / 4 → SFits w32 v → words (put_word bs k v) ≡ set (words bs) k v
words-put bs k v h f =
    let after = put_word bs k v in
    let same : length after ≡ length bs = length-put bs k v in
    let wide : length (words after) ≡ length bs / 4 = length-words after ∙ ap (λ n. n / 4) same in
    let at : (j : ℕ) → j < length (words after) → get_or (words after) j (pos 0) ≡ get_or (set (words bs) k v) j (pos 0) =
    λ j l.
    let lb : j < length bs / 4 = omega arith in
    let la : j < length after / 4 = omega arith in
    let wb : length (words bs) ≡ length bs / 4 = length-words bs in
    words-at after j la
    ∙ ⊎_elim
    (λ (e : j ≡ k). let lk : k < length (words bs) = omega arith in rw e (put_same bs k v h f ∙ sym (get_or-set_same (words bs) k v (pos 0) lk)))
    (λ (ne : j ≢ k). put_other bs k j v ne ∙ sym (words-at bs j lb) ∙ sym (get_or-set_other (words bs) k j v (pos 0) ne))
    (cases_eq j k)
    in
    ext_get_or (pos 0) (words after) (set (words bs) k v) (wide ∙ sym (length-set (words bs) k v ∙ length-words bs)) at

-- a write leaves the bytes that belong to no register
pub left_over_put : (bs : List ℕ) (k : ℕ) (v : ℤ) → k < length bs / 4 → left_over (put_word bs k v) ≡ left_over bs
unfolding put_word
left_over_put bs k v h =
    let n = length bs / 4 * 4 in
    let l0 : 4 * k < n = omega arith in
    let l1 : 4 * k + 1 < n = omega arith in
    let l2 : 4 * k + 2 < n = omega arith in
    let l3 : 4 * k + 3 < n = omega arith in
    ap (λ m. drop (m / 4 * 4) (put_word bs k v)) (length-put bs k v)
    ∙ drop-set-lt n _ (4 * k + 3) _ l3
    ∙ drop-set-lt n _ (4 * k + 2) _ l2
    ∙ drop-set-lt n _ (4 * k + 1) _ l1
    ∙ drop-set-lt n bs (4 * k) _ l0

-- a write into a register that is there
pub written_in : (bs : List ℕ) (k : ℕ) (v : ℤ) → k < length bs / 4 → written bs k v ≡ put_word bs k v
written_in bs k v h = subst (λ b. cond b (put_word bs k v) bs ≡ put_word bs k v) (within bs k h) refl

-- a write past the last register
pub written_past : (bs : List ℕ) (k : ℕ) (v : ℤ) → length bs / 4 ≤ k → written bs k v ≡ bs
written_past bs k v h = subst (λ b. cond b (put_word bs k v) bs ≡ bs) (past bs k h) refl

-- what a write leaves
pub words-written : (bs : List ℕ) (k : ℕ) (v : ℤ) → SFits w32 v → words (written bs k v) ≡ set (words bs) k v
words-written bs k v f =
    ⊎_elim
    (λ (h : k < length bs / 4). ap words (written_in bs k v h) ∙ words-put bs k v h f)
    (λ (h : length bs / 4 ≤ k). ap words (written_past bs k v h) ∙ sym (set_past (words bs) k v (subst (λ n. n ≤ k) (sym (length-words bs)) h)))
    (cases_lt k (length bs / 4))

pub left_over_written : (bs : List ℕ) (k : ℕ) (v : ℤ) → left_over (written bs k v) ≡ left_over bs
left_over_written bs k v =
    ⊎_elim
    (λ (h : k < length bs / 4). ap left_over (written_in bs k v h) ∙ left_over_put bs k v h)
    (λ (h : length bs / 4 ≤ k). ap left_over (written_past bs k v h))
    (cases_lt k (length bs / 4))

pub length-written : (bs : List ℕ) (k : ℕ) (v : ℤ) → length (written bs k v) ≡ length bs
length-written bs k v =
    ⊎_elim
    (λ (h : k < length bs / 4). ap length (written_in bs k v h) ∙ length-put bs k v)
    (λ (h : length bs / 4 ≤ k). ap length (written_past bs k v h))
    (cases_lt k (length bs / 4))
