-- The laws of registers in bytes.
use Rattle.std.proofs.Common.{◌≡◌, ℕ, zero, suc, ◌+◌, ◌-◌, ◌*◌, ◌/◌, ◌%◌, ◌^◌, ◌<◌, ◌≤◌, List, length, get_or, pos, negsuc, ◌-ℤ◌, sym, ap, ◌∙◌, subst, ⊎_elim, arith, length-drop, w32, to_z, of_z}
use borrow.Author.Tests.{le-false}
use mir.Facts.{Fits-of_z, sfits_to_z}
use mir.Val.{sel}
use Rattle.std.proofs.lemmas.List.{ext_get_or, get_or-drop}
use Rattle.std.proofs.lemmas.Nat.{from_be_bytes-to_be_bytes_4}
use Rattle.std.proofs.lemmas.Int.{ints, to_z-of_z, of_z-to_z, to_z_pos}
use Rattle.std.proofs.lemmas.Bool.{cases_lt}
use Rattle.banks.specs.Words.{unsigned, word_at}
use Rattle.banks.specs.Laws.{Bytes, AllBytes, FourEach, SignedNumbers, EveryNumber, ReadBack, NothingElse}
use Rattle.banks.proofs.Registers.{length-words, words-at, words-written, left_over_written, length-written}

pub four_each : FourEach
unfolding word_at
four_each bs = (length-words bs, λ k h. words-at bs k h)

below : (a b c d : ℕ) → Bytes a b c d → unsigned a b c d < 2 ^ 32
below a b c d h = omega arith

high : (n : ℕ) → 2 ^ 31 ≤ n → n < 2 ^ 32 → to_z w32 n ≡ pos n -ℤ pos (2 ^ 32)
high n l h = subst (λ b. sel b (pos n) (negsuc (2 ^ 32 - suc n)) ≡ pos n -ℤ pos (2 ^ 32)) (le-false n (2 ^ 31) l) (omega (arith, ints))

pub signed_numbers : SignedNumbers
signed_numbers a b c d h =
    let n : ℕ = unsigned a b c d in
    let top : n < 2 ^ 32 = below a b c d h in
    (sfits_to_z (record { fits = top }), λ l. to_z_pos w32 n l, λ l. high n l top)

pub every_number : EveryNumber
every_number z f =
    let n : ℕ = of_z w32 z in
    (n / 2 ^ 24 % 256, n / 2 ^ 16 % 256, n / 2 ^ 8 % 256, n % 256, (omega arith, omega arith, omega arith, omega arith), ap (to_z w32) (from_be_bytes-to_be_bytes_4 n (Fits-of_z f).fits) ∙ to_z-of_z w32 z f)

pub read_back : ReadBack
read_back bs k v f = (words-written bs k v f, left_over_written bs k v, length-written bs k v)

-- four bytes of which the number is known
four : (a b c d e f g h : ℕ) → Bytes a b c d → Bytes e f g h → unsigned a b c d ≡ unsigned e f g h → (a ≡ e) × (b ≡ f) × (c ≡ g) × (d ≡ h)
four a b c d e f g h p q s = (omega arith, omega arith, omega arith, omega arith)

-- one of four places
place : (F : ℕ → Type 0) (i r : ℕ) → r < 4 → F i → F (i + 1) → F (i + 2) → F (i + 3) → F (i + r)
place F i zero h a b c d = subst F (omega arith) a
place F i (suc zero) h a b c d = b
place F i (suc (suc zero)) h a b c d = c
place F i (suc (suc (suc zero))) h a b c d = d
place F i (suc (suc (suc (suc r)))) h a b c d = absurd (omega arith)

-- a register tells its four bytes
four_at : (bs cs : List ℕ) (k : ℕ) → AllBytes bs → AllBytes cs → word_at bs k ≡ word_at cs k → (r : ℕ) → r < 4 → get_or bs (4 * k + r) 0 ≡ get_or cs (4 * k + r) 0
unfolding word_at
four_at bs cs k p q e r h =
    let u : List ℕ → ℕ = λ xs. unsigned (get_or xs (4 * k) 0) (get_or xs (4 * k + 1) 0) (get_or xs (4 * k + 2) 0) (get_or xs (4 * k + 3) 0) in
    let P : Bytes (get_or bs (4 * k) 0) (get_or bs (4 * k + 1) 0) (get_or bs (4 * k + 2) 0) (get_or bs (4 * k + 3) 0) = (p _, p _, p _, p _) in
    let Q : Bytes (get_or cs (4 * k) 0) (get_or cs (4 * k + 1) 0) (get_or cs (4 * k + 2) 0) (get_or cs (4 * k + 3) 0) = (q _, q _, q _, q _) in
    let s : u bs ≡ u cs = sym (of_z-to_z w32 (u bs) (below _ _ _ _ P)) ∙ ap (of_z w32) e ∙ of_z-to_z w32 (u cs) (below _ _ _ _ Q) in
    let f = four _ _ _ _ _ _ _ _ P Q s in
    place (λ j. get_or bs j 0 ≡ get_or cs j 0) (4 * k) r h f.0 f.1 f.2 f.3

pub nothing_else : NothingElse
nothing_else bs cs p q same rest =
    let count : length bs / 4 ≡ length cs / 4 = sym (length-words bs) ∙ ap length same ∙ length-words cs in
    let over : length bs - length bs / 4 * 4 ≡ length cs - length cs / 4 * 4 = sym (length-drop (length bs / 4 * 4) bs) ∙ ap length rest ∙ length-drop (length cs / 4 * 4) cs in
    ext_get_or 0 bs cs (omega arith)
    (λ i l.
    ⊎_elim
    (λ (h : i / 4 < length bs / 4).
    let k : ℕ = i / 4 in
    let there : k < length cs / 4 = omega arith in
    let e : word_at bs k ≡ word_at cs k = sym (words-at bs k h) ∙ ap (λ ws. get_or ws k (pos 0)) same ∙ words-at cs k there in
    let at : 4 * k + i % 4 ≡ i = omega arith in
    subst (λ j. get_or bs j 0 ≡ get_or cs j 0) at (four_at bs cs k p q e (i % 4) (omega arith)))
    (λ (h : length bs / 4 ≤ i / 4).
    let n : ℕ = length bs / 4 * 4 in
    let m : ℕ = length cs / 4 * 4 in
    let at : n + (i - n) ≡ i = omega arith in
    let at2 : m + (i - n) ≡ i = omega arith in
    subst (λ j. get_or bs j 0 ≡ get_or cs i 0) at
    (sym (get_or-drop n bs (i - n) 0) ∙ ap (λ xs. get_or xs (i - n) 0) rest ∙ get_or-drop m cs (i - n) 0 ∙ ap (λ j. get_or cs j 0) at2))
    (cases_lt (i / 4) (length bs / 4)))
