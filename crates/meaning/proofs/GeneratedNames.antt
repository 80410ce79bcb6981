-- The names of a rewritten script: all are legal, and no two are the same.
--
-- Own names differ from each other since the script is well-formed. They do not begin with `_`, and generated names do. Two generated names
-- differ in their letter or in their number, and numbers that differ are written differently.
use Rattle.std.proofs.Common.{◌≡◌, ℕ, zero, suc, ◌+◌, ◌-◌, ◌<◌, ◌≤◌, Bool, true, false, not, ◌&&◌, ltb, leb, List, [], ◌∷◌, ◌++◌, length, get_or, take, replicate, decimal, sym, refl, ap, ◌∙◌, arith, length-append}
use lib.Dec.{leb-suc-suc}
use Rattle.std.specs.Char.{is_ascii_digit}
use Rattle.std.specs.Str.{bytes_eq, all_ascii_digits}
use Rattle.std.proofs.lemmas.Fmt.{digits_decimal, length-decimal-le, decimal_injective}
use Rattle.std.proofs.lemmas.Slice.Eq.{bytes_eq-Decides}
use Rattle.std.proofs.lemmas.Str.Parse.{numerals_by_value, tells_all_ascii_digits}
use Rattle.std.proofs.lemmas.Bool.{and_from, and_parts, or_right, or_from, or_parts, not-true, not_from_false, le-leb, ltb-true, eqb-false, lt-ltb, le-ltb}
use Rattle.syntax.specs.declared.form.Name.{Name}
use Rattle.syntax.specs.declared.form.Declaration.{Declaration}
use Rattle.syntax.specs.Names.{padded, spelled, legal_name, legal_declaration, all_legal, spellings, among, distinct, well_declared}
use Rattle.meaning.specs.Rewriting.{is_reserved, none_reserved, generated, generated_from}
use Rattle.meaning.specs.Runs.{enterable_at}

-- the name `_`, a letter and digits
abbrev named : ℕ → List ℕ → Name
named letter ds = record { length = 2 + length ds; bytes = 95 ∷ letter ∷ (ds ++ replicate (13 - length ds) 0) }

-- whether a byte may stand in a name
abbrev in_name : ℕ → Bool
in_name c = padded 1 (c ∷ [])

digit_in_name : (c : ℕ) → is_ascii_digit c ≡ true → in_name c ≡ true
digit_in_name c h = and_from _ true (or_right _ _ h) refl

more_in_name : (c n : ℕ) (bs : List ℕ) → in_name c ≡ true → padded n bs ≡ true → padded (suc n) (c ∷ bs) ≡ true
more_in_name c n bs p q = and_from _ _ (and_parts _ _ p).0 q

legal_named : (letter : ℕ) → in_name letter ≡ true → (ds : List ℕ) → all_ascii_digits ds ≡ true → length ds ≤ 2 → legal_name (named letter ds) ≡ true
legal_named letter w [] h k = and_from _ true (more_in_name letter 0 (replicate 13 0) w refl) refl
legal_named letter w (a ∷ []) h k =
    let p = and_parts (is_ascii_digit a) _ h in
    and_from _ true (more_in_name letter 1 (a ∷ replicate 12 0) w (more_in_name a 0 (replicate 12 0) (digit_in_name a p.0) refl)) refl
legal_named letter w (a ∷ b ∷ []) h k =
    let p = and_parts (is_ascii_digit a) _ h in
    let q = and_parts (is_ascii_digit b) _ p.1 in
    let after-a = more_in_name b 0 (replicate 11 0) (digit_in_name b q.0) refl in
    and_from _ true (more_in_name letter 2 (a ∷ b ∷ replicate 11 0) w (more_in_name a 1 (b ∷ replicate 11 0) (digit_in_name a p.0) after-a)) refl
legal_named letter w (a ∷ b ∷ c ∷ ds) h k = absurd (omega arith)

spelled-named : (letter : ℕ) (ds : List ℕ) → length ds ≤ 2 → spelled (named letter ds) ≡ 95 ∷ letter ∷ ds
spelled-named letter [] k = refl
spelled-named letter (a ∷ []) k = refl
spelled-named letter (a ∷ b ∷ []) k = refl
spelled-named letter (a ∷ b ∷ c ∷ ds) k = absurd (omega arith)

-- numbers below 100 are written in at most 2 digits
short : (k : ℕ) → k < 100 → length (decimal k) ≤ 2
short k h = length-decimal-le 2 k (omega arith) (omega arith) (omega arith)

spelled-generated : (letter k : ℕ) → k < 100 → spelled (generated letter k).name ≡ 95 ∷ letter ∷ decimal k
spelled-generated letter k h = spelled-named letter (decimal k) (short k h)

legal_generated : (letter k : ℕ) → in_name letter ≡ true → k < 100 → legal_declaration (generated letter k) ≡ true
legal_generated letter k w h = and_from _ true (legal_named letter w (decimal k) (digits_decimal (numerals_by_value _ tells_all_ascii_digits) k (omega arith)) (short k h)) refl

pub all_legal_generated : (letter k n : ℕ) → in_name letter ≡ true → k + n ≤ 100 → all_legal (generated_from letter k n) ≡ true
all_legal_generated letter k zero w h = refl
all_legal_generated letter k (suc n) w h = and_from _ _ (legal_generated letter k w (omega arith)) (all_legal_generated letter (suc k) n w (omega arith))

-- lists one behind the other

pub all_legal_append : (xs ys : List Declaration) → all_legal xs ≡ true → all_legal ys ≡ true → all_legal (xs ++ ys) ≡ true
all_legal_append [] ys p q = q
all_legal_append (x ∷ xs) ys p q = let r = and_parts (legal_declaration x) _ p in and_from _ _ r.0 (all_legal_append xs ys r.1 q)

-- a word is none of the names of a list, and no name of one list is one of another
abbrev Absent : List ℕ → List Declaration → Type 0
Absent w ds = among w (spellings ds) ≡ false

abbrev Apart : List Declaration → List Declaration → Type 0
Apart [] ys = Unit {0}
Apart (x ∷ xs) ys = Absent (spelled x.name) ys × Apart xs ys

absent_append : (w : List ℕ) (xs ys : List Declaration) → Absent w xs → Absent w ys → Absent w (xs ++ ys)
absent_append w [] ys p q = q
absent_append w (x ∷ xs) ys p q = let r = or_parts (bytes_eq w (spelled x.name)) _ p in or_from _ _ r.0 (absent_append w xs ys r.1 q)

apart_append : (xs ys zs : List Declaration) → Apart xs ys → Apart xs zs → Apart xs (ys ++ zs)
apart_append [] ys zs p q = tt
apart_append (x ∷ xs) ys zs p q = (absent_append (spelled x.name) ys zs p.0 q.0, apart_append xs ys zs p.1 q.1)

distinct_append : (xs ys : List Declaration) → distinct (spellings xs) ≡ true → distinct (spellings ys) ≡ true → Apart xs ys → distinct (spellings (xs ++ ys)) ≡ true
distinct_append [] ys p q a = q
distinct_append (x ∷ xs) ys p q a =
    let r = and_parts (not (among (spelled x.name) (spellings xs))) _ p in
    let w = spelled x.name in
    and_from _ _ (not_from_false _ (absent_append w xs ys (not-true _ r.0) a.0)) (distinct_append xs ys r.1 q a.1)

-- words that differ
differ : (w x : List ℕ) → (w ≡ x → ⊥) → bytes_eq w x ≡ false
differ w x h = by (bytes_eq w x) refl
  where
    by : (b : Bool) → bytes_eq w x ≡ b → b ≡ false
    by true e = absurd (h ((bytes_eq-Decides w x).0 e))
    by false e = refl

-- `_`, a letter and a number is no generated name of another letter, nor one of a greater number
absent_generated : (other m letter k n : ℕ) → m < 100 → k + n ≤ 100 → (other ≡ letter → m < k) → Absent (95 ∷ other ∷ decimal m) (generated_from letter k n)
absent_generated other m letter k zero p q less = refl
absent_generated other m letter k (suc n) p q less =
    or_from _ _ (differ _ _ (λ e. unlike (e ∙ spelled-generated letter k (omega arith)))) (absent_generated other m letter (suc k) n p (omega arith) (λ e. omega (arith, less e)))
  where
    unlike : 95 ∷ other ∷ decimal m ≡ 95 ∷ letter ∷ decimal k → ⊥
    unlike e =
        let same-letter : other ≡ letter = cc in
        let same_digits : decimal m ≡ decimal k = cc in
        let same : m ≡ k = decimal_injective m k (omega arith) (omega arith) same_digits in
        omega (arith, less same-letter)

distinct-generated : (letter k n : ℕ) → k + n ≤ 100 → distinct (spellings (generated_from letter k n)) ≡ true
distinct-generated letter k zero h = refl
distinct-generated letter k (suc n) h =
    and_from _ _ (not_from_false _ (rw (spelled-generated letter k (omega arith)) (absent_generated letter k letter (suc k) n (omega arith) (omega arith) (λ e. omega arith))))
    (distinct-generated letter (suc k) n (omega arith))

apart_generated : (one other k n k' n' : ℕ) → (one ≡ other → ⊥) → k + n ≤ 100 → k' + n' ≤ 100 → Apart (generated_from one k n) (generated_from other k' n')
apart_generated one other k zero k' n' u p q = tt
apart_generated one other k (suc n) k' n' u p q = (
  rw (spelled-generated one k (omega arith)) (absent_generated one k other k' n' (omega arith) q (λ e. absurd (u e))),
  apart_generated one other (suc k) n k' n' u (omega arith) q,
)

-- an own name does not begin with `_`

abbrev first : List ℕ → ℕ
first w = get_or w 0 0

first-spelled : (d : Name) → legal_name d ≡ true → first (spelled d) ≡ first d.bytes
first-spelled d h =
    let some = ltb-true _ _ (and_parts _ _ (and_parts _ _ h).1).0 in
    by d.length d.bytes some
  where
    by : (n : ℕ) (bs : List ℕ) → 0 < n → first (take n bs) ≡ first bs
    by zero bs h = absurd (omega arith)
    by (suc n) [] h = refl
    by (suc n) (b ∷ bs) h = refl

absent_own : (w : List ℕ) (letter k n : ℕ) → (first w ≡ 95 → ⊥) → k + n ≤ 100 → Absent w (generated_from letter k n)
absent_own w letter k zero u h = refl
absent_own w letter k (suc n) u h =
    or_from _ _ (differ _ _ (λ e. u (ap first (e ∙ spelled-generated letter k (omega arith))))) (absent_own w letter (suc k) n u (omega arith))

apart_own : (ds : List Declaration) (letter k n : ℕ) → all_legal ds ≡ true → none_reserved ds ≡ true → k + n ≤ 100 → Apart ds (generated_from letter k n)
apart_own [] letter k n p q h = tt
apart_own (d ∷ ds) letter k n p q h =
    let r = and_parts (legal_declaration d) _ p in
    let l = and_parts (legal_name d.name) _ r.0 in
    let u = and_parts (not (is_reserved d.name)) _ q in
    (absent_own _ letter k n (λ e. eqb-false _ _ (not-true _ u.0) (sym (first-spelled d.name l.0) ∙ e)) h, apart_own ds letter k n r.1 u.1 h)

-- all declarations of a rewritten script

pub length-generated : (letter k n : ℕ) → length (generated_from letter k n) ≡ n
length-generated letter k zero = refl
length-generated letter k (suc n) = ap suc (length-generated letter (suc k) n)

abbrev extended : List Declaration → ℕ → ℕ → List Declaration
extended ds v n = ds ++ (generated_from 115 0 v ++ (generated_from 116 0 v ++ generated_from 103 1 n))

pub length-extended : (ds : List Declaration) (v n : ℕ) → length (extended ds v n) ≡ length ds + v + v + n
length-extended ds v n = simp (length-append, length-generated) (omega arith)

pub well_declared_lem : (ds : List Declaration) (v n : ℕ) → well_declared ds ≡ true → none_reserved ds ≡ true → length ds ≤ 64 → v ≤ 64 → n ≤ 16
    → well_declared (extended ds v n) ≡ true
well_declared_lem ds v n w r few v-few n-few =
    let own = and_parts (all_legal ds) (distinct (spellings ds)) (and_parts (leb (length ds) 256) (all_legal ds && distinct (spellings ds)) w).1 in
    let levels = generated_from 115 0 v in
    let marks = generated_from 116 0 v in
    let guards = generated_from 103 1 n in
    let later-legal = all_legal_append marks guards (all_legal_generated 116 0 v refl (omega arith)) (all_legal_generated 103 1 n refl (omega arith)) in
    let later = distinct_append marks guards (distinct-generated 116 0 v (omega arith)) (distinct-generated 103 1 n (omega arith))
    (apart_generated 116 103 0 v 1 n (λ e. omega arith) (omega arith) (omega arith)) in
    let from-levels = apart_append levels marks guards (apart_generated 115 116 0 v 0 v (λ e. omega arith) (omega arith) (omega arith))
    (apart_generated 115 103 0 v 1 n (λ e. omega arith) (omega arith) (omega arith)) in
    let from-own = apart_append ds levels (marks ++ guards) (apart_own ds 115 0 v own.0 r (omega arith))
    (apart_append ds marks guards (apart_own ds 116 0 v own.0 r (omega arith)) (apart_own ds 103 1 n own.0 r (omega arith))) in
    and_from _ _ (le-leb _ _ (omega (arith, length-extended ds v n)))
    (and_from _ _ (all_legal_append ds (levels ++ (marks ++ guards)) own.0 (all_legal_append levels (marks ++ guards) (all_legal_generated 115 0 v refl (omega arith)) later-legal))
    (distinct_append ds (levels ++ (marks ++ guards)) own.1 (distinct_append levels (marks ++ guards) (distinct-generated 115 0 v (omega arith)) later from-levels) from-own))

-- figures may be entered into own variables alone

abbrev NoneEnterable : List Declaration → Type 0
NoneEnterable ds = (K : ℕ) → enterable_at ds K ≡ false

none_enterable : (letter k n : ℕ) → NoneEnterable (generated_from letter k n)
none_enterable letter k zero K = refl
none_enterable letter k (suc n) zero = refl
none_enterable letter k (suc n) (suc K) = none_enterable letter (suc k) n K

none_enterable_append : (xs ys : List Declaration) → NoneEnterable xs → NoneEnterable ys → NoneEnterable (xs ++ ys)
none_enterable_append [] ys p q K = q K
none_enterable_append (x ∷ xs) ys p q zero = p zero
none_enterable_append (x ∷ xs) ys p q (suc K) = none_enterable_append xs ys (λ K. p (suc K)) q K

own_enterable : (ds ys : List Declaration) → none_reserved ds ≡ true → NoneEnterable ys → (K : ℕ) → enterable_at (ds ++ ys) K ≡ ltb K (length ds)
own_enterable [] ys r none K = none K ∙ sym (le-ltb K 0 (omega arith))
own_enterable (d ∷ ds) ys r none zero = (and_parts _ _ r).0 ∙ sym (lt-ltb 0 _ (omega arith))
own_enterable (d ∷ ds) ys r none (suc K) = own_enterable ds ys (and_parts _ _ r).1 none K ∙ sym (leb-suc-suc (suc K) (length ds))

pub enterable-extended : (ds : List Declaration) (v n : ℕ) → none_reserved ds ≡ true → (K : ℕ) → enterable_at (extended ds v n) K ≡ ltb K (length ds)
enterable-extended ds v n r =
    own_enterable ds _ r
    (none_enterable_append (generated_from 115 0 v) _ (none_enterable 115 0 v)
    (none_enterable_append (generated_from 116 0 v) (generated_from 103 1 n) (none_enterable 116 0 v) (none_enterable 103 1 n)))
