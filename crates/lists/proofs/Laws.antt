-- Laws of `overlay` and of `Laid`.
--
-- For what writes a list piece by piece: `laid_none` begins, `laid_one` is one write, `laid_more` puts one run behind another,
-- `laid_slot` fills a place that was left free in front of a run, and `laid_as` renames the list that was laid.
-- `laid-whole` and `blank-behind` say what a list holds in the end.
use Rattle.std.proofs.Common.{◌≡◌, ℕ, zero, suc, ◌+◌, ◌-◌, ◌<◌, ◌≤◌, List, [], ◌∷◌, ◌++◌, length, take, drop, set, replicate, sym, refl, ap, ◌∙◌, add-zero, add-suc, suc-add, add-one, arith, length-append}
use Rattle.std.proofs.lemmas.List.{length-replicate, replicate_more}
use Rattle.lists.specs.Overlay.{overlay, Laid}

pub length-overlay : {A : Type 0} (xs : List A) (i : ℕ) (ys : List A) → length (overlay xs i ys) ≡ length xs
length-overlay [] i ys = refl
length-overlay (x ∷ xs) zero [] = refl
length-overlay (x ∷ xs) zero (y ∷ ys) = ap suc (length-overlay xs zero ys)
length-overlay (x ∷ xs) (suc i) ys = ap suc (length-overlay xs i ys)

-- nothing laid over changes nothing
pub overlay_none : {A : Type 0} (xs : List A) (i : ℕ) → overlay xs i [] ≡ xs
overlay_none [] i = refl
overlay_none (x ∷ xs) zero = refl
overlay_none (x ∷ xs) (suc i) = ap (λ l. x ∷ l) (overlay_none xs i)

-- one write within is a `set`
pub overlay_one : {A : Type 0} (xs : List A) (i : ℕ) (y : A) → i < length xs → overlay xs i (y ∷ []) ≡ set xs i y
overlay_one [] i y h = absurd (omega arith)
overlay_one (x ∷ xs) zero y h = ap (λ l. y ∷ l) (overlay_none xs zero)
overlay_one (x ∷ xs) (suc i) y h = ap (λ l. x ∷ l) (overlay_one xs i y (omega arith))

-- a write past the end is dropped
pub overlay_past : {A : Type 0} (xs : List A) (i : ℕ) (ys : List A) → length xs ≤ i → overlay xs i ys ≡ xs
overlay_past [] i ys h = refl
overlay_past (x ∷ xs) zero ys h = absurd (omega arith)
overlay_past (x ∷ xs) (suc i) ys h = ap (λ l. x ∷ l) (overlay_past xs i ys (omega arith))

-- two runs, one behind the other, are one run
pub overlay-overlay : {A : Type 0} (xs : List A) (i : ℕ) (ys zs : List A) → overlay (overlay xs i ys) (i + length ys) zs ≡ overlay xs i (ys ++ zs)
overlay-overlay [] i ys zs = refl
overlay-overlay (x ∷ xs) zero [] zs = refl
overlay-overlay (x ∷ xs) zero (y ∷ ys) zs = rw add-suc (ap (λ l. y ∷ l) (overlay-overlay xs zero ys zs))
overlay-overlay (x ∷ xs) (suc i) ys zs = rw suc-add (ap (λ l. x ∷ l) (overlay-overlay xs i ys zs))

-- filling from a place on: before the first turn, after one more, and after the last
pub fill_none : {A : Type 0} (xs : List A) (from n : ℕ) (x : A) → n ≡ 0 → xs ≡ overlay xs from (replicate n x)
fill_none xs from zero x e = sym (overlay_none xs from)
fill_none xs from (suc n) x e = absurd (omega arith)

pub fill_more : {A : Type 0} (xs : List A) (from i : ℕ) (x : A) → from ≤ i → i < length xs → set (overlay xs from (replicate (i - from) x)) i x ≡ overlay xs from (replicate (i + 1 - from) x)
fill_more xs from i x h lt =
    let n = i - from in
    let ys = replicate n x in
    let within : i < length (overlay xs from ys) = omega (arith, length-overlay xs from ys) in
    let at : i ≡ from + length ys = omega (arith, length-replicate n x) in
    let more : n + 1 ≡ i + 1 - from = omega arith in
    sym (overlay_one (overlay xs from ys) i x within) ∙ ap (λ k. overlay (overlay xs from ys) k (x ∷ [])) at ∙ overlay-overlay xs from ys (x ∷ [])
    ∙ ap (overlay xs from) (replicate_more n x ∙ ap (λ k. replicate k x) more)

fill_front : {A : Type 0} (xs : List A) (x : A) → overlay xs 0 (replicate (length xs) x) ≡ replicate (length xs) x
fill_front [] x = refl
fill_front (y ∷ xs) x = ap (λ l. x ∷ l) (fill_front xs x)

pub fill-all : {A : Type 0} (xs : List A) (from n : ℕ) (x : A) → n ≡ length xs - from → overlay xs from (replicate n x) ≡ take from xs ++ replicate (length xs - from) x
fill-all xs from n x e = ap (λ k. overlay xs from (replicate k x)) e ∙ by xs from
  where
    by : (xs : List _) (from : ℕ) → overlay xs from (replicate (length xs - from) x) ≡ take from xs ++ replicate (length xs - from) x
    by xs zero = let z : length xs - 0 ≡ length xs = omega arith in rw z (fill_front xs x)
    by [] (suc from) = let z : 0 - suc from ≡ 0 = omega arith in rw z refl
    by (y ∷ xs) (suc from) = let z : suc (length xs) - suc from ≡ length xs - from = omega arith in rw z (ap (λ l. y ∷ l) (by xs from))

pub laid_none : {A : Type 0} (xs : List A) (i : ℕ) → Laid xs i [] xs i
laid_none xs i = record { gives = sym (overlay_none xs i); behind = sym (add-zero i) }

-- one write and then a count
pub laid_one : {A : Type 0} {xs ys : List A} {i : ℕ} {x : A} → ys ≡ overlay xs i (x ∷ []) → Laid xs i (x ∷ []) ys (i + 1)
laid_one e = record { gives = e; behind = refl }

pub laid_more : {A : Type 0} {xs ys zs us vs : List A} {i j k : ℕ} → Laid xs i us ys j → Laid ys j vs zs k → Laid xs i (us ++ vs) zs k
laid_more {xs = xs} {us = us} {vs = vs} {i = i} {j = j} p q = record {
  gives = q.gives ∙ ap (λ l. overlay l j vs) p.gives ∙ ap (λ n. overlay (overlay xs i us) n vs) p.behind ∙ overlay-overlay xs i us vs;
  behind = omega (arith, p.behind, q.behind, length-append us vs);
}

-- the same list under another name
pub laid_as : {A : Type 0} {xs ys us vs : List A} {i j : ℕ} → us ≡ vs → Laid xs i us ys j → Laid xs i vs ys j
laid_as {xs = xs} {i = i} e p = record { gives = p.gives ∙ ap (λ l. overlay xs i l) e; behind = p.behind ∙ ap (λ l. i + length l) e }

-- a slot that is filled after what stands behind it
overlay_slot : {A : Type 0} (xs : List A) (i : ℕ) (x : A) (us : List A) → overlay (overlay xs (suc i) us) i (x ∷ []) ≡ overlay xs i (x ∷ us)
overlay_slot [] i x us = refl
overlay_slot (y ∷ xs) zero x us = ap (λ l. x ∷ l) (overlay_none (overlay xs zero us) zero)
overlay_slot (y ∷ xs) (suc i) x us = ap (λ l. y ∷ l) (overlay_slot xs i x us)

pub laid_slot : {A : Type 0} {xs ys zs us : List A} {i j : ℕ} {x : A} → Laid xs (i + 1) us ys j → zs ≡ overlay ys i (x ∷ []) → Laid xs i (x ∷ us) zs j
laid_slot {xs = xs} {us = us} {i = i} {x = x} p e = record {
  gives = e ∙ ap (λ l. overlay l i (x ∷ [])) (p.gives ∙ ap (λ n. overlay xs n us) (add-one i)) ∙ overlay_slot xs i x us;
  behind = omega (arith, p.behind);
}

front : {A : Type 0} (xs us : List A) → length us ≤ length xs → overlay xs 0 us ≡ us ++ drop (length us) xs
front [] [] h = refl
front [] (u ∷ us) h = absurd (omega arith)
front (x ∷ xs) [] h = refl
front (x ∷ xs) (u ∷ us) h = ap (λ l. u ∷ l) (front xs us (omega arith))

-- a run from the front that fits, and what stands behind it
pub laid-whole : {A : Type 0} {xs ys us : List A} {j : ℕ} → Laid xs 0 us ys j → j ≤ length xs → ys ≡ us ++ drop j xs
laid-whole {xs = xs} {us = us} {j = j} p h =
    let e : length us ≡ j = omega (arith, p.behind) in
    p.gives ∙ front xs us (omega arith) ∙ ap (λ n. us ++ drop n xs) e

take_front : {A : Type 0} (us vs : List A) → take (length us) (us ++ vs) ≡ us
take_front [] vs = refl
take_front (u ∷ us) vs = ap (λ l. u ∷ l) (take_front us vs)

-- a run from the front that fits, and then blanks
pub blank-behind : {A : Type 0} {xs ys us : List A} {j : ℕ} (x : A) → Laid xs 0 us ys j → j ≤ length xs → take j ys ++ replicate (length ys - j) x ≡ us ++ replicate (length xs - length us) x
blank-behind {xs = xs} {ys = ys} {us = us} {j = j} x p h =
    let e : j ≡ length us = omega (arith, p.behind) in
    let n : length ys - j ≡ length xs - length us = omega (arith, e, ap length p.gives, length-overlay xs 0 us) in
    ap (λ l. take j l ++ replicate (length ys - j) x) (laid-whole p h) ∙ ap (λ l. l ++ replicate (length ys - j) x) (ap (λ k. take k (us ++ drop j xs)) e ∙ take_front us (drop j xs)) ∙ ap (λ k. us ++ replicate k x) n
