-- Laws of `Appended`: nothing, one byte, and one run behind another.
use Rattle.std.proofs.Common.{◌≡◌, ℕ, ◌+◌, ◌≤◌, min, List, [], ◌∷◌, ◌++◌, length, sym, ap, ◌∙◌, ⊎_elim, arith, length-append}
use Rattle.std.proofs.lemmas.Bool.{cases_lt}
use Rattle.lists.specs.Overlay.{overlay}
use Rattle.lists.proofs.Laws.{length-overlay, overlay_none, overlay_past, overlay-overlay}
use Rattle.spelling.specs.Buffers.{Appended}

pub appended_none : (xs : List ℕ) (i : ℕ) → i ≤ 18446744073709551615 → Appended xs i [] xs i
appended_none xs i h = record { gives = sym (overlay_none xs i); behind = omega arith }

pub appended_one : {xs ys : List ℕ} {i j x : ℕ} → ys ≡ overlay xs i (x ∷ []) → j ≡ min (i + 1) 18446744073709551615 → Appended xs i (x ∷ []) ys j
appended_one e c = record { gives = e; behind = c }

-- a count that has stopped is past the end of every buffer
stopped : (xs us : List ℕ) (n : ℕ) → length xs ≤ 18446744073709551615 → overlay xs (min n 18446744073709551615) us ≡ overlay xs n us
stopped xs us n h = ⊎_elim
    (λ lt. let e : min n 18446744073709551615 ≡ n = omega arith in ap (λ k. overlay xs k us) e)
    (λ le. overlay_past xs (min n 18446744073709551615) us (omega arith) ∙ sym (overlay_past xs n us (omega arith)))
    (cases_lt n 18446744073709551615)

pub appended_more : {xs ys zs us vs : List ℕ} {i j k : ℕ} → length xs ≤ 18446744073709551615 → Appended xs i us ys j → Appended ys j vs zs k → Appended xs i (us ++ vs) zs k
appended_more {xs = xs} {us = us} {vs = vs} {i = i} {j = j} h p q =
    let long = length-overlay xs i us in
    record {
      gives = q.gives ∙ ap (λ l. overlay l j vs) p.gives ∙ ap (λ n. overlay (overlay xs i us) n vs) p.behind
          ∙ stopped (overlay xs i us) vs (i + length us) (omega arith) ∙ overlay-overlay xs i us vs;
      behind = omega (arith, p.behind, q.behind, length-append us vs);
    }

-- the same bytes under another name
pub appended_as : {xs ys us vs : List ℕ} {i j : ℕ} → us ≡ vs → Appended xs i us ys j → Appended xs i vs ys j
appended_as {xs = xs} {i = i} e p = record { gives = p.gives ∙ ap (λ l. overlay xs i l) e; behind = p.behind ∙ ap (λ l. min (i + length l) 18446744073709551615) e }

-- the buffer keeps its length
pub same_length : {xs ys us : List ℕ} {i j : ℕ} → Appended xs i us ys j → length ys ≡ length xs
same_length {xs = xs} {us = us} {i = i} p = ap length p.gives ∙ length-overlay xs i us
