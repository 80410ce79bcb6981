-- A name in the table of names.
use Rattle.std.proofs.Common.{◌≡◌, ℕ, zero, suc, ◌<◌, true, false, ◌||◌, List, [], ◌∷◌, length, get_or, sym, refl, ap, ◌∙◌, ⊎_elim, le_of_suc-le-suc, arith, Bor}
use Rattle.std.specs.Str.{bytes_eq}
use Rattle.std.proofs.lemmas.Bool.{cases_Bool, true≢false}
use Rattle.std.proofs.lemmas.List.Folds.{list_any_at}
use Rattle.std.proofs.lemmas.Slice.Eq.{bytes_eq-Decides}
use Rattle.syntax.specs.Names.{among}
use Rattle.reading.specs.Heard.{heard}

pub heard-at : (xs : List (Bor (List ℕ))) (k : ℕ) (d : Bor (List ℕ)) → k < length xs → get_or (heard xs) k [] ≡ (get_or xs k d).now
heard-at [] k d h = absurd (omega arith)
heard-at (x ∷ xs) zero d h = refl
heard-at (x ∷ xs) (suc k) d h = heard-at xs k d (le_of_suc-le-suc h)

pub heard-length : (xs : List (Bor (List ℕ))) → length (heard xs) ≡ length xs
heard-length [] = refl
heard-length (x ∷ xs) = ap suc (heard-length xs)

pub same_sym : (v w : List ℕ) → bytes_eq v w ≡ false → bytes_eq w v ≡ false
same_sym v w h = ⊎_elim (λ t. absurd (true≢false (sym ((bytes_eq-Decides v w).1 (sym ((bytes_eq-Decides w v).0 t))) ∙ h))) (λ f. f) (cases_Bool (bytes_eq w v))

-- a word that is one name of the table, or none
pub among_here : (w : List ℕ) (xs : List (Bor (List ℕ))) (i : ℕ) → i < length xs → ((d : Bor (List ℕ)) → bytes_eq (get_or xs i d).now w ≡ true) → (i < length xs) × (get_or (heard xs) i [] ≡ w) × (among w (heard xs) ≡ true)
among_here w [] i h e = absurd (omega arith)
among_here w (x ∷ xs) i h e =
    let is : get_or (heard (x ∷ xs)) i [] ≡ w = heard-at (x ∷ xs) i x h ∙ (bytes_eq-Decides (get_or (x ∷ xs) i x).now w).0 (e x) in
    (h, is, list_any_at (bytes_eq w) (heard (x ∷ xs)) i [] (omega (arith, heard-length (x ∷ xs))) ((bytes_eq-Decides w (get_or (heard (x ∷ xs)) i [])).1 (sym is)))

pub among_none : (w : List ℕ) (xs : List (Bor (List ℕ))) → ((k : ℕ) (d : Bor (List ℕ)) → k < length xs → bytes_eq (get_or xs k d).now w ≡ false) → among w (heard xs) ≡ false
among_none w [] h = refl
among_none w (x ∷ xs) h =
    ap (λ b. b || among w (heard xs)) (same_sym x.now w (h 0 x (omega arith))) ∙ among_none w xs (λ k d lt. h (suc k) d (omega arith))
