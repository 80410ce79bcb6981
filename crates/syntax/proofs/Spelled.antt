-- Names by their parts.
use Rattle.std.proofs.Common.{◌≡◌, ℕ, zero, suc, ◌<◌, ◌≤◌, true, false, ◌&&◌, ◌||◌, eqb, List, [], ◌∷◌, length, take, drop, refl, sym, ap, ◌∙◌, arith}
use Rattle.std.proofs.Math.Bool.{and_assoc, and-false}
use Rattle.std.specs.List.{list_all, list_any}
use Rattle.std.specs.Str.{bytes_eq}
use Rattle.letters.specs.Classes.{is_word}
use Rattle.syntax.specs.declared.form.Declaration.{Declaration}
use Rattle.syntax.specs.Names.{padded, spelled, legal_declaration, all_legal, spellings, among}

-- a name and its padding, by its two parts
pub padded_parts : (n : ℕ) (bs : List ℕ) → n ≤ length bs → padded n bs ≡ (list_all is_word (take n bs) && list_all (λ b. eqb b 0) (drop n bs))
padded_parts zero [] h = refl
padded_parts zero (b ∷ bs) h = ap (λ x. eqb b 0 && x) (padded_parts zero bs (omega arith))
padded_parts (suc n) [] h = absurd (omega arith)
padded_parts (suc n) (b ∷ bs) h = ap (λ x. is_word b && x) (padded_parts n bs (omega arith)) ∙ sym (and_assoc (is_word b) (list_all is_word (take n bs)) (list_all (λ b. eqb b 0) (drop n bs)))

pub padded_short : (n : ℕ) (bs : List ℕ) → length bs < n → padded n bs ≡ false
padded_short zero bs h = absurd (omega arith)
padded_short (suc n) [] h = refl
padded_short (suc n) (b ∷ bs) h = ap (λ x. is_word b && x) (padded_short n bs (omega arith)) ∙ and-false (is_word b)

-- a name among those of declarations
pub among_names : (w : List ℕ) (ds : List Declaration) → list_any (λ d. bytes_eq w (spelled d.name)) ds ≡ among w (spellings ds)
among_names w [] = refl
among_names w (d ∷ ds) = ap (λ x. bytes_eq w (spelled d.name) || x) (among_names w ds)

-- what `all_legal`, `spellings` and `among` are, element by element
abbrev by_elements : Type 0
by_elements =
    (all_legal [] ≡ true) × ((d : Declaration) (ds : List Declaration) → all_legal (d ∷ ds) ≡ (legal_declaration d && all_legal ds))
    × (spellings [] ≡ []) × ((d : Declaration) (ds : List Declaration) → spellings (d ∷ ds) ≡ spelled d.name ∷ spellings ds)
    × ((w : List ℕ) → among w [] ≡ false) × ((w x : List ℕ) (xs : List (List ℕ)) → among w (x ∷ xs) ≡ (bytes_eq w x || among w xs))

pub names_by_elements : by_elements
names_by_elements = (refl, λ d ds. refl, refl, λ d ds. refl, λ w. refl, λ w x xs. refl)
