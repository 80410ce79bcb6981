-- Words that are no keyword.
use Rattle.std.proofs.Common.{◌≡◌, ℕ, true, false, List, [], ◌∷◌, None, codes, IsUtf8, refl, ◌∙◌, ⊎_elim}
use lib.Utf8.{scalars, encodes, encode}
use Rattle.std.specs.Str.{bytes_eq}
use Rattle.std.proofs.lemmas.Bool.{cond-false, cases_Bool}
use Rattle.std.proofs.lemmas.Slice.Eq.{bytes_eq-Decides}
use Rattle.letters.specs.Keywords.{keyword_of, keywords, lookup}

-- no word of the table
abbrev Absent : {A : Type 0} → List ℕ → List (List ℕ × A) → Type 0
Absent w [] = Unit {0}
Absent w (e ∷ es) = (w ≡ e.0 → ⊥) × Absent w es

differ : (w v : List ℕ) → (w ≡ v → ⊥) → bytes_eq w v ≡ false
differ w v h = ⊎_elim (λ t. absurd (h ((bytes_eq-Decides w v).0 t))) (λ f. f) (cases_Bool (bytes_eq w v))

pub lookup_none : {A : Type 0} (w : List ℕ) (es : List (List ℕ × A)) → Absent w es → lookup w es ≡ None
lookup_none w [] h = refl
lookup_none w (e ∷ es) h = cond-false _ _ _ (differ w e.0 h.0) ∙ lookup_none w es h.1

-- each word of the table is text
abbrev Texts : {A : Type 0} → List (List ℕ × A) → Type 0
Texts [] = Unit {0}
Texts (e ∷ es) = IsUtf8 e.0 × Texts es

absent : {A : Type 0} (w : List ℕ) (es : List (List ℕ × A)) → Texts es → (IsUtf8 w → ⊥) → Absent w es
absent w [] t n = tt
absent w (e ∷ es) t n = (λ same. n (rw same t.0), absent w es t.1 n)

plain : (w : List ℕ) → scalars w ≡ true → encodes w ≡ w → IsUtf8 w
plain w s e = (w, (s, e))

texts : Texts keywords
unfolding encode
texts = (plain (codes "var") refl refl, (plain (codes "skip") refl refl, (plain (codes "if") refl refl, (plain (codes "then") refl refl, (plain (codes "else") refl refl, (plain (codes "end") refl refl, (plain (codes "while") refl refl, (plain (codes "do") refl refl, (plain (codes "write") refl refl, (plain (codes "stop") refl refl, (plain (codes "declassify") refl refl, (plain (codes "max") refl refl, tt))))))))))))

pub no_text : (w : List ℕ) → (IsUtf8 w → ⊥) → keyword_of w ≡ None
no_text w n = lookup_none w keywords (absent w keywords texts n)
