-- One run by number and by name: the releases that it makes, and how it ends.
use Rattle.std.proofs.Common.{◌≡◌, ℕ, zero, suc, eqb, List, [], ℤ, pos, Option, sym, ap, ◌∙◌, subst}
use Rattle.syntax.specs.Trees.{Expression}
use Rattle.syntax.specs.Form.{TreeRow}
use Rattle.meaning.specs.declared.answers.Line.{Line}
use Rattle.meaning.specs.Families.{Family, FamilyLaws, IsCode}
use Rattle.meaning.specs.Machine.{register, next_row, registers_after, no_row, shows, IfReleases}
use Rattle.meaning.proofs.NamedCode.{Interpretation, Value, Exp, Reg, Row, rskip, rassign, rrelease, rwrite, rstop, rif, relse, rend, rwhile, rback, rnone, Releasing}
use Rattle.meaning.proofs.Registers.{same_reg}
use Rattle.meaning.proofs.Interpretations.{machine}
use Rattle.meaning.proofs.Numbers.{register_number, tree, tree_row, ValidE, ValidR, Match, effect_match, next_match, shows_match}
use Rattle.meaning.proofs.Releases.{FineBy}
use Rattle.meaning.proofs.Bought.{see, Goes, Exactly}

-- over numbered registers: in the next k steps each release made satisfies M at its row
abbrev pub FineNumbered : (M : ℕ → List ℤ → Expression → Type 0) (rows : ℕ → Option TreeRow) → ℕ → ℕ → List ℤ → Type 0
FineNumbered M rows zero p b = Unit {0}
FineNumbered M rows (suc k) p b = IfReleases (M p b) (rows p) × FineNumbered M rows k (next_row (rows p) p (register b)) (registers_after (rows p) b)

-- the run ends after exactly n steps, each as `ok` asks, with registers as `last` asks, and l are the lines kept from here on
abbrev pub ExactlyNumbered : Family → ℕ → (ok : ℕ → List ℤ → Type 0) (last : List ℤ → Type 0) (rows : ℕ → Option TreeRow) → ℕ → ℕ → List ℤ → List Line → Type 0
ExactlyNumbered G reader ok last rows zero p b l = (shows G reader (rows p) (register b) ≡ no_row) × (l ≡ []) × last b
ExactlyNumbered G reader ok last rows (suc n) p b l =
    Goes (shows G reader (rows p) (register b)) × ok p b ×
    ((m : List Line) × (l ≡ see (shows G reader (rows p) (register b)) m) × ExactlyNumbered G reader ok last rows n (next_row (rows p) p (register b)) (registers_after (rows p) b) m)

-- whatever the registers hold
abbrev pub anywhere : List ℤ → Type 0
anywhere b = Unit {0}

module _ (n : ℕ) (V : Reg → Type 0) (apart : (r q : Reg) → V r → V q → eqb (register_number n r) (register_number n q) ≡ same_reg r q)
    (G : Family) (L : FamilyLaws G) (reader : ℕ) (crd : IsCode G reader) where
  abbrev F : Interpretation
  F = machine G

  abbrev Matching : List ℤ → (Reg → Value) → Type 0
  Matching = Match n V apart

  abbrev GoodRow : Row Reg → Type 0
  GoodRow = ValidR n V apart G

  releasing_match : (A : Exp Reg → Type 0) (B : Expression → Type 0) → ((e : Exp Reg) → ValidE n V apart e → A e → B (tree n e)) →
      (r : Row Reg) → GoodRow r → Releasing A r → IfReleases B (tree_row n r)
  releasing_match A B f rskip v x = tt
  releasing_match A B f (rassign r e) v x = tt
  releasing_match A B f (rrelease r e) v x = f e v.1 x
  releasing_match A B f (rwrite t e) v x = tt
  releasing_match A B f (rstop k) v x = tt
  releasing_match A B f (rif e j) v x = tt
  releasing_match A B f (relse j) v x = tt
  releasing_match A B f rend v x = tt
  releasing_match A B f (rwhile e j) v x = tt
  releasing_match A B f (rback j) v x = tt
  releasing_match A B f rnone v x = tt

  module _ (rows : ℕ → Row Reg) (valid : (p : ℕ) → GoodRow (rows p)) where
    abbrev numbered : ℕ → Option TreeRow
    numbered i = tree_row n (rows i)

    pub fine_number : (A : ℕ → (Reg → Value) → Exp Reg → Type 0) (B : ℕ → List ℤ → Expression → Type 0) →
        ((p : ℕ) (b : List ℤ) (ρ : Reg → Value) (e : Exp Reg) → Matching b ρ → ValidE n V apart e → A p ρ e → B p b (tree n e)) →
        (k p : ℕ) (b : List ℤ) (ρ : Reg → Value) → Matching b ρ → FineBy F same_reg A rows k p ρ → FineNumbered B numbered k p b
    fine_number A B f zero p b ρ m x = tt
    fine_number A B f (suc k) p b ρ m x = (
      releasing_match (A p ρ) (B p b) (λ e v y. f p b ρ e m v y) (rows p) (valid p) x.0,
      subst (λ q. FineNumbered B numbered k q (registers_after (numbered p) b)) (sym (next_match n V apart G L reader crd (rows p) p (valid p) m))
          (fine_number A B f k _ _ _ (effect_match n V apart G L reader crd (rows p) (valid p) m) x.1),
    )

    pub exact_name : (A : ℕ → (Reg → Value) → Row Reg → Type 0) (B : ℕ → List ℤ → Type 0) →
        ((p : ℕ) (b : List ℤ) (ρ : Reg → Value) → Matching b ρ → B p b → A p ρ (rows p)) →
        (k p : ℕ) (b : List ℤ) (ρ : Reg → Value) (l : List Line) → Matching b ρ → ExactlyNumbered G reader B anywhere numbered k p b l → Exactly F (pos reader) same_reg A rows k p ρ l
    exact_name A B f zero p b ρ l m x = (sym (shows_match n V apart G L reader crd (rows p) (valid p) m) ∙ x.0, x.1)
    exact_name A B f (suc k) p b ρ l m x =
        let o = shows_match n V apart G L reader crd (rows p) (valid p) m in (
          subst Goes o x.0,
          f p b ρ m x.1,
          (
            x.2.0,
            x.2.1 ∙ ap (λ y. see y x.2.0) o,
            exact_name A B f k _ _ _ x.2.0 (effect_match n V apart G L reader crd (rows p) (valid p) m)
                (subst (λ q. ExactlyNumbered G reader B anywhere numbered k q (registers_after (numbered p) b) x.2.0) (next_match n V apart G L reader crd (rows p) p (valid p) m) x.2.2),
          ),
        )

    pub exact_number : (A : ℕ → (Reg → Value) → Row Reg → Type 0) (B : ℕ → List ℤ → Type 0) →
        ((p : ℕ) (b : List ℤ) (ρ : Reg → Value) → Matching b ρ → A p ρ (rows p) → B p b) →
        (k p : ℕ) (b : List ℤ) (ρ : Reg → Value) (l : List Line) → Matching b ρ → Exactly F (pos reader) same_reg A rows k p ρ l → ExactlyNumbered G reader B anywhere numbered k p b l
    exact_number A B f zero p b ρ l m x = (shows_match n V apart G L reader crd (rows p) (valid p) m ∙ x.0, x.1, tt)
    exact_number A B f (suc k) p b ρ l m x =
        let o = shows_match n V apart G L reader crd (rows p) (valid p) m in (
          subst Goes (sym o) x.0,
          f p b ρ m x.1,
          (
            x.2.0,
            x.2.1 ∙ ap (λ y. see y x.2.0) (sym o),
            subst (λ q. ExactlyNumbered G reader B anywhere numbered k q (registers_after (numbered p) b) x.2.0) (sym (next_match n V apart G L reader crd (rows p) p (valid p) m))
                (exact_number A B f k _ _ _ x.2.0 (effect_match n V apart G L reader crd (rows p) (valid p) m) x.2.2),
          ),
        )
