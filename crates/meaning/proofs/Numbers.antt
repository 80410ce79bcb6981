-- The numbered registers of a bank keep step with the named ones.
--
-- `tree_row` puts numbers for names: it is the row of the machine of the promises. `Match` says that a bank holds, at the number of each register in
-- use, what the named registers hold. Then a row shows the same, goes on to the same row, and leaves registers that match again.
use Rattle.std.proofs.Common.{◌≡◌, ℕ, zero, suc, ◌<◌, Bool, true, false, cond, ◌&&◌, eqb, List, length, set, ℤ, pos, negsuc, Some, None, Option, sym, refl, ap, ◌∙◌, subst, ap₂, length-set}
use mathlib.Core.Bool.{false≢true}
use Rattle.std.specs.Ordering.{int_eq}
use Rattle.std.proofs.lemmas.Bool.{eqb-true, eqb-false}
use Rattle.values.specs.Operators.{operate}
use Rattle.syntax.specs.Trees.{Expression, number, variable, apply}
use Rattle.syntax.specs.Form.{TreeRow, skips, assigns, releases, writes, stops, branches, leaves, closes, repeats, goes_back}
use Rattle.meaning.specs.Families.{Family, FamilyLaws, IsCode, joiner, flows}
use Rattle.meaning.specs.Machine.{register, value_of, next_row, registers_after, silent, printed, line_of, shows, takes_else, IfReleases}
use Rattle.meaning.specs.Rules.{level_register, mark_register, guard_register}
use Rattle.meaning.proofs.NamedCode as named
use Rattle.meaning.proofs.NamedCode.{Value, IsMachineCode, Exp, num, var, op, Reg, own, level, mark, guard, Row, rskip, rassign, rrelease, rwrite, rstop, rif, relse, rend, rwhile, rback, rnone, natural, eval, takes_else_lem}
use Rattle.meaning.proofs.Registers.{same_reg, effect}
use Rattle.meaning.proofs.Interpretations.{machine, int_eq_pos, joiner_joins}
use Rattle.meaning.proofs.Relations.{Same, SameFigure}
use Rattle.meaning.proofs.BankLaws.{register_set, register_other}

-- the number of a register, with n own variables
abbrev pub register_number : ℕ → Reg → ℕ
register_number n (own k) = k
register_number n (level k) = level_register n k
register_number n (mark k) = mark_register n k
register_number n (guard d) = guard_register n d

abbrev pub tree : ℕ → Exp Reg → Expression
tree n (num v) = number (natural v)
tree n (var r) = variable (register_number n r)
tree n (op o a b) = apply o (tree n a) (tree n b)

abbrev pub tree_row : ℕ → Row Reg → Option TreeRow
tree_row n rskip = Some skips
tree_row n (rassign r e) = Some (assigns (register_number n r) (tree n e))
tree_row n (rrelease r e) = Some (releases (register_number n r) (tree n e))
tree_row n (rwrite t e) = Some (writes (natural t) (tree n e))
tree_row n (rstop k) = Some (stops k)
tree_row n (rif e m) = Some (branches (tree n e) m)
tree_row n (relse m) = Some (leaves m)
tree_row n rend = Some closes
tree_row n (rwhile e m) = Some (repeats (tree n e) m)
tree_row n (rback m) = Some (goes_back m)
tree_row n rnone = None

-- over numbered registers: for the next k steps two runs show the same, so long as the releases that the first takes have the same opening figure
abbrev pub SameNumbered : Family → ℕ → (b0 c0 : List ℤ) (rows : ℕ → Option TreeRow) → ℕ → ℕ → List ℤ → ℕ → List ℤ → Type 0
SameNumbered G reader b0 c0 rows zero p b q c = Unit {0}
SameNumbered G reader b0 c0 rows (suc k) p b q c =
    (shows G reader (rows p) (register b) ≡ shows G reader (rows q) (register c)) ×
    (IfReleases (λ e. value_of (register b0) e ≡ value_of (register c0) e) (rows p) →
    SameNumbered G reader b0 c0 rows k (next_row (rows p) p (register b)) (registers_after (rows p) b) (next_row (rows q) q (register c)) (registers_after (rows q) c))

-- the registers in use, which their numbers tell apart
module _ (n : ℕ) (V : Reg → Type 0) (apart : (r q : Reg) → V r → V q → eqb (register_number n r) (register_number n q) ≡ same_reg r q) where
  -- an expression over registers in use, with numerals of the language
  abbrev pub ValidE : Exp Reg → Type 0
  ValidE (num v) = v ≡ pos (natural v)
  ValidE (var r) = V r
  ValidE (op o a b) = ValidE a × ValidE b

  abbrev pub ValidR : Family → Row Reg → Type 0
  ValidR G rskip = Unit {0}
  ValidR G (rassign r e) = V r × ValidE e
  ValidR G (rrelease r e) = V r × ValidE e
  ValidR G (rwrite t e) = IsMachineCode (machine G) t × ValidE e
  ValidR G (rstop k) = Unit {0}
  ValidR G (rif e m) = ValidE e
  ValidR G (relse m) = Unit {0}
  ValidR G rend = Unit {0}
  ValidR G (rwhile e m) = ValidE e
  ValidR G (rback m) = Unit {0}
  ValidR G rnone = Unit {0}

  pub record Match (bank : List ℤ) (ρ : Reg → Value) : Type 0 where
    pub room : (r : Reg) → V r → register_number n r < length bank
    pub is : (r : Reg) → V r → register bank (register_number n r) ≡ ρ r

  module _ (G : Family) (L : FamilyLaws G) (reader : ℕ) (crd : IsCode G reader) where
    abbrev F : named.Interpretation
    F = machine G

    pub eval_match : {bank : List ℤ} {ρ : Reg → Value} → Match bank ρ → (e : Exp Reg) → ValidE e → value_of (register bank) (tree n e) ≡ eval F ρ e
    eval_match m (num v) w = sym w
    eval_match m (var r) w = m.is r w
    eval_match m (op o a b) w = ap₂ (operate o) (eval_match m a w.0) (eval_match m b w.1)

    set_match : {bank : List ℤ} {ρ : Reg → Value} {u v : Value} (r : Reg) → V r → u ≡ v → Match bank ρ → Match (set bank (register_number n r) u) (Rattle.meaning.proofs.Registers.set F r v ρ)
    set_match {bank} {ρ} {u} {v} r w e m = record {
      room = λ q x. subst (λ k. register_number n q < k) (sym (length-set bank (register_number n r) u)) (m.room q x);
      is = λ q x. go q x (same_reg r q) (apart r q w x);
    }
      where
        go : (q : Reg) → V q → (b : Bool) → eqb (register_number n r) (register_number n q) ≡ b → register (set bank (register_number n r) u) (register_number n q) ≡ cond b v (ρ q)
        go q x true h =
            let same : register_number n r ≡ register_number n q = eqb-true (register_number n r) (register_number n q) h in
            ap (register (set bank (register_number n r) u)) (sym same) ∙ register_set bank (register_number n r) u (m.room r w) ∙ e
        go q x false h =
            register_other bank (register_number n r) (register_number n q) u (λ y. eqb-false (register_number n r) (register_number n q) h (sym y)) ∙ m.is q x

    pub effect_match : {bank : List ℤ} {ρ : Reg → Value} (r : Row Reg) → ValidR G r → Match bank ρ → Match (registers_after (tree_row n r) bank) (effect F r ρ)
    effect_match rskip w m = m
    effect_match (rassign r e) w m = set_match r w.0 (eval_match m e w.1) m
    effect_match (rrelease r e) w m = set_match r w.0 (eval_match m e w.1) m
    effect_match (rwrite t e) w m = m
    effect_match (rstop k) w m = m
    effect_match (rif e j) w m = m
    effect_match (relse j) w m = m
    effect_match rend w m = m
    effect_match (rwhile e j) w m = m
    effect_match (rback j) w m = m
    effect_match rnone w m = m

    pub next_match : {bank : List ℤ} {ρ : Reg → Value} (r : Row Reg) (p : ℕ) → ValidR G r → Match bank ρ → next_row (tree_row n r) p (register bank) ≡ named.next F r p ρ
    next_match rskip p w m = refl
    next_match (rassign r e) p w m = refl
    next_match (rrelease r e) p w m = refl
    next_match (rwrite t e) p w m = refl
    next_match (rstop k) p w m = refl
    next_match (rif e j) p w m = ap (λ x. cond (int_eq x (pos 0)) (suc j) (suc p)) (eval_match m e w)
    next_match (relse j) p w m = refl
    next_match rend p w m = refl
    next_match (rwhile e j) p w m = ap (λ x. cond (int_eq x (pos 0)) (suc j) (suc p)) (eval_match m e w)
    next_match (rback j) p w m = refl
    next_match rnone p w m = refl

    -- a level flows to the reader's where the operator gives the reader's
    flows_as : (t : Value) → IsMachineCode F t → flows G (natural t) reader ≡ int_eq (operate (joiner G) t (pos reader)) (pos reader)
    flows_as (pos k) c = ap₂ (λ x y. (x && y) && eqb (G.join k reader) reader) c crd ∙ sym (int_eq_pos (G.join k reader) reader) ∙ ap (λ v. int_eq v (pos reader)) (sym (joiner_joins G L k reader c crd))
    flows_as (negsuc k) c = absurd (false≢true c)

    pub shows_match : {bank : List ℤ} {ρ : Reg → Value} (r : Row Reg) → ValidR G r → Match bank ρ → shows G reader (tree_row n r) (register bank) ≡ named.shows F (pos reader) r ρ
    shows_match rskip w m = refl
    shows_match (rassign r e) w m = refl
    shows_match (rrelease r e) w m = refl
    shows_match (rwrite t e) w m = ap₂ (λ b x. cond b (printed (line_of (natural t) x)) silent) (flows_as t w.0) (eval_match m e w.1)
    shows_match (rstop k) w m = refl
    shows_match (rif e j) w m = refl
    shows_match (relse j) w m = refl
    shows_match rend w m = refl
    shows_match (rwhile e j) w m = refl
    shows_match (rback j) w m = refl
    shows_match rnone w m = refl

    pub else_match : {bank : List ℤ} {ρ : Reg → Value} → Match bank ρ → (r : Row Reg) → ValidR G r → takes_else (tree_row n r) (register bank) ≡ takes_else_lem F ρ r
    else_match m rskip v = refl
    else_match m (rassign r e) v = refl
    else_match m (rrelease r e) v = refl
    else_match m (rwrite t e) v = refl
    else_match m (rstop k) v = refl
    else_match m (rif e j) v = ap (λ x. int_eq x (pos 0)) (eval_match m e v)
    else_match m (relse j) v = refl
    else_match m rend v = refl
    else_match m (rwhile e j) v = refl
    else_match m (rback j) v = refl
    else_match m rnone v = refl

    figure_match : {b0 c0 : List ℤ} {ρ0 σ0 : Reg → Value} → Match b0 ρ0 → Match c0 σ0 → (r : Row Reg) → ValidR G r →
        IfReleases (λ e. value_of (register b0) e ≡ value_of (register c0) e) (tree_row n r) → SameFigure F (pos reader) ρ0 σ0 r
    figure_match m l rskip w f = f
    figure_match m l (rassign r e) w f = f
    figure_match m l (rrelease r e) w f = sym (eval_match m e w.1) ∙ f ∙ eval_match l e w.1
    figure_match m l (rwrite t e) w f = f
    figure_match m l (rstop k) w f = f
    figure_match m l (rif e j) w f = f
    figure_match m l (relse j) w f = f
    figure_match m l rend w f = f
    figure_match m l (rwhile e j) w f = f
    figure_match m l (rback j) w f = f
    figure_match m l rnone w f = f

    module _ (rows : ℕ → Row Reg) (valid : (p : ℕ) → ValidR G (rows p)) {b0 c0 : List ℤ} {ρ0 σ0 : Reg → Value} (m0 : Match b0 ρ0) (l0 : Match c0 σ0) where
      pub lockstep : (k p q : ℕ) (b c : List ℤ) (ρ σ : Reg → Value) → Match b ρ → Match c σ → Same F (pos reader) ρ0 σ0 rows k p ρ q σ →
          SameNumbered G reader b0 c0 (λ i. tree_row n (rows i)) k p b q c
      lockstep zero p q b c ρ σ m l s = tt
      lockstep (suc k) p q b c ρ σ m l s = (
        shows_match (rows p) (valid p) m ∙ s.0 ∙ sym (shows_match (rows q) (valid q) l),
        λ f. rw (next_match (rows p) p (valid p) m, next_match (rows q) q (valid q) l)
            (lockstep k _ _ _ _ _ _ (effect_match (rows p) (valid p) m) (effect_match (rows q) (valid q) l) (s.1 (figure_match m0 l0 (rows p) (valid p) f))),
      )
