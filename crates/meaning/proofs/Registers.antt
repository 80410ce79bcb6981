-- Registers as functions, of any kind with a test for equality: what the proofs run on.
use Rattle.std.proofs.Common.{Bool, false, cond, eqb}
use Rattle.meaning.proofs.NamedCode.{Interpretation, Value, Reg, own, level, mark, guard, Row, rskip, rassign, rrelease, rwrite, rstop, rif, relse, rend, rwhile, rback, rnone, eval}

abbrev pub same_reg : Reg → Reg → Bool
same_reg (own i) (own j) = eqb i j
same_reg (own i) (level j) = false
same_reg (own i) (mark j) = false
same_reg (own i) (guard j) = false
same_reg (level i) (own j) = false
same_reg (level i) (level j) = eqb i j
same_reg (level i) (mark j) = false
same_reg (level i) (guard j) = false
same_reg (mark i) (own j) = false
same_reg (mark i) (level j) = false
same_reg (mark i) (mark j) = eqb i j
same_reg (mark i) (guard j) = false
same_reg (guard i) (own j) = false
same_reg (guard i) (level j) = false
same_reg (guard i) (mark j) = false
same_reg (guard i) (guard j) = eqb i j

module _ (F : Interpretation) where
  -- over any kind of register with a test for equality
  abbrev pub set_by : {R : Type 0} → (R → R → Bool) → R → Value → (R → Value) → R → Value
  set_by same r v ρ q = cond (same r q) v (ρ q)

  abbrev pub set : Reg → Value → (Reg → Value) → Reg → Value
  set = set_by same_reg

  abbrev pub effect_by : {R : Type 0} → (R → R → Bool) → Row R → (R → Value) → (R → Value)
  effect_by same rskip ρ = ρ
  effect_by same (rassign r e) ρ = set_by same r (eval F ρ e) ρ
  effect_by same (rrelease r e) ρ = set_by same r (eval F ρ e) ρ
  effect_by same (rwrite t e) ρ = ρ
  effect_by same (rstop n) ρ = ρ
  effect_by same (rif e m) ρ = ρ
  effect_by same (relse m) ρ = ρ
  effect_by same rend ρ = ρ
  effect_by same (rwhile e m) ρ = ρ
  effect_by same (rback m) ρ = ρ
  effect_by same rnone ρ = ρ

  abbrev pub effect : Row Reg → (Reg → Value) → (Reg → Value)
  effect = effect_by same_reg
