-- What each run keeps, and the relation between two runs.
use Rattle.std.proofs.Common.{◌≡◌, ℕ, zero, suc, ◌<◌, Bool, ◌⊎◌}
use Rattle.meaning.proofs.NamedCode.{Interpretation, Value, IsMachineCode, Reg, own, level, mark, guard, Row, Releasing, eval, next, shows}
use Rattle.meaning.specs.Machine.{silent}
use Rattle.meaning.proofs.Registers.{same_reg, effect, effect_by}
use Rattle.meaning.proofs.Interpretations.{Flows}

module _ (F : Interpretation) (rd : Value) where
  open F use {z, one, equal, apply, join_op}

  -- two levels with their values, in the two runs: equal and readable, or both above the reader
  abbrev pub Agree : Value → Value → Value → Value → Type 0
  Agree l x m y = ((l ≡ m) × Flows F rd l × (x ≡ y)) ⊎ ((¬ Flows F rd l) × (¬ Flows F rd m))

  abbrev pub Mark : Value → Type 0
  Mark v = (v ≡ z) ⊎ (v ≡ one)

  -- what each run keeps
  pub record Good (ρ0 ρ : Reg → Value) : Type 0 where
    pub codes : (K : ℕ) → IsMachineCode F (ρ (level K))
    pub marks : (K : ℕ) → Mark (ρ (mark K))
    pub opening : (K : ℕ) → ρ (mark K) ≡ z → ρ (own K) ≡ ρ0 (own K)

  -- what ties two runs
  pub record Low (ρ σ : Reg → Value) : Type 0 where
    pub vals : (K : ℕ) → Agree (ρ (level K)) (ρ (own K)) (σ (level K)) (σ (own K))
    pub tags : (K : ℕ) → ρ (mark K) ≡ σ (mark K)

  pub record Rel (ρ0 σ0 : Reg → Value) (D : ℕ) (ρ σ : Reg → Value) : Type 0 where
    pub good1 : Good ρ0 ρ
    pub good2 : Good σ0 σ
    pub low : Low ρ σ
    pub guards : (d : ℕ) → d < D → (ρ (guard d) ≡ σ (guard d)) × Flows F rd (ρ (guard d)) × IsMachineCode F (ρ (guard d))

  -- a release row's opening figure is the same in both runs
  abbrev pub SameFigure : {R : Type 0} → (R → Value) → (R → Value) → Row R → Type 0
  SameFigure ρ0 σ0 r = Releasing (λ e. eval F ρ0 e ≡ eval F σ0 e) r

  -- for the next k steps the two runs show the same, so long as the releases that the first takes have the same opening figure
  abbrev pub SameBy : {R : Type 0} → (R → R → Bool) → (ρ0 σ0 : R → Value) (rows : ℕ → Row R) → ℕ → ℕ → (R → Value) → ℕ → (R → Value) → Type 0
  SameBy same ρ0 σ0 rows zero p ρ q σ = Unit {0}
  SameBy same ρ0 σ0 rows (suc k) p ρ q σ =
      (shows F rd (rows p) ρ ≡ shows F rd (rows q) σ) ×
      (SameFigure ρ0 σ0 (rows p) → SameBy same ρ0 σ0 rows k (next F (rows p) p ρ) (effect_by F same (rows p) ρ) (next F (rows q) q σ) (effect_by F same (rows q) σ))

  abbrev pub Same : (ρ0 σ0 : Reg → Value) (rows : ℕ → Row Reg) → ℕ → ℕ → (Reg → Value) → ℕ → (Reg → Value) → Type 0
  Same = SameBy same_reg

  -- n silent steps lead from row p to row q, and Q holds of the registers there
  abbrev pub Later : (rows : ℕ → Row Reg) → ℕ → ℕ → (Reg → Value) → ℕ → ((Reg → Value) → Type 0) → Type 0
  Later rows zero p ρ q Q = (p ≡ q) × Q ρ
  Later rows (suc n) p ρ q Q = (shows F rd (rows p) ρ ≡ silent) × Later rows n (next F (rows p) p ρ) (effect F (rows p) ρ) q Q
