-- One step of two runs, and silent steps. Sim and Quiet wrap the recursive Same and Later in declared records: a record is a
-- type former, so that registers, rows and counts are found as implicit arguments, which they are not under a function by cases.
use Rattle.std.proofs.Common.{◌≡◌, ℕ, zero, suc, sym, refl, ◌∙◌, subst}
use Rattle.meaning.proofs.NamedCode.{Interpretation, Value, Reg, Row, next, shows}
use Rattle.meaning.specs.Machine.{silent}
use Rattle.meaning.proofs.Registers.{effect}
use Rattle.meaning.proofs.NamedRules.{plus}
use Rattle.meaning.proofs.Relations.{Same, SameFigure, Later}

module _ (F : Interpretation) (rd : Value) (ρ0 σ0 : Reg → Value) (rows : ℕ → Row Reg) where
  pub record Sim (k p : ℕ) (ρ : Reg → Value) (q : ℕ) (σ : Reg → Value) : Type 0 where
    pub run : Same F rd ρ0 σ0 rows k p ρ q σ

  pub record Quiet (n p : ℕ) (ρ : Reg → Value) (q : ℕ) (Q : (Reg → Value) → Type 0) : Type 0 where
    pub run : Later F rd rows n p ρ q Q

  -- both take a row
  pub tick : {p q : ℕ} {r s : Row Reg} {ρ σ : Reg → Value} {k : ℕ} → rows p ≡ r → rows q ≡ s →
      shows F rd r ρ ≡ shows F rd s σ →
      (SameFigure F rd ρ0 σ0 r → Sim k (next F r p ρ) (effect F r ρ) (next F s q σ) (effect F s σ)) →
      Sim (suc k) p ρ q σ
  tick e f o t = record { run = rw (e, f) (o, λ u. (t u).run) }

  mono_run : (k : ℕ) (p q : ℕ) (ρ σ : Reg → Value) → Same F rd ρ0 σ0 rows (suc k) p ρ q σ → Same F rd ρ0 σ0 rows k p ρ q σ
  mono_run zero p q ρ σ s = tt
  mono_run (suc k) p q ρ σ s = (s.0, λ f. mono_run k _ _ _ _ (s.1 f))

  pub mono : {k p q : ℕ} {ρ σ : Reg → Value} → Sim (suc k) p ρ q σ → Sim k p ρ q σ
  mono {k} {p} {q} {ρ} {σ} s = record { run = mono_run k p q ρ σ s.run }

  -- the same row in both, silent, the count left as it is
  pub both : {p : ℕ} {r : Row Reg} {ρ σ : Reg → Value} {k : ℕ} → rows p ≡ r → shows F rd r ρ ≡ silent → shows F rd r σ ≡ silent →
      Sim k (next F r p ρ) (effect F r ρ) (next F r p σ) (effect F r σ) → Sim k p ρ p σ
  both e o u t = mono (tick e e (o ∙ sym u) (λ f. t))

  pub here : {p : ℕ} {ρ : Reg → Value} {Q : (Reg → Value) → Type 0} → Q ρ → Quiet 0 p ρ p Q
  here h = record { run = (refl, h) }

  pub then : {p q n : ℕ} {r : Row Reg} {ρ : Reg → Value} {Q : (Reg → Value) → Type 0} → rows p ≡ r → shows F rd r ρ ≡ silent →
      Quiet n (next F r p ρ) (effect F r ρ) q Q → Quiet (suc n) p ρ q Q
  then e o t = record { run = rw e (o, t.run) }

  bind_run : (n m p q r : ℕ) (ρ : Reg → Value) (Q R : (Reg → Value) → Type 0) → Later F rd rows n p ρ q Q →
      ((σ : Reg → Value) → Q σ → Quiet m q σ r R) → Later F rd rows (plus n m) p ρ r R
  bind_run zero m p q r ρ Q R l f = subst (λ x. Later F rd rows m x ρ r R) (sym l.0) (f ρ l.1).run
  bind_run (suc n) m p q r ρ Q R l f = (l.0, bind_run n m _ q r _ Q R l.1 f)

  pub bind : {n m p q r : ℕ} {ρ : Reg → Value} {Q R : (Reg → Value) → Type 0} → Quiet n p ρ q Q →
      ((σ : Reg → Value) → Q σ → Quiet m q σ r R) → Quiet (plus n m) p ρ r R
  bind {n} {m} {p} {q} {r} {ρ} {Q} {R} l f = record { run = bind_run n m p q r ρ Q R l.run f }

  join_run : (n k p q p' q' : ℕ) (ρ σ : Reg → Value) (Q R : (Reg → Value) → Type 0) →
      Later F rd rows n p ρ p' Q → Later F rd rows n q σ q' R →
      ((α β : Reg → Value) → Q α → R β → Sim k p' α q' β) → Same F rd ρ0 σ0 rows k p ρ q σ
  join_run zero k p q p' q' ρ σ Q R a b f = rw (a.0, b.0) (f ρ σ a.1 b.1).run
  join_run (suc n) k p q p' q' ρ σ Q R a b f =
      mono_run k p q ρ σ (a.0 ∙ sym b.0, λ u. join_run n k _ _ p' q' _ _ Q R a.1 b.1 f)

  pub join : {n k p q p' q' : ℕ} {ρ σ : Reg → Value} {Q R : (Reg → Value) → Type 0} →
      Quiet n p ρ p' Q → Quiet n q σ q' R → ((α β : Reg → Value) → Q α → R β → Sim k p' α q' β) → Sim k p ρ q σ
  join {n} {k} {p} {q} {p'} {q'} {ρ} {σ} {Q} {R} a b f = record { run = join_run n k p q p' q' ρ σ Q R a.run b.run f }

  map_run : (n p q : ℕ) (ρ : Reg → Value) (Q R : (Reg → Value) → Type 0) → Later F rd rows n p ρ q Q → ((σ : Reg → Value) → Q σ → R σ) → Later F rd rows n p ρ q R
  map_run zero p q ρ Q R l f = (l.0, f ρ l.1)
  map_run (suc n) p q ρ Q R l f = (l.0, map_run n _ q _ Q R l.1 f)

  pub map_quiet : {n p q : ℕ} {ρ : Reg → Value} {Q R : (Reg → Value) → Type 0} → Quiet n p ρ q Q → ((σ : Reg → Value) → Q σ → R σ) → Quiet n p ρ q R
  map_quiet {n} {p} {q} {ρ} {Q} {R} l f = record { run = map_run n p q ρ Q R l.run f }
