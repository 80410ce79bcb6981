-- The relation between two runs, kept by the updates of rewritten rows.
use Rattle.std.proofs.Common.{◌≡◌, ℕ, zero, suc, ◌<◌, Bool, true, false, cond, eqb, sym, refl, ◌∙◌, subst, ap₂, inl, inr, arith}
use Rattle.std.proofs.lemmas.Bool.{eqb-true, eqb-false}
use Rattle.meaning.proofs.NamedCode.{Interpretation, Value, IsMachineCode, Exp, num, var, op, Reg, own, level, mark, guard, eval}
use Rattle.meaning.proofs.Registers.{set}
use Rattle.meaning.proofs.NamedRules.{own_exp, mark_exp, guard_exp}
use Rattle.meaning.proofs.Interpretations.{Laws, Flows}
use Rattle.meaning.proofs.Relations.{Agree, Mark, Good, Rel}
use Rattle.meaning.proofs.Levels.{flows_bottom, low_guard, mark_exp_mark}
use Rattle.meaning.proofs.Frames.{one≢z, Frame, good_assign, good_guard, good_raise, mark_raise}

module _ (F : Interpretation) (L : Laws F) (rd : Value) (crd : IsMachineCode F rd) (ρ0 σ0 : Reg → Value) where
  open F use {z, one, equal, apply, join_op, max_op, eq_op, lt_op}

  abbrev Tied : ℕ → (Reg → Value) → (Reg → Value) → Type 0
  Tied = Rel F rd ρ0 σ0

  pub own_exp_same : (ρ σ : Reg → Value) → ((j : ℕ) → ρ (own j) ≡ σ (own j)) → (e : Exp ℕ) → eval F ρ (own_exp F e) ≡ eval F σ (own_exp F e)
  own_exp_same ρ σ h (num v) = refl
  own_exp_same ρ σ h (var k) = h k
  own_exp_same ρ σ h (op o a b) = ap₂ (apply o) (own_exp_same ρ σ h a) (own_exp_same ρ σ h b)

  -- unmarked variables still have their opening figures
  pub open_figure : (α0 ρ : Reg → Value) → Good F rd α0 ρ → (e : Exp ℕ) → eval F ρ (mark_exp F e) ≡ z → eval F ρ (own_exp F e) ≡ eval F α0 (own_exp F e)
  open_figure α0 ρ g (num v) h = refl
  open_figure α0 ρ g (var k) h = g.opening k h
  open_figure α0 ρ g (op o a b) h =
      let m = both (mark_exp_mark F L rd crd α0 ρ g a) (mark_exp_mark F L rd crd α0 ρ g b) h in
      ap₂ (apply o) (open_figure α0 ρ g a m.0) (open_figure α0 ρ g b m.1)
    where
      both : {m n : Value} → Mark F rd m → Mark F rd n → apply max_op m n ≡ z → (m ≡ z) × (n ≡ z)
      both (inl x) (inl y) e = (x, y)
      both (inl x) (inr y) e = absurd (one≢z F L rd (sym (ap₂ (apply max_op) x y ∙ L.max_zo) ∙ e))
      both (inr x) (inl y) e = absurd (one≢z F L rd (sym (ap₂ (apply max_op) x y ∙ L.max_oz) ∙ e))
      both (inr x) (inr y) e = absurd (one≢z F L rd (sym (ap₂ (apply max_op) x y ∙ L.max_oo) ∙ e))

  pub low_val : {l x m y x' y' : Value} → x' ≡ x → y' ≡ y → Agree F rd l x m y → Agree F rd l x' m y'
  low_val e f (inl h) = inl (h.0, h.1, e ∙ h.2 ∙ sym f)
  low_val e f (inr h) = inr h

  -- the guard level around a place
  pub guard_at_lem : (D : ℕ) {ρ σ : Reg → Value} → Tied D ρ σ → (eval F ρ (guard_exp F D) ≡ eval F σ (guard_exp F D)) × Flows F rd (eval F ρ (guard_exp F D)) × IsMachineCode F (eval F ρ (guard_exp F D))
  guard_at_lem zero r = (refl, flows_bottom F L rd crd, L.z_is_code)
  guard_at_lem (suc d) r = r.guards d (omega arith)

  pub related_less : {D : ℕ} {ρ σ : Reg → Value} → Tied (suc D) ρ σ → Tied D ρ σ
  related_less r = record { good1 = r.good1; good2 = r.good2; low = r.low; guards = λ d h. r.guards d (omega arith) }

  pub related_guard : (D : ℕ) {ρ σ : Reg → Value} (v w : Value) → v ≡ w → Flows F rd v → IsMachineCode F v → Tied D ρ σ → Tied (suc D) (set F (guard D) v ρ) (set F (guard D) w σ)
  related_guard D {ρ} {σ} v w e f c r = record {
    good1 = good_guard F L rd D v r.good1;
    good2 = good_guard F L rd D w r.good2;
    low = record { vals = r.low.vals; tags = r.low.tags };
    guards = λ d h. go d h (eqb D d) refl;
  }
    where
      go : (d : ℕ) → d < suc D → (b : Bool) → eqb D d ≡ b →
          (cond b v (ρ (guard d)) ≡ cond b w (σ (guard d))) × Flows F rd (cond b v (ρ (guard d))) × IsMachineCode F (cond b v (ρ (guard d)))
      go d h true q = (e, f, c)
      go d h false q = r.guards d (omega (arith, eqb-false D d q))

  pub related_assign : {D : ℕ} {ρ σ : Reg → Value} (K : ℕ) {l v m w : Value} → IsMachineCode F l → IsMachineCode F m → Agree F rd l v m w → Tied D ρ σ →
      Tied D (set F (own K) v (set F (mark K) one (set F (level K) l ρ))) (set F (own K) w (set F (mark K) one (set F (level K) m σ)))
  related_assign {D} {ρ} {σ} K {l} {v} {m} {w} cl cm x r = record {
    good1 = good_assign F L rd K l v cl r.good1;
    good2 = good_assign F L rd K m w cm r.good2;
    low = record {
      vals = λ j. elim (eqb K j) as (λ b. Agree F rd (cond b l (ρ (level j))) (cond b v (ρ (own j))) (cond b m (σ (level j))) (cond b w (σ (own j))))
          [ true ↦ x | false ↦ r.low.vals j ];
      tags = λ j. elim (eqb K j) as (λ b. cond b one (ρ (mark j)) ≡ cond b one (σ (mark j))) [ true ↦ refl | false ↦ r.low.tags j ];
    };
    guards = r.guards;
  }

  abbrev up : ℕ → ℕ → (Reg → Value) → Reg → Value
  up D k ρ = set F (mark k) (apply max_op (ρ (mark k)) (apply lt_op z (ρ (guard D)))) (set F (level k) (apply join_op (ρ (level k)) (ρ (guard D))) ρ)

  good_up : (α0 : Reg → Value) (D k : ℕ) (ρ : Reg → Value) → Good F rd α0 ρ → IsMachineCode F (ρ (guard D)) → Good F rd α0 (up D k ρ)
  good_up α0 D k ρ g cg =
      let m = mark_raise F L rd (ρ (mark k)) (ρ (guard D)) (g.marks k) cg in
      good_raise F L rd k _ _ (L.code_J (g.codes k) cg) m.0 m.1 g

  -- a public guard raises alike in both runs
  pub related_raise : (D k : ℕ) (ρ σ : Reg → Value) → Tied (suc D) ρ σ → Tied (suc D) (up D k ρ) (up D k σ)
  related_raise D k ρ σ r = record {
    good1 = good_up ρ0 D k ρ r.good1 g.2;
    good2 = good_up σ0 D k σ r.good2 (subst (IsMachineCode F) g.0 g.2);
    low = record { vals = λ j. vals j (eqb k j) refl; tags = λ j. tags j (eqb k j) };
    guards = r.guards;
  }
    where
      g : (ρ (guard D) ≡ σ (guard D)) × Flows F rd (ρ (guard D)) × IsMachineCode F (ρ (guard D))
      g = r.guards D (omega arith)

      vals : (j : ℕ) (b : Bool) → eqb k j ≡ b →
          Agree F rd (cond b (apply join_op (ρ (level k)) (ρ (guard D))) (ρ (level j))) (ρ (own j)) (cond b (apply join_op (σ (level k)) (σ (guard D))) (σ (level j))) (σ (own j))
      vals j true q = subst (λ i. Agree F rd (apply join_op (ρ (level k)) (ρ (guard D))) (ρ (own i)) (apply join_op (σ (level k)) (σ (guard D))) (σ (own i))) (eqb-true k j q)
          (low_guard F L rd crd (r.good1.codes k) (r.good2.codes k) g.2 g.0 g.1 (r.low.vals k))
      vals j false q = r.low.vals j

      tags : (j : ℕ) (b : Bool) → cond b (apply max_op (ρ (mark k)) (apply lt_op z (ρ (guard D)))) (ρ (mark j)) ≡ cond b (apply max_op (σ (mark k)) (apply lt_op z (σ (guard D)))) (σ (mark j))
      tags j true = ap₂ (λ x y. apply max_op x (apply lt_op z y)) (r.low.tags k) g.0
      tags j false = r.low.tags j

  -- behind a private if: what the arms may have changed is above the reader and marked in both runs, all else is as it was
  pub related_private : (D : ℕ) (P : ℕ → Bool) (ρ σ α β : Reg → Value) → Tied D ρ σ → Good F rd ρ0 α → Good F rd σ0 β → Frame F D P ρ α → Frame F D P σ β →
      ((K : ℕ) → P K ≡ true → (¬ Flows F rd (α (level K))) × (α (mark K) ≡ one)) →
      ((K : ℕ) → P K ≡ true → (¬ Flows F rd (β (level K))) × (β (mark K) ≡ one)) → Tied D α β
  related_private D P ρ σ α β r ga gb fa fb ua ub = record {
    good1 = ga;
    good2 = gb;
    low = record { vals = λ K. vals K (P K) refl; tags = λ K. tags K (P K) refl };
    guards = λ d h. rw (fa.guards_kept d h, fb.guards_kept d h) (r.guards d h);
  }
    where
      vals : (K : ℕ) (b : Bool) → P K ≡ b → Agree F rd (α (level K)) (α (own K)) (β (level K)) (β (own K))
      vals K true q = inr ((ua K q).0, (ub K q).0)
      vals K false q = let a = fa.vars K q in let b = fb.vars K q in rw (a.0, a.1, b.0, b.1) (r.low.vals K)

      tags : (K : ℕ) (b : Bool) → P K ≡ b → α (mark K) ≡ β (mark K)
      tags K true q = (ua K q).1 ∙ sym (ub K q).1
      tags K false q = (fa.vars K q).2 ∙ r.low.tags K ∙ sym (fb.vars K q).2
