-- Levels that flow to the reader; expressions under low-equivalent registers.
use Rattle.std.proofs.Common.{◌≡◌, ℕ, sym, refl, ap, ◌∙◌, ap₂, inl, inr}
use Rattle.values.specs.declared.Operator.{Operator}
use Rattle.meaning.proofs.NamedCode.{Interpretation, Value, IsMachineCode, Exp, num, var, op, Reg, eval}
use Rattle.meaning.proofs.NamedRules.{own_exp, level_exp, mark_exp}
use Rattle.meaning.proofs.Interpretations.{Laws, Flows}
use Rattle.meaning.proofs.Relations.{Agree, Mark, Good, Low}

module _ (F : Interpretation) (L : Laws F) (rd : Value) (crd : IsMachineCode F rd) where
  open F use {z, one, equal, apply, join_op, max_op}

  pub flows_bottom : Flows F rd z
  flows_bottom = L.J_z crd

  pub flows-join : {a b : Value} → IsMachineCode F a → IsMachineCode F b → Flows F rd a → Flows F rd b → Flows F rd (apply join_op a b)
  flows-join {a} ca cb fa fb = L.J_assoc ca cb crd ∙ ap (apply join_op a) fb ∙ fa

  pub flows_left : {a b : Value} → IsMachineCode F a → IsMachineCode F b → Flows F rd (apply join_op a b) → Flows F rd a
  flows_left {a} {b} ca cb f =
      ap (apply join_op a) (sym f) ∙ sym (L.J_assoc ca (L.code_J ca cb) crd)
      ∙ ap (λ x. apply join_op x rd) (sym (L.J_assoc ca ca cb) ∙ ap (λ x. apply join_op x b) (L.J_idem ca)) ∙ f

  pub flows_right : {a b : Value} → IsMachineCode F a → IsMachineCode F b → Flows F rd (apply join_op a b) → Flows F rd b
  flows_right ca cb f = flows_left cb ca (ap (λ x. apply join_op x rd) (L.J_comm cb ca) ∙ f)

  pub flows_zero : {a : Value} → a ≡ z → Flows F rd a
  flows_zero e = ap (λ x. apply join_op x rd) e ∙ flows_bottom

  -- two levels joined, two values combined
  pub low_op : (o : Operator) {a x b y c u d w : Value} → IsMachineCode F a → IsMachineCode F b → IsMachineCode F c → IsMachineCode F d →
      Agree F rd a x b y → Agree F rd c u d w → Agree F rd (apply join_op a c) (apply o x u) (apply join_op b d) (apply o y w)
  low_op o ca cb cc cd (inl h) (inl k) = inl (ap₂ (apply join_op) h.0 k.0, flows-join ca cc h.1 k.1, ap₂ (apply o) h.2 k.2)
  low_op o ca cb cc cd (inl h) (inr k) = inr (λ f. k.0 (flows_right ca cc f), λ f. k.1 (flows_right cb cd f))
  low_op o ca cb cc cd (inr h) (inl k) = inr (λ f. h.0 (flows_left ca cc f), λ f. h.1 (flows_left cb cd f))
  low_op o ca cb cc cd (inr h) (inr k) = inr (λ f. h.0 (flows_left ca cc f), λ f. h.1 (flows_left cb cd f))

  -- joined with a guard that both runs share and the reader reads
  pub low_guard : {a x b y p q : Value} → IsMachineCode F a → IsMachineCode F b → IsMachineCode F p → p ≡ q → Flows F rd p → Agree F rd a x b y → Agree F rd (apply join_op a p) x (apply join_op b q) y
  low_guard ca cb cp e f (inl h) = inl (ap₂ (apply join_op) h.0 e, flows-join ca cp h.1 f, h.2)
  low_guard {b = b} {q = q} ca cb cp e f (inr h) =
      inr (λ g. h.0 (flows_left ca cp g), λ g. h.1 (flows_left cb cp (ap (λ x. apply join_op (apply join_op b x) rd) e ∙ g)))

  module _ (ρ0 ρ : Reg → Value) (good : Good F rd ρ0 ρ) where
    pub level_exp_code : (e : Exp ℕ) → IsMachineCode F (eval F ρ (level_exp F e))
    level_exp_code (num v) = L.z_is_code
    level_exp_code (var k) = good.codes k
    level_exp_code (op o a b) = L.code_J (level_exp_code a) (level_exp_code b)

    pub mark_exp_mark : (e : Exp ℕ) → Mark F rd (eval F ρ (mark_exp F e))
    mark_exp_mark (num v) = inl refl
    mark_exp_mark (var k) = good.marks k
    mark_exp_mark (op o a b) = both (mark_exp_mark a) (mark_exp_mark b)
      where
        both : {m n : Value} → Mark F rd m → Mark F rd n → Mark F rd (apply max_op m n)
        both (inl h) (inl k) = inl (ap₂ (apply max_op) h k ∙ L.max_zz)
        both (inl h) (inr k) = inr (ap₂ (apply max_op) h k ∙ L.max_zo)
        both (inr h) (inl k) = inr (ap₂ (apply max_op) h k ∙ L.max_oz)
        both (inr h) (inr k) = inr (ap₂ (apply max_op) h k ∙ L.max_oo)

  pub low_exp : (ρ σ : Reg → Value) (ρ0 σ0 : Reg → Value) → Good F rd ρ0 ρ → Good F rd σ0 σ → Low F rd ρ σ → (e : Exp ℕ) →
      Agree F rd (eval F ρ (level_exp F e)) (eval F ρ (own_exp F e)) (eval F σ (level_exp F e)) (eval F σ (own_exp F e))
  low_exp ρ σ ρ0 σ0 g h l (num v) = inl (refl, flows_bottom, refl)
  low_exp ρ σ ρ0 σ0 g h l (var k) = l.vals k
  low_exp ρ σ ρ0 σ0 g h l (op o a b) =
      low_op o (level_exp_code ρ0 ρ g a) (level_exp_code σ0 σ h a) (level_exp_code ρ0 ρ g b) (level_exp_code σ0 σ h b)
      (low_exp ρ σ ρ0 σ0 g h l a) (low_exp ρ σ ρ0 σ0 g h l b)

  pub same_mark_exp : (ρ σ : Reg → Value) → Low F rd ρ σ → (e : Exp ℕ) → eval F ρ (mark_exp F e) ≡ eval F σ (mark_exp F e)
  same_mark_exp ρ σ l (num v) = refl
  same_mark_exp ρ σ l (var k) = l.tags k
  same_mark_exp ρ σ l (op o a b) = ap₂ (apply max_op) (same_mark_exp ρ σ l a) (same_mark_exp ρ σ l b)
