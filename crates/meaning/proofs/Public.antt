-- Two runs of a rewritten list show a reader the same.
use Rattle.std.proofs.Common.{◌≡◌, ℕ, zero, suc, ◌-◌, Bool, true, false, cond, ◌||◌, List, [], ◌∷◌, sym, refl, ap, ◌∙◌, subst, ap₂, inl, inr, arith}
use Rattle.std.proofs.lemmas.Bool.{or_parts}
use mathlib.Core.Bool.{false≢true}
use Rattle.meaning.proofs.NamedCode.{natural, bought, Interpretation, Value, IsMachineCode, Exp, op, Reg, level, mark, guard, Code, cassign, cseq, cif, cwhile, Row, rassign, rif, rstop, eval, after}
use Rattle.meaning.specs.Machine.{line_of, printed, silent}
use Rattle.meaning.proofs.Placed.{Placed}
use Rattle.meaning.proofs.Registers.{set}
use Rattle.meaning.proofs.NamedRules.{Script, nil, skip, assign, release, write, seq, if, while, named_has_while, assigns, rising, NamedWellFormed, toll, pads, own_exp, level_exp, mark_exp, guard_exp, stop_check_lem, raise, branch, rewrite, plus}
use Rattle.meaning.proofs.Interpretations.{Laws, Flows}
use Rattle.meaning.proofs.Relations.{Agree, Good, Rel}
use Rattle.meaning.proofs.Levels.{flows_bottom, flows_zero, level_exp_code, mark_exp_mark, low_guard, low_exp, same_mark_exp}
use Rattle.meaning.proofs.Steps.{Sim, Quiet, tick, mono, both, join}
use Rattle.meaning.proofs.Frames.{assigned_below, read_guard, test_yes, test_no, good_guard, Frame, frame_trans, frame_guard}
use Rattle.meaning.proofs.Private.{quiet, quiet_if, quiet_write}
use Rattle.meaning.proofs.Pairs.{own_exp_same, open_figure, low_val, guard_at_lem, related_less, related_guard, related_assign, related_raise, related_private}

module _ (F : Interpretation) (L : Laws F) (rd : Value) (crd : IsMachineCode F rd) (ρ0 σ0 : Reg → Value) (rows : ℕ → Row Reg) (N : ℕ) where
  open F use {z, one, equal, apply, join_op, max_op, eq_op, lt_op}

  abbrev SimFrom : ℕ → ℕ → (Reg → Value) → ℕ → (Reg → Value) → Type 0
  SimFrom = Sim F rd ρ0 σ0 rows

  abbrev Tied : ℕ → (Reg → Value) → (Reg → Value) → Type 0
  Tied = Rel F rd ρ0 σ0

  -- both runs at row p, related: the next k steps show the same
  abbrev Safe : ℕ → ℕ → ℕ → Type 0
  Safe D k p = (ρ σ : Reg → Value) → Tied D ρ σ → SimFrom k p ρ p σ

  -- an if's row that goes the same way in both
  both_if : {p m k : ℕ} {e : Exp Reg} {ρ σ : Reg → Value} (c : Bool) → rows p ≡ rif e m → equal (eval F ρ e) z ≡ c → equal (eval F σ e) z ≡ c →
      SimFrom k (cond c (suc m) (suc p)) ρ (cond c (suc m) (suc p)) σ → SimFrom k p ρ p σ
  both_if c r s t y = both F rd ρ0 σ0 rows r refl refl (rw (s, t) y)

  -- both have stopped alike
  halted : (k : ℕ) {p q n : ℕ} {ρ σ : Reg → Value} → rows p ≡ rstop n → rows q ≡ rstop n → SimFrom k p ρ q σ
  halted zero r s = record { run = tt }
  halted (suc k) r s = tick F rd ρ0 σ0 rows r s refl (λ f. halted k r s)

  safe_pads : (D k n b : ℕ) → Placed rows b (pads n) → Safe D k (after b (pads {R = Reg} n)) → Safe D k b
  safe_pads D k zero b p s = s
  safe_pads D k (suc n) b p s = λ ρ σ r. both F rd ρ0 σ0 rows p.0 refl refl (safe_pads D k n (suc b) p.1 s ρ σ r)

  safe_raise : (D k : ℕ) (ks : List ℕ) (b : ℕ) → Placed rows b (raise F D ks) → Safe (suc D) k (after b (raise F D ks)) → Safe (suc D) k b
  safe_raise D k [] b p s = s
  safe_raise D k (i ∷ ks) b p s = λ ρ σ r.
      both F rd ρ0 σ0 rows p.0 refl refl (both F rd ρ0 σ0 rows p.1.0 refl refl
      (safe_raise D k ks (suc (suc b)) p.1.1 s _ _ (related_raise F L rd crd ρ0 σ0 D i ρ σ r)))

  -- a public if
  safe_if : (D k b : ℕ) (e : Exp ℕ) (A B : Code Reg) → Placed rows b (cif bought (own_exp F e) A B) →
      ((c : ℕ) → Placed rows c A → Safe D k (after c A) → Safe D k c) → ((c : ℕ) → Placed rows c B → Safe D k (after c B) → Safe D k c) →
      Safe D k (after b (cif bought (own_exp F e) A B)) → (ρ σ : Reg → Value) → Tied D ρ σ → eval F ρ (own_exp F e) ≡ eval F σ (own_exp F e) → SimFrom k b ρ b σ
  safe_if D k b e A B p ha hb s ρ σ r same = go (equal (eval F ρ (own_exp F e)) z) refl
    where
      go : (c : Bool) → equal (eval F ρ (own_exp F e)) z ≡ c → SimFrom k b ρ b σ
      go false t = both_if false p.head t (ap (λ x. equal x z) (sym same) ∙ t)
          (ha (suc b) p.first (λ α β q. both F rd ρ0 σ0 rows p.between refl refl (s α β q)) ρ σ r)
      go true t = both_if true p.head t (ap (λ x. equal x z) (sym same) ∙ t)
          (hb _ p.second (λ α β q. both F rd ρ0 σ0 rows p.foot refl refl (s α β q)) ρ σ r)

  -- the stop check, going the same way in both
  safe_check : (D k n b : ℕ) (ρ σ : Reg → Value) → Placed rows b (stop_check_lem F D n) → (c : Bool) → equal (ρ (guard D)) z ≡ c → equal (σ (guard D)) z ≡ c →
      (c ≡ true → SimFrom k (after b (stop_check_lem F D n)) ρ (after b (stop_check_lem F D n)) σ) → SimFrom k b ρ b σ
  safe_check D k n b ρ σ p true s t x = both_if false p.head (test_yes F L rd _ _ s) (test_yes F L rd _ _ t)
      (both F rd ρ0 σ0 rows p.first refl refl (both F rd ρ0 σ0 rows p.between refl refl (x refl)))
  safe_check D k n b ρ σ p false s t x = both_if true p.head (test_no F L rd _ _ s) (test_no F L rd _ _ t) (halted k p.second p.second)

  nonzero : (g : Value) → ¬ Flows F rd g → equal g z ≡ false
  nonzero g up = go (equal g z) refl
    where
      go : (c : Bool) → equal g z ≡ c → equal g z ≡ false
      go true q = absurd (up (flows_zero F L rd crd (L.eq_sound _ _ q)))
      go false q = q

  -- a guard is set and checked: go on with a guard that is public and 0, and the test equal in both, or stop alike
  set_check : (D k n b : ℕ) (e : Exp ℕ) (x : Exp Reg) → rows b ≡ rassign (guard D) (op join_op (level_exp F e) x) → Placed rows (suc b) (stop_check_lem F D n) →
      (ρ σ : Reg → Value) → Tied D ρ σ → (eval F ρ x ≡ eval F σ x) × Flows F rd (eval F ρ x) × IsMachineCode F (eval F ρ x) →
      ((α β : Reg → Value) → Tied (suc D) α β → eval F α (own_exp F e) ≡ eval F β (own_exp F e) → SimFrom k (after (suc b) (stop_check_lem F D n)) α (after (suc b) (stop_check_lem F D n)) β) →
      SimFrom k b ρ b σ
  set_check D k n b e x r p ρ σ rl gx f = both F rd ρ0 σ0 rows r refl refl
      (go (low_guard F L rd crd ct cu gx.2 gx.0 gx.1 (low_exp F L rd crd ρ σ ρ0 σ0 rl.good1 rl.good2 rl.low e)))
    where
      v : Value
      v = apply join_op (eval F ρ (level_exp F e)) (eval F ρ x)

      w : Value
      w = apply join_op (eval F σ (level_exp F e)) (eval F σ x)

      ct : IsMachineCode F (eval F ρ (level_exp F e))
      ct = level_exp_code F L rd crd ρ0 ρ rl.good1 e

      cu : IsMachineCode F (eval F σ (level_exp F e))
      cu = level_exp_code F L rd crd σ0 σ rl.good2 e

      ρ1 : Reg → Value
      ρ1 = set F (guard D) v ρ

      σ1 : Reg → Value
      σ1 = set F (guard D) w σ

      go : Agree F rd v (eval F ρ (own_exp F e)) w (eval F σ (own_exp F e)) → SimFrom k (suc b) ρ1 (suc b) σ1
      go (inl h) = safe_check D k n (suc b) ρ1 σ1 p (equal v z) (ap (λ y. equal y z) (read_guard F D v ρ)) (ap (λ y. equal y z) (read_guard F D w σ ∙ sym h.0))
          (λ q. f ρ1 σ1 (related_guard F L rd crd ρ0 σ0 D v w h.0 h.1 (L.code_J ct gx.2) rl)
          (own_exp_same F L rd crd ρ0 σ0 ρ1 ρ (λ j. refl) e ∙ h.2 ∙ sym (own_exp_same F L rd crd ρ0 σ0 σ1 σ (λ j. refl) e)))
      go (inr h) = safe_check D k n (suc b) ρ1 σ1 p false (ap (λ y. equal y z) (read_guard F D v ρ) ∙ nonzero v h.0) (ap (λ y. equal y z) (read_guard F D w σ) ∙ nonzero w h.1)
          (λ q. absurd (false≢true q))

  safe_assign : (D k b K : ℕ) (e : Exp ℕ) → Placed rows b (rewrite F N D (assign K e)) → Safe D k (after b (rewrite F N D (assign K e))) → Safe D k b
  safe_assign D k b K e p s ρ σ r =
      let g = guard_at_lem F L rd crd ρ0 σ0 D r in
      let ct = level_exp_code F L rd crd ρ0 ρ r.good1 e in
      let cu = level_exp_code F L rd crd σ0 σ r.good2 e in
      both F rd ρ0 σ0 rows p.0 refl refl (both F rd ρ0 σ0 rows p.1.0 refl refl (both F rd ρ0 σ0 rows p.1.1 refl refl
      (s _ _ (related_assign F L rd crd ρ0 σ0 K (L.code_J ct g.2) (L.code_J cu (subst (IsMachineCode F) g.0 g.2))
      (low_val F L rd crd ρ0 σ0 (own_exp_same F L rd crd ρ0 σ0 _ ρ (λ j. refl) e) (own_exp_same F L rd crd ρ0 σ0 _ σ (λ j. refl) e)
      (low_guard F L rd crd ct cu g.2 g.0 g.1 (low_exp F L rd crd ρ σ ρ0 σ0 r.good1 r.good2 r.low e))) r))))

  safe_write : (D k b : ℕ) (t : Value) (e : Exp ℕ) → IsMachineCode F t → Placed rows b (rewrite F N D (write t e)) → Safe D k (after b (rewrite F N D (write t e))) → Safe D k b
  safe_write D k b t e cd p s ρ σ r =
      go (low_guard F L rd crd ct cu g.2 g.0 g.1 (low_exp F L rd crd ρ σ ρ0 σ0 r.good1 r.good2 r.low e))
    where
      g : (eval F ρ (guard_exp F D) ≡ eval F σ (guard_exp F D)) × Flows F rd (eval F ρ (guard_exp F D)) × IsMachineCode F (eval F ρ (guard_exp F D))
      g = guard_at_lem F L rd crd ρ0 σ0 D r

      ct : IsMachineCode F (eval F ρ (level_exp F e))
      ct = level_exp_code F L rd crd ρ0 ρ r.good1 e

      cu : IsMachineCode F (eval F σ (level_exp F e))
      cu = level_exp_code F L rd crd σ0 σ r.good2 e

      l : Value
      l = apply join_op (eval F ρ (level_exp F e)) (eval F ρ (guard_exp F D))

      m : Value
      m = apply join_op (eval F σ (level_exp F e)) (eval F σ (guard_exp F D))

      out : ℕ
      out = after b (rewrite F N D (write t e))

      alike : l ≡ m → eval F ρ (own_exp F e) ≡ eval F σ (own_exp F e) → (c : Bool) → equal (apply join_op l t) t ≡ c → SimFrom k b ρ b σ
      alike h v true q = both_if false p.head (test_yes F L rd _ _ q) (test_yes F L rd _ _ (ap (λ x. equal (apply join_op x t) t) (sym h) ∙ q))
          (mono F rd ρ0 σ0 rows (tick F rd ρ0 σ0 rows p.first p.first (ap (λ x. cond (equal (apply join_op t rd) rd) (printed (line_of (natural t) x)) silent) v)
          (λ f. both F rd ρ0 σ0 rows p.between refl refl (s ρ σ r))))
      alike h v false q = both_if true p.head (test_no F L rd _ _ q) (test_no F L rd _ _ (ap (λ x. equal (apply join_op x t) t) (sym h) ∙ q))
          (both F rd ρ0 σ0 rows p.second refl refl (both F rd ρ0 σ0 rows p.foot refl refl (s ρ σ r)))

      go : Agree F rd l (eval F ρ (own_exp F e)) m (eval F σ (own_exp F e)) → SimFrom k b ρ b σ
      go (inl h) = alike h.0 h.2 (equal (apply join_op l t) t) refl
      go (inr h) = join F rd ρ0 σ0 rows {p' = out} {q' = out} {Q = λ α. α ≡ ρ} {R = λ β. β ≡ σ}
          (quiet_write F L rd crd ρ0 σ0 rows N D t e b ρ cd (L.code_J ct g.2) h.0 p refl)
          (quiet_write F L rd crd ρ0 σ0 rows N D t e b σ cd (L.code_J cu (subst (IsMachineCode F) g.0 g.2)) h.1 p refl)
          (λ α β x y. rw (x, y) (s ρ σ r))

  safe_release : (D k b K : ℕ) (e : Exp ℕ) → Placed rows b (rewrite F N D (release K e)) → Safe D k (after b (rewrite F N D (release K e))) → Safe D k b
  safe_release D k b K e p s ρ σ r = go (equal (apply max_op (eval F ρ (guard_exp F D)) (eval F ρ (mark_exp F e))) z) refl
    where
      g : (eval F ρ (guard_exp F D) ≡ eval F σ (guard_exp F D)) × Flows F rd (eval F ρ (guard_exp F D)) × IsMachineCode F (eval F ρ (guard_exp F D))
      g = guard_at_lem F L rd crd ρ0 σ0 D r

      alike : apply max_op (eval F ρ (guard_exp F D)) (eval F ρ (mark_exp F e)) ≡ apply max_op (eval F σ (guard_exp F D)) (eval F σ (mark_exp F e))
      alike = ap₂ (apply max_op) g.0 (same_mark_exp F L rd crd ρ σ r.low e)

      go : (c : Bool) → equal (apply max_op (eval F ρ (guard_exp F D)) (eval F ρ (mark_exp F e))) z ≡ c → SimFrom k b ρ b σ
      go true q =
          let none = (L.max_none g.2 (mark_exp_mark F L rd crd ρ0 ρ r.good1 e) (L.eq_sound _ _ q)).1 in
          let none2 = sym (same_mark_exp F L rd crd ρ σ r.low e) ∙ none in
          both_if false p.head (test_yes F L rd _ _ q) (test_yes F L rd _ _ (ap (λ x. equal x z) (sym alike) ∙ q))
          (both F rd ρ0 σ0 rows p.first.0 refl refl (both F rd ρ0 σ0 rows p.first.1.0 refl refl
          (mono F rd ρ0 σ0 rows (tick F rd ρ0 σ0 rows p.first.1.1 p.first.1.1 refl
          (λ f. both F rd ρ0 σ0 rows p.between refl refl (s _ _
          (related_assign F L rd crd ρ0 σ0 K L.z_is_code L.z_is_code
          (inl (
            refl,
            flows_bottom F L rd crd,
            own_exp_same F L rd crd ρ0 σ0 _ ρ (λ j. refl) e ∙ open_figure F L rd crd ρ0 σ0 ρ0 ρ r.good1 e none ∙ f
                ∙ sym (open_figure F L rd crd ρ0 σ0 σ0 σ r.good2 e none2) ∙ sym (own_exp_same F L rd crd ρ0 σ0 _ σ (λ j. refl) e),
          )) r)))))))
      go false q = both_if true p.head (test_no F L rd _ _ q) (test_no F L rd _ _ (ap (λ x. equal x z) (sym alike) ∙ q))
          (both F rd ρ0 σ0 rows p.second.0 refl refl (both F rd ρ0 σ0 rows p.second.1.0 refl refl (both F rd ρ0 σ0 rows p.second.1.1 refl refl
          (both F rd ρ0 σ0 rows p.foot refl refl (s ρ σ r)))))

  -- an if, its arms' lemmas given
  safe_ifs : (D k b : ℕ) (e : Exp ℕ) (A B : Script) (x : Bool) → (named_has_while A || named_has_while B) ≡ x → NamedWellFormed (IsMachineCode F) N A → NamedWellFormed (IsMachineCode F) N B →
      ((c : ℕ) → Placed rows c (rewrite F N (suc D) A) → Safe (suc D) k (after c (rewrite F N (suc D) A)) → Safe (suc D) k c) →
      ((c : ℕ) → Placed rows c (rewrite F N (suc D) B) → Safe (suc D) k (after c (rewrite F N (suc D) B)) → Safe (suc D) k c) →
      Placed rows b (cseq (cassign (guard D) (op join_op (level_exp F e) (guard_exp F D)))
      (cseq (branch F D (own_exp F e) (rewrite F N (suc D) A) (rewrite F N (suc D) B) x) (raise F D (rising N (assigns (if e A B)))))) →
      Safe D k (after (after (suc b) (branch F D (own_exp F e) (rewrite F N (suc D) A) (rewrite F N (suc D) B) x)) (raise F D (rising N (assigns (if e A B))))) →
      Safe D k b
  safe_ifs D k b e A B true w ca cb ha hb p s ρ σ r =
      set_check D k 1 b e (guard_exp F D) p.0 p.1.0.0 ρ σ r (guard_at_lem F L rd crd ρ0 σ0 D r)
      (λ α β q same. safe_if (suc D) k _ e _ _ p.1.0.1 ha hb
      (safe_raise D k (rising N (assigns (if e A B))) _ p.1.1 (λ α' β' q'. s α' β' (related_less F L rd crd ρ0 σ0 q'))) α β q same)
  safe_ifs D k b e A B false w ca cb ha hb p s ρ σ r = both F rd ρ0 σ0 rows p.0 refl refl
      (go (low_guard F L rd crd ct cu g.2 g.0 g.1 (low_exp F L rd crd ρ σ ρ0 σ0 r.good1 r.good2 r.low e)))
    where
      g : (eval F ρ (guard_exp F D) ≡ eval F σ (guard_exp F D)) × Flows F rd (eval F ρ (guard_exp F D)) × IsMachineCode F (eval F ρ (guard_exp F D))
      g = guard_at_lem F L rd crd ρ0 σ0 D r

      ct : IsMachineCode F (eval F ρ (level_exp F e))
      ct = level_exp_code F L rd crd ρ0 ρ r.good1 e

      cu : IsMachineCode F (eval F σ (level_exp F e))
      cu = level_exp_code F L rd crd σ0 σ r.good2 e

      v : Value
      v = apply join_op (eval F ρ (level_exp F e)) (eval F ρ (guard_exp F D))

      w' : Value
      w' = apply join_op (eval F σ (level_exp F e)) (eval F σ (guard_exp F D))

      ρ1 : Reg → Value
      ρ1 = set F (guard D) v ρ

      σ1 : Reg → Value
      σ1 = set F (guard D) w' σ

      ks : List ℕ
      ks = rising N (assigns (if e A B))

      ta : ℕ
      ta = toll (rewrite F N (suc D) A)

      tb : ℕ
      tb = toll (rewrite F N (suc D) B)

      ws : (named_has_while A ≡ false) × (named_has_while B ≡ false)
      ws = or_parts (named_has_while A) (named_has_while B) w

      -- one run of a private if
      alone : (α0 α : Reg → Value) (u : Value) → Good F rd α0 α → IsMachineCode F u → ¬ Flows F rd u →
          Quiet F rd ρ0 σ0 rows (plus (toll (branch F D (own_exp F e) (rewrite F N (suc D) A) (rewrite F N (suc D) B) false)) (toll (raise F D ks))) (suc b) (set F (guard D) u α)
          (after (after (suc b) (branch F D (own_exp F e) (rewrite F N (suc D) A) (rewrite F N (suc D) B) false)) (raise F D ks))
          (λ τ. Good F rd α0 τ × Frame F (suc D) (assigns (if e A B)) (set F (guard D) u α) τ × ((K : ℕ) → assigns (if e A B) K ≡ true → (¬ Flows F rd (τ (level K))) × (τ (mark K) ≡ one)))
      alone α0 α u good cd above =
          let is = sym (read_guard F D u α) in
          let cg : IsMachineCode F (set F (guard D) u α (guard D)) = subst (IsMachineCode F) is cd in
          let up : ¬ Flows F rd (set F (guard D) u α (guard D)) = subst (λ x. ¬ Flows F rd x) is above in
          let good1 = good_guard F L rd D u good in
          quiet_if F L rd crd ρ0 σ0 rows N α0 D (suc b) (own_exp F e) (rewrite F N (suc D) A) (rewrite F N (suc D) B) (assigns A) (assigns B) (set F (guard D) u α) p.1
          (λ c q. quiet F L rd crd ρ0 σ0 rows N A α0 (suc D) c (set F (guard D) u α) q ws.0 ca good1 cg up)
          (λ c q. quiet F L rd crd ρ0 σ0 rows N B α0 (suc D) c (set F (guard D) u α) q ws.1 cb good1 cg up) cg up (assigned_below (IsMachineCode F) N (if e A B) (ca, cb))

      go : Agree F rd v (eval F ρ (own_exp F e)) w' (eval F σ (own_exp F e)) → SimFrom k (suc b) ρ1 (suc b) σ1
      go (inl h) = safe_if (suc D) k (suc b) e (cseq (rewrite F N (suc D) A) (pads (tb - ta))) (cseq (rewrite F N (suc D) B) (pads (ta - tb))) p.1.0
          (λ c q t. ha c q.0 (safe_pads (suc D) k (tb - ta) _ q.1 t)) (λ c q t. hb c q.0 (safe_pads (suc D) k (ta - tb) _ q.1 t))
          (safe_raise D k ks _ p.1.1 (λ α β q. s α β (related_less F L rd crd ρ0 σ0 q))) ρ1 σ1
          (related_guard F L rd crd ρ0 σ0 D v w' h.0 h.1 (L.code_J ct g.2) r)
          (own_exp_same F L rd crd ρ0 σ0 ρ1 ρ (λ j. refl) e ∙ h.2 ∙ sym (own_exp_same F L rd crd ρ0 σ0 σ1 σ (λ j. refl) e))
      go (inr h) = join F rd ρ0 σ0 rows (alone ρ0 ρ v r.good1 (L.code_J ct g.2) h.0) (alone σ0 σ w' r.good2 (L.code_J cu (subst (IsMachineCode F) g.0 g.2)) h.1)
          (λ α β a c. s α β (related_private F L rd crd ρ0 σ0 D (assigns (if e A B)) ρ σ α β r a.0 c.0
          (frame_trans F (omega arith) (λ K m. (refl, m)) (frame_guard F D v) a.1) (frame_trans F (omega arith) (λ K m. (refl, m)) (frame_guard F D w') c.1) a.2 c.2))

  -- a while: the inner induction, on the steps left
  loop : (D b : ℕ) (e : Exp ℕ) (A : Code Reg) → Placed rows b (cwhile (own_exp F e) (cseq A (cseq (cassign (guard D) (op join_op (level_exp F e) (guard_exp F (suc D)))) (stop_check_lem F D 2)))) →
      ((j : ℕ) → Safe (suc D) j (after (suc b) A) → Safe (suc D) j (suc b)) →
      (k : ℕ) → Safe (suc D) k (after b (cwhile (own_exp F e) (cseq A (cseq (cassign (guard D) (op join_op (level_exp F e) (guard_exp F (suc D)))) (stop_check_lem F D 2))))) →
      (ρ σ : Reg → Value) → Tied (suc D) ρ σ → eval F ρ (own_exp F e) ≡ eval F σ (own_exp F e) → SimFrom k b ρ b σ
  loop D b e A p ha zero s ρ σ r same = record { run = tt }
  loop D b e A p ha (suc k) s ρ σ r same = go (equal (eval F ρ (own_exp F e)) z) refl
      (ha k (λ α β q. set_check D k 2 _ e (guard_exp F (suc D)) p.body.1.0 p.body.1.1 α β (related_less F L rd crd ρ0 σ0 q) (guard_at_lem F L rd crd ρ0 σ0 (suc D) q)
      (λ α' β' q' same'. both F rd ρ0 σ0 rows p.foot refl refl
      (loop D b e A p ha k (λ α'' β'' q''. mono F rd ρ0 σ0 rows (s α'' β'' q'')) α' β' q' same'))))
    where
      go : (c : Bool) → equal (eval F ρ (own_exp F e)) z ≡ c → Safe (suc D) k (suc b) → SimFrom (suc k) b ρ b σ
      go c t body = tick F rd ρ0 σ0 rows p.head p.head refl
          (λ f. rw (t, ap (λ x. equal x z) (sym same) ∙ t) (way c))
        where
          out : ℕ
          out = after b (cwhile (own_exp F e) (cseq A (cseq (cassign (guard D) (op join_op (level_exp F e) (guard_exp F (suc D)))) (stop_check_lem F D 2))))

          way : (d : Bool) → SimFrom k (cond d out (suc b)) ρ (cond d out (suc b)) σ
          way true = mono F rd ρ0 σ0 rows (s ρ σ r)
          way false = body ρ σ r

  pub main : (S : Script) (D b k : ℕ) → Placed rows b (rewrite F N D S) → NamedWellFormed (IsMachineCode F) N S → Safe D k (after b (rewrite F N D S)) → Safe D k b
  main nil D b k p cs s = s
  main skip D b k p cs s = λ ρ σ r. both F rd ρ0 σ0 rows p refl refl (s ρ σ r)
  main (assign K e) D b k p cs s = safe_assign D k b K e p s
  main (release K e) D b k p cs s = safe_release D k b K e p s
  main (write t e) D b k p cs s = safe_write D k b t e cs p s
  main (seq A B) D b k p cs s = main A D b k p.0 cs.0 (main B D _ k p.1 cs.1 s)
  main (if e A B) D b k p cs s = safe_ifs D k b e A B (named_has_while A || named_has_while B) refl cs.0 cs.1
      (λ c q t. main A (suc D) c k q cs.0 t) (λ c q t. main B (suc D) c k q cs.1 t) p s
  main (while e A) D b k p cs s = λ ρ σ r. set_check D k 2 b e (guard_exp F D) p.0 p.1.0 ρ σ r (guard_at_lem F L rd crd ρ0 σ0 D r)
      (loop D _ e (rewrite F N (suc D) A) p.1.1 (λ j t. main A (suc D) _ j p.1.1.body.0 cs t) k (λ α β q. s α β (related_less F L rd crd ρ0 σ0 q)))
