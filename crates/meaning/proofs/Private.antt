-- Under a guard above the reader, a rewritten list without whiles takes exactly its toll of silent steps, ends behind itself,
-- and changes only the variables assigned in it and deeper guards. One run alone.
use Rattle.std.proofs.Common.{◌≡◌, ℕ, zero, suc, ◌-◌, ◌<◌, Bool, true, false, cond, ◌||◌, eqb, List, [], ◌∷◌, sym, refl, ap, ◌∙◌, subst, arith}
use Rattle.std.proofs.lemmas.Bool.{or_parts}
use mathlib.Core.Bool.{false≢true}
use Rattle.meaning.proofs.NamedCode.{natural, Interpretation, Value, IsMachineCode, Exp, op, Reg, level, mark, guard, Code, cassign, cseq, Row, rif, eval, after}
use Rattle.meaning.specs.Machine.{line_of, printed, silent}
use Rattle.meaning.proofs.Placed.{Placed}
use Rattle.meaning.proofs.Registers.{set}
use Rattle.meaning.proofs.NamedRules.{Script, nil, skip, assign, release, write, seq, if, while, named_has_while, assigns, rising, NamedWellFormed, toll, pads, own_exp, level_exp, guard_exp, raise, branch, rewrite, plus}
use Rattle.meaning.proofs.Interpretations.{Laws, Flows}
use Rattle.meaning.proofs.Relations.{Mark, Good}
use Rattle.meaning.proofs.Levels.{flows_zero, flows_left, flows_right, level_exp_code, mark_exp_mark}
use Rattle.meaning.proofs.Steps.{Quiet, here, then, bind, map_quiet}
use Rattle.meaning.proofs.Frames.{mem, rising_none, rising-all, assigned_below, pad_even, Frame, frame_refl, frame_trans, frame_assign, frame_raise, frame_guard, guard_exp_frame, frame_less, read_guard, test_yes, test_no, good_assign, good_guard, good_raise, mark_raise, mark_one}

module _ (F : Interpretation) (L : Laws F) (rd : Value) (crd : IsMachineCode F rd) (ρ0 σ0 : Reg → Value) (rows : ℕ → Row Reg) (N : ℕ) where
  open F use {z, one, equal, apply, join_op, max_op, eq_op, lt_op}

  abbrev QuietFrom : ℕ → ℕ → (Reg → Value) → ℕ → ((Reg → Value) → Type 0) → Type 0
  QuietFrom = Quiet F rd ρ0 σ0 rows

  pub go_else : {p q n m : ℕ} {e : Exp Reg} {ρ : Reg → Value} {Q : (Reg → Value) → Type 0} → rows p ≡ rif e m → equal (eval F ρ e) z ≡ true →
      QuietFrom n (suc m) ρ q Q → QuietFrom (suc n) p ρ q Q
  go_else {p} {q} {n} {m} {e} {ρ} {Q} r t s = then F rd ρ0 σ0 rows r refl (subst (λ b. QuietFrom n (cond b (suc m) (suc p)) ρ q Q) (sym t) s)

  pub go_then : {p q n m : ℕ} {e : Exp Reg} {ρ : Reg → Value} {Q : (Reg → Value) → Type 0} → rows p ≡ rif e m → equal (eval F ρ e) z ≡ false →
      QuietFrom n (suc p) ρ q Q → QuietFrom (suc n) p ρ q Q
  go_then {p} {q} {n} {m} {e} {ρ} {Q} r t s = then F rd ρ0 σ0 rows r refl (subst (λ b. QuietFrom n (cond b (suc m) (suc p)) ρ q Q) (sym t) s)

  pub quiet_pads : (n b : ℕ) (ρ : Reg → Value) {Q : (Reg → Value) → Type 0} → Placed rows b (pads n) → Q ρ → QuietFrom (toll (pads {R = Reg} n)) b ρ (after b (pads {R = Reg} n)) Q
  quiet_pads zero b ρ p h = here F rd ρ0 σ0 rows h
  quiet_pads (suc n) b ρ p h = then F rd ρ0 σ0 rows p.0 refl (quiet_pads n (suc b) ρ p.1 h)

  -- a line at a level that the guarded level flows to is not for the reader
  pub hidden : (t l v : Value) → IsMachineCode F t → IsMachineCode F l → ¬ Flows F rd l → apply join_op l t ≡ t → cond (equal (apply join_op t rd) rd) (printed (line_of (natural t) v)) silent ≡ silent
  hidden t l v ct cl up e = go (equal (apply join_op t rd) rd) refl
    where
      go : (b : Bool) → equal (apply join_op t rd) rd ≡ b → cond b (printed (line_of (natural t) v)) silent ≡ silent
      go true q = absurd (up (flows_left F L rd crd cl ct (ap (λ x. apply join_op x rd) e ∙ L.eq_sound _ _ q)))
      go false q = refl

  -- a write whose level is above the reader: three silent steps, whichever way its test goes
  pub quiet_write : (D : ℕ) (t : Value) (e : Exp ℕ) (b : ℕ) (ρ : Reg → Value) {Q : (Reg → Value) → Type 0} → IsMachineCode F t →
      IsMachineCode F (eval F ρ (op join_op (level_exp F e) (guard_exp F D))) → ¬ Flows F rd (eval F ρ (op join_op (level_exp F e) (guard_exp F D))) →
      Placed rows b (rewrite F N D (write t e)) → Q ρ → QuietFrom 3 b ρ (after b (rewrite F N D (write t e))) Q
  quiet_write D t e b ρ {Q} ct cl up p h = go (equal (apply join_op l t) t) refl
    where
      l : Value
      l = apply join_op (eval F ρ (level_exp F e)) (eval F ρ (guard_exp F D))

      go : (c : Bool) → equal (apply join_op l t) t ≡ c → QuietFrom 3 b ρ (after b (rewrite F N D (write t e))) Q
      go true q = go_then p.head (test_yes F L rd (apply join_op l t) t q)
          (then F rd ρ0 σ0 rows p.first (hidden t l (eval F ρ (own_exp F e)) ct cl up (L.eq_sound _ _ q)) (then F rd ρ0 σ0 rows p.between refl (here F rd ρ0 σ0 rows h)))
      go false q = go_else p.head (test_no F L rd (apply join_op l t) t q)
          (then F rd ρ0 σ0 rows p.second refl (then F rd ρ0 σ0 rows p.foot refl (here F rd ρ0 σ0 rows h)))

  -- the raising rows: silent; every variable named is above the reader and marked, if the guard is above
  pub record Raised (d : ℕ) (ks : List ℕ) (ρ σ : Reg → Value) : Type 0 where
    pub keeps : (D : ℕ) → Frame F D (λ K. mem K ks) ρ σ
    pub up : ¬ Flows F rd (ρ (guard d)) → (K : ℕ) → mem K ks ≡ true → (¬ Flows F rd (σ (level K))) × (σ (mark K) ≡ one)

  pub quiet_raise : (α0 : Reg → Value) (d : ℕ) (ks : List ℕ) (b : ℕ) (ρ : Reg → Value) → Placed rows b (raise F d ks) → Good F rd α0 ρ → IsMachineCode F (ρ (guard d)) →
      QuietFrom (toll (raise F d ks)) b ρ (after b (raise F d ks)) (λ σ. Good F rd α0 σ × Raised d ks ρ σ)
  quiet_raise α0 d [] b ρ p g cg = here F rd ρ0 σ0 rows (g, record { keeps = λ D. frame_refl F; up = λ f K e. absurd (false≢true e) })
  quiet_raise α0 d (k ∷ ks) b ρ p g cg =
      then F rd ρ0 σ0 rows p.0 refl (then F rd ρ0 σ0 rows p.1.0 refl
      (map_quiet F rd ρ0 σ0 rows (quiet_raise α0 d ks (suc (suc b)) ρ1 p.1.1
      (good_raise F L rd k l m (L.code_J (g.codes k) cg) (mark_raise F L rd (ρ (mark k)) (ρ (guard d)) (g.marks k) cg).0 (mark_raise F L rd (ρ (mark k)) (ρ (guard d)) (g.marks k) cg).1 g) cg) (λ σ h. (h.0, raised σ h.1))))
    where
      l : Value
      l = apply join_op (ρ (level k)) (ρ (guard d))

      m : Value
      m = apply max_op (ρ (mark k)) (apply lt_op z (ρ (guard d)))

      ρ1 : Reg → Value
      ρ1 = set F (mark k) m (set F (level k) l ρ)

      raised : (σ : Reg → Value) → Raised d ks ρ1 σ → Raised d (k ∷ ks) ρ σ
      raised σ r = record {
        keeps = λ D. frame_trans F (omega arith) (λ K e. or_parts (eqb k K) (mem K ks) e)
            (frame_raise F {D = D} k l m) (r.keeps D);
        up = λ f K e. here_or_there f K (eqb k K) refl (mem K ks) refl e;
      }
        where
          here_or_there : ¬ Flows F rd (ρ (guard d)) → (K : ℕ) (x : Bool) → eqb k K ≡ x → (y : Bool) → mem K ks ≡ y → (x || y) ≡ true → (¬ Flows F rd (σ (level K))) × (σ (mark K) ≡ one)
          here_or_there f K x ex true ey e = r.up f K ey
          here_or_there f K false ex false ey e = absurd (false≢true e)
          here_or_there f K true ex false ey e =
              let u = (r.keeps 0).vars K ey in
              let el : σ (level K) ≡ l = u.1 ∙ ap (λ x. cond x l (ρ (level K))) ex in (
                λ h. f (flows_right F L rd crd (g.codes k) cg (ap (λ x. apply join_op x rd) (sym el) ∙ h)),
                u.2 ∙ ap (λ x. cond x m (ρ (mark K))) ex ∙ mark_one F L rd (ρ (mark k)) (ρ (guard d)) (g.marks k) cg (λ q. f (flows_zero F L rd crd q)),
              )

  -- what holds behind a private list
  abbrev Post : (α0 : Reg → Value) (D : ℕ) → (ℕ → Bool) → (Reg → Value) → (Reg → Value) → Type 0
  Post α0 D P ρ σ = Good F rd α0 σ × Frame F D P ρ σ

  -- a release under a guard above the reader is withheld
  pub withheld : (p h : Value) → IsMachineCode F p → Mark F rd h → ¬ Flows F rd p → equal (apply max_op p h) z ≡ false
  withheld p h cp mh up = go (equal (apply max_op p h) z) refl
    where
      go : (b : Bool) → equal (apply max_op p h) z ≡ b → equal (apply max_op p h) z ≡ false
      go true q = absurd (up (flows_zero F L rd crd (L.max_none cp mh (L.eq_sound _ _ q)).0))
      go false q = q

  -- a padded if under a guard above the reader, whichever arm it takes
  pub quiet_branch : (α0 : Reg → Value) (D b : ℕ) (e : Exp Reg) (A B : Code Reg) (xs ys : ℕ → Bool) (ρ : Reg → Value) →
      Placed rows b (branch F D e A B false) →
      ((c : ℕ) → Placed rows c A → QuietFrom (toll A) c ρ (after c A) (Post α0 (suc D) xs ρ)) →
      ((c : ℕ) → Placed rows c B → QuietFrom (toll B) c ρ (after c B) (Post α0 (suc D) ys ρ)) →
      QuietFrom (toll (branch F D e A B false)) b ρ (after b (branch F D e A B false)) (Post α0 (suc D) (λ K. xs K || ys K) ρ)
  quiet_branch α0 D b e A B xs ys ρ p qa qb = go (equal (eval F ρ e) z) refl
    where
      out : ℕ
      out = after b (branch F D e A B false)

      go : (c : Bool) → equal (eval F ρ e) z ≡ c → QuietFrom (toll (branch F D e A B false)) b ρ out (Post α0 (suc D) (λ K. xs K || ys K) ρ)
      go false t = go_then p.head t
          (bind F rd ρ0 σ0 rows (bind F rd ρ0 σ0 rows (qa (suc b) p.first.0) (λ σ h. quiet_pads (toll B - toll A) _ σ {Q = Post α0 (suc D) xs ρ} p.first.1 h))
          (λ σ h. then F rd ρ0 σ0 rows p.between refl (here F rd ρ0 σ0 rows (h.0, frame_less F (omega arith) (λ K k. (or_parts (xs K) (ys K) k).0) h.1))))
      go true t = go_else p.head t
          (subst (λ n. QuietFrom (plus n 1) (suc (after (suc b) (cseq A (pads (toll B - toll A))))) ρ out (Post α0 (suc D) (λ K. xs K || ys K) ρ)) (pad_even (toll A) (toll B))
          (bind F rd ρ0 σ0 rows (bind F rd ρ0 σ0 rows (qb _ p.second.0) (λ σ h. quiet_pads (toll A - toll B) _ σ {Q = Post α0 (suc D) ys ρ} p.second.1 h))
          (λ σ h. then F rd ρ0 σ0 rows p.foot refl (here F rd ρ0 σ0 rows (h.0, frame_less F (omega arith) (λ K k. (or_parts (xs K) (ys K) k).1) h.1)))))

  -- the same with the raising rows behind it
  pub quiet_if : (α0 : Reg → Value) (D b : ℕ) (e : Exp Reg) (A B : Code Reg) (xs ys : ℕ → Bool) (ρ : Reg → Value) →
      Placed rows b (cseq (branch F D e A B false) (raise F D (rising N (λ K. xs K || ys K)))) →
      ((c : ℕ) → Placed rows c A → QuietFrom (toll A) c ρ (after c A) (Post α0 (suc D) xs ρ)) →
      ((c : ℕ) → Placed rows c B → QuietFrom (toll B) c ρ (after c B) (Post α0 (suc D) ys ρ)) →
      IsMachineCode F (ρ (guard D)) → ¬ Flows F rd (ρ (guard D)) → ((K : ℕ) → (xs K || ys K) ≡ true → K < N) →
      QuietFrom (plus (toll (branch F D e A B false)) (toll (raise F D (rising N (λ K. xs K || ys K))))) b ρ
      (after b (cseq (branch F D e A B false) (raise F D (rising N (λ K. xs K || ys K)))))
      (λ τ. Good F rd α0 τ × Frame F (suc D) (λ K. xs K || ys K) ρ τ × ((K : ℕ) → (xs K || ys K) ≡ true → (¬ Flows F rd (τ (level K))) × (τ (mark K) ≡ one)))
  quiet_if α0 D b e A B xs ys ρ p qa qb cg up below =
      let ps : ℕ → Bool = λ K. xs K || ys K in
      bind F rd ρ0 σ0 rows (quiet_branch α0 D b e A B xs ys ρ p.0 qa qb) (λ σ h.
      let same = sym (h.1.guards_kept D (omega arith)) in
      map_quiet F rd ρ0 σ0 rows (quiet_raise α0 D (rising N ps) _ σ p.1 h.0 (subst (IsMachineCode F) same cg))
      (λ τ k. (
        k.0,
        frame_trans F (omega arith) (λ K m. (m, rising_none N ps K m)) h.1 (k.1.keeps (suc D)),
        λ K m. k.1.up (subst (λ x. ¬ Flows F rd x) same up) K (rising-all N ps K (below K m) m),
      )))

  pub quiet : (S : Script) (α0 : Reg → Value) (D b : ℕ) (ρ : Reg → Value) → Placed rows b (rewrite F N D S) → named_has_while S ≡ false → NamedWellFormed (IsMachineCode F) N S →
      Good F rd α0 ρ → IsMachineCode F (eval F ρ (guard_exp F D)) → ¬ Flows F rd (eval F ρ (guard_exp F D)) →
      QuietFrom (toll (rewrite F N D S)) b ρ (after b (rewrite F N D S)) (Post α0 D (assigns S) ρ)
  quiet nil α0 D b ρ p w cs g cp up = here F rd ρ0 σ0 rows (g, frame_refl F)
  quiet skip α0 D b ρ p w cs g cp up = then F rd ρ0 σ0 rows p refl (here F rd ρ0 σ0 rows (g, frame_refl F))
  quiet (assign K e) α0 D b ρ p w cs g cp up =
      then F rd ρ0 σ0 rows p.0 refl (then F rd ρ0 σ0 rows p.1.0 refl (then F rd ρ0 σ0 rows p.1.1 refl
      (here F rd ρ0 σ0 rows (good_assign F L rd K _ _ (L.code_J (level_exp_code F L rd crd α0 ρ g e) cp) g, frame_assign F K _ _ _))))
  quiet (release K e) α0 D b ρ p w cs g cp up =
      go_else p.head (test_no F L rd _ _ (withheld _ _ cp (mark_exp_mark F L rd crd α0 ρ g e) up))
      (then F rd ρ0 σ0 rows p.second.0 refl (then F rd ρ0 σ0 rows p.second.1.0 refl (then F rd ρ0 σ0 rows p.second.1.1 refl
      (then F rd ρ0 σ0 rows p.foot refl (here F rd ρ0 σ0 rows (g, frame_refl F))))))
  quiet (write t e) α0 D b ρ p w cs g cp up =
      let ct = level_exp_code F L rd crd α0 ρ g e in
      quiet_write D t e b ρ {Q = Post α0 D (λ K. false) ρ} cs (L.code_J ct cp) (λ f. up (flows_right F L rd crd ct cp f)) p (g, frame_refl F)
  quiet (seq A B) α0 D b ρ p w cs g cp up =
      let ws = or_parts (named_has_while A) (named_has_while B) w in
      bind F rd ρ0 σ0 rows (quiet A α0 D b ρ p.0 ws.0 cs.0 g cp up) (λ σ h.
      let e = sym (guard_exp_frame F D h.1) in
      map_quiet F rd ρ0 σ0 rows (quiet B α0 D _ σ p.1 ws.1 cs.1 h.0 (subst (IsMachineCode F) e cp) (subst (λ x. ¬ Flows F rd x) e up))
      (λ τ k. (k.0, frame_trans F (omega arith) (λ K m. or_parts (assigns A K) (assigns B K) m) h.1 k.1)))
  quiet (if e A B) α0 D b ρ p w cs g cp up =
      let v : Value = apply join_op (eval F ρ (level_exp F e)) (eval F ρ (guard_exp F D)) in
      let ρ1 : Reg → Value = set F (guard D) v ρ in
      let ct = level_exp_code F L rd crd α0 ρ g e in
      let is : v ≡ ρ1 (guard D) = sym (read_guard F D v ρ) in
      let cg : IsMachineCode F (ρ1 (guard D)) = subst (IsMachineCode F) is (L.code_J ct cp) in
      let above : ¬ Flows F rd (ρ1 (guard D)) = subst (λ x. ¬ Flows F rd x) is (λ f. up (flows_right F L rd crd ct cp f)) in
      let good = good_guard F L rd D v g in
      let ws = or_parts (named_has_while A) (named_has_while B) w in
      let qa = λ (c : ℕ) (q : Placed rows c (rewrite F N (suc D) A)). quiet A α0 (suc D) c ρ1 q ws.0 cs.0 good cg above in
      let qb = λ (c : ℕ) (q : Placed rows c (rewrite F N (suc D) B)). quiet B α0 (suc D) c ρ1 q ws.1 cs.1 good cg above in
      let code : Bool → Code Reg = λ x. cseq (cassign (guard D) (op join_op (level_exp F e) (guard_exp F D)))
      (cseq (branch F D (own_exp F e) (rewrite F N (suc D) A) (rewrite F N (suc D) B) x) (raise F D (rising N (assigns (if e A B))))) in
      (subst (λ x. Placed rows b (code x) → QuietFrom (toll (code x)) b ρ (after b (code x)) (Post α0 D (assigns (if e A B)) ρ)) (sym w)
      (λ q. then F rd ρ0 σ0 rows q.0 refl (map_quiet F rd ρ0 σ0 rows
      (quiet_if α0 D (suc b) (own_exp F e) (rewrite F N (suc D) A) (rewrite F N (suc D) B) (assigns A) (assigns B) ρ1 q.1 qa qb cg above (assigned_below (IsMachineCode F) N (if e A B) cs))
      (λ τ k. (k.0, frame_trans F (omega arith) (λ K m. (refl, m)) (frame_guard F D v) k.1))))) p
  quiet (while e A) α0 D b ρ p w cs g cp up = absurd (false≢true (sym w))
