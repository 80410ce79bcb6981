-- One run: every release made hands over its opening figure, at a place whose guard level is 0.
use Rattle.std.proofs.Common.{◌≡◌, ℕ, zero, suc, ◌+◌, ◌-◌, ◌<◌, ◌≤◌, Bool, true, false, cond, ◌||◌, eqb, List, [], ◌∷◌, length, sym, refl, ap, ◌∙◌, subst, arith}
use Rattle.std.proofs.lemmas.Bool.{eqb-false}
use Rattle.meaning.proofs.NamedCode.{Interpretation, Value, IsMachineCode, Exp, op, Reg, own, level, mark, guard, Code, cassign, cseq, cif, cwhile, bought, Row, rif, rstop, rnone, Laid, lay, Releasing, eval, next, after}
use Rattle.meaning.proofs.Placed.{Placed}
use Rattle.meaning.proofs.Registers.{set, effect, effect_by}
use Rattle.meaning.proofs.NamedRules.{Script, nil, skip, assign, release, write, seq, if, while, named_has_while, assigns, rising, toll, pads, own_exp, level_exp, mark_exp, guard_exp, stop_check_lem, raise, branch, rewrite}
use Rattle.meaning.proofs.Interpretations.{Laws}
use Rattle.meaning.specs.Confinement.{All}
use Rattle.meaning.proofs.Programs.{named_first_rows, laid, program, nesting}
use Rattle.meaning.proofs.Relations.{Good}
use Rattle.meaning.proofs.Levels.{level_exp_code, mark_exp_mark}
use Rattle.meaning.proofs.Frames.{test_yes, test_no, good_assign, good_guard, good_raise, mark_raise}
use Rattle.meaning.proofs.Pairs.{own_exp_same, open_figure}
use Rattle.meaning.proofs.Laying.{placed, Noted, noted, has_at, at_end_lem}
use Rattle.meaning.proofs.TwoRuns.{put, good, Opening}

module _ (F : Interpretation) where
  open F use {z, one, equal, apply, join_op, max_op, eq_op, lt_op}

  -- in the next k steps, each release made satisfies M at its row
  abbrev pub FineBy : {R : Type 0} → (R → R → Bool) → (M : ℕ → (R → Value) → Exp R → Type 0) (rows : ℕ → Row R) → ℕ → ℕ → (R → Value) → Type 0
  FineBy same M rows zero p ρ = Unit {0}
  FineBy same M rows (suc k) p ρ = Releasing (M p ρ) (rows p) × FineBy same M rows k (next F (rows p) p ρ) (effect_by F same (rows p) ρ)

  module _ (L : Laws F) (rd : Value) (crd : IsMachineCode F rd) (ρ0 : Reg → Value) (places : ℕ → Laid Reg) (N H : ℕ) where
    abbrev rows : ℕ → Row Reg
    rows i = (places i).row

    abbrev pub Made : ℕ → (Reg → Value) → Exp Reg → Type 0
    Made p ρ e = (eval F ρ e ≡ eval F ρ0 e) × (eval F ρ (guard_exp F (places p).depth) ≡ z) × ((places p).depth ≤ H)

    pub record Fine (k p : ℕ) (ρ : Reg → Value) : Type 0 where
      pub run : FineBy Rattle.meaning.proofs.Registers.same_reg Made rows k p ρ

    tick : {p k : ℕ} {r : Row Reg} {ρ : Reg → Value} → rows p ≡ r → Releasing (Made p ρ) r → Fine k (next F r p ρ) (effect F r ρ) → Fine (suc k) p ρ
    tick e m t = record { run = rw e (m, t.run) }

    lose_run : (k p : ℕ) (ρ : Reg → Value) → FineBy Rattle.meaning.proofs.Registers.same_reg Made rows (suc k) p ρ → FineBy Rattle.meaning.proofs.Registers.same_reg Made rows k p ρ
    lose_run zero p ρ s = tt
    lose_run (suc k) p ρ s = (s.0, lose_run k _ _ s.1)

    lose : {k p : ℕ} {ρ : Reg → Value} → Fine (suc k) p ρ → Fine k p ρ
    lose {k} {p} {ρ} s = record { run = lose_run k p ρ s.run }

    pass : {p k : ℕ} {r : Row Reg} {ρ : Reg → Value} → rows p ≡ r → Releasing (Made p ρ) r → Fine k (next F r p ρ) (effect F r ρ) → Fine k p ρ
    pass e m t = lose (tick e m t)

    -- an if, whichever way it goes
    either : {p k m : ℕ} {e : Exp Reg} {ρ : Reg → Value} → rows p ≡ rif e m → Fine k (suc m) ρ → Fine k (suc p) ρ → Fine k p ρ
    either {p} {k} {m} {e} {ρ} r a b = pass r tt (go (equal (eval F ρ e) z))
      where
        go : (c : Bool) → Fine k (cond c (suc m) (suc p)) ρ
        go true = a
        go false = b

    if_test : {p k m : ℕ} {e : Exp Reg} {ρ : Reg → Value} (c : Bool) → rows p ≡ rif e m → equal (eval F ρ e) z ≡ c → Fine k (cond c (suc m) (suc p)) ρ → Fine k p ρ
    if_test {p} {k} {m} {e} {ρ} c r q t = pass r tt (subst (λ x. Fine k (cond x (suc m) (suc p)) ρ) (sym q) t)

    halted : (k : ℕ) {p n : ℕ} {ρ : Reg → Value} → rows p ≡ rstop n → Fine k p ρ
    halted zero r = record { run = tt }
    halted (suc k) r = tick r tt (halted k r)

    over : (k : ℕ) {p : ℕ} {ρ : Reg → Value} → rows p ≡ rnone → Fine k p ρ
    over zero r = record { run = tt }
    over (suc k) r = tick r tt (over k r)

    -- what the run keeps, D ifs and whiles around
    record Ok (D : ℕ) (ρ : Reg → Value) : Type 0 where
      good : Good F rd ρ0 ρ
      guards : (d : ℕ) → d < D → IsMachineCode F (ρ (guard d))

    guard_code : (D : ℕ) {ρ : Reg → Value} → Ok D ρ → IsMachineCode F (eval F ρ (guard_exp F D))
    guard_code zero r = L.z_is_code
    guard_code (suc d) r = r.guards d (omega arith)

    ok_less : {D : ℕ} {ρ : Reg → Value} → Ok (suc D) ρ → Ok D ρ
    ok_less r = record { good = r.good; guards = λ d h. r.guards d (omega arith) }

    ok_guard : (D : ℕ) {ρ : Reg → Value} (v : Value) → IsMachineCode F v → Ok D ρ → Ok (suc D) (set F (guard D) v ρ)
    ok_guard D {ρ} v c r = record { good = good_guard F L rd D v r.good; guards = λ d h. go d h (eqb D d) refl }
      where
        go : (d : ℕ) → d < suc D → (b : Bool) → eqb D d ≡ b → IsMachineCode F (cond b v (ρ (guard d)))
        go d h true q = c
        go d h false q = r.guards d (omega (arith, eqb-false D d q))

    ok_assign : {D : ℕ} {ρ : Reg → Value} (K : ℕ) (l v : Value) → IsMachineCode F l → Ok D ρ → Ok D (set F (own K) v (set F (mark K) one (set F (level K) l ρ)))
    ok_assign K l v c r = record { good = good_assign F L rd K l v c r.good; guards = r.guards }

    abbrev Safe : ℕ → ℕ → ℕ → Type 0
    Safe D k p = (ρ : Reg → Value) → Ok D ρ → Fine k p ρ

    s_pads : (D k n b : ℕ) → Placed rows b (pads n) → Safe D k (after b (pads {R = Reg} n)) → Safe D k b
    s_pads D k zero b p s = s
    s_pads D k (suc n) b p s = λ ρ r. pass p.0 tt (s_pads D k n (suc b) p.1 s ρ r)

    s_raise : (D k : ℕ) (ks : List ℕ) (b : ℕ) → Placed rows b (raise F D ks) → Safe (suc D) k (after b (raise F D ks)) → Safe (suc D) k b
    s_raise D k [] b p s = s
    s_raise D k (i ∷ ks) b p s = λ ρ r.
        let cg = r.guards D (omega arith) in
        let m = mark_raise F L rd (ρ (mark i)) (ρ (guard D)) (r.good.marks i) cg in
        pass p.0 tt (pass p.1.0 tt (s_raise D k ks (suc (suc b)) p.1.1 s _
        (record { good = good_raise F L rd i _ _ (L.code_J (r.good.codes i) cg) m.0 m.1 r.good; guards = r.guards })))

    s_check : (D k n b : ℕ) → Placed rows b (stop_check_lem F D n) → Safe (suc D) k (after b (stop_check_lem F D n)) → Safe (suc D) k b
    s_check D k n b p s = λ ρ r. either p.head (halted k p.second) (pass p.first tt (pass p.between tt (s ρ r)))

    s_if : (D k b : ℕ) (e : Exp Reg) (A B : Code Reg) → Placed rows b (cif bought e A B) →
        (Safe D k (after (suc b) A) → Safe D k (suc b)) →
        (Safe D k (after (suc (after (suc b) A)) B) → Safe D k (suc (after (suc b) A))) →
        Safe D k (after b (cif bought e A B)) → Safe D k b
    s_if D k b e A B p ha hb s = λ ρ r. either p.head (hb (λ ρ' r'. pass p.foot tt (s ρ' r')) ρ r) (ha (λ ρ' r'. pass p.between tt (s ρ' r')) ρ r)

    s_branch : (D k b : ℕ) (e : Exp Reg) (A B : Code Reg) (x : Bool) → Placed rows b (branch F D e A B x) → Noted places D b (branch F D e A B x) →
        ((c : ℕ) → Placed rows c A → Noted places (suc D) c A → Safe (suc D) k (after c A) → Safe (suc D) k c) →
        ((c : ℕ) → Placed rows c B → Noted places (suc D) c B → Safe (suc D) k (after c B) → Safe (suc D) k c) →
        Safe (suc D) k (after b (branch F D e A B x)) → Safe (suc D) k b
    s_branch D k b e A B true p o ha hb s = s_check D k 1 b p.0 (s_if (suc D) k _ e A B p.1 (ha _ p.1.first o.1.1) (hb _ p.1.second o.1.2) s)
    s_branch D k b e A B false p o ha hb s = s_if (suc D) k b e (cseq A (pads (toll B - toll A))) (cseq B (pads (toll A - toll B))) p
        (λ t. ha _ p.first.0 o.1.0 (s_pads (suc D) k (toll B - toll A) _ p.first.1 t))
        (λ t. hb _ p.second.0 o.2.0 (s_pads (suc D) k (toll A - toll B) _ p.second.1 t)) s

    s_loop : (D b : ℕ) (e : Exp Reg) (x : Exp ℕ) (A : Code Reg) →
        Placed rows b (cwhile e (cseq A (cseq (cassign (guard D) (op join_op (level_exp F x) (guard_exp F (suc D)))) (stop_check_lem F D 2)))) →
        ((j : ℕ) → Safe (suc D) j (after (suc b) A) → Safe (suc D) j (suc b)) →
        (k : ℕ) → Safe (suc D) k (after b (cwhile e (cseq A (cseq (cassign (guard D) (op join_op (level_exp F x) (guard_exp F (suc D)))) (stop_check_lem F D 2))))) → Safe (suc D) k b
    s_loop D b e x A p ha zero s ρ r = record { run = tt }
    s_loop D b e x A p ha (suc k) s ρ r = tick p.head tt (way (s_loop D b e x A p ha k (λ ρ' r'. lose (s ρ' r'))) (equal (eval F ρ e) z))
      where
        out : ℕ
        out = after b (cwhile e (cseq A (cseq (cassign (guard D) (op join_op (level_exp F x) (guard_exp F (suc D)))) (stop_check_lem F D 2))))

        way : Safe (suc D) k b → (c : Bool) → Fine k (cond c out (suc b)) ρ
        way again true = lose (s ρ r)
        way again false = ha k (λ ρ' r'. pass p.body.1.0 tt (s_check D k 2 _ p.body.1.1 (λ ρ'' r''. pass p.foot tt (again ρ'' r'')) _
            (ok_guard D _ (L.code_J (level_exp_code F L rd crd ρ0 ρ' r'.good x) (r'.guards D (omega arith))) (ok_less r')))) ρ r

    guard_kept : (D K : ℕ) (l m : Value) (ρ : Reg → Value) → eval F (set F (mark K) m (set F (level K) l ρ)) (guard_exp F D) ≡ eval F ρ (guard_exp F D)
    guard_kept zero K l m ρ = refl
    guard_kept (suc d) K l m ρ = refl

    s_release : (D k b K : ℕ) (e : Exp ℕ) → D ≤ H → Placed rows b (rewrite F N D (release K e)) → Noted places D b (rewrite F N D (release K e)) →
        Safe D k (after b (rewrite F N D (release K e))) → Safe D k b
    s_release D k b K e h p o s ρ r = go (equal (apply max_op (eval F ρ (guard_exp F D)) (eval F ρ (mark_exp F e))) z) refl
      where
        go : (c : Bool) → equal (apply max_op (eval F ρ (guard_exp F D)) (eval F ρ (mark_exp F e))) z ≡ c → Fine k b ρ
        go true q =
            let none = L.max_none (guard_code D r) (mark_exp_mark F L rd crd ρ0 ρ r.good e) (L.eq_sound _ _ q) in
            let ρ1 : Reg → Value = set F (mark K) one (set F (level K) z ρ) in
            if_test false p.head (test_yes F L rd _ _ q) (pass p.first.0 tt (pass p.first.1.0 tt (pass p.first.1.1 (
              own_exp_same F L rd crd ρ0 ρ0 ρ1 ρ (λ j. refl) e ∙ open_figure F L rd crd ρ0 ρ0 ρ0 ρ r.good e none.1,
              ap (λ d. eval F ρ1 (guard_exp F d)) o.1.1.1 ∙ guard_kept D K z one ρ ∙ none.0,
              subst (λ d. d ≤ H) (sym o.1.1.1) h,
            )
            (pass p.between tt (s _ (ok_assign K z _ L.z_is_code r))))))
        go false q = if_test true p.head (test_no F L rd _ _ q) (pass p.second.0 tt (pass p.second.1.0 tt (pass p.second.1.1 tt (pass p.foot tt (s ρ r)))))

    fine : (S : Script) (D b k : ℕ) → D + nesting S ≤ H → Placed rows b (rewrite F N D S) → Noted places D b (rewrite F N D S) →
        Safe D k (after b (rewrite F N D S)) → Safe D k b
    fine nil D b k h p o s = s
    fine skip D b k h p o s = λ ρ r. pass p tt (s ρ r)
    fine (assign K e) D b k h p o s = λ ρ r. pass p.0 tt (pass p.1.0 tt (pass p.1.1 tt
        (s _ (ok_assign K _ _ (L.code_J (level_exp_code F L rd crd ρ0 ρ r.good e) (guard_code D r)) r))))
    fine (release K e) D b k h p o s = s_release D k b K e (omega arith) p o s
    fine (write t e) D b k h p o s = λ ρ r. either p.head (pass p.second tt (pass p.foot tt (s ρ r))) (pass p.first tt (pass p.between tt (s ρ r)))
    fine (seq A B) D b k h p o s = fine A D b k (omega arith) p.0 o.0 (fine B D _ k (omega arith) p.1 o.1 s)
    fine (if e A B) D b k h p o s = λ ρ r. pass p.0 tt
        (s_branch D k (suc b) (own_exp F e) (rewrite F N (suc D) A) (rewrite F N (suc D) B) (named_has_while A || named_has_while B) p.1.0 o.1.0
        (λ c q u. fine A (suc D) c k (omega arith) q u) (λ c q u. fine B (suc D) c k (omega arith) q u)
        (s_raise D k (rising N (assigns (if e A B))) _ p.1.1 (λ ρ' r'. s ρ' (ok_less r'))) _
        (ok_guard D _ (L.code_J (level_exp_code F L rd crd ρ0 ρ r.good e) (guard_code D r)) r))
    fine (while e A) D b k h p o s = λ ρ r. pass p.0 tt
        (s_check D k 2 (suc b) p.1.0 (s_loop D _ (own_exp F e) e (rewrite F N (suc D) A) p.1.1 (λ j. fine A (suc D) _ j (omega arith) p.1.1.body.0 o.1.1.0) k
        (λ ρ' r'. s ρ' (ok_less r'))) _
        (ok_guard D _ (L.code_J (level_exp_code F L rd crd ρ0 ρ r.good e) (guard_code D r)) r))

    fine_first : (k K : ℕ) (ls : List Value) (b : ℕ) (ρ : Reg → Value) → Placed rows b (named_first_rows K ls) → Fine k (after b (named_first_rows K ls)) (put F K ls ρ) → Fine k b ρ
    fine_first k K [] b ρ p s = s
    fine_first k K (l ∷ ls) b ρ p s = pass p.0 tt (fine_first k (suc K) ls (suc b) _ p.1 s)

  module _ (L : Laws F) (rd : Value) (crd : IsMachineCode F rd) where
    pub fine_program : (ls : List Value) (S : Script) → All (IsMachineCode F) ls → (ρ : Reg → Value) → Opening F ρ → (k : ℕ) →
        FineBy Rattle.meaning.proofs.Registers.same_reg (Made L rd crd ρ (laid F ls S) (length ls) (nesting S)) (program F ls S) k 0 ρ
    fine_program ls S cl ρ o k =
        (fine_first L rd crd ρ (laid F ls S) (length ls) (nesting S) k 0 ls 0 ρ p.0
        (fine L rd crd ρ (laid F ls S) (length ls) (nesting S) S 0 _ k (omega arith) p.1 q.1 (λ σ r. over L rd crd ρ (laid F ls S) (length ls) (nesting S) k (at_end_lem code)) (put F 0 ls ρ)
        (record { good = good F L rd crd ls cl ρ o; guards = λ d h. absurd (omega arith) }))).run
      where
        code : Code Reg
        code = cseq (named_first_rows 0 ls) (rewrite F (length ls) 0 S)

        p : Placed (program F ls S) 0 code
        p = placed (laid F ls S) 0 0 code (has_at (lay 0 0 code))

        q : Noted (laid F ls S) 0 0 code
        q = noted (laid F ls S) 0 0 code (has_at (lay 0 0 code))
