-- A rewritten run that ends with nothing withheld keeps the lines that the script as bought keeps, in no more steps.
use Rattle.std.proofs.Common.{◌≡◌, ℕ, zero, suc, ◌-◌, ◌<◌, ◌≤◌, Bool, true, false, cond, ◌||◌, eqb, List, [], ◌∷◌, length, sym, refl, ap, ◌∙◌, subst, ap₂, arith}
use Rattle.meaning.proofs.NamedCode.{natural, bought, Laid, lay, takes_else_lem, Interpretation, Value, Exp, num, var, op, Reg, own, guard, Code, cassign, cseq, cif, cwhile, Row, rstop, rif, rnone, eval, next, shows, after}
use Rattle.meaning.specs.Machine.{line_of, Shown, silent, printed, no_row, stopped}
use Rattle.meaning.proofs.Placed.{Placed}
use Rattle.meaning.proofs.Registers.{same_reg, set, effect, effect_by}
use Rattle.meaning.proofs.NamedRules.{Script, nil, skip, assign, release, write, seq, if, while, named_has_while, assigns, rising, toll, pads, own_exp, stop_check_lem, raise, branch, rewrite}
use Rattle.meaning.proofs.Programs.{at, named_first_rows, laid, program, plain, named_plain_rows}
use Rattle.meaning.specs.declared.answers.Line.{Line}
use Rattle.meaning.proofs.Laying.{placed, Noted, noted, has_at, at_end_lem}

abbrev pub see : Shown → List Line → List Line
see silent l = l
see (printed x) l = x ∷ l
see no_row l = l
see (stopped n) l = l

-- a row is taken, and is no stop
abbrev pub Goes : Shown → Type 0
Goes silent = Unit {0}
Goes (printed x) = Unit {0}
Goes no_row = ⊥
Goes (stopped n) = ⊥

abbrev IsStop : Shown → Type 0
IsStop silent = ⊥
IsStop (printed x) = ⊥
IsStop no_row = ⊥
IsStop (stopped n) = Unit {0}

module _ (F : Interpretation) (rd : Value) where
  -- the run ends after exactly n steps, each as `ok` asks, and l are the lines kept from here on
  abbrev pub Exactly : {R : Type 0} → (R → R → Bool) → (ok : ℕ → (R → Value) → Row R → Type 0) (rows : ℕ → Row R) → ℕ → ℕ → (R → Value) → List Line → Type 0
  Exactly same ok rows zero p ρ l = (shows F rd (rows p) ρ ≡ no_row) × (l ≡ [])
  Exactly same ok rows (suc n) p ρ l =
      Goes (shows F rd (rows p) ρ) × ok p ρ (rows p) ×
      ((m : List Line) × (l ≡ see (shows F rd (rows p) ρ) m) × Exactly same ok rows n (next F (rows p) p ρ) (effect_by F same (rows p) ρ) m)

  abbrev pub any : {R : Type 0} → ℕ → (R → Value) → Row R → Type 0
  any p ρ r = Unit {0}

  -- a test for a line or a release passes
  abbrev pub Passes : {R : Type 0} → (ℕ → Bool) → ℕ → (R → Value) → Row R → Type 0
  Passes test p ρ r = test p ≡ true → takes_else_lem F ρ r ≡ false

  module _ (places : ℕ → Laid Reg) (bought_rows : ℕ → Row Reg) where
    open F use {z, equal}

    abbrev rows : ℕ → Row Reg
    rows i = (places i).row

    abbrev Ex : ℕ → ℕ → (Reg → Value) → List Line → Type 0
    Ex = Exactly same_reg (Passes (λ i. (places i).test)) rows

    abbrev Bx : ℕ → ℕ → (Reg → Value) → List Line → Type 0
    Bx = Exactly same_reg any bought_rows

    record Tr (k p : ℕ) (ρ : Reg → Value) (q : ℕ) (τ : Reg → Value) : Type 0 where
      to : (n : ℕ) → n < k → (l : List Line) → Ex n p ρ l → (j : ℕ) × (j ≤ n) × Bx j q τ l

    less : {k p q : ℕ} {ρ τ : Reg → Value} → Tr (suc k) p ρ q τ → Tr k p ρ q τ
    less t = record { to = λ n h l x. t.to n (omega arith) l x }

    abbrev ExAt : Row Reg → ℕ → ℕ → (Reg → Value) → List Line → Type 0
    ExAt r n p ρ l = Goes (shows F rd r ρ) × Passes (λ i. (places i).test) p ρ r × ((m : List Line) × (l ≡ see (shows F rd r ρ) m) × Ex n (next F r p ρ) (effect F r ρ) m)

    -- a silent row of the rewritten run alone
    left : {k p q : ℕ} {r : Row Reg} {ρ τ : Reg → Value} → rows p ≡ r → shows F rd r ρ ≡ silent →
        (Passes (λ i. (places i).test) p ρ r → Tr k (next F r p ρ) (effect F r ρ) q τ) → Tr k p ρ q τ
    left {k} {p} {q} {r} {ρ} {τ} e o t = record { to = go }
      where
        go : (n : ℕ) → n < k → (l : List Line) → Ex n p ρ l → (j : ℕ) × (j ≤ n) × Bx j q τ l
        go zero h l x = absurd (subst Goes (sym o ∙ ap (λ y. shows F rd y ρ) (sym e) ∙ x.0) tt)
        go (suc n) h l x =
            let y : ExAt r n p ρ l = subst (λ y. ExAt y n p ρ l) e x in
            let c = (t y.1).to n (omega arith) y.2.0 y.2.2 in
            let less : c.0 ≤ n = c.1 in
            (c.0, omega arith, subst (λ m. Bx c.0 q τ m) (sym (y.2.1 ∙ ap (λ o. see o y.2.0) o)) c.2)

    -- a stop is no end
    stuck : {k p q i : ℕ} {ρ τ : Reg → Value} → rows p ≡ rstop i → Tr k p ρ q τ
    stuck {k} {p} {q} {i} {ρ} {τ} e = record { to = go }
      where
        go : (n : ℕ) → n < k → (l : List Line) → Ex n p ρ l → (j : ℕ) × (j ≤ n) × Bx j q τ l
        go zero h l x = absurd (subst IsStop (ap (λ y. shows F rd y ρ) (sym e) ∙ x.0) tt)
        go (suc n) h l x = absurd (subst (λ y. Goes (shows F rd y ρ)) e x.0)

    -- a row of each that shows the same
    pair : {k p q : ℕ} {r s : Row Reg} {ρ τ : Reg → Value} → rows p ≡ r → bought_rows q ≡ s → Goes (shows F rd s τ) → shows F rd r ρ ≡ shows F rd s τ →
        Tr k (next F r p ρ) (effect F r ρ) (next F s q τ) (effect F s τ) → Tr (suc k) p ρ q τ
    pair {k} {p} {q} {r} {s} {ρ} {τ} e f g o t = record { to = go }
      where
        go : (n : ℕ) → n < suc k → (l : List Line) → Ex n p ρ l → (j : ℕ) × (j ≤ n) × Bx j q τ l
        go zero h l x = absurd (subst Goes (sym o ∙ ap (λ y. shows F rd y ρ) (sym e) ∙ x.0) g)
        go (suc n) h l x =
            let y : ExAt r n p ρ l = subst (λ y. ExAt y n p ρ l) e x in
            let c = t.to n (omega arith) y.2.0 y.2.2 in
            let less : c.0 ≤ n = c.1 in (
              suc c.0,
              omega arith,
              subst (λ w. Goes (shows F rd w τ) × any q τ w × ((m : List Line) × (l ≡ see (shows F rd w τ) m) × Bx c.0 (next F w q τ) (effect F w τ) m)) (sym f)
                  (g, tt, (y.2.0, y.2.1 ∙ ap (λ o. see o y.2.0) o, c.2)),
            )

    abbrev Own : (Reg → Value) → (Reg → Value) → Type 0
    Own ρ τ = (K : ℕ) → ρ (own K) ≡ τ (own K)

    abbrev TS : ℕ → ℕ → ℕ → Type 0
    TS k p q = (ρ τ : Reg → Value) → Own ρ τ → Tr k p ρ q τ

    same_emb : (ρ τ : Reg → Value) → Own ρ τ → (e : Exp ℕ) → eval F ρ (own_exp F e) ≡ eval F τ (own_exp F e)
    same_emb ρ τ h (num v) = refl
    same_emb ρ τ h (var k) = h k
    same_emb ρ τ h (op o a b) = ap₂ (F.apply o) (same_emb ρ τ h a) (same_emb ρ τ h b)

    own_set : (ρ τ : Reg → Value) (K : ℕ) {v w : Value} → v ≡ w → Own ρ τ → Own (set F (own K) v ρ) (set F (own K) w τ)
    own_set ρ τ K {v} {w} e h j = ap₂ (λ x y. cond (eqb K j) x y) e (h j)

    goes_cond : (b : Bool) (x : Line) → Goes (cond b (printed x) silent)
    goes_cond true x = tt
    goes_cond false x = tt

    -- an inserted if, which takes its then
    inserted : {k p q m : ℕ} {e : Exp Reg} {ρ τ : Reg → Value} → (places p).test ≡ true → rows p ≡ rif e m → Tr k (suc p) ρ q τ → Tr k p ρ q τ
    inserted {k} {p} {q} {m} {e} {ρ} {τ} i r t = left r refl (λ g. subst (λ b. Tr k (cond b (suc m) (suc p)) ρ q τ) (sym (g i)) t)

    t_pads : (k n b q : ℕ) (ρ τ : Reg → Value) → Placed rows b (pads n) → Tr k (after b (pads {R = Reg} n)) ρ q τ → Tr k b ρ q τ
    t_pads k zero b q ρ τ p t = t
    t_pads k (suc n) b q ρ τ p t = left p.0 refl (λ g. t_pads k n (suc b) q ρ τ p.1 t)

    t_raise : (k d : ℕ) (ks : List ℕ) (b q : ℕ) → Placed rows b (raise F d ks) → TS k (after b (raise F d ks)) q → TS k b q
    t_raise k d [] b q p s = s
    t_raise k d (i ∷ ks) b q p s = λ ρ τ h. left p.0 refl (λ g. left p.1.0 refl (λ g'. t_raise k d ks (suc (suc b)) q p.1.1 s _ τ h))

    -- the stop check: a stop is no end
    t_check : (k d n b q : ℕ) (ρ τ : Reg → Value) → Placed rows b (stop_check_lem F d n) → Tr k (after b (stop_check_lem F d n)) ρ q τ → Tr k b ρ q τ
    t_check k d n b q ρ τ p t = left p.head refl (λ g. way (equal (eval F ρ (op F.eq_op (var (guard d)) (num z))) z))
      where
        way : (c : Bool) → Tr k (cond c (suc (suc (suc b))) (suc b)) ρ q τ
        way true = stuck p.second
        way false = left p.first refl (λ g. left p.between refl (λ g'. t))

    -- an if of the script, in both
    t_if : (k b c : ℕ) (e : Exp ℕ) (A B A' B' : Code Reg) → Placed rows b (cif bought (own_exp F e) A B) → Placed bought_rows c (cif bought (own_exp F e) A' B') →
        (TS k (after (suc b) A) (after (suc c) A') → TS k (suc b) (suc c)) →
        (TS k (after (suc (after (suc b) A)) B) (after (suc (after (suc c) A')) B') → TS k (suc (after (suc b) A)) (suc (after (suc c) A'))) →
        TS k (after b (cif bought (own_exp F e) A B)) (after c (cif bought (own_exp F e) A' B')) → TS k b c
    t_if k b c e A B A' B' p q ha hb s ρ τ h = less (pair p.head q.head tt refl
        (subst (λ x. Tr k (cond (equal (eval F ρ (own_exp F e)) z) (suc (after (suc b) A)) (suc b)) ρ (cond (equal x z) (suc (after (suc c) A')) (suc c)) τ) (same_emb ρ τ h e)
        (way (equal (eval F ρ (own_exp F e)) z))))
      where
        way : (x : Bool) → Tr k (cond x (suc (after (suc b) A)) (suc b)) ρ (cond x (suc (after (suc c) A')) (suc c)) τ
        way true = hb (λ ρ' τ' h'. less (pair p.foot q.foot tt refl (s ρ' τ' h'))) ρ τ h
        way false = ha (λ ρ' τ' h'. less (pair p.between q.between tt refl (s ρ' τ' h'))) ρ τ h

    t_branch : (k n D b c : ℕ) (e : Exp ℕ) (A B A' B' : Code Reg) (x : Bool) → Placed rows b (branch F D (own_exp F e) A B x) → Noted places D b (branch F D (own_exp F e) A B x) → Placed bought_rows c (cif bought (own_exp F e) A' B') →
        ((b c : ℕ) → Placed rows b A → Noted places (suc D) b A → Placed bought_rows c A' → TS k (after b A) (after c A') → TS k b c) →
        ((b c : ℕ) → Placed rows b B → Noted places (suc D) b B → Placed bought_rows c B' → TS k (after b B) (after c B') → TS k b c) →
        TS k (after b (branch F D (own_exp F e) A B x)) (after c (cif bought (own_exp F e) A' B')) → TS k b c
    t_branch k n D b c e A B A' B' true p o q ha hb s ρ τ h = t_check k D 1 b c ρ τ p.0
        (t_if k _ c e A B A' B' p.1 q (ha _ _ p.1.first o.1.1 q.first) (hb _ _ p.1.second o.1.2 q.second) s ρ τ h)
    t_branch k n D b c e A B A' B' false p o q ha hb s ρ₁ τ₁ h₁ =
        t_if k b c e (cseq A (pads (toll B - toll A))) (cseq B (pads (toll A - toll B))) A' B' p q
        (λ t. ha _ _ p.first.0 o.1.0 q.first (λ ρ τ h. t_pads k (toll B - toll A) _ _ ρ τ p.first.1 (t ρ τ h)))
        (λ t. hb _ _ p.second.0 o.2.0 q.second (λ ρ τ h. t_pads k (toll A - toll B) _ _ ρ τ p.second.1 (t ρ τ h))) s ρ₁ τ₁ h₁

    t_loop : (D b c : ℕ) (e : Exp ℕ) (x : Exp Reg) (A A' : Code Reg) →
        Placed rows b (cwhile (own_exp F e) (cseq A (cseq (cassign (guard D) x) (stop_check_lem F D 2)))) → Placed bought_rows c (cwhile (own_exp F e) A') →
        ((j : ℕ) → TS j (after (suc b) A) (after (suc c) A') → TS j (suc b) (suc c)) →
        (k : ℕ) → TS k (after b (cwhile (own_exp F e) (cseq A (cseq (cassign (guard D) x) (stop_check_lem F D 2))))) (after c (cwhile (own_exp F e) A')) → TS k b c
    t_loop D b c e x A A' p q ha zero s ρ τ h = record { to = λ n h. absurd (omega arith) }
    t_loop D b c e x A A' p q ha (suc k) s ρ τ h =
        let again : TS k b c = t_loop D b c e x A A' p q ha k (λ ρ' τ' h'. less (s ρ' τ' h')) in
        pair p.head q.head tt refl
        (subst (λ y. Tr k (cond (equal (eval F ρ (own_exp F e)) z) out (suc b)) ρ (cond (equal y z) (suc (after (suc c) A')) (suc c)) τ) (same_emb ρ τ h e)
        (way again (equal (eval F ρ (own_exp F e)) z)))
      where
        out : ℕ
        out = after b (cwhile (own_exp F e) (cseq A (cseq (cassign (guard D) x) (stop_check_lem F D 2))))

        way : TS k b c → (y : Bool) → Tr k (cond y out (suc b)) ρ (cond y (suc (after (suc c) A')) (suc c)) τ
        way again true = less (s ρ τ h)
        way again false = ha k (λ ρ' τ' h'. left p.body.1.0 refl (λ g. t_check k D 2 _ _ _ τ' p.body.1.1
            (less (pair p.foot q.foot tt refl (again _ τ' h'))))) ρ τ h

    t_main : (S : Script) (n D b c k : ℕ) → Placed rows b (rewrite F n D S) → Noted places D b (rewrite F n D S) → Placed bought_rows c (plain F S) →
        TS k (after b (rewrite F n D S)) (after c (plain F S)) → TS k b c
    t_main nil n D b c k p o q s = s
    t_main skip n D b c k p o q s = λ ρ τ h. less (pair p q tt refl (s ρ τ h))
    t_main (assign K e) n D b c k p o q s = λ ρ τ h. left p.0 refl (λ g. left p.1.0 refl (λ g'.
        less (pair p.1.1 q tt refl (s _ _ (own_set ρ τ K (same_emb _ τ h e) h)))))
    t_main (release K e) n D b c k p o q s = λ ρ τ h. inserted o.0 p.head (left p.first.0 refl (λ g. left p.first.1.0 refl (λ g'.
        less (pair p.first.1.1 q tt refl (left p.between refl (λ g''. s _ _ (own_set ρ τ K (same_emb _ τ h e) h)))))))
    t_main (write t e) n D b c k p o q s = λ ρ τ h. inserted o.0 p.head
        (less (pair p.first q (goes_cond (equal (F.apply F.join_op t rd) rd) (line_of (natural t) (eval F τ (own_exp F e)))) (ap (λ v. cond (equal (F.apply F.join_op t rd) rd) (printed (line_of (natural t) v)) silent) (same_emb ρ τ h e)) (left p.between refl (λ g. s ρ τ h))))
    t_main (seq A B) n D b c k p o q s = t_main A n D b c k p.0 o.0 q.0 (t_main B n D _ _ k p.1 o.1 q.1 s)
    t_main (if e A B) n D b c k p o q s = λ ρ τ h. left p.0 refl (λ g.
        t_branch k n D (suc b) c e (rewrite F n (suc D) A) (rewrite F n (suc D) B) (plain F A) (plain F B) (named_has_while A || named_has_while B) p.1.0 o.1.0 q
        (λ x y. t_main A n (suc D) x y k) (λ x y. t_main B n (suc D) x y k) (t_raise k D (rising n (assigns (if e A B))) _ _ p.1.1 s) _ τ h)
    t_main (while e A) n D b c k p o q s = λ ρ τ h. left p.0 refl (λ g. t_check k D 2 (suc b) c _ τ p.1.0
        (t_loop D _ c e _ (rewrite F n (suc D) A) (plain F A) p.1.1 q (λ j t. t_main A n (suc D) _ _ j p.1.1.body.0 o.1.1.0 q.body t) k s _ τ h))

    t_first_rows : (k K : ℕ) (ls : List Value) (b q : ℕ) → Placed rows b (named_first_rows K ls) → TS k (after b (named_first_rows K ls)) q → TS k b q
    t_first_rows k K [] b q p s = s
    t_first_rows k K (l ∷ ls) b q p s = λ ρ τ h. left p.0 refl (λ g. t_first_rows k (suc K) ls (suc b) q p.1 s _ τ h)

    t_over : (k p q : ℕ) → rows p ≡ rnone → bought_rows q ≡ rnone → TS k p q
    t_over k p q e f ρ τ h = record { to = go }
      where
        go : (n : ℕ) → n < k → (l : List Line) → Ex n p ρ l → (j : ℕ) × (j ≤ n) × Bx j q τ l
        go zero h l x = (0, omega arith, (ap (λ y. shows F rd y τ) f, x.1))
        go (suc n) h l x = absurd (subst (λ y. Goes (shows F rd y ρ)) e x.0)

  pub ends_as_bought : (ls : List Value) (S : Script) (ρ τ : Reg → Value) → ((K : ℕ) → ρ (own K) ≡ τ (own K)) → (n : ℕ) (l : List Line) →
      Exactly same_reg (Passes (λ i. (laid F ls S i).test)) (program F ls S) n 0 ρ l → (j : ℕ) × (j ≤ n) × Exactly same_reg any (named_plain_rows F S) j 0 τ l
  ends_as_bought ls S ρ τ agree n l x =
      (t_first_rows places bought_rows (suc n) 0 ls 0 0 p.0
      (t_main places bought_rows S (length ls) 0 _ 0 (suc n) p.1 o.1 q (t_over places bought_rows (suc n) _ _ (at_end_lem code) (at_end_lem (plain F S)))) ρ τ agree).to n (omega arith) l x
    where
      code : Code Reg
      code = cseq (named_first_rows 0 ls) (rewrite F (length ls) 0 S)

      places : ℕ → Laid Reg
      places = laid F ls S

      bought_rows : ℕ → Row Reg
      bought_rows = named_plain_rows F S

      p : Placed (program F ls S) 0 code
      p = placed places 0 0 code (has_at (lay 0 0 code))

      o : Noted places 0 0 code
      o = noted places 0 0 code (has_at (lay 0 0 code))

      q : Placed bought_rows 0 (plain F S)
      q = placed (at (lay 0 0 (plain F S))) 0 0 (plain F S) (has_at (lay 0 0 (plain F S)))
