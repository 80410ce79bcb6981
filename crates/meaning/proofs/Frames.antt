-- What rows leave unchanged (Frame), what a run keeps (Good), and how the registers' updates keep it.
use Rattle.std.proofs.Common.{◌≡◌, ℕ, zero, suc, ◌+◌, ◌-◌, ◌<◌, Bool, true, false, cond, ◌||◌, eqb, List, [], ◌∷◌, ◌++◌, sym, refl, ap, ◌∙◌, subst, ap₂, ⊎_elim, inl, inr, arith}
use Rattle.std.proofs.lemmas.Bool.{ne_eqb, eq-eqb, eqb-true, eqb-false, or_cases}
use mathlib.Core.Bool.{or-true, or_assoc, false≢true}
use Rattle.meaning.proofs.NamedCode.{Interpretation, Value, IsMachineCode, Reg, own, level, mark, guard, eval}
use Rattle.meaning.proofs.Registers.{set}
use Rattle.meaning.proofs.NamedRules.{Script, nil, skip, assign, release, write, seq, if, while, assigns, rising, NamedWellFormed, guard_exp, plus, toll, pads}
use Rattle.meaning.proofs.Interpretations.{Laws}
use Rattle.meaning.proofs.Relations.{Mark, Good}

abbrev pub mem : ℕ → List ℕ → Bool
mem K [] = false
mem K (k ∷ ks) = eqb k K || mem K ks

mem-append : (K : ℕ) (xs ys : List ℕ) → mem K (xs ++ ys) ≡ (mem K xs || mem K ys)
mem-append K [] ys = refl
mem-append K (k ∷ xs) ys = ap (λ b. eqb k K || b) (mem-append K xs ys) ∙ sym (or_assoc (eqb k K) (mem K xs) (mem K ys))

-- the rising list holds only what the test takes ..
pub rising_none : (n : ℕ) (p : ℕ → Bool) (K : ℕ) → p K ≡ false → mem K (rising n p) ≡ false
rising_none zero p K h = refl
rising_none (suc n) p K h = mem-append K (rising n p) _ ∙ ap (λ b. b || mem K (cond (p n) (n ∷ []) [])) (rising_none n p K h) ∙ last (p n) refl
  where
    last : (b : Bool) → p n ≡ b → mem K (cond b (n ∷ []) []) ≡ false
    last false e = refl
    last true e = ap (λ b. b || false) (ne_eqb n K (λ q. false≢true (sym h ∙ ap p (sym q) ∙ e)))

-- .. and all of that below n
pub rising-all : (n : ℕ) (p : ℕ → Bool) (K : ℕ) → K < n → p K ≡ true → mem K (rising n p) ≡ true
rising-all zero p K l h = absurd (omega arith)
rising-all (suc n) p K l h = mem-append K (rising n p) _ ∙ last (eqb n K) refl (λ x. rising-all n p K x h)
  where
    last : (b : Bool) → eqb n K ≡ b → (K < n → mem K (rising n p) ≡ true) → (mem K (rising n p) || mem K (cond (p n) (n ∷ []) [])) ≡ true
    last true e f = ap (λ b. mem K (rising n p) || mem K (cond b (n ∷ []) [])) (ap p (eqb-true n K e) ∙ h)
        ∙ ap (λ b. mem K (rising n p) || (b || false)) e ∙ or-true (mem K (rising n p))
    last false e f = let apart : ¬ (n ≡ K) = eqb-false n K e in
        ap (λ b. b || mem K (cond (p n) (n ∷ []) [])) (f (omega arith))

pub assigned_below : (C : Value → Type 0) (n : ℕ) (S : Script) → NamedWellFormed C n S → (K : ℕ) → assigns S K ≡ true → K < n
assigned_below C n nil w K h = absurd (false≢true h)
assigned_below C n skip w K h = absurd (false≢true h)
assigned_below C n (assign J e) w K h = subst (λ x. x < n) (eqb-true J K h) w
assigned_below C n (release J e) w K h = subst (λ x. x < n) (eqb-true J K h) w
assigned_below C n (write t e) w K h = absurd (false≢true h)
assigned_below C n (seq A B) w K h = ⊎_elim (assigned_below C n A w.0 K) (assigned_below C n B w.1 K) (or_cases (assigns A K) (assigns B K) h)
assigned_below C n (if e A B) w K h = ⊎_elim (assigned_below C n A w.0 K) (assigned_below C n B w.1 K) (or_cases (assigns A K) (assigns B K) h)
assigned_below C n (while e A) w K h = assigned_below C n A w K h

pub plus_is : (n m : ℕ) → plus n m ≡ n + m
plus_is zero m = omega arith
plus_is (suc n) m = let e = plus_is n m in omega arith

pads-toll : (n : ℕ) → toll (pads {R = Reg} n) ≡ n
pads-toll zero = refl
pads-toll (suc n) = ap suc (pads-toll n)

-- padded arms have one toll
pub pad_even : (a b : ℕ) → plus b (toll (pads {R = Reg} (a - b))) ≡ plus a (toll (pads {R = Reg} (b - a)))
pad_even a b = let e = plus_is b (a - b) in let f = plus_is a (b - a) in rw (pads-toll (a - b), pads-toll (b - a)) (omega arith)

module _ (F : Interpretation) where
  pub record Frame (D : ℕ) (P : ℕ → Bool) (ρ σ : Reg → Value) : Type 0 where
    pub vars : (K : ℕ) → P K ≡ false → (σ (own K) ≡ ρ (own K)) × (σ (level K) ≡ ρ (level K)) × (σ (mark K) ≡ ρ (mark K))
    pub guards_kept : (d : ℕ) → d < D → σ (guard d) ≡ ρ (guard d)

  pub frame_refl : {D : ℕ} {P : ℕ → Bool} {ρ : Reg → Value} → Frame D P ρ ρ
  frame_refl = record { vars = λ K h. (refl, refl, refl); guards_kept = λ d h. refl }

  pub frame_trans : {D E : ℕ} {P Q R : ℕ → Bool} {ρ σ τ : Reg → Value} → D < suc E →
      ((K : ℕ) → R K ≡ false → (P K ≡ false) × (Q K ≡ false)) →
      Frame D P ρ σ → Frame E Q σ τ → Frame D R ρ τ
  frame_trans l sub f g = record {
    vars = λ K h. let a = f.vars K (sub K h).0 in let b = g.vars K (sub K h).1 in (b.0 ∙ a.0, b.1 ∙ a.1, b.2 ∙ a.2);
    guards_kept = λ d h. g.guards_kept d (omega arith) ∙ f.guards_kept d h;
  }

  pub guard_exp_frame : (D : ℕ) {P : ℕ → Bool} {ρ σ : Reg → Value} → Frame D P ρ σ → eval F σ (guard_exp F D) ≡ eval F ρ (guard_exp F D)
  guard_exp_frame zero f = refl
  guard_exp_frame (suc d) f = f.guards_kept d (omega arith)

  -- an own variable with its level and mark is set
  pub frame_assign : {D : ℕ} (K : ℕ) (l v m : Value) {ρ : Reg → Value} →
      Frame D (eqb K) ρ (set F (own K) v (set F (mark K) m (set F (level K) l ρ)))
  frame_assign K l v m {ρ} = record {
    vars = λ j h. let e = h in
        (ap (λ b. cond b v (ρ (own j))) e, ap (λ b. cond b l (ρ (level j))) e, ap (λ b. cond b m (ρ (mark j))) e);
    guards_kept = λ d h. refl;
  }

  -- a level and a mark are set
  pub frame_raise : {D : ℕ} (K : ℕ) (l m : Value) {ρ : Reg → Value} → Frame D (eqb K) ρ (set F (mark K) m (set F (level K) l ρ))
  frame_raise K l m {ρ} = record {
    vars = λ j h. let e = h in
        (refl, ap (λ b. cond b l (ρ (level j))) e, ap (λ b. cond b m (ρ (mark j))) e);
    guards_kept = λ d h. refl;
  }

  pub frame_guard : (D : ℕ) (v : Value) {ρ : Reg → Value} → Frame D (λ K. false) ρ (set F (guard D) v ρ)
  frame_guard D v {ρ} = record { vars = λ K h. (refl, refl, refl); guards_kept = λ d h. ap (λ b. cond b v (ρ (guard d))) (ne_eqb D d (omega arith)) }

  pub read_guard : (D : ℕ) (v : Value) (ρ : Reg → Value) → set F (guard D) v ρ (guard D) ≡ v
  read_guard D v ρ = ap (λ x. cond x v (ρ (guard D))) (eq-eqb D D refl)

  pub frame_less : {D E : ℕ} {P R : ℕ → Bool} {ρ σ : Reg → Value} → D < suc E → ((K : ℕ) → R K ≡ false → P K ≡ false) →
      Frame E P ρ σ → Frame D R ρ σ
  frame_less l sub f = record { vars = λ K h. f.vars K (sub K h); guards_kept = λ d h. f.guards_kept d (omega arith) }

  module _ (L : Laws F) (rd : Value) where
    open F use {z, one, equal, apply, join_op, max_op, eq_op, lt_op}

    pub one≢z : one ≡ z → ⊥
    one≢z e = false≢true (sym L.one_z ∙ ap (λ x. equal x z) e ∙ L.eq_refl z)

    pub test_yes : (a b : Value) → equal a b ≡ true → equal (apply eq_op a b) z ≡ false
    test_yes a b e = ap (λ x. equal x z) (L.op_eq a b ∙ ap (λ c. cond c one z) e) ∙ L.one_z

    pub test_no : (a b : Value) → equal a b ≡ false → equal (apply eq_op a b) z ≡ true
    test_no a b e = ap (λ x. equal x z) (L.op_eq a b ∙ ap (λ c. cond c one z) e) ∙ L.eq_refl z

    pub good_assign : {ρ0 ρ : Reg → Value} (K : ℕ) (l v : Value) → IsMachineCode F l → Good F rd ρ0 ρ →
        Good F rd ρ0 (set F (own K) v (set F (mark K) one (set F (level K) l ρ)))
    good_assign {ρ0} {ρ} K l v cl g = record {
      codes = λ j. elim (eqb K j) as (λ b. IsMachineCode F (cond b l (ρ (level j)))) [ true ↦ cl | false ↦ g.codes j ];
      marks = λ j. elim (eqb K j) as (λ b. Mark F rd (cond b one (ρ (mark j)))) [ true ↦ inr refl | false ↦ g.marks j ];
      opening = λ j. elim (eqb K j) as (λ b. cond b one (ρ (mark j)) ≡ z → cond b v (ρ (own j)) ≡ ρ0 (own j))
          [ true ↦ (λ e. absurd (one≢z e)) | false ↦ g.opening j ];
    }

    pub good_guard : {ρ0 ρ : Reg → Value} (d : ℕ) (v : Value) → Good F rd ρ0 ρ → Good F rd ρ0 (set F (guard d) v ρ)
    good_guard d v g = record { codes = g.codes; marks = g.marks; opening = g.opening }

    pub good_raise : {ρ0 ρ : Reg → Value} (K : ℕ) (l m : Value) → IsMachineCode F l → Mark F rd m → (m ≡ z → ρ (mark K) ≡ z) → Good F rd ρ0 ρ →
        Good F rd ρ0 (set F (mark K) m (set F (level K) l ρ))
    good_raise {ρ0} {ρ} K l m cl mm up g = record {
      codes = λ j. elim (eqb K j) as (λ b. IsMachineCode F (cond b l (ρ (level j)))) [ true ↦ cl | false ↦ g.codes j ];
      marks = λ j. elim (eqb K j) as (λ b. Mark F rd (cond b m (ρ (mark j)))) [ true ↦ mm | false ↦ g.marks j ];
      opening = λ j. go j (eqb K j) refl;
    }
      where
        go : (j : ℕ) (b : Bool) → eqb K j ≡ b → cond b m (ρ (mark j)) ≡ z → ρ (own j) ≡ ρ0 (own j)
        go j true q e = g.opening j (subst (λ i. ρ (mark i) ≡ z) (eqb-true K j q) (up e))
        go j false q e = g.opening j e

    -- the mark that a raise gives
    pub mark_raise : (m g : Value) → Mark F rd m → IsMachineCode F g → Mark F rd (apply max_op m (apply lt_op z g)) × ((apply max_op m (apply lt_op z g)) ≡ z → m ≡ z)
    mark_raise m g mm cg = elim (equal g z) as (λ b. apply lt_op z g ≡ cond b z one → Mark F rd (apply max_op m (apply lt_op z g)) × ((apply max_op m (apply lt_op z g)) ≡ z → m ≡ z))
        [ true ↦ low mm | false ↦ high mm ] (L.lt_code cg)
      where
        low : Mark F rd m → apply lt_op z g ≡ z → Mark F rd (apply max_op m (apply lt_op z g)) × ((apply max_op m (apply lt_op z g)) ≡ z → m ≡ z)
        low (inl h) e = (inl (ap₂ (apply max_op) h e ∙ L.max_zz), λ q. h)
        low (inr h) e = let r = ap₂ (apply max_op) h e ∙ L.max_oz in (inr r, λ q. absurd (one≢z (sym r ∙ q)))

        high : Mark F rd m → apply lt_op z g ≡ one → Mark F rd (apply max_op m (apply lt_op z g)) × ((apply max_op m (apply lt_op z g)) ≡ z → m ≡ z)
        high (inl h) e = (inr (ap₂ (apply max_op) h e ∙ L.max_zo), λ q. h)
        high (inr h) e = let r = ap₂ (apply max_op) h e ∙ L.max_oo in (inr r, λ q. absurd (one≢z (sym r ∙ q)))

    -- above 0, it is 1
    pub mark_one : (m g : Value) → Mark F rd m → IsMachineCode F g → ¬ (g ≡ z) → apply max_op m (apply lt_op z g) ≡ one
    mark_one m g mm cg nz = go (equal g z) refl mm
      where
        go : (b : Bool) → equal g z ≡ b → Mark F rd m → apply max_op m (apply lt_op z g) ≡ one
        go true q mm' = absurd (nz (L.eq_sound g z q))
        go false q (inl h) = ap₂ (apply max_op) h (L.lt_code cg ∙ ap (λ b. cond b z one) q) ∙ L.max_zo
        go false q (inr h) = ap₂ (apply max_op) h (L.lt_code cg ∙ ap (λ b. cond b z one) q) ∙ L.max_oo
