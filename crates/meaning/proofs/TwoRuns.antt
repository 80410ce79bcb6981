-- The theorem on two runs of a whole rewritten program.
use Rattle.std.proofs.Common.{◌≡◌, ℕ, zero, suc, ◌+◌, ◌<◌, Bool, true, false, cond, List, [], ◌∷◌, length, sym, refl, ap, ◌∙◌, subst, inl, inr, arith}
use Rattle.std.proofs.lemmas.Bool.{ne_eqb, eq-eqb}
use mathlib.Core.Bool.{false≢true}
use Rattle.meaning.proofs.NamedCode.{Interpretation, Value, IsMachineCode, Reg, own, level, mark, Code, cseq, Row, rnone, lay, after}
use Rattle.meaning.proofs.Placed.{Placed}
use Rattle.meaning.proofs.Registers.{set}
use Rattle.meaning.proofs.NamedRules.{Script, NamedWellFormed, rewrite}
use Rattle.meaning.proofs.Interpretations.{Laws, Flows}
use Rattle.meaning.proofs.Relations.{Agree, Good, Rel, Same}
use Rattle.meaning.specs.Confinement.{All}
use Rattle.meaning.proofs.Programs.{at, level_at_lem, named_first_rows, program}
use Rattle.meaning.proofs.Steps.{Sim, tick, both}
use Rattle.meaning.proofs.Laying.{placed, has_at, at_end_lem}
use Rattle.meaning.proofs.Public.{main}

module _ (F : Interpretation) where
  open F use {z}

  -- a run's registers when it starts: the own variables hold what was entered, all others 0
  abbrev pub Opening : (Reg → Value) → Type 0
  Opening ρ = ((K : ℕ) → ρ (level K) ≡ z) × ((K : ℕ) → ρ (mark K) ≡ z)

  -- two runs entered alike but for figures above the reader show the reader the same, step for step,
  -- as long as each release that the first takes has the same opening figure in both
  abbrev pub TwoRuns : (rd : Value) → Type 0
  TwoRuns rd = (ls : List Value) (S : Script) → All (IsMachineCode F) ls → NamedWellFormed (IsMachineCode F) (length ls) S → (ρ σ : Reg → Value) → Opening ρ → Opening σ →
      ((K : ℕ) → Flows F rd (level_at_lem z ls K) → ρ (own K) ≡ σ (own K)) →
      (k : ℕ) → Same F rd ρ σ (program F ls S) k 0 ρ 0 σ

-- the registers behind the first rows
abbrev pub put : (F : Interpretation) → ℕ → List Value → (Reg → Value) → Reg → Value
put F K [] ρ = ρ
put F K (l ∷ ls) ρ = put F (suc K) ls (set F (level K) l ρ)

module _ (F : Interpretation) (L : Laws F) (rd : Value) (crd : IsMachineCode F rd) where
  open F use {z, one, equal, apply, join_op}

  put_own : (K : ℕ) (ls : List Value) (ρ : Reg → Value) (j : ℕ) → put F K ls ρ (own j) ≡ ρ (own j)
  put_own K [] ρ j = refl
  put_own K (l ∷ ls) ρ j = put_own (suc K) ls (set F (level K) l ρ) j

  put_mark : (K : ℕ) (ls : List Value) (ρ : Reg → Value) (j : ℕ) → put F K ls ρ (mark j) ≡ ρ (mark j)
  put_mark K [] ρ j = refl
  put_mark K (l ∷ ls) ρ j = put_mark (suc K) ls (set F (level K) l ρ) j

  -- below the first that is set nothing changes
  put_below : (K : ℕ) (ls : List Value) (ρ : Reg → Value) (j : ℕ) → j < K → put F K ls ρ (level j) ≡ ρ (level j)
  put_below K [] ρ j h = refl
  put_below K (l ∷ ls) ρ j h = put_below (suc K) ls (set F (level K) l ρ) j (omega arith) ∙ ap (λ b. cond b l (ρ (level j))) (ne_eqb K j (omega arith))

  put_lev : (K : ℕ) (ls : List Value) (ρ : Reg → Value) (j : ℕ) → ((i : ℕ) → ρ (level (K + i)) ≡ z) → put F K ls ρ (level (K + j)) ≡ level_at_lem z ls j
  put_lev K [] ρ j h = h j
  put_lev K (l ∷ ls) ρ zero h = subst (λ i. put F (suc K) ls (set F (level K) l ρ) (level i) ≡ l) k0
      (put_below (suc K) ls (set F (level K) l ρ) K (omega arith) ∙ ap (λ b. cond b l (ρ (level K))) (eq-eqb K K refl))
    where
      k0 : K ≡ K + 0
      k0 = omega arith
  put_lev K (l ∷ ls) ρ (suc j) h = subst (λ i. put F (suc K) ls (set F (level K) l ρ) (level i) ≡ level_at_lem z ls j) (step j)
      (put_lev (suc K) ls (set F (level K) l ρ) j (λ i. ap (λ b. cond b l (ρ (level (suc K + i)))) (ne_eqb K (suc K + i) (omega arith)) ∙ ap (λ x. ρ (level x)) (step i) ∙ h (suc i)))
    where
      step : (i : ℕ) → suc K + i ≡ K + suc i
      step i = omega arith

  module _ (ρ0 σ0 : Reg → Value) (rows : ℕ → Row Reg) where
    safe_first_rows : (k K : ℕ) (ls : List Value) (b : ℕ) (ρ σ : Reg → Value) → Placed rows b (named_first_rows K ls) →
        Sim F rd ρ0 σ0 rows k (after b (named_first_rows K ls)) (put F K ls ρ) (after b (named_first_rows K ls)) (put F K ls σ) → Sim F rd ρ0 σ0 rows k b ρ b σ
    safe_first_rows k K [] b ρ σ p s = s
    safe_first_rows k K (l ∷ ls) b ρ σ p s = both F rd ρ0 σ0 rows p.0 refl refl (safe_first_rows k (suc K) ls (suc b) _ _ p.1 s)

    over : (k : ℕ) {p : ℕ} {ρ σ : Reg → Value} → rows p ≡ rnone → Sim F rd ρ0 σ0 rows k p ρ p σ
    over zero r = record { run = tt }
    over (suc k) r = tick F rd ρ0 σ0 rows r r refl (λ f. over k r)

  pub pick-code : (ls : List Value) → All (IsMachineCode F) ls → (j : ℕ) → IsMachineCode F (level_at_lem z ls j)
  pick-code [] c j = L.z_is_code
  pick-code (l ∷ ls) c zero = c.0
  pick-code (l ∷ ls) c (suc j) = pick-code ls c.1 j

  pub levels : (ls : List Value) (α : Reg → Value) → Opening F α → (j : ℕ) → put F 0 ls α (level j) ≡ level_at_lem z ls j
  levels ls α o j = subst (λ i. put F 0 ls α (level i) ≡ level_at_lem z ls j) (zero_plus j) (put_lev 0 ls α j (λ i. o.0 (0 + i)))
    where
      zero_plus : (i : ℕ) → 0 + i ≡ i
      zero_plus i = omega arith

  pub good : (ls : List Value) → All (IsMachineCode F) ls → (α : Reg → Value) → Opening F α → Good F rd α (put F 0 ls α)
  good ls cl α o = record {
    codes = λ j. rw (levels ls α o j) (pick-code ls cl j);
    marks = λ j. inl (put_mark 0 ls α j ∙ o.1 j);
    opening = λ j e. put_own 0 ls α j;
  }

  pub two_runs : TwoRuns F rd
  two_runs ls S cl cs ρ σ oρ oσ agree k =
      (safe_first_rows ρ σ rows k 0 ls 0 ρ σ p.0
      (main F L rd crd ρ σ rows (length ls) S 0 _ k p.1 cs (λ α β r. over ρ σ rows k (at_end_lem code)) (put F 0 ls ρ) (put F 0 ls σ) begin)).run
    where
      code : Code Reg
      code = cseq (named_first_rows 0 ls) (rewrite F (length ls) 0 S)

      rows : ℕ → Row Reg
      rows = λ i. (at (lay 0 0 code) i).row

      p : Placed rows 0 code
      p = placed (at (lay 0 0 code)) 0 0 code (has_at (lay 0 0 code))

      vals : (j : ℕ) (b : Bool) → equal (apply join_op (level_at_lem z ls j) rd) rd ≡ b → Agree F rd (put F 0 ls ρ (level j)) (put F 0 ls ρ (own j)) (put F 0 ls σ (level j)) (put F 0 ls σ (own j))
      vals j true e = let f = L.eq_sound _ _ e in
          rw (levels ls ρ oρ j, levels ls σ oσ j, put_own 0 ls ρ j, put_own 0 ls σ j) (inl (refl, f, agree j f))
      vals j false e = let n : ¬ Flows F rd (level_at_lem z ls j) = λ f. false≢true (sym e ∙ ap (λ x. equal x rd) f ∙ L.eq_refl rd) in
          rw (levels ls ρ oρ j, levels ls σ oσ j) (inr (n, n))

      begin : Rel F rd ρ σ 0 (put F 0 ls ρ) (put F 0 ls σ)
      begin = record {
        good1 = good ls cl ρ oρ;
        good2 = good ls cl σ oσ;
        low = record { vals = λ j. vals j (equal (apply join_op (level_at_lem z ls j) rd) rd) refl; tags = λ j. put_mark 0 ls ρ j ∙ oρ.1 j ∙ sym (oσ.1 j) ∙ sym (put_mark 0 ls σ j) };
        guards = λ d h. absurd (omega arith);
      }
