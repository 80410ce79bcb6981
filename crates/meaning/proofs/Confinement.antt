-- Rewritten scripts are confined.
use Rattle.std.proofs.lemmas.Option.{none-some}
use Rattle.std.proofs.Common.{◌≡◌, ℕ, suc, ◌+◌, ◌<◌, ◌≤◌, Bool, true, false, cond, ◌&&◌, ltb, List, [], ◌∷◌, length, ℤ, pos, Some, None, sym, refl, ap, ◌∙◌, subst, arith}
use Rattle.std.proofs.lemmas.Bool.{ltb-false}
use native.Mathlib.Decide.{dec_lt}
use Rattle.refusals.specs.declared.Reason.TheVariants as reason
use Rattle.syntax.specs.Trees.{Expression}
use Rattle.syntax.specs.Scripts.{Script, WellFormed}
use Rattle.meaning.specs.declared.answers.Line.{Line}
use Rattle.meaning.specs.declared.answers.Standing.TheVariants.{Ended}
use Rattle.meaning.specs.declared.answers.Call.{Call}
use Rattle.meaning.specs.declared.answers.Call.TheVariants.{Start, Go}
use Rattle.meaning.specs.Families.{Family, FamilyLaws, IsCode}
use Rattle.meaning.specs.Machine.{register, value_of, takes_else, IfReleases}
use Rattle.meaning.specs.Rules.{guard_of}
use Rattle.meaning.specs.Rewriting.{variables, levels_of, all_codes, writes_codes_in, Rewritable, rewritten}
use Rattle.meaning.specs.Places.{Place, places_in_script, place_at, guard_at, is_test}
use Rattle.meaning.specs.Runs.{Progress, lines, is_going, refusal, enterable, entered_bank, open_refusal, opened_bank, program_row, started, run}
use Rattle.meaning.specs.Sessions.{Session, filling, under_way, closed, opened, entries, enter_all, opening_bank, session_after, taken_from}
use Rattle.meaning.specs.Confinement.{All, HasStarted, HasEnded, IsSettled, kept_lines, entering, WithholdsNothing, Confined}
use Rattle.meaning.proofs.NamedCode.{Interpretation, Value, Exp, Reg, own}
use Rattle.meaning.proofs.NamedRules.{guard_exp}
use Rattle.meaning.proofs.NamedRules as named
use Rattle.meaning.proofs.Registers.{same_reg}
use Rattle.meaning.proofs.Interpretations.{machine, machine_laws}
use Rattle.meaning.proofs.Programs.{laid, program, named_plain_rows, nesting}
use Rattle.meaning.proofs.Numbers.{tree, ValidE, ValidR, Match, eval_match, else_match}
use Rattle.meaning.proofs.Valid.{RewrittenRegister, rewritten_apart, OwnRegister, own_apart, rows_valid, bought_valid, guard_valid, beginning, begins, begins_bought}
use Rattle.meaning.proofs.Releases.{Made, fine_program}
use Rattle.meaning.proofs.Bought.{Passes, any, Exactly, ends_as_bought}
use Rattle.meaning.proofs.Transfer.{FineNumbered, ExactlyNumbered, anywhere, fine_number, exact_name, exact_number}
use Rattle.meaning.proofs.Bridge.{nesting_in_lem, guard_tree}
use Rattle.meaning.proofs.Together.{long_enough, has_registers}
use Rattle.meaning.proofs.Alone.{calls_made, to_start}
use Rattle.meaning.proofs.Setup.{level_values, count_levels, count_rewritten, not_enterable, enterable_same, script, codes, well, reads, rewritten_row, rewritten-rows, bought_rows, place_of_row}
use Rattle.meaning.proofs.BankLaws.{register_cleared}
use Rattle.meaning.proofs.Calls.{cleared-length, entered_length, entered_other, entered_same, alike}
use Rattle.meaning.proofs.Endings.{ended_rows, rows_settle, settles}

-- ---- what an accepted `open` tells

open_tells : (G : Family) (P : Script) (reader : ℕ) (bank : List ℤ) → open_refusal G P reader bank ≡ None → IsCode G reader × (variables P ≤ length bank)
open_tells G P reader bank e = go (G.code reader) refl (all_codes G (levels_of P.declarations) && writes_codes_in G P.statements) (ltb (length bank) (variables P)) refl e
  where
    go : (a : Bool) → G.code reader ≡ a → (b c : Bool) → ltb (length bank) (variables P) ≡ c →
        cond (a && b) (cond c (Some (refusal reason.BankTooSmall)) None) (Some (refusal reason.NotACode)) ≡ None → IsCode G reader × (variables P ≤ length bank)
    go true x true false y h = (x, ltb-false (length bank) (variables P) y)
    go true x true true y h = absurd (none-some _ (sym h))
    go true x false c y h = absurd (none-some _ (sym h))
    go false x b c y h = absurd (none-some _ (sym h))

-- ---- entries

enter_all_length : (P : Script) (es : List (ℕ × ℤ)) (b : List ℤ) → length (enter_all P es b) ≡ length b
enter_all_length P [] b = refl
enter_all_length P (e ∷ es) b = enter_all_length P es (entered_bank P b e.0 e.1) ∙ entered_length P e.0 e.1 b

enter_all_other : (P : Script) (es : List (ℕ × ℤ)) (b : List ℤ) (i : ℕ) → enterable P i ≡ false → register (enter_all P es b) i ≡ register b i
enter_all_other P [] b i h = refl
enter_all_other P (e ∷ es) b i h = enter_all_other P es (entered_bank P b e.0 e.1) i h ∙ entered_other P e.0 e.1 b i h

-- the same entries for two programs that take the same
enter_all_same : (P Q : Script) → ((K : ℕ) → enterable P K ≡ enterable Q K) → (es : List (ℕ × ℤ)) (b c : List ℤ) → variables P ≤ length b → variables Q ≤ length c →
    (i : ℕ) → i < length b → i < length c → register b i ≡ register c i → register (enter_all P es b) i ≡ register (enter_all Q es c) i
enter_all_same P Q h [] b c hb hc i lb lc e = e
enter_all_same P Q h (x ∷ es) b c hb hc i lb lc e =
    let eb = sym (entered_length P x.0 x.1 b) in
    let ec = sym (entered_length Q x.0 x.1 c) in
    enter_all_same P Q h es (entered_bank P b x.0 x.1) (entered_bank Q c x.0 x.1)
    (subst (λ k. variables P ≤ k) eb hb) (subst (λ k. variables Q ≤ k) ec hc) i (subst (λ k. i < k) eb lb) (subst (λ k. i < k) ec lc)
    (entered_same P Q x.0 x.1 x.1 b c (has_registers empty 0 0 P b hb) (has_registers empty 0 0 Q c hc) (h x.0) i lb lc (λ q. refl) e)
  where
    empty : Family
    empty = record { code = λ a. false; join = λ a b. a; operator = 0 }

-- a run that has ended, with these lines
ended_alike : (K : List Line) (last : Progress → Type 0) (t : Session) → HasStarted (λ x. (x.standing ≡ Ended) × (lines x ≡ K) × last x) t → HasEnded t × (kept_lines t ≡ K)
ended_alike K last (filling b l) h = absurd h
ended_alike K last (under_way x) h = (h.0, h.1)
ended_alike K last (closed x) h = (h.0, h.1)

module _ (G : Family) (L : FamilyLaws G) (reader : ℕ) (crd : IsCode G reader) (budget : ℕ) (s : Script) (wf : WellFormed s) (ok : Rewritable G s) where
  abbrev F : Interpretation
  F = machine G

  abbrev prog : Script
  prog = rewritten G s

  abbrev ls : List ℤ
  ls = level_values s

  abbrev m : ℕ
  m = length (level_values s)

  abbrev S : named.Script
  S = script G L s wf ok

  abbrev H : ℕ
  H = nesting S

  total : m + m + m + H ≡ variables prog
  total = let a = count_levels s in let b = nesting_in_lem s.statements in let c = count_rewritten G s in omega arith

  valid : (p : ℕ) → ValidR m (RewrittenRegister m H) (rewritten_apart m H) G (program F ls S p)
  valid = rows_valid G ls S (codes G L s wf ok) (well G L s wf ok) (reads G L s wf ok)

  abbrev Matching : List ℤ → (Reg → Value) → Type 0
  Matching = Match m (RewrittenRegister m H) (rewritten_apart m H)

  -- the registers that a run of the rewritten script starts with
  opening_match : (cs : List Call) (bank : List ℤ) → variables prog ≤ length bank → Matching (opening_bank prog cs bank) (beginning m (opening_bank prog cs bank))
  opening_match cs bank h = begins m H (opening_bank prog cs bank)
      (subst₂' total (sym (enter_all_length prog (entries cs) (opened_bank prog bank) ∙ cleared-length (variables prog) bank)) h)
      (λ i x y. enter_all_other prog (entries cs) (opened_bank prog bank) i (not_enterable G s i (subst (λ k. k ≤ i) (count_levels s) x)) ∙ register_cleared (variables prog) bank i (subst (λ k. i < k) total y))
    where
      subst₂' : {a b c d : ℕ} → a ≡ b → c ≡ d → b ≤ c → a ≤ d
      subst₂' p q r = omega arith

  -- ---- (b)

  -- the guard level of a row
  guard_is : (p : ℕ) → guard_at G s p ≡ tree m (guard_exp F (laid F ls S p).depth)
  guard_is p =
      ap (λ n. guard_of n (place_at (places_in_script G s) p).depth) (sym (count_levels s)) ∙ ap (λ (x : Place). guard_of m x.depth) (place_of_row G L s wf ok p)
      ∙ sym (guard_tree G m (laid F ls S p).depth)

  honest : (bank : List ℤ) → variables prog ≤ length bank → (sheet : List Line) (cs : List Call) →
      All (λ t. IfReleases (λ e. (value_of (register t.bank) e ≡ value_of (register (opening_bank prog cs bank)) e) × (value_of (register t.bank) (guard_at G s t.row) ≡ pos 0)) (program_row prog t.row))
      (taken_from G reader budget prog cs (filling (opened_bank prog bank) sheet))
  honest bank h sheet cs = to_start G reader budget prog (λ t ts. All Q ts) cs (opened_bank prog bank) sheet tt
      (λ ds. calls_made G reader budget prog J Q (λ t j. j) (λ t j e q k. (j (suc k)).1) (λ t j. (j 1).0) ds (under_way (started budget prog B sheet)) first)
    where
      B : List ℤ
      B = enter_all prog (entries cs) (opened_bank prog bank)

      M : ℕ → List ℤ → Expression → Type 0
      M p b e = (value_of (register b) e ≡ value_of (register B) e) × (value_of (register b) (guard_at G s p) ≡ pos 0)

      Q : Progress → Type 0
      Q t = IfReleases (M t.row t.bank) (program_row prog t.row)

      J : Progress → Type 0
      J t = (k : ℕ) → FineNumbered M (program_row prog) k t.row t.bank

      ρ0 : Reg → Value
      ρ0 = beginning m B

      carried : (p : ℕ) (b : List ℤ) (ρ : Reg → Value) (e : Exp Reg) → Matching b ρ → ValidE m (RewrittenRegister m H) (rewritten_apart m H) e →
          Made F (machine_laws G L) (pos reader) crd ρ0 (laid F ls S) m H p ρ e → M p b (tree m e)
      carried p b ρ e x v y = (
        eval_match m (RewrittenRegister m H) (rewritten_apart m H) G L reader crd x e v ∙ y.0
            ∙ sym (eval_match m (RewrittenRegister m H) (rewritten_apart m H) G L reader crd (opening_match cs bank h) e v),
        ap (value_of (register b)) (guard_is p)
            ∙ eval_match m (RewrittenRegister m H) (rewritten_apart m H) G L reader crd x (guard_exp F (laid F ls S p).depth) (guard_valid m H G (laid F ls S p).depth y.2) ∙ y.1,
      )

      first : (k : ℕ) → FineNumbered M (program_row prog) k 0 B
      first k = subst (λ rows. FineNumbered M rows k 0 B) (sym (rewritten-rows G L s wf ok))
          (fine_number m (RewrittenRegister m H) (rewritten_apart m H) G L reader crd (program F ls S) valid (Made F (machine_laws G L) (pos reader) crd ρ0 (laid F ls S) m H) M carried k 0 B ρ0 (opening_match cs bank h)
          (fine_program F (machine_laws G L) (pos reader) crd ls S (codes G L s wf ok) ρ0 (λ K. refl, λ K. refl) k))

  -- ---- (c)

  as_bought : (bank₁ bank₂ : List ℤ) → variables prog ≤ length bank₁ → variables s ≤ length bank₂ → (sheet₁ sheet₂ : List Line) → length sheet₁ ≡ length sheet₂ →
      (cs ds : List Call) → entries cs ≡ entries ds → let one = session_after G reader budget prog cs (opened prog bank₁ sheet₁) in let two = session_after G reader budget s ds (opened s bank₂ sheet₂) in
      HasEnded one → All (WithholdsNothing G reader budget s) (taken_from G reader budget prog cs (opened prog bank₁ sheet₁)) → IsSettled two → HasEnded two × (kept_lines two ≡ kept_lines one)
  as_bought bank₁ bank₂ h₁ h₂ sheet₁ sheet₂ size cs ds es ends held settled =
      to_start G reader budget s (λ t ts. IsSettled t → HasEnded t × (kept_lines t ≡ K)) ds (opened_bank s bank₂) sheet₂ (λ x. absurd x)
      (λ more x. ended_alike K (λ t. (t.steps ≡ sold.0) × anywhere t.bank) _ (rows_settle G reader budget s K (length sheet₁) ran.1 sold.0 (le_two sold.1 ran.0.1) anywhere more B₂ sheet₂ (sym size) sold_rows x)) settled
    where
      B₁ : List ℤ
      B₁ = enter_all prog (entries cs) (opened_bank prog bank₁)

      B₂ : List ℤ
      B₂ = enter_all s (entries ds) (opened_bank s bank₂)

      K : List Line
      K = kept_lines (session_after G reader budget prog cs (opened prog bank₁ sheet₁))

      le_two : {a b c : ℕ} → a ≤ b → b ≤ c → a ≤ c
      le_two x y = omega arith

      passing : ℕ → List ℤ → Type 0
      passing p b = is_test G s p ≡ true → takes_else (program_row prog p) (register b) ≡ false

      -- the rewritten run, by its rows
      ran : ((k : ℕ) × (k ≤ budget) × ExactlyNumbered G reader passing anywhere (program_row prog) k 0 B₁ K) × (length K ≤ length sheet₁)
      ran = to_start G reader budget prog
          (λ t ts. HasEnded t → All (λ x. passing x.row x.bank) ts →
          ((k : ℕ) × (k ≤ budget) × ExactlyNumbered G reader passing anywhere (program_row prog) k 0 B₁ (kept_lines t)) × (length (kept_lines t) ≤ length sheet₁))
          cs (opened_bank prog bank₁) sheet₁ (λ x. absurd x)
          (λ more. ended_rows G reader budget prog passing B₁ (length sheet₁) more sheet₁ refl) ends held

      ρ : Reg → Value
      ρ = beginning m B₁

      τ : Reg → Value
      τ = beginning m B₂

      long₁ : variables prog ≤ length (opened_bank prog bank₁)
      long₁ = subst (λ x. variables prog ≤ x) (sym (cleared-length (variables prog) bank₁)) h₁

      long₂ : variables s ≤ length (opened_bank s bank₂)
      long₂ = subst (λ x. variables s ≤ x) (sym (cleared-length (variables s) bank₂)) h₂

      entered_alike : (k : ℕ) → k < m → register B₁ k ≡ register B₂ k
      entered_alike k x =
          let y : k < variables s = subst (λ n. k < n) (count_levels s) x in
          let w : k < variables prog = in_rewritten k y in
          subst (λ e. register B₁ k ≡ register (enter_all s e (opened_bank s bank₂)) k) es
          (enter_all_same prog s (enterable_same G s) (entries cs) (opened_bank prog bank₁) (opened_bank s bank₂) long₁ long₂ k (le_two w long₁) (le_two y long₂)
          (register_cleared (variables prog) bank₁ k w ∙ sym (register_cleared (variables s) bank₂ k y)))
        where
          in_rewritten : (k : ℕ) → k < variables s → k < variables prog
          in_rewritten k y = let c = count_rewritten G s in omega arith

      own_alike : (k : ℕ) → ρ (own k) ≡ τ (own k)
      own_alike k = elim (dec_lt k m) as (λ d. (elim d as (λ x. Value) [ yes q ↦ register B₁ k | no q ↦ pos 0 ]) ≡ (elim d as (λ x. Value) [ yes q ↦ register B₂ k | no q ↦ pos 0 ]))
          [ yes q ↦ entered_alike k q | no q ↦ refl ]

      passes : (p : ℕ) (b : List ℤ) (σ : Reg → Value) → Matching b σ → passing p b → Passes F (pos reader) (λ i. (laid F ls S i).test) p σ (program F ls S p)
      passes p b σ x y i =
          sym (else_match m (RewrittenRegister m H) (rewritten_apart m H) G L reader crd x (program F ls S p) (valid p))
          ∙ ap (λ r. takes_else r (register b)) (sym (rewritten_row G L s wf ok p)) ∙ y (ap (λ (w : Place). w.test) (place_of_row G L s wf ok p) ∙ i)

      -- the script as bought, by its rows
      sold : (j : ℕ) × (j ≤ ran.0.0) × Exactly F (pos reader) same_reg (any F (pos reader)) (named_plain_rows F S) j 0 τ K
      sold = ends_as_bought F (pos reader) ls S ρ τ own_alike ran.0.0 K
          (exact_name m (RewrittenRegister m H) (rewritten_apart m H) G L reader crd (program F ls S) valid (Passes F (pos reader) (λ i. (laid F ls S i).test)) passing passes
          ran.0.0 0 B₁ ρ K (opening_match cs bank₁ h₁) (subst (λ rows. ExactlyNumbered G reader passing anywhere rows ran.0.0 0 B₁ K) (rewritten-rows G L s wf ok) ran.0.2))

      bought_match : Match m (OwnRegister m) (own_apart m) B₂ τ
      bought_match = begins_bought m B₂ (subst₂' (count_levels s) (sym (enter_all_length s (entries ds) (opened_bank s bank₂))) long₂)
        where
          subst₂' : {a b c d : ℕ} → a ≡ b → c ≡ d → b ≤ c → a ≤ d
          subst₂' p q r = omega arith

      sold_rows : ExactlyNumbered G reader (λ p b. Unit {0}) anywhere (program_row s) sold.0 0 B₂ K
      sold_rows = subst (λ rows. ExactlyNumbered G reader (λ p b. Unit {0}) anywhere rows sold.0 0 B₂ K) (sym (bought_rows G L s wf ok))
          (exact_number m (OwnRegister m) (own_apart m) G L reader crd (named_plain_rows F S) (bought_valid m G S (well G L s wf ok) (reads G L s wf ok)) (any F (pos reader)) (λ p b. Unit {0}) (λ p b σ x y. tt)
          sold.0 0 B₂ τ K bought_match sold.2)

-- ---- one `go` for the whole budget settles a run

settles_entered : (G : Family) (reader budget : ℕ) (P : Script) (es : List (ℕ × ℤ)) (b : List ℤ) (l : List Line) → variables P ≤ length b →
    IsSettled (session_after G reader budget P (entering es (Start ∷ Go budget ∷ [])) (filling b l))
settles_entered G reader budget P [] b l h =
    subst (λ c. is_going (cond c x (run G reader budget P budget x)).standing ≡ false) (sym (long_enough G reader budget P x h (omega arith))) (settles G reader budget P budget x (omega arith))
  where
    x : Progress
    x = started budget P b l
settles_entered G reader budget P (e ∷ es) b l h = settles_entered G reader budget P es (entered_bank P b e.0 e.1) l (subst (λ k. variables P ≤ k) (sym (entered_length P e.0 e.1 b)) h)

pub confined : Confined
confined G L s wf ok reader budget = record {
  alike = λ bank₁ bank₂ o₁ o₂ sheet₁ sheet₂ size cs ds x f.
      let a = open_tells G (rewritten G s) reader bank₁ o₁ in
      let b = open_tells G (rewritten G s) reader bank₂ o₂ in
      alike G L reader a.0 budget s wf ok bank₁ bank₂ a.1 b.1 sheet₁ sheet₂ size cs ds x f;
  honest = λ bank o sheet cs. let a = open_tells G (rewritten G s) reader bank o in honest G L reader a.0 budget s wf ok bank a.1 sheet cs;
  as_bought = λ bank₁ bank₂ o₁ o₂ sheet₁ sheet₂ size cs ds es ends held settled.
      let a = open_tells G (rewritten G s) reader bank₁ o₁ in
      let b = open_tells G s reader bank₂ o₂ in
      as_bought G L reader a.0 budget s wf ok bank₁ bank₂ a.1 b.1 sheet₁ sheet₂ size cs ds es ends held settled;
  settles = λ bank o sheet es. let a = open_tells G s reader bank o in
      settles_entered G reader budget s es (opened_bank s bank) sheet (subst (λ k. variables s ≤ k) (sym (cleared-length (variables s) bank)) a.1);
}
