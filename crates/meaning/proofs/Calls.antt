-- Two runs from `open` on, call by call.
use Rattle.std.proofs.Common.{◌≡◌, ℕ, zero, suc, ◌+◌, ◌-◌, ◌<◌, ◌≤◌, Bool, true, false, cond, eqb, ltb, List, [], ◌∷◌, length, get_or, set, ℤ, pos, sym, refl, ap, ◌∙◌, subst, ap₂, subst₂, arith, length-set, get_or-take}
use mathlib.Core.Bool.{false≢true}
use native.Mathlib.Decide.{dec_lt}
use Rattle.std.proofs.lemmas.Bool.{eqb-true, eqb-false, ltb-true}
use Rattle.refusals.specs.declared.Reason.TheVariants as reason
use Rattle.banks.specs.Cleared.{cleared}
use Rattle.syntax.specs.Scripts.{Script, WellFormed}
use Rattle.meaning.specs.declared.answers.Line.{Line}
use Rattle.meaning.specs.declared.answers.Call.{Call}
use Rattle.meaning.specs.declared.answers.Call.TheVariants.{Enter, Start, Go, Finish, ReadLine, Totals}
use Rattle.meaning.specs.declared.answers.Answer.{Answer}
use Rattle.meaning.specs.declared.answers.Answer.TheVariants.{LeftOut, Done, Started, Went, Kept, Sums, Refused}
use Rattle.meaning.specs.Families.{Family, FamilyLaws, IsCode, flows}
use Rattle.meaning.specs.Machine.{register, line_of}
use Rattle.meaning.specs.Rewriting.{variables, levels_of, Rewritable, rewritten}
use Rattle.meaning.specs.Runs.{Progress, is_going, refusal, enterable, enter_answer, lacks_registers, entered_bank, opened_bank, started, program_row, run, taken, line_answer}
use Rattle.meaning.specs.Sessions.{Session, filling, under_way, closed, entries, enter_all, opening_bank, carry, answers_from, session_after, taken_by, taken_from}
use Rattle.meaning.specs.Confinement.{All, kept_lines, AlikeCall, same, above, AlikeCalls, no_calls, more_calls}
use Rattle.meaning.proofs.NamedCode.{Interpretation, Value, own}
use Rattle.meaning.proofs.Interpretations.{machine, machine_laws, Flows}
use Rattle.meaning.proofs.Programs.{level_at_lem, program, nesting}
use Rattle.meaning.proofs.TwoRuns.{two_runs}
use Rattle.meaning.proofs.Numbers.{SameNumbered, tree_row, lockstep}
use Rattle.meaning.proofs.Valid.{RewrittenRegister, rewritten_apart, rows_valid, beginning, begins}
use Rattle.meaning.proofs.Bridge.{nesting_in_lem}
use Rattle.meaning.proofs.Setup.{level_values, count_levels, level_value, not_enterable, count_rewritten, script, codes, level_code, well, reads, rewritten-rows, flows_family}
use Rattle.meaning.proofs.Together.{SameOpening, Alike, same_run, long_enough, has_registers}
use Rattle.meaning.proofs.Alone.{all_split}
use Rattle.meaning.proofs.BankLaws.{register_set, register_other, register_cleared}

-- ---- registers while a run is filled

pub cleared-length : (n : ℕ) (bank : List ℤ) → length (cleared n bank) ≡ length bank
unfolding cleared
cleared-length zero bank = refl
cleared-length (suc n) [] = refl
cleared-length (suc n) (v ∷ bank) = ap suc (cleared-length n bank)

module _ (P : Script) where
  pub entered_length : (K : ℕ) (v : ℤ) (bank : List ℤ) → length (entered_bank P bank K v) ≡ length bank
  entered_length K v bank = go (lacks_registers P bank) (enterable P K)
    where
      go : (a b : Bool) → length (cond a bank (cond b (set bank K v) bank)) ≡ length bank
      go true b = refl
      go false true = length-set bank K v
      go false false = refl

  -- an entry leaves the registers for which none may be made
  pub entered_other : (K : ℕ) (v : ℤ) (bank : List ℤ) (i : ℕ) → enterable P i ≡ false → register (entered_bank P bank K v) i ≡ register bank i
  entered_other K v bank i h = go (lacks_registers P bank) (enterable P K) refl
    where
      go : (a b : Bool) → enterable P K ≡ b → register (cond a bank (cond b (set bank K v) bank)) i ≡ register bank i
      go true b q = refl
      go false true q = register_other bank K i v (λ e. false≢true (sym h ∙ ap (enterable P) e ∙ q))
      go false false q = refl

-- the same entry for two programs that take the same entries, in two banks
pub entered_same : (P Q : Script) (K : ℕ) (u v : ℤ) (b c : List ℤ) → lacks_registers P b ≡ false → lacks_registers Q c ≡ false → enterable P K ≡ enterable Q K →
    (i : ℕ) → i < length b → i < length c → (K ≡ i → u ≡ v) → register b i ≡ register c i → register (entered_bank P b K u) i ≡ register (entered_bank Q c K v) i
entered_same P Q K u v b c hb hc he i lb lc eq e =
    ap₂ (λ x y. register (cond x b (cond y (set b K u) b)) i) hb he ∙ go (enterable Q K) (eqb K i) refl ∙ ap (λ x. register (cond x c (cond (enterable Q K) (set c K v) c)) i) (sym hc)
  where
    go : (x y : Bool) → eqb K i ≡ y → register (cond x (set b K u) b) i ≡ register (cond x (set c K v) c) i
    go false y r = e
    go true true r =
        let is : K ≡ i = eqb-true K i r in
        let kb : K < length b = subst (λ j. j < length b) (sym is) lb in
        let kc : K < length c = subst (λ j. j < length c) (sym is) lc in
        subst (λ j. register (set b K u) j ≡ register (set c K v) j) is (register_set b K u kb ∙ eq is ∙ sym (register_set c K v kc))
    go true false r =
        let apart : ¬ (i ≡ K) = λ x. eqb-false K i r (sym x) in
        register_other b K i u apart ∙ e ∙ sym (register_other c K i v apart)

module _ (G : Family) (L : FamilyLaws G) (reader : ℕ) (crd : IsCode G reader) (budget : ℕ) (s : Script) (wf : WellFormed s) (ok : Rewritable G s) where
  abbrev prog : Script
  prog = rewritten G s

  abbrev F : Interpretation
  F = machine G

  -- ---- two runs that have started

  module _ (b0 c0 : List ℤ) where
    abbrev Al : Progress → Progress → Type 0
    Al = Alike G reader budget prog b0 c0

    abbrev Opening : Progress → Type 0
    Opening = SameOpening G reader budget prog b0 c0

    abbrev AlikeSessions : Session → Session → Type 0
    AlikeSessions (filling b l) t = ⊥
    AlikeSessions (under_way x) (filling b l) = ⊥
    AlikeSessions (under_way x) (under_way y) = Al x y
    AlikeSessions (under_way x) (closed y) = ⊥
    AlikeSessions (closed x) (filling b l) = ⊥
    AlikeSessions (closed x) (under_way y) = ⊥
    AlikeSessions (closed x) (closed y) = Al x y

    abbrev Both : Call → Call → Session → Session → Type 0
    Both c d x y = ((carry G reader budget prog c x).0 ≡ (carry G reader budget prog d y).0) × AlikeSessions (carry G reader budget prog c x).1 (carry G reader budget prog d y).1

    going_on : (m : ℕ) (x y : Progress) → Al x y → All Opening (taken_by G reader budget prog (Go m) (under_way x)) → Both (Go m) (Go m) (under_way x) (under_way y)
    going_on m x y a f =
        let hx = long_enough G reader budget prog x a.room1 a.fits in
        let hy = long_enough G reader budget prog y a.room2 (subst₂ (λ k n. k ≤ n) a.count a.size a.fits) in
        let r = same_run G reader budget prog b0 c0 m x y a (subst (λ t. All Opening (cond t [] (taken G reader budget prog m x))) hx f) in (
          ap (λ t. cond t (Refused (refusal reason.TooShort)) (Went ((run G reader budget prog m x).steps - x.steps) (run G reader budget prog m x).standing)) hx
              ∙ ap₂ Went (ap₂ (λ p q. p - q) r.same_steps a.same_steps) r.stand
              ∙ ap (λ t. cond t (Refused (refusal reason.TooShort)) (Went ((run G reader budget prog m y).steps - y.steps) (run G reader budget prog m y).standing)) (sym hy),
          subst₂ (λ t u. Al (cond t x (run G reader budget prog m x)) (cond u y (run G reader budget prog m y))) (sym hx) (sym hy) r,
        )

    finishing : (x y : Progress) → Al x y → Both Finish Finish (under_way x) (under_way y)
    finishing x y a = (
      ap (λ st. cond (is_going st) (Refused (refusal reason.MoreToDo)) Done) a.stand,
      subst (λ st. AlikeSessions (cond (is_going x.standing) (under_way x) (closed x)) (cond (is_going st) (under_way y) (closed y))) a.stand (go (is_going x.standing)),
    )
      where
        go : (b : Bool) → AlikeSessions (cond b (under_way x) (closed x)) (cond b (under_way y) (closed y))
        go true = a
        go false = a

    while_under_way_lem : {c d : Call} → AlikeCall G reader budget s c d → (x y : Progress) → Al x y → All Opening (taken_by G reader budget prog c (under_way x)) → Both c d (under_way x) (under_way y)
    while_under_way_lem (same (Enter K v)) x y a f = (refl, a)
    while_under_way_lem (same Start) x y a f = (refl, a)
    while_under_way_lem (same (Go m)) x y a f = going_on m x y a f
    while_under_way_lem (same Finish) x y a f = finishing x y a
    while_under_way_lem (same (ReadLine k)) x y a f = (refl, a)
    while_under_way_lem (same Totals) x y a f = (refl, a)
    while_under_way_lem (above K u v h) x y a f = (refl, a)

    abbrev blank : Line
    blank = line_of 0 (pos 0)

    reading : (k : ℕ) (x y : Progress) → Al x y → line_answer x.kept k x.sheet ≡ line_answer y.kept k y.sheet
    reading k x y a =
        ap₂ (λ n m. cond (ltb n m) (Refused (refusal reason.TooShort)) (cond (ltb k x.kept) (Kept (get_or x.sheet k blank)) (Refused (refusal reason.NoSuchLine)))) a.size a.count
        ∙ ap (λ z. cond (ltb (length y.sheet) y.kept) (Refused (refusal reason.TooShort)) z)
        (subst (λ n. cond (ltb k x.kept) (one x) (Refused (refusal reason.NoSuchLine)) ≡ cond (ltb k n) (one y) (Refused (refusal reason.NoSuchLine))) a.count (go (ltb k x.kept) refl))
      where
        one : Progress → Answer
        one t = Kept (get_or t.sheet k blank)

        go : (b : Bool) → ltb k x.kept ≡ b → cond b (one x) (Refused (refusal reason.NoSuchLine)) ≡ cond b (one y) (Refused (refusal reason.NoSuchLine))
        go true q =
            let h : k < x.kept = ltb-true k x.kept q in
            let j : k < y.kept = subst (λ n. k < n) a.count h in
            ap Kept (sym (get_or-take x.kept x.sheet k blank h) ∙ ap (λ l. get_or l k blank) a.same_lines ∙ get_or-take y.kept y.sheet k blank j)
        go false q = refl

    when-closed : {c d : Call} → AlikeCall G reader budget s c d → (x y : Progress) → Al x y → Both c d (closed x) (closed y)
    when-closed (same (Enter K v)) x y a = (refl, a)
    when-closed (same Start) x y a = (refl, a)
    when-closed (same (Go m)) x y a = (refl, a)
    when-closed (same Finish) x y a = (refl, a)
    when-closed (same (ReadLine k)) x y a = (reading k x y a, a)
    when-closed (same Totals) x y a = (ap₂ (λ p q. Sums p q x.standing) a.count a.same_steps ∙ ap (Sums y.kept y.steps) a.stand, a)
    when-closed (above K u v h) x y a = (refl, a)

    one_call : {c d : Call} → AlikeCall G reader budget s c d → (x y : Session) → AlikeSessions x y → All Opening (taken_by G reader budget prog c x) → Both c d x y
    one_call e (filling b l) t a f = absurd a
    one_call e (under_way x) (filling b l) a f = absurd a
    one_call e (under_way x) (under_way y) a f = while_under_way_lem e x y a f
    one_call e (under_way x) (closed y) a f = absurd a
    one_call e (closed x) (filling b l) a f = absurd a
    one_call e (closed x) (under_way y) a f = absurd a
    one_call e (closed x) (closed y) a f = when-closed e x y a

    same_kept : (x y : Session) → AlikeSessions x y → kept_lines x ≡ kept_lines y
    same_kept (filling b l) t a = absurd a
    same_kept (under_way x) (filling b l) a = absurd a
    same_kept (under_way x) (under_way y) a = a.same_lines
    same_kept (under_way x) (closed y) a = absurd a
    same_kept (closed x) (filling b l) a = absurd a
    same_kept (closed x) (under_way y) a = absurd a
    same_kept (closed x) (closed y) a = a.same_lines

  abbrev Result : List Call → List Call → Session → Session → Type 0
  Result cs ds x y = (answers_from G reader budget prog cs x ≡ answers_from G reader budget prog ds y) × (kept_lines (session_after G reader budget prog cs x) ≡ kept_lines (session_after G reader budget prog ds y))

  on_from_start : (b0 c0 : List ℤ) {cs ds : List Call} → AlikeCalls G reader budget s cs ds → (x y : Session) → AlikeSessions b0 c0 x y → All (Opening b0 c0) (taken_from G reader budget prog cs x) → Result cs ds x y
  on_from_start b0 c0 no_calls x y a f = (refl, same_kept b0 c0 x y a)
  on_from_start b0 c0 (more_calls {c = c} {d = d} {cs = cs} {ds = ds} e es) x y a f =
      let p = all_split (Opening b0 c0) (taken_by G reader budget prog c x) (taken_from G reader budget prog cs (carry G reader budget prog c x).1) f in
      let h = one_call b0 c0 e x y a p.0 in
      let r = on_from_start b0 c0 es (carry G reader budget prog c x).1 (carry G reader budget prog d y).1 h.1 p.1 in
      (ap₂ (λ z zs. z ∷ zs) h.0 r.0, r.1)

  -- ---- two runs being filled

  abbrev n : ℕ
  n = variables s

  abbrev level_at : ℕ → ℕ
  level_at K = get_or (levels_of s.declarations) K 0

  pub record Filled (b c : List ℤ) : Type 0 where
    pub room1 : variables prog ≤ length b
    pub room2 : variables prog ≤ length c
    pub zero1 : (i : ℕ) → n ≤ i → i < variables prog → register b i ≡ pos 0
    pub zero2 : (i : ℕ) → n ≤ i → i < variables prog → register c i ≡ pos 0
    pub agree : (K : ℕ) → K < n → flows G (level_at K) reader ≡ true → register b K ≡ register c K

  pub own_room : (m : ℕ) → variables prog ≤ m → n ≤ m
  own_room m h = let e = count_rewritten G s in omega arith

  fill : (K : ℕ) (u v : ℤ) {b c : List ℤ} → (flows G (level_at K) reader ≡ true → u ≡ v) → Filled b c → Filled (entered_bank prog b K u) (entered_bank prog c K v)
  fill K u v {b} {c} h f = record {
    room1 = subst (λ x. variables prog ≤ x) (sym (entered_length prog K u b)) f.room1;
    room2 = subst (λ x. variables prog ≤ x) (sym (entered_length prog K v c)) f.room2;
    zero1 = λ i x y. entered_other prog K u b i (not_enterable G s i x) ∙ f.zero1 i x y;
    zero2 = λ i x y. entered_other prog K v c i (not_enterable G s i x) ∙ f.zero2 i x y;
    agree = λ i x y.
        let lb = own_room (length b) f.room1 in
        let lc = own_room (length c) f.room2 in
        entered_same prog prog K u v b c (has_registers G reader budget prog b f.room1) (has_registers G reader budget prog c f.room2) refl i (omega arith) (omega arith)
        (λ e. h (subst (λ j. flows G (level_at j) reader ≡ true) (sym e) y)) (f.agree i x y);
  }

  -- what the two runs show, from the start on
  shown_alike : (b c : List ℤ) → Filled b c → (k : ℕ) → SameNumbered G reader b c (program_row prog) k 0 b 0 c
  shown_alike b c f k = subst (λ rows. SameNumbered G reader b c rows k 0 b 0 c) (sym (rewritten-rows G L s wf ok))
      (lockstep m (RewrittenRegister m H) (rewritten_apart m H) G L reader crd (program F (level_values s) S) (rows_valid G (level_values s) S (codes G L s wf ok) (well G L s wf ok) (reads G L s wf ok))
      (starts b f.room1 f.zero1) (starts c f.room2 f.zero2) k 0 0 b c (beginning m b) (beginning m c) (starts b f.room1 f.zero1) (starts c f.room2 f.zero2)
      (two_runs F (machine_laws G L) (pos reader) crd (level_values s) S (codes G L s wf ok) (well G L s wf ok) (beginning m b) (beginning m c) (λ K. refl, λ K. refl) (λ K. refl, λ K. refl) agrees k))
    where
      m : ℕ
      m = length (level_values s)

      S : Rattle.meaning.proofs.NamedRules.Script
      S = script G L s wf ok

      H : ℕ
      H = nesting S

      total : m + m + m + H ≡ variables prog
      total = let a = count_levels s in let b = nesting_in_lem s.statements in let c = count_rewritten G s in omega arith

      starts : (b : List ℤ) → variables prog ≤ length b → ((i : ℕ) → n ≤ i → i < variables prog → register b i ≡ pos 0) → Rattle.meaning.proofs.Numbers.Match m (RewrittenRegister m H) (rewritten_apart m H) b (beginning m b)
      starts b h z = begins m H b (subst (λ x. x ≤ length b) (sym total) h) (λ i x y. z i (subst (λ k. k ≤ i) (count_levels s) x) (subst (λ k. i < k) total y))

      agrees : (K : ℕ) → Flows F (pos reader) (level_at_lem (pos 0) (level_values s) K) → beginning m b (own K) ≡ beginning m c (own K)
      agrees K w = elim (dec_lt K m) as (λ d. (elim d as (λ x. Value) [ yes q ↦ register b K | no q ↦ pos 0 ]) ≡ (elim d as (λ x. Value) [ yes q ↦ register c K | no q ↦ pos 0 ])) [
        | yes q ↦ f.agree K (subst (λ x. K < x) (count_levels s) q)
            (flows_family G L (level_at K) reader (level_code G L s wf ok K) crd (subst (Flows F (pos reader)) (level_value (levels_of s.declarations) K) w))
        | no q ↦ refl
      ]

  begin_alike : (b c : List ℤ) (l m : List Line) → length l ≡ length m → Filled b c → Al b c (started budget prog b l) (started budget prog c m)
  begin_alike b c l m e f = record {
    room1 = f.room1;
    room2 = f.room2;
    size = e;
    count = refl;
    fits = omega arith;
    same_lines = refl;
    same_steps = refl;
    stand = refl;
    on = shown_alike b c f;
  }

  from_filling : {cs ds : List Call} → AlikeCalls G reader budget s cs ds → (b c : List ℤ) (l m : List Line) → length l ≡ length m → Filled b c →
      All (Opening (enter_all prog (entries cs) b) (enter_all prog (entries ds) c)) (taken_from G reader budget prog cs (filling b l)) → Result cs ds (filling b l) (filling c m)
  from_filling no_calls b c l m e f g = (refl, refl)
  from_filling (more_calls (same (Enter K v)) xs) b c l m e f g =
      let r = from_filling xs (entered_bank prog b K v) (entered_bank prog c K v) l m e (fill K v v (λ x. refl) f) g in
      (ap₂ (λ y ys. y ∷ ys) (same_entry K b c f) r.0, r.1)
    where
      same_entry : (K : ℕ) (b c : List ℤ) → Filled b c → enter_answer prog b K ≡ enter_answer prog c K
      same_entry K b c f = ap (λ x. cond x (Refused (refusal reason.TooShort)) (cond (enterable prog K) Done (Refused (refusal reason.NoSuchVariable))))
          (has_registers G reader budget prog b f.room1 ∙ sym (has_registers G reader budget prog c f.room2))
  from_filling (more_calls (same Start) xs) b c l m e f g =
      let r = on_from_start b c xs (under_way _) (under_way _) (begin_alike b c l m e f) g in (ap (λ ys. Started (started budget prog b l).standing ∷ ys) r.0, r.1)
  from_filling (more_calls (same (Go k)) xs) b c l m e f g = let r = from_filling xs b c l m e f g in (ap (λ ys. LeftOut ∷ ys) r.0, r.1)
  from_filling (more_calls (same Finish) xs) b c l m e f g = let r = from_filling xs b c l m e f g in (ap (λ ys. LeftOut ∷ ys) r.0, r.1)
  from_filling (more_calls (same (ReadLine k)) xs) b c l m e f g = let r = from_filling xs b c l m e f g in (ap (λ ys. LeftOut ∷ ys) r.0, r.1)
  from_filling (more_calls (same Totals) xs) b c l m e f g = let r = from_filling xs b c l m e f g in (ap (λ ys. LeftOut ∷ ys) r.0, r.1)
  from_filling (more_calls (above K u v h) xs) b c l m e f g =
      let r = from_filling xs (entered_bank prog b K u) (entered_bank prog c K v) l m e (fill K u v (λ x. absurd (false≢true (sym h ∙ x))) f) g in
      (ap₂ (λ y ys. y ∷ ys) (same_entry K b c f) r.0, r.1)
    where
      same_entry : (K : ℕ) (b c : List ℤ) → Filled b c → enter_answer prog b K ≡ enter_answer prog c K
      same_entry K b c f = ap (λ x. cond x (Refused (refusal reason.TooShort)) (cond (enterable prog K) Done (Refused (refusal reason.NoSuchVariable))))
          (has_registers G reader budget prog b f.room1 ∙ sym (has_registers G reader budget prog c f.room2))

  pub opened_filled : (b c : List ℤ) → variables prog ≤ length b → variables prog ≤ length c → Filled (opened_bank prog b) (opened_bank prog c)
  opened_filled b c hb hc = record {
    room1 = subst (λ x. variables prog ≤ x) (sym (cleared-length (variables prog) b)) hb;
    room2 = subst (λ x. variables prog ≤ x) (sym (cleared-length (variables prog) c)) hc;
    zero1 = λ i x y. register_cleared (variables prog) b i y;
    zero2 = λ i x y. register_cleared (variables prog) c i y;
    agree = λ K x y.
        let k : K < variables prog = in_rewritten K x in
        register_cleared (variables prog) b K k ∙ sym (register_cleared (variables prog) c K k);
  }
    where
      in_rewritten : (K : ℕ) → K < n → K < variables prog
      in_rewritten K h = let e = count_rewritten G s in omega arith

  pub alike : (b c : List ℤ) → variables prog ≤ length b → variables prog ≤ length c → (l m : List Line) → length l ≡ length m → (cs ds : List Call) → AlikeCalls G reader budget s cs ds →
      All (Opening (opening_bank prog cs b) (opening_bank prog ds c)) (taken_from G reader budget prog cs (filling (opened_bank prog b) l)) →
      Result cs ds (filling (opened_bank prog b) l) (filling (opened_bank prog c) m)
  alike b c hb hc l m e cs ds x g = from_filling x (opened_bank prog b) (opened_bank prog c) l m e (opened_filled b c hb hc) g
