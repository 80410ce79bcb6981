-- What holds of every run: steps, settled standings, lines, values.
use Rattle.std.proofs.Common.{◌≡◌, ℕ, zero, suc, ◌+◌, ◌<◌, ◌≤◌, Bool, true, false, cond, ◌||◌, ltb, List, [], ◌∷◌, length, take, drop, ℤ, Some, None, Option, sym, refl, ap, ◌∙◌, subst, ap₂, suc-add, zero-add, arith, w32, SFits}
use Rattle.std.proofs.lemmas.Bool.{le-ltb, ltb-false, or_parts}
use Rattle.std.proofs.lemmas.List.{take-set-le, drop-set-lt}
use mathlib.Core.Bool.{false≢true}
use Rattle.values.proofs.Keeps as operator
use Rattle.syntax.specs.Trees.{Expression, number, variable, apply, InRange}
use Rattle.syntax.specs.Form.{TreeRow, skips, assigns, releases, writes, stops, branches, leaves, closes, repeats, goes_back, tree_rows, row_after_in}
use Rattle.syntax.specs.Held.{RowFits}
use Rattle.syntax.specs.Scripts.{Script, WellFormed}
use Rattle.syntax.proofs.HeldRows.{AllFit, fit_in}
use Rattle.meaning.specs.declared.answers.Line.{Line}
use Rattle.meaning.specs.declared.answers.Standing.{Standing}
use Rattle.meaning.specs.declared.answers.Standing.TheVariants.{Ended, Stopped, SheetFull, BudgetSpent, MoreToDo}
use Rattle.meaning.specs.Families.{Family}
use Rattle.meaning.specs.Machine.{register, value_of, row_at, registers_after, Shown, silent, printed, no_row, stopped}
use Rattle.meaning.specs.Rewriting.{variables}
use Rattle.meaning.specs.Runs.{Progress, is_going, settle, judge, kept_after, sheet_after, program_row, ahead, judged, step, run, taken, too_short, gone, lacks_registers, enterable, entered_bank}
use Rattle.meaning.specs.RunLaws.{AllValues, RunLawsHold}
use Rattle.meaning.proofs.Together.{going_settle, going_room, Room, kept_room, length_sheet, length_registers}
use Rattle.meaning.proofs.Endings.{judge-more, settles}
use Rattle.meaning.proofs.Alone.{run_keeps, all_unit}
use Rattle.meaning.proofs.BankLaws.{values_set, values_cleared}

-- ---- settled standings

settle_settled : (a b : Standing) → is_going a ≡ false → settle a b ≡ a
settle_settled Ended b h = refl
settle_settled (Stopped n) b h = refl
settle_settled SheetFull b h = refl
settle_settled BudgetSpent b h = refl
settle_settled MoreToDo b h = absurd (false≢true (sym h))

settle_twice : (a b : Standing) → settle (settle a b) b ≡ settle a b
settle_twice Ended b = refl
settle_twice (Stopped n) b = refl
settle_twice SheetFull b = refl
settle_twice BudgetSpent b = refl
settle_twice MoreToDo Ended = refl
settle_twice MoreToDo (Stopped n) = refl
settle_twice MoreToDo SheetFull = refl
settle_twice MoreToDo BudgetSpent = refl
settle_twice MoreToDo MoreToDo = refl

-- the same run with another standing
abbrev standing_as : Progress → Standing → Progress
standing_as s a = record { row = s.row; bank = s.bank; sheet = s.sheet; kept = s.kept; steps = s.steps; standing = a }

-- ---- sheets

sheet_front : (o : Shown) (k : ℕ) (l : List Line) (m : ℕ) → m ≤ k → take m (sheet_after o k l) ≡ take m l
sheet_front silent k l m h = refl
sheet_front (printed x) k l m h = take-set-le m l k x h
sheet_front no_row k l m h = refl
sheet_front (stopped n) k l m h = refl

sheet_back : (o : Shown) (k : ℕ) (l : List Line) (m : ℕ) → kept_after o k ≤ m → drop m (sheet_after o k l) ≡ drop m l
sheet_back silent k l m h = refl
sheet_back (printed x) k l m h = drop-set-lt m l k x h
sheet_back no_row k l m h = refl
sheet_back (stopped n) k l m h = refl

kept_rises : (o : Shown) (k : ℕ) → (k ≤ kept_after o k) × (kept_after o k ≤ suc k)
kept_rises silent k = (omega arith, omega arith)
kept_rises (printed x) k = (omega arith, omega arith)
kept_rises no_row k = (omega arith, omega arith)
kept_rises (stopped n) k = (omega arith, omega arith)

-- ---- values

-- either bank, whichever a test takes
either_values : (t : Bool) (b c : List ℤ) → AllValues b → AllValues c → AllValues (cond t b c)
either_values true b c h g = h
either_values false b c h g = g

value_fits : (k : ℕ) (bank : List ℤ) → AllValues bank → (e : Expression) → InRange k e → SFits w32 (value_of (register bank) e)
value_fits k bank h (number n) r = record { sfits = omega arith }
value_fits k bank h (variable v) r = h v
value_fits k bank h (apply o a b) r = (operator.laws).value o _ _ (value_fits k bank h a r.0) (value_fits k bank h b r.1)

abbrev Fitting : ℕ → ℕ → Option TreeRow → Type 0
Fitting k n None = Unit {0}
Fitting k n (Some r) = RowFits k n r

row_fits : (k n : ℕ) (rows : List TreeRow) → AllFit k n rows → (p : ℕ) → Fitting k n (row_at rows p)
row_fits k n [] a p = tt
row_fits k n (r ∷ rows) a zero = a.0
row_fits k n (r ∷ rows) a (suc p) = row_fits k n rows a.1 p

after_values : (k n : ℕ) (r : Option TreeRow) (bank : List ℤ) → Fitting k n r → AllValues bank → AllValues (registers_after r bank)
after_values k n None bank f h = h
after_values k n (Some skips) bank f h = h
after_values k n (Some (assigns v e)) bank f h = values_set bank v _ h (value_fits k bank h e f.1.ranged)
after_values k n (Some (releases v e)) bank f h = values_set bank v _ h (value_fits k bank h e f.1.ranged)
after_values k n (Some (writes t e)) bank f h = h
after_values k n (Some (stops m)) bank f h = h
after_values k n (Some (branches e m)) bank f h = h
after_values k n (Some (leaves m)) bank f h = h
after_values k n (Some closes) bank f h = h
after_values k n (Some (repeats e m)) bank f h = h
after_values k n (Some (goes_back m)) bank f h = h

module _ (G : Family) (reader budget : ℕ) (P : Script) where
  abbrev Run : ℕ → Progress → Progress
  Run = run G reader budget P

  abbrev Judged : Progress → Progress
  Judged = judged G reader budget P

  abbrev Step : Progress → Progress
  Step = step G reader budget P

  abbrev Taken : ℕ → Progress → List Progress
  Taken = taken G reader budget P

  judged_settled : (s : Progress) → is_going s.standing ≡ false → Judged s ≡ s
  judged_settled s h = ap (standing_as s) (settle_settled s.standing _ h)

  judged_twice : (s : Progress) → Judged (Judged s) ≡ Judged s
  judged_twice s = ap (standing_as s) (settle_twice s.standing _)

  settled_stays : (n : ℕ) (s : Progress) → is_going s.standing ≡ false → Run n s ≡ s
  settled_stays zero s h = judged_settled s h
  settled_stays (suc n) s h =
      let j = judged_settled s h in
      ap (λ b. cond b (Run n (Step (Judged s))) (Judged s)) (ap (λ t. is_going t.standing) j ∙ h) ∙ j

  -- judging first changes nothing
  run-judged : (n : ℕ) (s : Progress) → Run n (Judged s) ≡ Run n s
  run-judged zero s = judged_twice s
  run-judged (suc n) s = ap (λ t. cond (is_going t.standing) (Run n (Step t)) t) (judged_twice s)

  run_adds : (n m : ℕ) (s : Progress) → Run m (Run n s) ≡ Run (n + m) s
  run_adds zero m s = run-judged m s ∙ ap (λ k. Run k s) (sym (zero-add m))
  run_adds (suc n) m s = go (is_going (Judged s).standing) refl (run_adds n m (Step (Judged s))) ∙ ap (λ k. Run k s) (sym (suc-add n m))
    where
      go : (b : Bool) → is_going (Judged s).standing ≡ b → Run m (Run n (Step (Judged s))) ≡ Run (n + m) (Step (Judged s)) →
          Run m (cond b (Run n (Step (Judged s))) (Judged s)) ≡ cond b (Run (n + m) (Step (Judged s))) (Judged s)
      go true q e = e
      go false q e = settled_stays m (Judged s) q

  -- an invariant of rows taken
  keeps : (J : Progress → Type 0) → ((s : Progress) → J s → J (Judged s)) → ((s : Progress) → J s → is_going (Judged s).standing ≡ true → J (Step (Judged s))) →
      (n : ℕ) (s : Progress) → J s → J (Run n s)
  keeps J stay move n s j = run_keeps G reader budget P J (λ t. Unit {0}) stay (λ t x e u. move t x e) n s j (all_unit (Taken n s))

  more : (s : Progress) → is_going (Judged s).standing ≡ true → is_going (judge budget (ahead G reader budget P s) s.kept (length s.sheet) s.steps) ≡ true
  more s e = going_settle s.standing _ e

  room : (s : Progress) → is_going (Judged s).standing ≡ true → Room (ahead G reader budget P s) s.kept (length s.sheet)
  room s e = going_room budget (ahead G reader budget P s) s.kept (length s.sheet) s.steps (more s e)

  bank_length : (n : ℕ) (s : Progress) → length (Run n s).bank ≡ length s.bank
  bank_length n s = keeps (λ t. length t.bank ≡ length s.bank) (λ t j. j) (λ t j e. length_registers (program_row P t.row) t.bank ∙ j) n s refl

  sheet_length : (n : ℕ) (s : Progress) → length (Run n s).sheet ≡ length s.sheet
  sheet_length n s = keeps (λ t. length t.sheet ≡ length s.sheet) (λ t j. j) (λ t j e. length_sheet (ahead G reader budget P t) t.kept t.sheet ∙ j) n s refl

  lines_fit : (n : ℕ) (s : Progress) → s.kept ≤ length s.sheet → (Run n s).kept ≤ length s.sheet
  lines_fit n s h = (keeps (λ t. (length t.sheet ≡ length s.sheet) × (t.kept ≤ length s.sheet)) (λ t j. j)
      (λ t j e. (
        length_sheet (ahead G reader budget P t) t.kept t.sheet ∙ j.0,
        kept_room (ahead G reader budget P t) t.kept (length s.sheet) j.1 (subst (Room (ahead G reader budget P t) t.kept) j.0 (room t e)),
      )) n s (refl, h)).1

  short_after : (n : ℕ) (s : Progress) → too_short G reader budget P s ≡ false → too_short G reader budget P (Run n s) ≡ false
  short_after n s h =
      let p = or_parts (ltb (length s.bank) (variables P)) (ltb (length s.sheet) s.kept) h in
      let after = lines_fit n s (ltb-false (length s.sheet) s.kept p.1) in
      ap₂ ◌||◌ (ap (λ k. ltb k (variables P)) (bank_length n s) ∙ p.0) (ap (λ k. ltb k (Run n s).kept) (sheet_length n s) ∙ le-ltb (length s.sheet) (Run n s).kept after)

  go_adds : (n m : ℕ) (s : Progress) → gone G reader budget P m (gone G reader budget P n s) ≡ gone G reader budget P (n + m) s
  go_adds n m s = choose (too_short G reader budget P s) refl
    where
      choose : (b : Bool) → too_short G reader budget P s ≡ b → gone G reader budget P m (cond b s (Run n s)) ≡ cond b s (Run (n + m) s)
      choose true q = ap (λ b. cond b s (Run m s)) q
      choose false q = ap (λ b. cond b (Run n s) (Run m (Run n s))) (short_after n s q) ∙ run_adds n m s

  -- ---- steps
  steps_are_rows : (n : ℕ) (s : Progress) → (Run n s).steps ≡ s.steps + length (Taken n s)
  steps_are_rows zero s = sym (native.Mathlib.Nat.add-zero s.steps)
  steps_are_rows (suc n) s = go (is_going (Judged s).standing) (steps_are_rows n (Step (Judged s)))
    where
      go : (b : Bool) → (Run n (Step (Judged s))).steps ≡ suc s.steps + length (Taken n (Step (Judged s))) →
          (cond b (Run n (Step (Judged s))) (Judged s)).steps ≡ s.steps + length (cond b (Judged s ∷ Taken n (Step (Judged s))) [])
      go true e = e ∙ one_more s.steps (length (Taken n (Step (Judged s))))
        where
          one_more : (a b : ℕ) → suc a + b ≡ a + suc b
          one_more a b = omega arith
      go false e = sym (native.Mathlib.Nat.add-zero s.steps)

  at_most : (n : ℕ) (s : Progress) → length (Taken n s) ≤ n
  at_most zero s = omega arith
  at_most (suc n) s = go (is_going (Judged s).standing) (at_most n (Step (Judged s)))
    where
      go : (b : Bool) → length (Taken n (Step (Judged s))) ≤ n → length (cond b (Judged s ∷ Taken n (Step (Judged s))) []) ≤ suc n
      go true h = omega arith
      go false h = omega arith

  fewer_settles : (n : ℕ) (s : Progress) → length (Taken n s) < n → is_going (Run n s).standing ≡ false
  fewer_settles zero s h = absurd (omega arith)
  fewer_settles (suc n) s h = go (is_going (Judged s).standing) refl h (fewer_settles n (Step (Judged s)))
    where
      go : (b : Bool) → is_going (Judged s).standing ≡ b → length (cond b (Judged s ∷ Taken n (Step (Judged s))) []) < suc n →
          (length (Taken n (Step (Judged s))) < n → is_going (Run n (Step (Judged s))).standing ≡ false) → is_going (cond b (Run n (Step (Judged s))) (Judged s)).standing ≡ false
      go true q x f = f (omega arith)
      go false q x f = q

  within_budget : (n : ℕ) (s : Progress) → s.steps ≤ budget → (Run n s).steps ≤ budget
  within_budget = keeps (λ t. t.steps ≤ budget) (λ t j. j) (λ t j e. judge-more budget (ahead G reader budget P t) t.kept (length t.sheet) t.steps (more t e))

  -- ---- lines
  no_more_than_steps : (n : ℕ) (s : Progress) → s.kept ≤ s.steps → (Run n s).kept ≤ (Run n s).steps
  no_more_than_steps = keeps (λ t. t.kept ≤ t.steps) (λ t j. j) (λ t j e. let k = kept_rises (ahead G reader budget P t) t.kept in omega arith)

  lines_stay : (n : ℕ) (s : Progress) → (s.kept ≤ (Run n s).kept) × (take s.kept (Run n s).sheet ≡ take s.kept s.sheet)
  lines_stay n s = keeps (λ t. (s.kept ≤ t.kept) × (take s.kept t.sheet ≡ take s.kept s.sheet)) (λ t j. j)
      (λ t j e.
      let k = kept_rises (ahead G reader budget P t) t.kept in
      (up j.0 k.0, sheet_front (ahead G reader budget P t) t.kept t.sheet s.kept j.0 ∙ j.1)) n s (omega arith, refl)
    where
      up : {a b c : ℕ} → a ≤ b → b ≤ c → a ≤ c
      up p q = omega arith

  rest_stays : (n : ℕ) (s : Progress) → drop (Run n s).kept (Run n s).sheet ≡ drop (Run n s).kept s.sheet
  rest_stays n s = keeps (λ t. (m : ℕ) → t.kept ≤ m → drop m t.sheet ≡ drop m s.sheet) (λ t j. j)
      (λ t j e m h.
      let k = kept_rises (ahead G reader budget P t) t.kept in
      sheet_back (ahead G reader budget P t) t.kept t.sheet m h ∙ j m (up k.0 h)) n s (λ m h. refl) (Run n s).kept (omega arith)
    where
      up : {a b c : ℕ} → a ≤ b → b ≤ c → a ≤ c
      up p q = omega arith

  values_entered : (bank : List ℤ) (k : ℕ) (v : ℤ) → SFits w32 v → AllValues bank → AllValues (entered_bank P bank k v)
  values_entered bank k v f h = either_values (lacks_registers P bank) _ _ h (either_values (enterable P k) _ _ (values_set bank k v h f) h)

  values_stay : WellFormed P → (n : ℕ) (s : Progress) → AllValues s.bank → AllValues (Run n s).bank
  values_stay wf = keeps (λ t. AllValues t.bank) (λ t j. j) (λ t j e.
      after_values (variables P) (row_after_in 0 P.statements) (program_row P t.row) t.bank
      (row_fits (variables P) (row_after_in 0 P.statements) (tree_rows P.statements) (fit_in (variables P) (row_after_in 0 P.statements) 0 P.statements [] wf.legal (omega arith) tt) t.row) j)

pub run_laws : RunLawsHold
run_laws G reader budget P = record {
  settled_stays = settled_stays G reader budget P;
  go_adds = go_adds G reader budget P;
  steps_are_rows = steps_are_rows G reader budget P;
  at_most = at_most G reader budget P;
  fewer_settles = fewer_settles G reader budget P;
  within_budget = within_budget G reader budget P;
  budget_settles = settles G reader budget P;
  bank_length = bank_length G reader budget P;
  sheet_length = sheet_length G reader budget P;
  lines_fit = lines_fit G reader budget P;
  no_more_than_steps = no_more_than_steps G reader budget P;
  lines_stay = lines_stay G reader budget P;
  rest_stays = rest_stays G reader budget P;
  values_opened = values_cleared (variables P);
  values_entered = values_entered G reader budget P;
  values_stay = values_stay G reader budget P;
}
