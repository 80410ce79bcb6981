-- Runs that end: what the calls of one run say about its rows, and the other way round.
use Rattle.std.proofs.Common.{◌≡◌, ℕ, zero, suc, ◌+◌, ◌<◌, ◌≤◌, Bool, true, false, cond, leb, ◌⊎◌, List, [], ◌∷◌, ◌++◌, length, take, ℤ, Some, None, Option, sym, refl, ap, ◌∙◌, subst, ap₂, inl, inr, append_assoc, append-nil, add-zero, zero-add, arith, length-append, length-take, take-suc-set}
use Rattle.std.proofs.lemmas.Bool.Decides.{nat_tests}
use Rattle.std.proofs.lemmas.Bool.{lt-leb}
use mathlib.Core.Bool.{false≢true}
use Rattle.syntax.specs.Form.{TreeRow, skips, assigns, releases, writes, stops, branches, leaves, closes, repeats, goes_back}
use Rattle.syntax.specs.Scripts.{Script}
use Rattle.meaning.specs.declared.answers.Line.{Line}
use Rattle.meaning.specs.declared.answers.Standing.{Standing}
use Rattle.meaning.specs.declared.answers.Standing.TheVariants.{Ended, Stopped, SheetFull, BudgetSpent, MoreToDo}
use Rattle.meaning.specs.declared.answers.Call.{Call}
use Rattle.meaning.specs.Families.{Family, flows}
use Rattle.meaning.specs.Machine.{register, Shown, silent, printed, no_row, stopped, line_of, value_of, shows}
use Rattle.meaning.specs.Runs.{Progress, lines, is_going, settle, judge, judge_start, sheet_after, kept_after, standing_after, program_row, started, ahead, judged, step, run}
use Rattle.meaning.specs.Sessions.{Session, filling, under_way, closed, session_after, taken_from}
use Rattle.meaning.specs.Confinement.{All, HasStarted, HasEnded, IsSettled, kept_lines}
use Rattle.meaning.proofs.Bought.{see, Goes}
use Rattle.meaning.proofs.Transfer.{ExactlyNumbered, anywhere}
use Rattle.meaning.proofs.Together.{going_settle, Room, length_sheet, going_room, kept_room}
use Rattle.meaning.proofs.Alone.{calls_keep, all_unit}

-- ---- standings

abbrev IsEnded : Standing → Type 0
IsEnded Ended = Unit {0}
IsEnded (Stopped k) = ⊥
IsEnded SheetFull = ⊥
IsEnded BudgetSpent = ⊥
IsEnded MoreToDo = ⊥

abbrev IsStopped : Standing → Type 0
IsStopped Ended = ⊥
IsStopped (Stopped k) = Unit {0}
IsStopped SheetFull = ⊥
IsStopped BudgetSpent = ⊥
IsStopped MoreToDo = ⊥

settle_stopped : (a b : Standing) → IsStopped a → IsStopped (settle a b)
settle_stopped Ended b x = absurd x
settle_stopped (Stopped k) b x = tt
settle_stopped SheetFull b x = absurd x
settle_stopped BudgetSpent b x = absurd x
settle_stopped MoreToDo b x = absurd x

settle-ended : (a b : Standing) → IsEnded (settle a b) → IsEnded a ⊎ IsEnded b
settle-ended Ended b x = inl tt
settle-ended (Stopped k) b x = absurd x
settle-ended SheetFull b x = absurd x
settle-ended BudgetSpent b x = absurd x
settle-ended MoreToDo b x = inr x

settle_going : (a b : Standing) → is_going (settle a b) ≡ true → IsStopped a → ⊥
settle_going Ended b e x = x
settle_going (Stopped k) b e x = false≢true e
settle_going SheetFull b e x = x
settle_going BudgetSpent b e x = x
settle_going MoreToDo b e x = x

ended_not_stopped : (a : Standing) → IsEnded a → IsStopped a → ⊥
ended_not_stopped Ended x y = y
ended_not_stopped (Stopped k) x y = x
ended_not_stopped SheetFull x y = x
ended_not_stopped BudgetSpent x y = x
ended_not_stopped MoreToDo x y = x

after_not_ended : (o : Shown) → IsEnded (standing_after o) → ⊥
after_not_ended silent x = x
after_not_ended (printed l) x = x
after_not_ended no_row x = x
after_not_ended (stopped n) x = x

after_more : (o : Shown) → Goes o → standing_after o ≡ MoreToDo
after_more silent x = refl
after_more (printed l) x = refl
after_more no_row x = absurd x
after_more (stopped n) x = absurd x

-- the lines behind a row
lines_step : (o : Shown) (k : ℕ) (l : List Line) (m : List Line) → Room o k (length l) → take (kept_after o k) (sheet_after o k l) ++ m ≡ take k l ++ see o m
lines_step silent k l m h = refl
lines_step (printed x) k l m h = ap (λ y. y ++ m) (take-suc-set l k x h) ∙ append_assoc (take k l) (x ∷ []) m
lines_step no_row k l m h = refl
lines_step (stopped n) k l m h = refl

-- ---- what a judgement tells

module _ (budget : ℕ) where
  spent_or_more : (b : Bool) → IsEnded (cond b BudgetSpent MoreToDo) → ⊥
  spent_or_more true y = y
  spent_or_more false y = y

  judge-ended : (o : Shown) (k size n : ℕ) → IsEnded (judge budget o k size n) → o ≡ no_row
  judge-ended no_row k size n x = refl
  judge-ended silent k size n x = absurd (spent_or_more (leb budget n) x)
  judge-ended (stopped j) k size n x = absurd (spent_or_more (leb budget n) x)
  judge-ended (printed l) k size n x = absurd (go (leb size k) x)
    where
      go : (a : Bool) → IsEnded (cond a SheetFull (cond (leb budget n) BudgetSpent MoreToDo)) → ⊥
      go true y = y
      go false y = spent_or_more (leb budget n) y

  -- where there is more to do the budget is not spent
  more_left : (n : ℕ) → is_going (cond (leb budget n) BudgetSpent MoreToDo) ≡ true → n < budget
  more_left n e = grind (arith, nat_tests)

  pub judge-more : (o : Shown) (k size n : ℕ) → is_going (judge budget o k size n) ≡ true → n < budget
  judge-more no_row k size n e = absurd (false≢true e)
  judge-more silent k size n e = more_left n e
  judge-more (stopped j) k size n e = more_left n e
  judge-more (printed l) k size n e = grind (arith, nat_tests)

  goes_or_stops : (o : Shown) (k size n : ℕ) → is_going (judge budget o k size n) ≡ true → IsStopped (standing_after o) ⊎ Goes o
  goes_or_stops no_row k size n e = absurd (false≢true e)
  goes_or_stops silent k size n e = inr tt
  goes_or_stops (printed l) k size n e = inr tt
  goes_or_stops (stopped j) k size n e = inl tt

  judge_goes : (o : Shown) (k size n : ℕ) → Goes o → Room o k size → n < budget → judge budget o k size n ≡ MoreToDo
  judge_goes no_row k size n g r h = absurd g
  judge_goes silent k size n g r h = ap (λ b. cond b BudgetSpent MoreToDo) (lt-leb budget n h)
  judge_goes (printed l) k size n g r h = ap₂ (λ a b. cond a SheetFull (cond b BudgetSpent MoreToDo)) (lt-leb size k r) (lt-leb budget n h)
  judge_goes (stopped j) k size n g r h = absurd g

  module _ (G : Family) (reader : ℕ) (regs : ℕ → ℤ) where
    start_ended : (r : Option TreeRow) → IsEnded (judge_start budget r) → shows G reader r regs ≡ no_row
    start_ended None x = refl
    start_ended (Some r) x = absurd (spent_or_more (leb budget 0) x)

    start_goes : (r : Option TreeRow) → Goes (shows G reader r regs) → 0 < budget → judge_start budget r ≡ MoreToDo
    start_goes None g h = absurd g
    start_goes (Some r) g h = ap (λ b. cond b BudgetSpent MoreToDo) (lt-leb budget 0 h)

    -- a row shows more than that there is none
    is_row : (r : TreeRow) → shows G reader (Some r) regs ≡ no_row → ⊥
    is_row skips e = grind arith
    is_row (assigns v e) h = grind arith
    is_row (releases v e) h = grind arith
    is_row (writes t e) h = go (flows G t reader) h
      where
        go : (b : Bool) → cond b (printed (line_of t (value_of regs e))) silent ≡ no_row → ⊥
        go true q = grind arith
        go false q = grind arith
    is_row (stops n) h = grind arith
    is_row (branches e m) h = grind arith
    is_row (leaves m) h = grind arith
    is_row closes h = grind arith
    is_row (repeats e m) h = grind arith
    is_row (goes_back m) h = grind arith

    start_over : (r : Option TreeRow) → shows G reader r regs ≡ no_row → judge_start budget r ≡ Ended
    start_over None e = refl
    start_over (Some r) e = absurd (is_row r e)

module _ (G : Family) (reader budget : ℕ) (P : Script) where
  abbrev rows : ℕ → Option TreeRow
  rows = program_row P

  -- ---- from calls to rows
  module _ (ok : ℕ → List ℤ → Type 0) (b0 : List ℤ) (size : ℕ) where
    abbrev Ex : ℕ → ℕ → List ℤ → List Line → Type 0
    Ex = ExactlyNumbered G reader ok anywhere rows

    -- if the run ends from here, it ended from its start
    abbrev Path : Progress → Type 0
    Path s = (m : ℕ) (l : List Line) → Ex m s.row s.bank l → Ex (s.steps + m) 0 b0 (lines s ++ l)

    record Sofar (s : Progress) : Type 0 where
      long : length s.sheet ≡ size
      spent : s.steps ≤ budget
      ends : IsEnded s.standing → ahead G reader budget P s ≡ no_row
      path : IsStopped s.standing ⊎ Path s

    abbrev Held : Progress → Type 0
    Held s = ok s.row s.bank

    stay : (s : Progress) → Sofar s → Sofar (judged G reader budget P s)
    stay s j = record { long = j.long; spent = j.spent; ends = λ x. ends (settle-ended s.standing _ x); path = path j.path }
      where
        new : Standing
        new = judge budget (ahead G reader budget P s) s.kept (length s.sheet) s.steps

        ends : IsEnded s.standing ⊎ IsEnded new → ahead G reader budget P s ≡ no_row
        ends (inl x) = j.ends x
        ends (inr x) = judge-ended budget (ahead G reader budget P s) s.kept (length s.sheet) s.steps x

        path : IsStopped s.standing ⊎ Path s → IsStopped (settle s.standing new) ⊎ Path s
        path (inl x) = inl (settle_stopped s.standing new x)
        path (inr x) = inr x

    move : (s : Progress) → Sofar s → is_going (judged G reader budget P s).standing ≡ true → Held (judged G reader budget P s) → Sofar (step G reader budget P (judged G reader budget P s))
    move s j e q = record {
      long = length_sheet o s.kept s.sheet ∙ j.long;
      spent = judge-more budget o s.kept (length s.sheet) s.steps more;
      ends = λ x. absurd (after_not_ended o x);
      path = path j.path (goes_or_stops budget o s.kept (length s.sheet) s.steps more);
    }
      where
        o : Shown
        o = ahead G reader budget P s

        more : is_going (judge budget o s.kept (length s.sheet) s.steps) ≡ true
        more = going_settle s.standing _ e

        place : Room o s.kept (length s.sheet)
        place = going_room budget o s.kept (length s.sheet) s.steps more

        on : Path s → Goes o → Path (step G reader budget P s)
        on x g m l y = subst (λ k. Ex k 0 b0 (lines (step G reader budget P s) ++ l)) (count s.steps m)
            (subst (λ r. Ex (s.steps + suc m) 0 b0 r) (sym (lines_step o s.kept s.sheet l place)) (x (suc m) (see o l) (g, q, (l, refl, y))))
          where
            count : (a b : ℕ) → a + suc b ≡ suc a + b
            count a b = omega arith

        path : IsStopped s.standing ⊎ Path s → IsStopped (standing_after o) ⊎ Goes o → IsStopped (standing_after o) ⊎ Path (step G reader budget P s)
        path (inl x) y = absurd (settle_going s.standing _ e x)
        path (inr x) (inl y) = inl y
        path (inr x) (inr y) = inr (on x y)

    abbrev EndsWith : List Line → Type 0
    EndsWith l = (m : ℕ) × (m ≤ budget) × Ex m 0 b0 l

    pub ended_rows : (cs : List Call) (l : List Line) → length l ≡ size →
        let s = under_way (started budget P b0 l) in
        HasEnded (session_after G reader budget P cs s) → All Held (taken_from G reader budget P cs s) →
        EndsWith (kept_lines (session_after G reader budget P cs s)) × (length (kept_lines (session_after G reader budget P cs s)) ≤ size)
    ended_rows cs l hl x q = last (session_after G reader budget P cs s) (calls_keep G reader budget P Sofar Held stay move cs s first q) x
      where
        s : Session
        s = under_way (started budget P b0 l)

        first : Sofar (started budget P b0 l)
        first = record {
          long = hl;
          spent = omega arith;
          ends = λ y. start_ended budget G reader (register b0) (program_row P 0) y;
          path = inr (λ m r y. subst (λ k. Ex k 0 b0 r) (zero_plus m) y);
        }
          where
            zero_plus : (m : ℕ) → m ≡ 0 + m
            zero_plus m = omega arith

        close : (t : Progress) → Sofar t → t.standing ≡ Ended → EndsWith (lines t) × (length (lines t) ≤ size)
        close t j y = (go j.path, short)
          where
            is : IsEnded t.standing
            is = subst IsEnded (sym y) tt

            short : length (lines t) ≤ size
            short = let a = length-take t.kept t.sheet in let b = j.long in omega arith

            go : IsStopped t.standing ⊎ Path t → EndsWith (lines t)
            go (inl w) = absurd (ended_not_stopped t.standing is w)
            go (inr w) = (t.steps + 0, steps t.steps j.spent, subst (λ r. Ex (t.steps + 0) 0 b0 r) (append-nil (lines t)) (w 0 [] (j.ends is, refl, tt)))
              where
                steps : (a : ℕ) → a ≤ budget → a + 0 ≤ budget
                steps a w = omega arith

        last : (t : Session) → HasStarted Sofar t → HasEnded t → EndsWith (kept_lines t) × (length (kept_lines t) ≤ size)
        last (filling c m) j y = absurd y
        last (under_way t) j y = close t j y
        last (closed t) j y = close t j y

  -- ---- from rows to calls
  module _ (L : List Line) (size : ℕ) (fits : length L ≤ size) (total : ℕ) (spare : total ≤ budget) (finally : List ℤ → Type 0) where
    abbrev Bx : ℕ → ℕ → List ℤ → List Line → Type 0
    Bx = ExactlyNumbered G reader (λ p b. Unit {0}) finally rows

    -- it has ended as foretold
    abbrev Over : Progress → Type 0
    Over s = (s.standing ≡ Ended) × (lines s ≡ L) × ((s.steps ≡ total) × finally s.bank)

    record Ahead (s : Progress) : Type 0 where
      long : length s.sheet ≡ size
      kept_fits : s.kept ≤ size
      left : (m : ℕ) × (l : List Line) × Bx m s.row s.bank l × (lines s ++ l ≡ L) × (s.steps + m ≡ total)
      stand : (s.standing ≡ MoreToDo) ⊎ Over s

    -- a line to be kept finds its place
    place : (o : Shown) (k : ℕ) (sheet m : List Line) → length sheet ≡ size → k ≤ size → take k sheet ++ see o m ≡ L → Room o k (length sheet)
    place silent k sheet m e h q = tt
    place (printed x) k sheet m e h q =
        let a = length-append (take k sheet) (x ∷ m) in
        let b = length-take k sheet in
        let c : length (take k sheet ++ (x ∷ m)) ≡ length L = ap length q in
        omega arith
    place no_row k sheet m e h q = tt
    place (stopped n) k sheet m e h q = tt

    ahead_stay : (s : Progress) → Ahead s → Ahead (judged G reader budget P s)
    ahead_stay s j = record { long = j.long; kept_fits = j.kept_fits; left = j.left; stand = go j.stand j.left.0 j.left.1 j.left.2 j.left.3 j.left.4 }
      where
        o : Shown
        o = ahead G reader budget P s

        new : Standing
        new = judge budget o s.kept (length s.sheet) s.steps

        go : (s.standing ≡ MoreToDo) ⊎ Over s → (m : ℕ) (l : List Line) → Bx m s.row s.bank l → lines s ++ l ≡ L → s.steps + m ≡ total →
            (settle s.standing new ≡ MoreToDo) ⊎ Over (judged G reader budget P s)
        go (inr x) m l y e h = inr (ap (λ a. settle a new) x.0, x.1, x.2)
        go (inl x) zero l y e h = inr (
          ap (λ a. settle a new) x ∙ ap (λ a. judge budget a s.kept (length s.sheet) s.steps) y.0,
          sym (append-nil (lines s)) ∙ ap (λ r. lines s ++ r) (sym y.1) ∙ e,
          (sym (add-zero s.steps) ∙ h, y.2),
        )
        go (inl x) (suc m) l y e h = inl (
            ap (λ a. settle a new) x ∙ judge_goes budget o s.kept (length s.sheet) s.steps y.0
            (place o s.kept s.sheet y.2.0 j.long j.kept_fits (ap (λ r. lines s ++ r) (sym y.2.1) ∙ e)) (omega arith)
            )

    ahead_move : (s : Progress) → Ahead s → is_going (judged G reader budget P s).standing ≡ true → Unit {0} → Ahead (step G reader budget P (judged G reader budget P s))
    ahead_move s j e q = go j.left.0 j.left.1 j.left.2 j.left.3 j.left.4
      where
        o : Shown
        o = ahead G reader budget P s

        go : (m : ℕ) (l : List Line) → Bx m s.row s.bank l → lines s ++ l ≡ L → s.steps + m ≡ total → Ahead (step G reader budget P s)
        go zero l y f h = absurd (false≢true (sym (ap (λ a. is_going (judge budget a s.kept (length s.sheet) s.steps)) y.0) ∙ going_settle s.standing _ e))
        go (suc m) l y f h =
            let whole : lines s ++ see o y.2.0 ≡ L = ap (λ r. lines s ++ r) (sym y.2.1) ∙ f in
            let r = place o s.kept s.sheet y.2.0 j.long j.kept_fits whole in
            record {
              long = length_sheet o s.kept s.sheet ∙ j.long;
              kept_fits = kept_room o s.kept size j.kept_fits (subst (λ x. Room o s.kept x) j.long r);
              left = (m, y.2.0, y.2.2, lines_step o s.kept s.sheet y.2.0 r ∙ whole, omega arith);
              stand = inl (after_more o y.0);
            }

    pub rows_settle : (cs : List Call) (b : List ℤ) (l : List Line) → length l ≡ size → Bx total 0 b L →
        let end = session_after G reader budget P cs (under_way (started budget P b l)) in IsSettled end → HasStarted Over end
    rows_settle cs b l hl x y = last (session_after G reader budget P cs s) (calls_keep G reader budget P Ahead (λ t. Unit {0}) ahead_stay ahead_move cs s first (all_unit (taken_from G reader budget P cs s))) y
      where
        s : Session
        s = under_way (started budget P b l)

        first : Ahead (started budget P b l)
        first = record { long = hl; kept_fits = omega arith; left = (total, L, x, refl, zero-add total); stand = go total x refl }
          where
            go : (k : ℕ) → Bx k 0 b L → k ≡ total → (judge_start budget (program_row P 0) ≡ MoreToDo) ⊎ Over (started budget P b l)
            go zero w g = inr (start_over budget G reader (register b) (program_row P 0) w.0, sym w.1, (g, w.2))
            go (suc k) w g = inl (start_goes budget G reader (register b) (program_row P 0) w.0 (omega arith))

        close : (t : Progress) → (t.standing ≡ MoreToDo) ⊎ Over t → is_going t.standing ≡ false → Over t
        close t (inl w) g = absurd (false≢true (sym g ∙ ap is_going w))
        close t (inr w) g = w

        last : (t : Session) → HasStarted Ahead t → IsSettled t → HasStarted Over t
        last (filling c k) j g = absurd g
        last (under_way t) j g = close t j.stand g
        last (closed t) j g = close t j.stand g

  -- ---- a `go` for as many steps as the budget leaves settles a run
  pub settles : (n : ℕ) (s : Progress) → budget ≤ s.steps + n → is_going (run G reader budget P n s).standing ≡ false
  settles zero s h = go (is_going (judged G reader budget P s).standing) refl
    where
      go : (b : Bool) → is_going (judged G reader budget P s).standing ≡ b → b ≡ false
      go true q =
          let more = judge-more budget (ahead G reader budget P s) s.kept (length s.sheet) s.steps (going_settle s.standing _ q) in
          absurd (omega arith)
      go false q = refl
  settles (suc n) s h = go (is_going (judged G reader budget P s).standing) refl (settles n (step G reader budget P (judged G reader budget P s)) (count s.steps h))
    where
      count : (k : ℕ) → budget ≤ k + suc n → budget ≤ suc k + n
      count k x = omega arith

      go : (b : Bool) → is_going (judged G reader budget P s).standing ≡ b → is_going (run G reader budget P n (step G reader budget P (judged G reader budget P s))).standing ≡ false →
          is_going (cond b (run G reader budget P n (step G reader budget P (judged G reader budget P s))) (judged G reader budget P s)).standing ≡ false
      go true q x = x
      go false q x = q
