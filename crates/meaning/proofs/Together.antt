-- Two runs under way that show the same give the same answers and keep the same lines.
use Rattle.std.proofs.Common.{◌≡◌, ℕ, zero, suc, ◌<◌, ◌≤◌, Bool, true, false, cond, ◌||◌, List, [], ◌∷◌, ◌++◌, length, take, ℤ, Some, None, Option, sym, refl, ap, ◌∙◌, subst, ap₂, arith, length-set, take-suc-set}
use Rattle.std.proofs.lemmas.Bool.Decides.{nat_tests}
use Rattle.std.proofs.lemmas.Bool.{le-ltb}
use mathlib.Core.Bool.{false≢true}
use Rattle.syntax.specs.Form.{TreeRow, skips, assigns, releases, writes, stops, branches, leaves, closes, repeats, goes_back}
use Rattle.syntax.specs.Scripts.{Script}
use Rattle.meaning.specs.declared.answers.Line.{Line}
use Rattle.meaning.specs.declared.answers.Standing.{Standing}
use Rattle.meaning.specs.declared.answers.Standing.TheVariants.{Ended, Stopped, SheetFull, BudgetSpent, MoreToDo}
use Rattle.meaning.specs.Families.{Family}
use Rattle.meaning.specs.Machine.{register, value_of, registers_after, Shown, silent, printed, no_row, stopped, IfReleases}
use Rattle.meaning.specs.Rewriting.{variables}
use Rattle.meaning.specs.Runs.{Progress, lines, is_going, settle, judge, sheet_after, kept_after, standing_after, program_row, ahead, judged, step, run, taken, lacks_registers, too_short}
use Rattle.meaning.specs.Confinement.{All}
use Rattle.meaning.proofs.Numbers.{SameNumbered}

pub going_settle : (a b : Standing) → is_going (settle a b) ≡ true → is_going b ≡ true
going_settle Ended b e = absurd (false≢true e)
going_settle (Stopped k) b e = absurd (false≢true e)
going_settle SheetFull b e = absurd (false≢true e)
going_settle BudgetSpent b e = absurd (false≢true e)
going_settle MoreToDo b e = e

-- a line to be kept finds a place
abbrev pub Room : Shown → ℕ → ℕ → Type 0
Room silent k size = Unit {0}
Room (printed x) k size = k < size
Room no_row k size = Unit {0}
Room (stopped n) k size = Unit {0}

pub length_sheet : (o : Shown) (k : ℕ) (l : List Line) → length (sheet_after o k l) ≡ length l
length_sheet silent k l = refl
length_sheet (printed x) k l = length-set l k x
length_sheet no_row k l = refl
length_sheet (stopped n) k l = refl

pub length_registers : (r : Option TreeRow) (bank : List ℤ) → length (registers_after r bank) ≡ length bank
length_registers None bank = refl
length_registers (Some skips) bank = refl
length_registers (Some (assigns v e)) bank = length-set bank v (value_of (register bank) e)
length_registers (Some (releases v e)) bank = length-set bank v (value_of (register bank) e)
length_registers (Some (writes t e)) bank = refl
length_registers (Some (stops n)) bank = refl
length_registers (Some (branches e m)) bank = refl
length_registers (Some (leaves m)) bank = refl
length_registers (Some closes) bank = refl
length_registers (Some (repeats e m)) bank = refl
length_registers (Some (goes_back m)) bank = refl

same_sheets : (o : Shown) (k : ℕ) (l m : List Line) → Room o k (length l) → Room o k (length m) → take k l ≡ take k m →
    take (kept_after o k) (sheet_after o k l) ≡ take (kept_after o k) (sheet_after o k m)
same_sheets silent k l m a b e = e
same_sheets (printed x) k l m a b e = take-suc-set l k x a ∙ ap (λ y. y ++ (x ∷ [])) e ∙ sym (take-suc-set m k x b)
same_sheets no_row k l m a b e = e
same_sheets (stopped n) k l m a b e = e

pub kept_room : (o : Shown) (k size : ℕ) → k ≤ size → Room o k size → kept_after o k ≤ size
kept_room silent k size h r = h
kept_room (printed x) k size h r = r
kept_room no_row k size h r = h
kept_room (stopped n) k size h r = h

pub going_room : (budget : ℕ) (o : Shown) (k size n : ℕ) → is_going (judge budget o k size n) ≡ true → Room o k size
going_room budget silent k size n e = tt
going_room budget (printed x) k size n e = grind (arith, nat_tests)
going_room budget no_row k size n e = tt
going_room budget (stopped j) k size n e = tt

module _ (G : Family) (reader budget : ℕ) (P : Script) where
  -- where bank and sheet are long enough nothing is refused
  pub long_enough : (s : Progress) → variables P ≤ length s.bank → s.kept ≤ length s.sheet → too_short G reader budget P s ≡ false
  long_enough s h k = ap₂ ◌||◌ (le-ltb (length s.bank) (variables P) h) (le-ltb (length s.sheet) s.kept k)

  pub has_registers : (bank : List ℤ) → variables P ≤ length bank → lacks_registers P bank ≡ false
  has_registers bank h = le-ltb (length bank) (variables P) h

  -- two runs, opened on the registers b0 and c0, that will go on alike
  module _ (b0 c0 : List ℤ) where
    -- a release row's opening figure is the same in both runs
    abbrev pub SameOpening : Progress → Type 0
    SameOpening x = IfReleases (λ e. value_of (register b0) e ≡ value_of (register c0) e) (program_row P x.row)

    pub record Alike (s t : Progress) : Type 0 where
      pub room1 : variables P ≤ length s.bank
      pub room2 : variables P ≤ length t.bank
      pub size : length s.sheet ≡ length t.sheet
      pub count : s.kept ≡ t.kept
      pub fits : s.kept ≤ length s.sheet
      pub same_lines : lines s ≡ lines t
      pub same_steps : s.steps ≡ t.steps
      pub stand : s.standing ≡ t.standing
      pub on : (k : ℕ) → SameNumbered G reader b0 c0 (program_row P) k s.row s.bank t.row t.bank

    same_ahead : {s t : Progress} → Alike s t → ahead G reader budget P s ≡ ahead G reader budget P t
    same_ahead a = (a.on 1).0

    same_judged : {s t : Progress} → Alike s t → Alike (judged G reader budget P s) (judged G reader budget P t)
    same_judged {s} {t} a = record {
      room1 = a.room1;
      room2 = a.room2;
      size = a.size;
      count = a.count;
      fits = a.fits;
      same_lines = a.same_lines;
      same_steps = a.same_steps;
      stand = ap₂ settle a.stand (
          ap₂ (λ o k. judge budget o k (length s.sheet) s.steps) (same_ahead a) a.count
          ∙ ap₂ (λ m n. judge budget (ahead G reader budget P t) t.kept m n) a.size a.same_steps
          );
      on = a.on;
    }

    same_step : {s t : Progress} → Alike s t → Room (ahead G reader budget P s) s.kept (length s.sheet) → SameOpening s → Alike (step G reader budget P s) (step G reader budget P t)
    same_step {s} {t} a r f = record {
      room1 = subst (λ x. variables P ≤ x) (sym (length_registers (program_row P s.row) s.bank)) a.room1;
      room2 = subst (λ x. variables P ≤ x) (sym (length_registers (program_row P t.row) t.bank)) a.room2;
      size = length_sheet _ _ s.sheet ∙ a.size ∙ sym (length_sheet _ _ t.sheet);
      count = ap₂ kept_after (same_ahead a) a.count;
      fits = subst (λ x. kept_after o s.kept ≤ x) (sym (length_sheet o s.kept s.sheet)) (kept_room o s.kept (length s.sheet) a.fits r);
      same_lines =
          same_sheets o s.kept s.sheet t.sheet r (subst (λ x. Room o s.kept x) a.size r) (a.same_lines ∙ ap (λ k. take k t.sheet) (sym a.count))
          ∙ ap₂ (λ x k. take (kept_after x k) (sheet_after x k t.sheet)) (same_ahead a) a.count;
      same_steps = ap suc a.same_steps;
      stand = ap standing_after (same_ahead a);
      on = λ k. (a.on (suc k)).1 f;
    }
      where
        o : Shown
        o = ahead G reader budget P s

    pub same_run : (n : ℕ) (s t : Progress) → Alike s t → All SameOpening (taken G reader budget P n s) → Alike (run G reader budget P n s) (run G reader budget P n t)
    same_run zero s t a f = same_judged a
    same_run (suc n) s t a f =
        subst (λ c. Alike (cond (is_going s'.standing) (run G reader budget P n (step G reader budget P s')) s') (cond c (run G reader budget P n (step G reader budget P t')) t'))
        (ap is_going (same_judged a).stand) (choose (is_going s'.standing) refl f
        (λ r g. same_run n (step G reader budget P s') (step G reader budget P t') (same_step (same_judged a) r g.0) g.1))
      where
        s' : Progress
        s' = judged G reader budget P s

        t' : Progress
        t' = judged G reader budget P t

        choose : (c : Bool) → is_going s'.standing ≡ c → All SameOpening (cond c (s' ∷ taken G reader budget P n (step G reader budget P s')) []) →
            (Room (ahead G reader budget P s) s.kept (length s.sheet) → All SameOpening (s' ∷ taken G reader budget P n (step G reader budget P s')) →
            Alike (run G reader budget P n (step G reader budget P s')) (run G reader budget P n (step G reader budget P t'))) →
            Alike (cond c (run G reader budget P n (step G reader budget P s')) s') (cond c (run G reader budget P n (step G reader budget P t')) t')
        choose true e g h = h (going_room budget (ahead G reader budget P s) s.kept (length s.sheet) s.steps (going_settle s.standing _ e)) g
        choose false e g h = same_judged a
