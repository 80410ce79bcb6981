-- What one run keeps, call by call.
use Rattle.std.proofs.Common.{◌≡◌, ℕ, zero, suc, Bool, true, false, cond, List, [], ◌∷◌, ◌++◌, ℤ, refl}
use Rattle.syntax.specs.Scripts.{Script}
use Rattle.meaning.specs.declared.answers.Line.{Line}
use Rattle.meaning.specs.declared.answers.Call.{Call}
use Rattle.meaning.specs.declared.answers.Call.TheVariants.{Enter, Start, Go, Finish, ReadLine, Totals}
use Rattle.meaning.specs.Families.{Family}
use Rattle.meaning.specs.Runs.{Progress, is_going, entered_bank, started, judged, step, run, taken, too_short}
use Rattle.meaning.specs.Sessions.{Session, filling, under_way, closed, entries, enter_all, carry, session_after, taken_by, taken_from}
use Rattle.meaning.specs.Confinement.{All, HasStarted}

pub all_split : {A : Type 0} (Q : A → Type 0) (l m : List A) → All Q (l ++ m) → All Q l × All Q m
all_split Q [] m a = (tt, a)
all_split Q (x ∷ l) m a = let r = all_split Q l m a.1 in ((a.0, r.0), r.1)

pub all_join : {A : Type 0} (Q : A → Type 0) (l m : List A) → All Q l → All Q m → All Q (l ++ m)
all_join Q [] m a b = b
all_join Q (x ∷ l) m a b = (a.0, all_join Q l m a.1 b)

module _ (G : Family) (reader budget : ℕ) (P : Script) where
  -- J is kept by judging, and by a row taken of which Q holds
  module _ (J Q : Progress → Type 0) (stay : (s : Progress) → J s → J (judged G reader budget P s))
      (move : (s : Progress) → J s → is_going (judged G reader budget P s).standing ≡ true → Q (judged G reader budget P s) → J (step G reader budget P (judged G reader budget P s))) where
    pub run_keeps : (n : ℕ) (s : Progress) → J s → All Q (taken G reader budget P n s) → J (run G reader budget P n s)
    run_keeps zero s j q = stay s j
    run_keeps (suc n) s j q = choose (is_going (judged G reader budget P s).standing) refl q (λ e x. run_keeps n _ (move s j e x.0) x.1)
      where
        s' : Progress
        s' = judged G reader budget P s

        choose : (c : Bool) → is_going s'.standing ≡ c → All Q (cond c (s' ∷ taken G reader budget P n (step G reader budget P s')) []) →
            (is_going s'.standing ≡ true → All Q (s' ∷ taken G reader budget P n (step G reader budget P s')) → J (run G reader budget P n (step G reader budget P s'))) →
            J (cond c (run G reader budget P n (step G reader budget P s')) s')
        choose true e x f = f e x
        choose false e x f = stay s j

    go_keeps : (c : Bool) (n : ℕ) (s : Progress) → J s → All Q (cond c [] (taken G reader budget P n s)) → J (cond c s (run G reader budget P n s))
    go_keeps true n s j q = j
    go_keeps false n s j q = run_keeps n s j q

    call_keeps : (c : Call) (s : Session) → HasStarted J s → All Q (taken_by G reader budget P c s) → HasStarted J (carry G reader budget P c s).1
    call_keeps c (filling b l) j q = absurd j
    call_keeps (Enter K v) (under_way s) j q = j
    call_keeps Start (under_way s) j q = j
    call_keeps (Go n) (under_way s) j q = go_keeps (too_short G reader budget P s) n s j q
    call_keeps Finish (under_way s) j q = choose (is_going s.standing)
      where
        choose : (c : Bool) → HasStarted J (cond c (under_way s) (closed s))
        choose true = j
        choose false = j
    call_keeps (ReadLine k) (under_way s) j q = j
    call_keeps Totals (under_way s) j q = j
    call_keeps (Enter K v) (closed s) j q = j
    call_keeps Start (closed s) j q = j
    call_keeps (Go n) (closed s) j q = j
    call_keeps Finish (closed s) j q = j
    call_keeps (ReadLine k) (closed s) j q = j
    call_keeps Totals (closed s) j q = j

    pub calls_keep : (cs : List Call) (s : Session) → HasStarted J s → All Q (taken_from G reader budget P cs s) → HasStarted J (session_after G reader budget P cs s)
    calls_keep [] s j q = j
    calls_keep (c ∷ cs) s j q =
        let p = all_split Q (taken_by G reader budget P c s) (taken_from G reader budget P cs (carry G reader budget P c s).1) q in
        calls_keep cs (carry G reader budget P c s).1 (call_keeps c s j p.0) p.1

    -- Q follows from J: it holds of every row taken
    module _ (made : (s : Progress) → J s → Q (judged G reader budget P s)) where
      run_made : (n : ℕ) (s : Progress) → J s → All Q (taken G reader budget P n s)
      run_made zero s j = tt
      run_made (suc n) s j = choose (is_going (judged G reader budget P s).standing) refl (λ e. run_made n _ (move s j e (made s j)))
        where
          s' : Progress
          s' = judged G reader budget P s

          choose : (c : Bool) → is_going s'.standing ≡ c → (is_going s'.standing ≡ true → All Q (taken G reader budget P n (step G reader budget P s'))) →
              All Q (cond c (s' ∷ taken G reader budget P n (step G reader budget P s')) [])
          choose true e f = (made s j, f e)
          choose false e f = tt

      short_made : (c : Bool) (n : ℕ) (s : Progress) → J s → All Q (cond c [] (taken G reader budget P n s))
      short_made true n s j = tt
      short_made false n s j = run_made n s j

      go_made : (n : ℕ) (s : Session) → HasStarted J s → All Q (taken_by G reader budget P (Go n) s)
      go_made n (filling b l) j = absurd j
      go_made n (under_way s) j = short_made (too_short G reader budget P s) n s j
      go_made n (closed s) j = tt

      call_made : (c : Call) (s : Session) → HasStarted J s → All Q (taken_by G reader budget P c s)
      call_made (Enter K v) s j = tt
      call_made Start s j = tt
      call_made (Go n) s j = go_made n s j
      call_made Finish s j = tt
      call_made (ReadLine k) s j = tt
      call_made Totals s j = tt

      pub calls_made : (cs : List Call) (s : Session) → HasStarted J s → All Q (taken_from G reader budget P cs s)
      calls_made [] s j = tt
      calls_made (c ∷ cs) s j =
          let q = call_made c s j in
          all_join Q (taken_by G reader budget P c s) _ q (calls_made cs (carry G reader budget P c s).1 (call_keeps c s j q))

  -- a list of calls from `open` on: either the run never starts, or it starts with the registers entered
  pub to_start : (Z : Session → List Progress → Type 0) (cs : List Call) (b : List ℤ) (l : List Line) →
      Z (filling (enter_all P (entries cs) b) l) [] →
      ((ds : List Call) → let s = under_way (started budget P (enter_all P (entries cs) b) l) in Z (session_after G reader budget P ds s) (taken_from G reader budget P ds s)) →
      Z (session_after G reader budget P cs (filling b l)) (taken_from G reader budget P cs (filling b l))
  to_start Z [] b l x y = x
  to_start Z (Enter K v ∷ cs) b l x y = to_start Z cs (entered_bank P b K v) l x y
  to_start Z (Start ∷ cs) b l x y = y cs
  to_start Z (Go n ∷ cs) b l x y = to_start Z cs b l x y
  to_start Z (Finish ∷ cs) b l x y = to_start Z cs b l x y
  to_start Z (ReadLine k ∷ cs) b l x y = to_start Z cs b l x y
  to_start Z (Totals ∷ cs) b l x y = to_start Z cs b l x y

-- something holds of each
pub all_unit : (ts : List Progress) → All (λ t. Unit {0}) ts
all_unit [] = tt
all_unit (t ∷ ts) = (tt, all_unit ts)
