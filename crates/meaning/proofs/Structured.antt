-- The machine of rows does what a script's structure says.
use Rattle.std.proofs.Common.{◌≡◌, ℕ, zero, suc, ◌+◌, Bool, true, false, cond, List, [], ◌∷◌, ◌++◌, length, ℤ, Some, None, sym, refl, ap, subst, append_assoc, append-nil, add-zero, arith}
use Rattle.syntax.specs.Trees.{Statement, Statements}
use Rattle.syntax.specs.Form.{TreeRow, skips, assigns, releases, writes, branches, leaves, closes, repeats, goes_back, row_after_of, row_after_in, tree_rows_of, tree_rows_in, tree_rows}
use Rattle.meaning.specs.declared.answers.Line.{Line}
use Rattle.meaning.specs.Families.{Family}
use Rattle.meaning.specs.Machine.{register, value_of, is_zero, row_at, next_row, registers_after, Shown, silent, printed, line_of, shows}
use Rattle.meaning.specs.Structured.{Does, does_skip, does_assign, does_release, shows_line, hides_line, first_arm, second_arm, loop_over, loop_again, DoesIn, does_none, does_then, StructuredRuns}
use Rattle.meaning.proofs.Bought.{see, Goes}
use Rattle.meaning.proofs.Transfer.{ExactlyNumbered}
use Rattle.meaning.proofs.Tolls.{From, from_row, from_next, from_of, from_in}
use Rattle.meaning.proofs.Endings.{rows_settle}

module _ (G : Family) (reader : ℕ) (rows : List TreeRow) (finally : List ℤ → Type 0) where
  -- from row p on, the run ends after n steps and shows l (in a record, so that its parts are found as implicit arguments)
  record Ends (n p : ℕ) (b : List ℤ) (l : List Line) : Type 0 where
    run : ExactlyNumbered G reader (λ p b. Unit {0}) finally (row_at rows) n p b l

  -- one row more
  take_row : (n p : ℕ) (b : List ℤ) (r : TreeRow) (rest : List TreeRow) (o : Shown) (l : List Line) → From rows p (r ∷ rest) → shows G reader (Some r) (register b) ≡ o → Goes o →
      Ends n (next_row (Some r) p (register b)) (registers_after (Some r) b) l → Ends (suc n) p b (see o l)
  take_row n p b r rest o l f e g x = record { run = rw (from_row rows p r rest f) (subst Goes (sym e) g, tt, (l, ap (λ y. see y l) (sym e), x.run)) }

  as_many : {n m p : ℕ} {b : List ℤ} {l : List Line} → n ≡ m → Ends n p b l → Ends m p b l
  as_many {p = p} {b = b} {l = l} e x = subst (λ k. Ends k p b l) e x

  to : {n : ℕ} {b : List ℤ} {l : List Line} (z : Bool) (x y : ℕ) → z ≡ true → Ends n x b l → Ends n (cond z x y) b l
  to {n} {b} {l} z x y e h = subst (λ c. Ends n (cond c x y) b l) (sym e) h

  past : {n : ℕ} {b : List ℤ} {l : List Line} (z : Bool) (x y : ℕ) → z ≡ false → Ends n y b l → Ends n (cond z x y) b l
  past {n} {b} {l} z x y e h = subst (λ c. Ends n (cond c x y) b l) (sym e) h

  -- what ends from behind a statement ends from its first row, after the statement's steps more and with its lines before
  mutual
    does_of : {s : Statement} {b c : List ℤ} {n : ℕ} {k : List Line} → Does G reader s b n k c → (p m : ℕ) (rest : List TreeRow) (l : List Line) →
        From rows p (tree_rows_of p s rest) → Ends m (row_after_of p s) c l → Ends (n + m) p b (k ++ l)
    does_of {b = b} does_skip p m rest l f x = as_many (omega arith) (take_row m p b skips rest silent l f refl tt x)
    does_of {b = b} (does_assign v e) p m rest l f x = as_many (omega arith) (take_row m p b (assigns v e) rest silent l f refl tt x)
    does_of {b = b} (does_release v e) p m rest l f x = as_many (omega arith) (take_row m p b (releases v e) rest silent l f refl tt x)
    does_of {b = b} (shows_line t e h) p m rest l f x =
        as_many (omega arith) (take_row m p b (writes t e) rest (printed (line_of t (value_of (register b) e))) l f (ap (λ c. cond c (printed (line_of t (value_of (register b) e))) silent) h) tt x)
    does_of {b = b} (hides_line t e h) p m rest l f x =
        as_many (omega arith) (take_row m p b (writes t e) rest silent l f (ap (λ c. cond c (printed (line_of t (value_of (register b) e))) silent) h) tt x)
    does_of {b = b} {c = c} {k = k} (first_arm {n = n} e A B h d) p m rest l f x =
        let q = row_after_in (suc p) A in
        let in-A = from_next rows p _ _ f in
        let at_else = from_in rows (suc p) A _ in-A in
        as_many (omega arith) (take_row (n + suc m) p b (branches e q) _ silent (k ++ l) f refl tt
        (past (is_zero (value_of (register b) e)) (suc q) (suc p) h (does_in d (suc p) (suc m) _ l in-A (take_row m q c (leaves (row_after_in (suc q) B)) _ silent l at_else refl tt x))))
    does_of {b = b} {c = c} {k = k} (second_arm {n = n} e A B h d) p m rest l f x =
        let q = row_after_in (suc p) A in
        let in-A = from_next rows p _ _ f in
        let at_else = from_in rows (suc p) A _ in-A in
        let in-B = from_next rows q _ _ at_else in
        let at_end_lem = from_in rows (suc q) B _ in-B in
        as_many (omega arith) (take_row (n + suc m) p b (branches e q) _ silent (k ++ l) f refl tt
        (to (is_zero (value_of (register b) e)) (suc q) (suc p) h (does_in d (suc q) (suc m) _ l in-B (take_row m (row_after_in (suc q) B) c closes rest silent l at_end_lem refl tt x))))
    does_of {b = b} (loop_over e A h) p m rest l f x =
        as_many (omega arith) (take_row m p b (repeats e (row_after_in (suc p) A)) _ silent l f refl tt (to (is_zero (value_of (register b) e)) _ (suc p) h x))
    does_of {b = b} (loop_again {c = c} {n = n} {m = r} {k = k} {l = l'} e A h d w) p m rest l f x =
        let in-A = from_next rows p _ _ f in
        let at_end_lem = from_in rows (suc p) A _ in-A in
        let again = does_of w p m rest l f x in
        subst (λ y. Ends (n + 2 + r + m) p b y) (sym (append_assoc k l' l))
        (as_many (omega arith) (take_row (n + suc (r + m)) p b (repeats e (row_after_in (suc p) A)) _ silent (k ++ (l' ++ l)) f refl tt
        (past (is_zero (value_of (register b) e)) _ (suc p) h
        (does_in d (suc p) (suc (r + m)) _ (l' ++ l) in-A (take_row (r + m) (row_after_in (suc p) A) c (goes_back p) rest silent (l' ++ l) at_end_lem refl tt again)))))

    does_in : {s : Statements} {b c : List ℤ} {n : ℕ} {k : List Line} → DoesIn G reader s b n k c → (p m : ℕ) (rest : List TreeRow) (l : List Line) →
        From rows p (tree_rows_in p s rest) → Ends m (row_after_in p s) c l → Ends (n + m) p b (k ++ l)
    does_in does_none p m rest l f x = as_many (omega arith) x
    does_in {b = b} (does_then {n = n} {m = r} {k = k} {l = l'} {x = s} {xs = ss} d w) p m rest l f x =
        subst (λ y. Ends (n + r + m) p b y) (sym (append_assoc k l' l))
        (as_many (omega arith) (does_of d p (r + m) (tree_rows_in (row_after_of p s) ss rest) (l' ++ l) f (does_in w (row_after_of p s) m rest l (from_of rows p s _ f) x)))

-- behind the last row there is none
no_more : (rows : List TreeRow) (p : ℕ) → From rows p [] → row_at rows p ≡ None
no_more rows zero f = ap (λ x. row_at x 0) f
no_more [] (suc p) f = elim f [ ]
no_more (r ∷ rows) (suc p) f = no_more rows p f

pub structured_runs : StructuredRuns
structured_runs G reader budget P bank bank' n l d h sheet room cs settled =
    rows_settle G reader budget P l (length sheet) room n h (λ b. b ≡ bank') cs bank sheet refl whole.run settled
  where
    rows : List TreeRow
    rows = tree_rows P.statements

    over : Ends G reader rows (λ b. b ≡ bank') 0 (row_after_in 0 P.statements) bank' []
    over = record { run = (ap (λ r. shows G reader r (register bank')) (no_more rows _ (from_in rows 0 P.statements [] refl)), refl, refl) }

    whole : Ends G reader rows (λ b. b ≡ bank') n 0 bank l
    whole = subst (λ y. Ends G reader rows (λ b. b ≡ bank') n 0 bank y) (append-nil l)
        (as_many G reader rows (λ b. b ≡ bank') (add-zero n) (does_in G reader rows (λ b. b ≡ bank') d 0 0 [] [] refl over))
