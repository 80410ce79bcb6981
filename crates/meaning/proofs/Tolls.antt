-- Tolls are steps (`toll_laws`).
--
-- A list is balanced where it has no `while` and no `stop` and both arms of every `if` have the same toll. A run takes a balanced list from its first
-- row to behind its last in as many rows as its toll says, and rewritten lists without whiles and stops are balanced.
use Rattle.std.proofs.Common.{◌≡◌, ℕ, zero, suc, ◌+◌, ◌-◌, Bool, true, false, cond, ◌||◌, List, [], ◌∷◌, ◌++◌, length, ℤ, Some, sym, refl, ap, subst, arith}
use Rattle.std.proofs.lemmas.Bool.{and_parts, or_parts, true≢false}
use Rattle.values.specs.declared.Operator.{Operator}
use Rattle.syntax.specs.Trees.{Expression, Statement, Statements, none, then, skip, assign, release, write, stop, branch, while, join}
use Rattle.syntax.specs.Form.{TreeRow, row_after_of, row_after_in, tree_rows_of, tree_rows_in}
use Rattle.meaning.specs.Machine.{register, value_of, is_zero, row_at, next_row, registers_after}
use Rattle.meaning.specs.Rules.{has_while, has_while_in, guard_register, raised, rising, changes_in, toll, tolls, padding, rewritten_arms, rewritten_of, rewritten_in}
use Rattle.meaning.specs.Rewriting.{never_stops, never_stops_in}
use Rattle.meaning.specs.Tolls.{goes_on, Reaches, TollsAreSteps, TollLaws}

abbrev mutual
  Balanced : Statement → Type 0
  Balanced skip = Unit {0}
  Balanced (assign k e) = Unit {0}
  Balanced (release k e) = Unit {0}
  Balanced (write t e) = Unit {0}
  Balanced (stop n) = ⊥
  Balanced (branch e A B) = BalancedIn A × BalancedIn B × (tolls A ≡ tolls B)
  Balanced (while e A) = ⊥

  BalancedIn : Statements → Type 0
  BalancedIn none = Unit {0}
  BalancedIn (then s l) = Balanced s × BalancedIn l

-- rewritten lists are balanced

balanced_join : (A B : Statements) → BalancedIn A → BalancedIn B → BalancedIn (join A B)
balanced_join none B p q = q
balanced_join (then s l) B p q = (p.0, balanced_join l B p.1 q)

balanced_padding : (n : ℕ) → BalancedIn (padding n)
balanced_padding zero = tt
balanced_padding (suc n) = (tt, balanced_padding n)

balanced_raised : (v : ℕ) (j : Operator) (g : ℕ) (ks : List ℕ) → BalancedIn (raised v j g ks)
balanced_raised v j g [] = tt
balanced_raised v j g (k ∷ ks) = (tt, (tt, balanced_raised v j g ks))

tolls_join : (A B : Statements) → tolls (join A B) ≡ tolls A + tolls B
tolls_join none B = omega arith
tolls_join (then s l) B = omega (arith, tolls_join l B)

tolls_padding : (n : ℕ) → tolls (padding n) ≡ n
tolls_padding zero = refl
tolls_padding (suc n) = omega (arith, tolls_padding n)

-- padded to the other's toll, each of two lists has the greater
equal_padded : (A B : Statements) → tolls (join A (padding (tolls B - tolls A))) ≡ tolls (join B (padding (tolls A - tolls B)))
equal_padded A B =
    let a = tolls B - tolls A in
    let b = tolls A - tolls B in
    omega (arith, tolls_join A (padding a), tolls_join B (padding b), tolls_padding a, tolls_padding b)

balanced_arms : (whiles : Bool) (g : ℕ) (e : Expression) (A B : Statements) → whiles ≡ false → BalancedIn A → BalancedIn B
    → BalancedIn (rewritten_arms whiles g e A B)
balanced_arms true g e A B w p q = absurd (true≢false w)
balanced_arms false g e A B w p q = (
  (
    balanced_join A _ p (balanced_padding (tolls B - tolls A)),
    balanced_join B _ q (balanced_padding (tolls A - tolls B)),
    equal_padded A B,
  ),
  tt,
)

module _ (v : ℕ) (j : Operator) where
  mutual
    balanced_of : (d : ℕ) (s : Statement) → has_while s ≡ false → never_stops s ≡ true → BalancedIn (rewritten_of v j d s)
    balanced_of d skip w n = (tt, tt)
    balanced_of d (assign k e) w n = (tt, (tt, (tt, tt)))
    balanced_of d (release k e) w n = (((tt, (tt, (tt, tt))), (tt, (tt, (tt, tt))), refl), tt)
    balanced_of d (write t e) w n = (((tt, tt), (tt, tt), refl), tt)
    balanced_of d (stop k) w n = absurd (true≢false (sym n))
    balanced_of d (branch e A B) w n =
        let without = or_parts (has_while_in A) (has_while_in B) w in
        let unstopped = and_parts (never_stops_in A) (never_stops_in B) n in
        let p = balanced_in (suc d) A without.0 unstopped.0 in
        let q = balanced_in (suc d) B without.1 unstopped.1 in
        let g = guard_register v d in
        (tt, balanced_join _ _ (balanced_arms _ g e _ _ w p q) (balanced_raised v j g (rising v (λ k. changes_in A k || changes_in B k))))
    balanced_of d (while e A) w n = absurd (true≢false w)

    balanced_in : (d : ℕ) (l : Statements) → has_while_in l ≡ false → never_stops_in l ≡ true → BalancedIn (rewritten_in v j d l)
    balanced_in d none w n = tt
    balanced_in d (then s l) w n =
        let without = or_parts (has_while s) (has_while_in l) w in
        let unstopped = and_parts (never_stops s) (never_stops_in l) n in
        balanced_join _ _ (balanced_of d s without.0 unstopped.0) (balanced_in d l without.1 unstopped.1)

-- from row b on, the rows are these
abbrev pub From : List TreeRow → ℕ → List TreeRow → Type 0
From rows zero these = rows ≡ these
From [] (suc b) these = ⊥
From (r ∷ rows) (suc b) these = From rows b these

pub from_row : (rows : List TreeRow) (b : ℕ) (r : TreeRow) (rest : List TreeRow) → From rows b (r ∷ rest) → row_at rows b ≡ Some r
from_row rows zero r rest f = ap (λ x. row_at x 0) f
from_row [] (suc b) r rest f = elim f [ ]
from_row (x ∷ rows) (suc b) r rest f = from_row rows b r rest f

pub from_next : (rows : List TreeRow) (b : ℕ) (r : TreeRow) (rest : List TreeRow) → From rows b (r ∷ rest) → From rows (suc b) rest
from_next [] zero r rest f = let z : ◌≡◌ {A = ℕ} 0 (suc (length rest)) = ap length f in omega arith
from_next (x ∷ rows) zero r rest f = cc
from_next [] (suc b) r rest f = elim f [ ]
from_next (x ∷ rows) (suc b) r rest f = from_next rows b r rest f

from_behind : (before these : List TreeRow) → From (before ++ these) (length before) these
from_behind [] these = refl
from_behind (r ∷ before) these = from_behind before these

module _ (rows : List TreeRow) where
  mutual
    pub from_of : (b : ℕ) (s : Statement) (rest : List TreeRow) → From rows b (tree_rows_of b s rest) → From rows (row_after_of b s) rest
    from_of b skip rest f = from_next rows b _ rest f
    from_of b (assign k e) rest f = from_next rows b _ rest f
    from_of b (release k e) rest f = from_next rows b _ rest f
    from_of b (write t e) rest f = from_next rows b _ rest f
    from_of b (stop n) rest f = from_next rows b _ rest f
    from_of b (branch e A B) rest f =
        let in-A = from_next rows b _ _ f in
        let in-B = from_next rows (row_after_in (suc b) A) _ _ (from_in (suc b) A _ in-A) in
        from_next rows _ _ rest (from_in _ B _ in-B)
    from_of b (while e A) rest f = from_next rows _ _ rest (from_in (suc b) A _ (from_next rows b _ _ f))

    pub from_in : (b : ℕ) (l : Statements) (rest : List TreeRow) → From rows b (tree_rows_in b l rest) → From rows (row_after_in b l) rest
    from_in b none rest f = f
    from_in b (then s l) rest f = from_in _ l rest (from_of b s _ f)

  -- one row more
  take_row : (n b q : ℕ) (bank : List ℤ) (r : TreeRow) (rest : List TreeRow) → From rows b (r ∷ rest) → goes_on (Some r) ≡ true
      → Reaches rows n (next_row (Some r) b (register bank)) (registers_after (Some r) bank) q → Reaches rows (suc n) b bank q
  take_row n b q bank r rest f on go = rw (from_row rows b r rest f) (on, go)

  as_many : (n m b q : ℕ) (bank : List ℤ) → n ≡ m → Reaches rows n b bank q → Reaches rows m b bank q
  as_many n m b q bank e go = subst (λ k. Reaches rows k b bank q) e go

  either : (z : Bool) (n x y q : ℕ) (bank : List ℤ) → Reaches rows n x bank q → Reaches rows n y bank q → Reaches rows n (cond z x y) bank q
  either true n x y q bank p r = p
  either false n x y q bank p r = r

  -- what is reached from behind a list in n rows is reached from its first row in n more than its toll
  mutual
    passes_of : (b n q : ℕ) (s : Statement) (rest : List TreeRow) → Balanced s → From rows b (tree_rows_of b s rest)
        → ((bank : List ℤ) → Reaches rows n (row_after_of b s) bank q)
        → (bank : List ℤ) → Reaches rows (toll s + n) b bank q
    passes_of b n q skip rest p f go bank = as_many (suc n) _ b q bank (omega arith) (take_row n b q bank _ _ f refl (go _))
    passes_of b n q (assign k e) rest p f go bank = as_many (suc n) _ b q bank (omega arith) (take_row n b q bank _ _ f refl (go _))
    passes_of b n q (release k e) rest p f go bank = as_many (suc n) _ b q bank (omega arith) (take_row n b q bank _ _ f refl (go _))
    passes_of b n q (write t e) rest p f go bank = as_many (suc n) _ b q bank (omega arith) (take_row n b q bank _ _ f refl (go _))
    passes_of b n q (stop k) rest p f go bank = absurd p
    passes_of b n q (branch e A B) rest p f go bank =
        let m = row_after_in (suc b) A in
        let in-A = from_next rows b _ _ f in
        let at_else = from_in (suc b) A _ in-A in
        let in-B = from_next rows m _ _ at_else in
        let at_end_lem = from_in (suc m) B _ in-B in
        let first = passes_in (suc b) (suc n) q A _ p.0 in-A (λ bank. take_row n m q bank _ _ at_else refl (go bank)) bank in
        let second = passes_in (suc m) (suc n) q B _ p.1 in-B (λ bank. take_row n (row_after_in (suc m) B) q bank _ _ at_end_lem refl (go bank)) bank in
        as_many (suc (tolls A + suc n)) _ b q bank (omega arith)
        (take_row (tolls A + suc n) b q bank _ _ f refl
        (either (is_zero (value_of (register bank) e)) (tolls A + suc n) (suc m) (suc b) q bank (as_many _ _ (suc m) q bank (omega arith) second) first))
    passes_of b n q (while e A) rest p f go bank = absurd p

    passes_in : (b n q : ℕ) (l : Statements) (rest : List TreeRow) → BalancedIn l → From rows b (tree_rows_in b l rest)
        → ((bank : List ℤ) → Reaches rows n (row_after_in b l) bank q)
        → (bank : List ℤ) → Reaches rows (tolls l + n) b bank q
    passes_in b n q none rest p f go bank = as_many n _ b q bank (omega arith) (go bank)
    passes_in b n q (then s l) rest p f go bank =
        as_many (toll s + (tolls l + n)) _ b q bank (omega arith)
        (passes_of b (tolls l + n) q s _ p.0 f (λ bank. passes_in (row_after_of b s) n q l rest p.1 (from_of b s _ f) go bank) bank)

tolls_are_steps : TollsAreSteps
tolls_are_steps v j d l w n before after bank =
    let L = rewritten_in v j d l in
    let b = length before in
    let rows = before ++ tree_rows_in b L after in
    as_many rows (tolls L + 0) (tolls L) b (row_after_in b L) bank (omega arith)
    (passes_in rows b 0 (row_after_in b L) L after (balanced_in v j d l w n) (from_behind before _) (λ bank. refl) bank)

pub toll_laws : TollLaws
toll_laws = (tolls_are_steps, λ v j d A B. equal_padded (rewritten_in v j (suc d) A) (rewritten_in v j (suc d) B))
