-- Rewritten statements keep the limits of the language.
--
-- The rules make expressions at most 3 deeper and nest at most 1 deeper, and use registers below 3v + H only, where v is the number of own variables
-- and H the deepest nesting.
use Rattle.std.proofs.Common.{ℕ, zero, suc, ◌+◌, ◌-◌, ◌<◌, ◌≤◌, max, Bool, true, false, cond, List, [], ◌∷◌, ◌++◌, arith}
use Rattle.values.specs.declared.Operator.{Operator}
use Rattle.values.specs.declared.Operator.TheVariants.{Equal, Less, Maximum}
use Rattle.syntax.specs.Trees.{Expression, number, variable, apply, Statement, Statements, none, then, skip, assign, release, write, stop, branch, while, single, join}
use Rattle.syntax.specs.Trees.{depth_of, nesting_of, nesting_in, InRange, LegalExpression, LegalStatement, LegalStatements}
use Rattle.meaning.specs.Rules.{level_register, mark_register, guard_register, level_of, mark_of, guard_of, guarded_level, rewritten_assign, rewritten_release, rewritten_write}
use Rattle.meaning.specs.Rules.{stop_check, rising, raised, tolls, padding, rewritten_arms, rewritten_of, rewritten_in}
use Rattle.meaning.specs.Rewriting.{deepest, deepest_in}

-- an expression over k variables, at most x deep
pub record Ready (k x : ℕ) (e : Expression) : Type 0 where
  pub ranged : InRange k e
  pub depth : depth_of e ≤ x

-- statements over k variables, nested at most n deep, with expressions at most 19 deep
pub record Stands (k n : ℕ) (l : Statements) : Type 0 where
  pub legal : LegalStatements k l
  pub nested : nesting_in l ≤ n
  pub shallow : deepest_in l ≤ 19

legal_expression : (k x : ℕ) (e : Expression) → x ≤ 19 → Ready k x e → LegalExpression k e
legal_expression k x e h r = record { ranged = r.ranged; shallow = omega (arith, r.depth) }

-- parts of lists

pub stands_none : (k n : ℕ) → Stands k n none
stands_none k n = record { legal = tt; nested = omega arith; shallow = omega arith }

pub stands-join : (k n : ℕ) (A B : Statements) → Stands k n A → Stands k n B → Stands k n (join A B)
stands-join k n none B p q = q
stands-join k n (then s l) B p q =
    let r = stands-join k n l B (record { legal = p.legal.1; nested = omega (arith, p.nested); shallow = omega (arith, p.shallow) }) q in
    record { legal = (p.legal.0, r.legal); nested = omega (arith, p.nested, r.nested); shallow = omega (arith, p.shallow, r.shallow) }

pub stands-more : (k n m : ℕ) (l : Statements) → n ≤ m → Stands k n l → Stands k m l
stands-more k n m l h p = record { legal = p.legal; nested = omega (arith, p.nested); shallow = p.shallow }

pub stands_then : (k n : ℕ) (s : Statement) (l : Statements) → Stands k n (single s) → Stands k n l → Stands k n (then s l)
stands_then k n s l p q = stands-join k n (single s) l p q

-- single statements

module _ (k n : ℕ) where
  stands_skip : Stands k n (single skip)
  stands_skip = record { legal = (tt, tt); nested = omega arith; shallow = omega arith }

  stands_stop : (m : ℕ) → m ≤ 2147483647 → Stands k n (single (stop m))
  stands_stop m h = record { legal = (h, tt); nested = omega arith; shallow = omega arith }

  pub stands_assign : (w : ℕ) (e : Expression) → w < k → Ready k 19 e → Stands k n (single (assign w e))
  stands_assign w e h r = record { legal = ((h, legal_expression k 19 e (omega arith) r), tt); nested = omega arith; shallow = omega (arith, r.depth) }

  stands_release : (w : ℕ) (e : Expression) → w < k → Ready k 19 e → Stands k n (single (release w e))
  stands_release w e h r = record { legal = ((h, legal_expression k 19 e (omega arith) r), tt); nested = omega arith; shallow = omega (arith, r.depth) }

  stands_write : (t : ℕ) (e : Expression) → t ≤ 2147483647 → Ready k 19 e → Stands k n (single (write t e))
  stands_write t e h r = record { legal = ((h, legal_expression k 19 e (omega arith) r), tt); nested = omega arith; shallow = omega (arith, r.depth) }

  stands-branch : (e : Expression) (A B : Statements) → Ready k 19 e → Stands k n A → Stands k n B → Stands k (suc n) (single (branch e A B))
  stands-branch e A B r p q = record {
    legal = ((legal_expression k 19 e (omega arith) r, p.legal, q.legal), tt);
    nested = omega (arith, p.nested, q.nested);
    shallow = omega (arith, r.depth, p.shallow, q.shallow);
  }

  stands_while : (e : Expression) (A : Statements) → Ready k 19 e → Stands k n A → Stands k (suc n) (single (while e A))
  stands_while e A r p = record {
    legal = ((legal_expression k 19 e (omega arith) r, p.legal), tt);
    nested = omega (arith, p.nested);
    shallow = omega (arith, r.depth, p.shallow);
  }

  stands-padding : (m : ℕ) → Stands k n (padding m)
  stands-padding zero = stands_none k n
  stands-padding (suc m) = stands_then k n skip (padding m) stands_skip (stands-padding m)

-- expressions

module _ (k : ℕ) where
  pub ready_number : (x n : ℕ) → n ≤ 2147483647 → Ready k x (number n)
  ready_number x n h = record { ranged = h; depth = omega arith }

  ready_variable : (x v : ℕ) → v < k → Ready k x (variable v)
  ready_variable x v h = record { ranged = h; depth = omega arith }

  ready_apply : (x : ℕ) (o : Operator) (a b : Expression) → Ready k x a → Ready k x b → Ready k (suc x) (apply o a b)
  ready_apply x o a b p q = record { ranged = (p.ranged, q.ranged); depth = omega (arith, p.depth, q.depth) }

  ready_more : (x y : ℕ) (e : Expression) → x ≤ y → Ready k x e → Ready k y e
  ready_more x y e h r = record { ranged = r.ranged; depth = omega (arith, r.depth) }

-- numbers below v
abbrev AllBelow : ℕ → List ℕ → Type 0
AllBelow v [] = Unit {0}
AllBelow v (k ∷ ks) = (k < v) × AllBelow v ks

below_append : (v : ℕ) (ks ls : List ℕ) → AllBelow v ks → AllBelow v ls → AllBelow v (ks ++ ls)
below_append v [] ls p q = q
below_append v (k ∷ ks) ls p q = (p.0, below_append v ks ls p.1 q)

rising_below : (v n : ℕ) (test : ℕ → Bool) → n ≤ v → AllBelow v (rising n test)
rising_below v zero test h = tt
rising_below v (suc n) test h = below_append v (rising n test) _ (rising_below v n test (omega arith)) (by (test n))
  where
    by : (b : Bool) → AllBelow v (cond b (n ∷ []) [])
    by true = (h, tt)
    by false = tt

-- v own variables, and registers for H guards
module _ (v H : ℕ) where
  abbrev pub all : ℕ
  all = v + v + v + H

  in_range : (e : Expression) → InRange v e → InRange all e
  in_range (number n) h = h
  in_range (variable w) h = omega (arith, h)
  in_range (apply o a b) h = (in_range a h.0, in_range b h.1)

  -- an own expression, its level, and its mark
  ready_own : (x : ℕ) (e : Expression) → LegalExpression v e → depth_of e ≤ x → Ready all x e
  ready_own x e h d = record { ranged = in_range e h.ranged; depth = d }

  ready_level : (x : ℕ) (j : Operator) (e : Expression) → InRange v e → depth_of e ≤ x → Ready all x (level_of v j e)
  ready_level x j (number n) h d = ready_number all x 0 (omega arith)
  ready_level x j (variable w) h d = ready_variable all x (level_register v w) (omega (arith, h))
  ready_level zero j (apply o a b) h d = absurd (omega (arith, d))
  ready_level (suc x) j (apply o a b) h d =
      ready_apply all x j (level_of v j a) (level_of v j b) (ready_level x j a h.0 (omega (arith, d))) (ready_level x j b h.1 (omega (arith, d)))

  ready_mark : (x : ℕ) (e : Expression) → InRange v e → depth_of e ≤ x → Ready all x (mark_of v e)
  ready_mark x (number n) h d = ready_number all x 0 (omega arith)
  ready_mark x (variable w) h d = ready_variable all x (mark_register v w) (omega (arith, h))
  ready_mark zero (apply o a b) h d = absurd (omega (arith, d))
  ready_mark (suc x) (apply o a b) h d =
      ready_apply all x Maximum (mark_of v a) (mark_of v b) (ready_mark x a h.0 (omega (arith, d))) (ready_mark x b h.1 (omega (arith, d)))

  ready_guard : (x d : ℕ) → d ≤ H → Ready all x (guard_of v d)
  ready_guard x zero h = ready_number all x 0 (omega arith)
  ready_guard x (suc d) h = ready_variable all x (guard_register v d) (omega (arith, h))

  ready_guarded : (j : Operator) (d : ℕ) (e : Expression) → LegalExpression v e → depth_of e ≤ 16 → d ≤ H → Ready all 17 (guarded_level v j d e)
  ready_guarded j d e h x g = ready_apply all 16 j (level_of v j e) (guard_of v d) (ready_level 16 j e h.ranged x) (ready_guard 16 d g)

  -- what the rules insert

  stands_check : (n g m : ℕ) → g < all → m ≤ 2147483647 → Stands all (suc n) (single (stop_check g m))
  stands_check n g m h small =
      stands-branch all n (apply Equal (variable g) (number 0)) (single skip) (single (stop m))
      (ready_more all 1 19 _ (omega arith) (ready_apply all 0 Equal (variable g) (number 0) (ready_variable all 0 g h) (ready_number all 0 0 (omega arith))))
      (stands_skip all n) (stands_stop all n m small)

  stands-raised : (n : ℕ) (j : Operator) (g : ℕ) (ks : List ℕ) → g < all → AllBelow v ks → Stands all n (raised v j g ks)
  stands-raised n j g [] h p = stands_none all n
  stands-raised n j g (k ∷ ks) h p =
      let b = p.0 in
      let level = ready_variable all 1 (level_register v k) (omega arith) in
      let mark = ready_variable all 1 (mark_register v k) (omega arith) in
      let private = ready_apply all 0 Less (number 0) (variable g) (ready_number all 0 0 (omega arith)) (ready_variable all 0 g h) in
      stands_then all n _ _
      (stands_assign all n (level_register v k) _ (omega arith) (ready_more all 2 19 _ (omega arith) (ready_apply all 1 j _ _ level (ready_variable all 1 g h))))
      (stands_then all n _ _
      (stands_assign all n (mark_register v k) _ (omega arith) (ready_more all 2 19 _ (omega arith) (ready_apply all 1 Maximum _ _ mark private)))
      (stands-raised n j g ks h p.1))

  stands_one : (n w : ℕ) → w < all → Stands all n (single (assign w (number 1)))
  stands_one n w h = stands_assign all n w (number 1) h (ready_number all 19 1 (omega arith))

  -- an assignment, a release and a line of an own expression
  module _ (j : Operator) (d k : ℕ) (e : Expression) (h : LegalExpression v e) (x : depth_of e ≤ 16) (g : d ≤ H) where
    own : Ready all 19 e
    own = ready_own 19 e h (omega arith)

    stands_guard : (n w : ℕ) → w < all → Stands all n (single (assign w (guarded_level v j d e)))
    stands_guard n w b = stands_assign all n w (guarded_level v j d e) b (ready_more all 17 19 _ (omega arith) (ready_guarded j d e h x g))

    stands_rewritten_assign : (n : ℕ) → k < v → Stands all n (rewritten_assign v j d k e)
    stands_rewritten_assign n b =
        stands_then all n _ _ (stands_guard n (level_register v k) (omega arith))
        (stands_then all n _ _ (stands_one n (mark_register v k) (omega arith))
        (stands_assign all n k e (omega arith) own))

    stands_rewritten_release : (n : ℕ) → k < v → Stands all (suc n) (rewritten_release v d k e)
    stands_rewritten_release n b =
        let marked = ready_apply all 16 Maximum (guard_of v d) (mark_of v e) (ready_guard 16 d g) (ready_mark 16 e h.ranged x) in
        let test = ready_apply all 17 Equal _ (number 0) marked (ready_number all 17 0 (omega arith)) in
        stands-branch all n _ _ _ (ready_more all 18 19 _ (omega arith) test)
        (stands_then all n _ _ (stands_assign all n (level_register v k) (number 0) (omega arith) (ready_number all 19 0 (omega arith)))
        (stands_then all n _ _ (stands_one n (mark_register v k) (omega arith))
        (stands_release all n k e (omega arith) own)))
        (stands-padding all n 3)

    stands_rewritten_write : (n : ℕ) → k ≤ 2147483647 → Stands all (suc n) (rewritten_write v j d k e)
    stands_rewritten_write n b =
        let joined = ready_apply all 17 j _ (number k) (ready_guarded j d e h x g) (ready_number all 17 k b) in
        let test = ready_apply all 18 Equal _ (number k) joined (ready_number all 18 k b) in
        stands-branch all n _ _ _ test (stands_write all n k e b own) (stands_skip all n)

  -- the script's `if` between its rewritten arms
  stands_arms : (n : ℕ) (whiles : Bool) (g : ℕ) (e : Expression) (A B : Statements) → g < all → Ready all 19 e → Stands all n A → Stands all n B
      → Stands all (suc n) (rewritten_arms whiles g e A B)
  stands_arms n true g e A B h r p q = stands_then all (suc n) _ _ (stands_check n g 1 h (omega arith)) (stands-branch all n e A B r p q)
  stands_arms n false g e A B h r p q =
      stands-branch all n e _ _ r
      (stands-join all n A _ p (stands-padding all n (tolls B - tolls A)))
      (stands-join all n B _ q (stands-padding all n (tolls A - tolls B)))

  mutual
    stands_of : (j : Operator) (d : ℕ) (s : Statement) → LegalStatement v s → deepest s ≤ 16 → d + nesting_of s ≤ H
        → Stands all (suc (nesting_of s)) (rewritten_of v j d s)
    stands_of j d skip h x b = stands_skip all 1
    stands_of j d (assign k e) h x b = stands_rewritten_assign j d k e h.1 x (omega arith) 1 h.0
    stands_of j d (release k e) h x b = stands_rewritten_release j d k e h.1 x (omega arith) 0 h.0
    stands_of j d (write t e) h x b = stands_rewritten_write j d t e h.1 x (omega arith) 0 h.0
    stands_of j d (stop n) h x b = stands_stop all 1 n h
    stands_of j d (branch e A B) h x b =
        let n = suc (max (nesting_in A) (nesting_in B)) in
        let g = guard_register v d in
        let p = stands_in j (suc d) A h.1 (omega arith) (omega arith) in
        let q = stands_in j (suc d) B h.2 (omega arith) (omega arith) in
        stands_then all (suc n) _ _ (stands_guard j d 0 e h.0 (omega arith) (omega arith) (suc n) g (omega arith))
        (stands-join all (suc n) _ _
        (stands_arms n _ g e _ _ (omega arith) (ready_own 19 e h.0 (omega arith)) (stands-more all _ n _ (omega arith) p) (stands-more all _ n _ (omega arith) q))
        (stands-raised (suc n) j g _ (omega arith) (rising_below v v _ (omega arith))))
    stands_of j d (while e A) h x b =
        let n = suc (nesting_in A) in
        let g = guard_register v d in
        let p = stands_in j (suc d) A h.1 (omega arith) (omega arith) in
        stands_then all (suc n) _ _ (stands_guard j d 0 e h.0 (omega arith) (omega arith) (suc n) g (omega arith))
        (stands_then all (suc n) _ _ (stands_check n g 2 (omega arith) (omega arith))
        (stands_while all n e _ (ready_own 19 e h.0 (omega arith))
        (stands-join all n _ _ p
        (stands_then all n _ _ (stands_guard j (suc d) 0 e h.0 (omega arith) (omega arith) n g (omega arith))
        (stands_check (nesting_in A) g 2 (omega arith) (omega arith))))))

    pub stands_in : (j : Operator) (d : ℕ) (l : Statements) → LegalStatements v l → deepest_in l ≤ 16 → d + nesting_in l ≤ H
        → Stands all (suc (nesting_in l)) (rewritten_in v j d l)
    stands_in j d none h x b = stands_none all 1
    stands_in j d (then s l) h x b =
        let n = suc (max (nesting_of s) (nesting_in l)) in
        stands-join all n _ _
        (stands-more all _ n _ (omega arith) (stands_of j d s h.0 (omega arith) (omega arith)))
        (stands-more all _ n _ (omega arith) (stands_in j d l h.1 (omega arith) (omega arith)))
