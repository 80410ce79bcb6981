-- The rewriting rules, statement by statement.
--
-- A script of v variables gets v registers for levels, v for marks, and one for each guard: `_sK` holds the level of variable K, `_tK` is 1
-- once K was assigned, and `_gD` holds the guard level inside the D-th `if` or `while` around a place. In numbers: variable K keeps K, `_sK` is
-- v + K, `_tK` is 2v + K, and `_gD` is 3v + D - 1.
--
-- Below, d is the number of ifs and whiles of the script around a place, and j the operator that joins levels. The level of an expression e is
-- e with 0 for each number, `_sK` for variable K and j for each operator; its mark is e with 0, `_tK` and `max`. The guard level P is 0
-- outside every `if` and `while`, and else `_gd`.
--
-- Example: `x := (y + 1);` with x and y as variables 0 and 1, outside every `if`, becomes
--   `_s0 := ( ( _s1 j 0 ) j 0 ) ; _t0 := 1 ; x := ( y + 1 ) ;`
use Rattle.std.specs.Prelude.{ℕ, zero, suc, ◌+◌, ◌-◌, Bool, true, false, cond, ◌||◌, List, [], ◌∷◌, ◌++◌, ◌==◌}
use Rattle.values.specs.declared.Operator.{Operator}
use Rattle.values.specs.declared.Operator.TheVariants.{Equal, Less, Maximum}
use Rattle.syntax.specs.Trees.{Expression, number, variable, apply, Statement, Statements, none, then, skip, assign, release, write, stop, branch, while, single, join}
use Rattle.syntax.specs.Form.{skips, assigns, releases, writes, stops, branches, leaves}
use Rattle.meaning.specs.Machine.{row_steps}

-- the registers of a rewritten script of v own variables; `guard_register v d` is that of `_g(d + 1)`
abbrev pub level_register : ℕ → ℕ → ℕ
level_register v k = v + k

abbrev pub mark_register : ℕ → ℕ → ℕ
mark_register v k = v + v + k

abbrev pub guard_register : ℕ → ℕ → ℕ
guard_register v d = v + v + v + d

-- the level and the mark of an expression
abbrev pub level_of : ℕ → Operator → Expression → Expression
level_of v j (number n) = number 0
level_of v j (variable k) = variable (level_register v k)
level_of v j (apply o a b) = apply j (level_of v j a) (level_of v j b)

abbrev pub mark_of : ℕ → Expression → Expression
mark_of v (number n) = number 0
mark_of v (variable k) = variable (mark_register v k)
mark_of v (apply o a b) = apply Maximum (mark_of v a) (mark_of v b)

-- the guard level, d ifs and whiles around
abbrev pub guard_of : ℕ → ℕ → Expression
guard_of v zero = number 0
guard_of v (suc d) = variable (guard_register v d)

-- the level of an expression under the guard
abbrev pub guarded_level : ℕ → Operator → ℕ → Expression → Expression
guarded_level v j d e = apply j (level_of v j e) (guard_of v d)

-- the toll of a rewritten list without whiles is the steps that it takes: an `if` takes its own row, an arm, and its `else` or its `end`
abbrev mutual
  pub toll : Statement → ℕ
  toll skip = row_steps skips
  toll (assign k e) = row_steps (assigns k e)
  toll (release k e) = row_steps (releases k e)
  toll (write t e) = row_steps (writes t e)
  toll (stop n) = row_steps (stops n)
  toll (branch e A B) = row_steps (branches e 0) + tolls A + row_steps (leaves 0)
  toll (while e A) = 0

  pub tolls : Statements → ℕ
  tolls none = 0
  tolls (then s l) = toll s + tolls l

abbrev pub padding : ℕ → Statements
padding zero = none
padding (suc n) = then skip (padding n)

-- an assignment of e to variable k
abbrev pub rewritten_assign : ℕ → Operator → ℕ → ℕ → Expression → Statements
rewritten_assign v j d k e =
    then (assign (level_register v k) (guarded_level v j d e))
    (then (assign (mark_register v k) (number 1))
    (single (assign k e)))

-- the level of a variable into which something is released
abbrev pub released_level : Expression
released_level = number 0

-- what a release that is made does
abbrev pub released : ℕ → ℕ → Expression → Statements
released v k e =
    then (assign (level_register v k) released_level)
    (then (assign (mark_register v k) (number 1))
    (single (release k e)))

-- a release of e into variable k: made only where the guard level is 0 and no variable of e is marked, and else padding of the same toll
abbrev pub rewritten_release : ℕ → ℕ → ℕ → Expression → Statements
rewritten_release v d k e =
    single (branch (apply Equal (apply Maximum (guard_of v d) (mark_of v e)) (number 0))
    (released v k e)
    (padding (tolls (released v k e))))

-- a line of e at level t: written only where the level of e under the guard flows to t, and else padding of the same toll
abbrev pub rewritten_write : ℕ → Operator → ℕ → ℕ → Expression → Statements
rewritten_write v j d t e =
    single (branch (apply Equal (apply j (guarded_level v j d e) (number t)) (number t))
    (single (write t e))
    (padding (tolls (single (write t e)))))

-- stops with n where register g is not 0
abbrev pub stop_check : ℕ → ℕ → Statement
stop_check g n = branch (apply Equal (variable g) (number 0)) (single skip) (single (stop n))

-- whether a list holds a `while`, at any depth
abbrev mutual
  pub has_while : Statement → Bool
  has_while skip = false
  has_while (assign k e) = false
  has_while (release k e) = false
  has_while (write t e) = false
  has_while (stop n) = false
  has_while (branch e A B) = has_while_in A || has_while_in B
  has_while (while e A) = true

  pub has_while_in : Statements → Bool
  has_while_in none = false
  has_while_in (then s l) = has_while s || has_while_in l

-- whether variable k is assigned or released into, at any depth
abbrev mutual
  pub changes : Statement → ℕ → Bool
  changes skip k = false
  changes (assign v e) k = v == k
  changes (release v e) k = v == k
  changes (write t e) k = false
  changes (stop n) k = false
  changes (branch e A B) k = changes_in A k || changes_in B k
  changes (while e A) k = changes_in A k

  pub changes_in : Statements → ℕ → Bool
  changes_in none k = false
  changes_in (then s l) k = changes s k || changes_in l k

-- the numbers below n of which a test holds, in rising order
abbrev pub rising : ℕ → (ℕ → Bool) → List ℕ
rising zero test = []
rising (suc n) test = rising n test ++ cond (test n) (n ∷ []) []

-- two rows for each variable that an arm may change: its level and its mark are raised by the guard in register g
abbrev pub raised : ℕ → Operator → ℕ → List ℕ → Statements
raised v j g [] = none
raised v j g (k ∷ ks) =
    then (assign (level_register v k) (apply j (variable (level_register v k)) (variable g)))
    (then (assign (mark_register v k) (apply Maximum (variable (mark_register v k)) (apply Less (number 0) (variable g))))
    (raised v j g ks))

abbrev pub raised_after : ℕ → Operator → ℕ → Statements → Statements → Statements
raised_after v j g A B = raised v j g (rising v (λ k. changes_in A k || changes_in B k))

-- the script's `if` between its rewritten arms: with a check before it where an arm holds a `while`, and else with arms of equal toll
abbrev pub rewritten_arms : Bool → ℕ → Expression → Statements → Statements → Statements
rewritten_arms true g e A B = then (stop_check g 1) (single (branch e A B))
rewritten_arms false g e A B = single (branch e (join A (padding (tolls B - tolls A))) (join B (padding (tolls A - tolls B))))

-- a statement, and a list of statements, d ifs and whiles around
abbrev mutual
  pub rewritten_of : ℕ → Operator → ℕ → Statement → Statements
  rewritten_of v j d skip = single skip
  rewritten_of v j d (assign k e) = rewritten_assign v j d k e
  rewritten_of v j d (release k e) = rewritten_release v d k e
  rewritten_of v j d (write t e) = rewritten_write v j d t e
  rewritten_of v j d (stop n) = single (stop n)
  rewritten_of v j d (branch e A B) =
      then (assign (guard_register v d) (guarded_level v j d e))
      (join (rewritten_arms (has_while_in A || has_while_in B) (guard_register v d) e (rewritten_in v j (suc d) A) (rewritten_in v j (suc d) B))
      (raised_after v j (guard_register v d) A B))
  rewritten_of v j d (while e A) =
      then (assign (guard_register v d) (guarded_level v j d e))
      (then (stop_check (guard_register v d) 2)
      (single (while e (join (rewritten_in v j (suc d) A)
      (then (assign (guard_register v d) (guarded_level v j (suc d) e))
      (single (stop_check (guard_register v d) 2)))))))

  pub rewritten_in : ℕ → Operator → ℕ → Statements → Statements
  rewritten_in v j d none = none
  rewritten_in v j d (then s l) = join (rewritten_of v j d s) (rewritten_in v j d l)
