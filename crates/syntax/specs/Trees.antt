-- Scripts as trees, and the limits that the language sets to them.
--
-- An expression is a number, a variable, known by its number from 0 on, or an operator applied to two expressions. A statement skips,
-- assigns, releases, writes a value to a level, stops with a number, chooses between two lists of statements, or repeats one. A
-- statement stands in a list, and an `if` or a `while` holds lists, so the two types need each other.
--
-- Example: with `x` as variable 0, `while (0 < x) do x := (x - 1); end;` is
--   then (while (apply Less (number 0) (variable 0)) (then (assign 0 (apply Subtract (variable 0) (number 1))) none)) none
-- Its expressions are 1 deep, and its statements are nested 1 deep.
use Rattle.std.specs.Prelude.{ℕ, suc, ◌+◌, ◌<◌, ◌≤◌, max}
use Rattle.values.specs.declared.Operator.{Operator}

pub data Expression : Type 0 where
  number : ℕ → Expression
  variable : ℕ → Expression
  apply : Operator → Expression → Expression → Expression

mutual
  pub data Statement : Type 0 where
    skip : Statement
    assign : ℕ → Expression → Statement
    release : ℕ → Expression → Statement
    write : ℕ → Expression → Statement
    stop : ℕ → Statement
    branch : Expression → Statements → Statements → Statement
    while : Expression → Statements → Statement

  pub data Statements : Type 0 where
    none : Statements
    then : Statement → Statements → Statements

-- a list of one statement
abbrev pub single : Statement → Statements
single s = then s none

-- one list behind another
abbrev pub join : Statements → Statements → Statements
join none B = B
join (then s l) B = then s (join l B)

-- how deep an expression is: 0 without an operator, else one more than the deeper part
abbrev pub depth_of : Expression → ℕ
depth_of (number n) = 0
depth_of (variable v) = 0
depth_of (apply o l r) = suc (max (depth_of l) (depth_of r))

-- how many ifs and whiles are open at the innermost place
abbrev mutual
  pub nesting_of : Statement → ℕ
  nesting_of skip = 0
  nesting_of (assign v e) = 0
  nesting_of (release v e) = 0
  nesting_of (write t e) = 0
  nesting_of (stop n) = 0
  nesting_of (branch e A B) = suc (max (nesting_in A) (nesting_in B))
  nesting_of (while e A) = suc (nesting_in A)

  pub nesting_in : Statements → ℕ
  nesting_in none = 0
  nesting_in (then s l) = max (nesting_of s) (nesting_in l)

-- how many numbers, variables and operators an expression has
abbrev pub size : Expression → ℕ
size (number n) = 1
size (variable v) = 1
size (apply o a b) = suc (size a + size b)

-- with k variables: numbers are at most 2147483647, and variables are declared
abbrev pub InRange : ℕ → Expression → Type 0
InRange k (number n) = n ≤ 2147483647
InRange k (variable v) = v < k
InRange k (apply o l r) = InRange k l × InRange k r

-- and the expression is at most 20 deep
pub record LegalExpression (k : ℕ) (e : Expression) : Type 0 where
  pub ranged : InRange k e
  pub shallow : depth_of e ≤ 20

-- written levels and stop numbers are at most 2147483647 too, and the variables assigned to are declared
abbrev mutual
  pub LegalStatement : ℕ → Statement → Type 0
  LegalStatement k skip = Unit {0}
  LegalStatement k (assign v e) = (v < k) × LegalExpression k e
  LegalStatement k (release v e) = (v < k) × LegalExpression k e
  LegalStatement k (write t e) = (t ≤ 2147483647) × LegalExpression k e
  LegalStatement k (stop n) = n ≤ 2147483647
  LegalStatement k (branch e A B) = LegalExpression k e × LegalStatements k A × LegalStatements k B
  LegalStatement k (while e A) = LegalExpression k e × LegalStatements k A

  pub LegalStatements : ℕ → Statements → Type 0
  LegalStatements k none = Unit {0}
  LegalStatements k (then s l) = LegalStatement k s × LegalStatements k l
