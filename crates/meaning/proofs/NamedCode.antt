-- Structured code over registers that have names, its rows, and what a row does: the machine that the proofs run on.
--
-- The promises speak of numbered registers and of lists of statements. The proofs go by registers with names (a variable, its level, its mark,
-- a guard), so that two different registers are told apart by computation, and by sequences of two parts (cseq) or nothing (cnil).
-- Numbers.antt ties the two machines together, row by row.
use Rattle.std.proofs.Common.{◌≡◌, ℕ, suc, Bool, true, false, cond, List, [], ◌∷◌, ◌++◌, ℤ, pos, negsuc}
use Rattle.values.specs.declared.Operator.{Operator}
use Rattle.meaning.specs.Machine.{Shown, silent, printed, no_row, stopped, line_of}

abbrev pub Value : Type 0
Value = ℤ

-- What rows and rewriting need: 0 and 1, the equality that an `if` tests, what operators give, the operators that join levels, that are `max`, `=`
-- and `<`, and which numbers are codes. The proofs use these through their laws only (Interpretations.antt).
pub record Interpretation : Type 0 where
  pub z : ℤ
  pub one : ℤ
  pub equal : ℤ → ℤ → Bool
  pub apply : Operator → ℤ → ℤ → ℤ
  pub join_op : Operator
  pub max_op : Operator
  pub eq_op : Operator
  pub lt_op : Operator
  pub code : ℤ → Bool

abbrev pub IsMachineCode : Interpretation → ℤ → Type 0
IsMachineCode F v = F.code v ≡ true

-- an expression over registers R
pub data Exp (R : Type 0) : Type 0 where
  num : ℤ → Exp R
  var : R → Exp R
  op : Operator → Exp R → Exp R → Exp R

-- the registers of a rewritten script: variable K, `_sK` (its level), `_tK` (its mark), `_g(d + 1)` (a guard)
pub data Reg : Type 0 where
  own : ℕ → Reg
  level : ℕ → Reg
  mark : ℕ → Reg
  guard : ℕ → Reg

-- where an `if` of a rewritten script comes from: the script, the test before a line or a release, the check that stops
pub data Origin : Type 0 where
  bought withholding stopping : Origin

-- code, over any kind of register
pub data Code (R : Type 0) : Type 0 where
  cnil : Code R
  cskip : Code R
  cassign : R → Exp R → Code R
  crelease : R → Exp R → Code R
  cwrite : ℤ → Exp R → Code R
  cstop : ℕ → Code R
  cseq : Code R → Code R → Code R
  cif : Origin → Exp R → Code R → Code R → Code R
  cwhile : Exp R → Code R → Code R

-- a row; an `if` names its `else`, an `else` and a `while` their end, and the end of a `while` (rback) the `while`; rnone is no row left
pub data Row (R : Type 0) : Type 0 where
  rskip : Row R
  rassign : R → Exp R → Row R
  rrelease : R → Exp R → Row R
  rwrite : ℤ → Exp R → Row R
  rstop : ℕ → Row R
  rif : Exp R → ℕ → Row R
  relse : ℕ → Row R
  rend : Row R
  rwhile : Exp R → ℕ → Row R
  rback : ℕ → Row R
  rnone : Row R

-- the number of the row behind code that begins at row b
abbrev pub after : {R : Type 0} → ℕ → Code R → ℕ
after b cnil = b
after b cskip = suc b
after b (cassign r e) = suc b
after b (crelease r e) = suc b
after b (cwrite t e) = suc b
after b (cstop n) = suc b
after b (cseq A B) = after (after b A) B
after b (cif x e A B) = suc (after (suc (after (suc b) A)) B)
after b (cwhile e A) = suc (after (suc b) A)

-- ifs and whiles of the script around a place inside an `if`: inserted ifs are not counted
abbrev pub inside : Origin → ℕ → ℕ
inside bought D = suc D
inside withholding D = D
inside stopping D = D

-- is it a test whose `else` withholds a line or a release?
abbrev pub withholds : Origin → Bool
withholds bought = false
withholds withholding = true
withholds stopping = false

-- a row with its place: the ifs and whiles of the script around it, and whether its `else` withholds
pub record Laid (R : Type 0) : Type 0 where
  pub row : Row R
  pub depth : ℕ
  pub test : Bool

abbrev pub laid-at : {R : Type 0} → ℕ → Row R → Laid R
laid-at D r = record { row = r; depth = D; test = false }

-- the rows of code laid out from row b, D ifs and whiles around it
abbrev pub lay : {R : Type 0} → ℕ → ℕ → Code R → List (Laid R)
lay D b cnil = []
lay D b cskip = laid-at D rskip ∷ []
lay D b (cassign r e) = laid-at D (rassign r e) ∷ []
lay D b (crelease r e) = laid-at D (rrelease r e) ∷ []
lay D b (cwrite t e) = laid-at D (rwrite t e) ∷ []
lay D b (cstop n) = laid-at D (rstop n) ∷ []
lay D b (cseq A B) = lay D b A ++ lay D (after b A) B
lay D b (cif x e A B) =
    let m = after (suc b) A in
    let n = after (suc m) B in
    record { row = rif e m; depth = D; test = withholds x }
    ∷ (lay (inside x D) (suc b) A ++ (laid-at D (relse n) ∷ (lay (inside x D) (suc m) B ++ (laid-at D rend ∷ []))))
lay D b (cwhile e A) =
    let m = after (suc b) A in
    laid-at D (rwhile e m) ∷ (lay (suc D) (suc b) A ++ (laid-at D (rback b) ∷ []))

-- Q holds of the expression, if the row is a release
abbrev pub Releasing : {R : Type 0} → (Exp R → Type 0) → Row R → Type 0
Releasing Q rskip = Unit {0}
Releasing Q (rassign r e) = Unit {0}
Releasing Q (rrelease r e) = Q e
Releasing Q (rwrite t e) = Unit {0}
Releasing Q (rstop n) = Unit {0}
Releasing Q (rif e m) = Unit {0}
Releasing Q (relse m) = Unit {0}
Releasing Q rend = Unit {0}
Releasing Q (rwhile e m) = Unit {0}
Releasing Q (rback m) = Unit {0}
Releasing Q rnone = Unit {0}

-- a level as a number of the script
abbrev pub natural : ℤ → ℕ
natural (pos n) = n
natural (negsuc n) = 0

module _ (F : Interpretation) where
  open F use {z, one, equal, apply, join_op}

  abbrev pub eval : {R : Type 0} → (R → Value) → Exp R → Value
  eval ρ (num v) = v
  eval ρ (var r) = ρ r
  eval ρ (op o a b) = apply o (eval ρ a) (eval ρ b)

  -- the row after row p
  abbrev pub next : {R : Type 0} → Row R → ℕ → (R → Value) → ℕ
  next rskip p ρ = suc p
  next (rassign r e) p ρ = suc p
  next (rrelease r e) p ρ = suc p
  next (rwrite t e) p ρ = suc p
  next (rstop n) p ρ = p
  next (rif e m) p ρ = cond (equal (eval ρ e) z) (suc m) (suc p)
  next (relse m) p ρ = suc m
  next rend p ρ = suc p
  next (rwhile e m) p ρ = cond (equal (eval ρ e) z) (suc m) (suc p)
  next (rback m) p ρ = m
  next rnone p ρ = p

  -- what a reader at level rd is shown: a line whose level, joined with the reader's, is the reader's
  abbrev pub shows : {R : Type 0} → Value → Row R → (R → Value) → Shown
  shows rd rskip ρ = silent
  shows rd (rassign r e) ρ = silent
  shows rd (rrelease r e) ρ = silent
  shows rd (rwrite t e) ρ = cond (equal (apply join_op t rd) rd) (printed (line_of (natural t) (eval ρ e))) silent
  shows rd (rstop n) ρ = stopped n
  shows rd (rif e m) ρ = silent
  shows rd (relse m) ρ = silent
  shows rd rend ρ = silent
  shows rd (rwhile e m) ρ = silent
  shows rd (rback m) ρ = silent
  shows rd rnone ρ = no_row

  -- an `if` whose condition is 0
  abbrev pub takes_else_lem : {R : Type 0} → (R → Value) → Row R → Bool
  takes_else_lem ρ rskip = false
  takes_else_lem ρ (rassign r e) = false
  takes_else_lem ρ (rrelease r e) = false
  takes_else_lem ρ (rwrite t e) = false
  takes_else_lem ρ (rstop n) = false
  takes_else_lem ρ (rif e m) = equal (eval ρ e) z
  takes_else_lem ρ (relse m) = false
  takes_else_lem ρ rend = false
  takes_else_lem ρ (rwhile e m) = false
  takes_else_lem ρ (rback m) = false
  takes_else_lem ρ rnone = false
