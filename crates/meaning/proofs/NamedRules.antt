-- Scripts as sequences of two parts, and how they are rewritten, over named registers. Bridge.antt shows that this is the rewriting of the rules.
use Rattle.std.proofs.Common.{ℕ, zero, suc, ◌-◌, ◌<◌, Bool, true, false, cond, ◌||◌, eqb, List, [], ◌∷◌, ◌++◌}
use Rattle.meaning.proofs.NamedCode.{bought, withholding, stopping, Interpretation, Value, Exp, num, var, op, Reg, own, level, mark, guard, Code, cnil, cskip, cassign, crelease, cwrite, cstop, cseq, cif, cwhile}

-- a script as bought: variables by number, a list as a sequence of two parts or nothing; release K e is `v_k := declassify(e)`
pub data Script : Type 0 where
  nil : Script
  skip : Script
  assign : ℕ → Exp ℕ → Script
  release : ℕ → Exp ℕ → Script
  write : Value → Exp ℕ → Script
  seq : Script → Script → Script
  if : Exp ℕ → Script → Script → Script
  while : Exp ℕ → Script → Script

-- addition that computes on its first argument (the native one is stuck at variables)
abbrev pub plus : ℕ → ℕ → ℕ
plus zero m = m
plus (suc n) m = suc (plus n m)

-- does it hold a while, at any depth?
abbrev pub named_has_while : Script → Bool
named_has_while nil = false
named_has_while skip = false
named_has_while (assign K e) = false
named_has_while (release K e) = false
named_has_while (write t e) = false
named_has_while (seq A B) = named_has_while A || named_has_while B
named_has_while (if e A B) = named_has_while A || named_has_while B
named_has_while (while e A) = true

-- is variable k assigned or released into?
abbrev pub assigns : Script → ℕ → Bool
assigns nil k = false
assigns skip k = false
assigns (assign K e) k = eqb K k
assigns (release K e) k = eqb K k
assigns (write t e) k = false
assigns (seq A B) k = assigns A k || assigns B k
assigns (if e A B) k = assigns A k || assigns B k
assigns (while e A) k = assigns A k

-- those below n of which it holds, in rising number
abbrev pub rising : ℕ → (ℕ → Bool) → List ℕ
rising zero p = []
rising (suc n) p = rising n p ++ cond (p n) (n ∷ []) []

-- every written level is a code, and every variable assigned is one of the n
abbrev pub NamedWellFormed : (Value → Type 0) → ℕ → Script → Type 0
NamedWellFormed C n nil = Unit {0}
NamedWellFormed C n skip = Unit {0}
NamedWellFormed C n (assign K e) = K < n
NamedWellFormed C n (release K e) = K < n
NamedWellFormed C n (write t e) = C t
NamedWellFormed C n (seq A B) = NamedWellFormed C n A × NamedWellFormed C n B
NamedWellFormed C n (if e A B) = NamedWellFormed C n A × NamedWellFormed C n B
NamedWellFormed C n (while e A) = NamedWellFormed C n A

-- the toll of a rewritten list without whiles: one a row, and two plus an arm's toll for an if
abbrev pub toll : {R : Type 0} → Code R → ℕ
toll cnil = 0
toll cskip = 1
toll (cassign r e) = 1
toll (crelease r e) = 1
toll (cwrite t e) = 1
toll (cstop n) = 1
toll (cseq A B) = plus (toll A) (toll B)
toll (cif x e A B) = suc (plus (toll A) 1)
toll (cwhile e A) = 0

-- n skips
abbrev pub pads : {R : Type 0} → ℕ → Code R
pads zero = cnil
pads (suc n) = cseq cskip (pads n)

module _ (F : Interpretation) where
  open F use {z, one, join_op, max_op, eq_op, lt_op}

  -- the expression itself, on the own registers
  abbrev pub own_exp : Exp ℕ → Exp Reg
  own_exp (num v) = num v
  own_exp (var k) = var (own k)
  own_exp (op o a b) = op o (own_exp a) (own_exp b)

  -- its level: 0 for a numeral, _sK for variable K, joined for each operator
  abbrev pub level_exp : Exp ℕ → Exp Reg
  level_exp (num v) = num z
  level_exp (var k) = var (level k)
  level_exp (op o a b) = op join_op (level_exp a) (level_exp b)

  -- was one of its variables assigned? 0 for a numeral, _tK for variable K, the maximum for each operator
  abbrev pub mark_exp : Exp ℕ → Exp Reg
  mark_exp (num v) = num z
  mark_exp (var k) = var (mark k)
  mark_exp (op o a b) = op max_op (mark_exp a) (mark_exp b)

  -- the guard level P, D ifs and whiles around: 0 outside, else _gD
  abbrev pub guard_exp : ℕ → Exp Reg
  guard_exp zero = num z
  guard_exp (suc d) = var (guard d)

  -- if (_g = 0) then skip; else stop n; end;
  abbrev pub stop_check_lem : ℕ → ℕ → Code Reg
  stop_check_lem d n = cif stopping (op eq_op (var (guard d)) (num z)) cskip (cstop n)

  -- behind an if: the levels and marks of the variables that an arm may assign
  abbrev pub raise : ℕ → List ℕ → Code Reg
  raise d [] = cnil
  raise d (k ∷ ks) =
      cseq (cassign (level k) (op join_op (var (level k)) (var (guard d))))
      (cseq (cassign (mark k) (op max_op (var (mark k)) (op lt_op (num z) (var (guard d))))) (raise d ks))

  -- the if itself: checked where an arm holds a while, else padded
  abbrev pub branch : ℕ → Exp Reg → Code Reg → Code Reg → Bool → Code Reg
  branch D e A B true = cseq (stop_check_lem D 1) (cif bought e A B)
  branch D e A B false = cif bought e (cseq A (pads (toll B - toll A))) (cseq B (pads (toll A - toll B)))

  -- the rewriting of a script of n variables, D ifs and whiles around
  abbrev pub rewrite : ℕ → ℕ → Script → Code Reg
  rewrite n D nil = cnil
  rewrite n D skip = cskip
  rewrite n D (assign K e) = cseq (cassign (level K) (op join_op (level_exp e) (guard_exp D))) (cseq (cassign (mark K) (num one)) (cassign (own K) (own_exp e)))
  rewrite n D (release K e) =
      cif withholding (op eq_op (op max_op (guard_exp D) (mark_exp e)) (num z))
      (cseq (cassign (level K) (num z)) (cseq (cassign (mark K) (num one)) (crelease (own K) (own_exp e))))
      (cseq cskip (cseq cskip cskip))
  rewrite n D (write t e) = cif withholding (op eq_op (op join_op (op join_op (level_exp e) (guard_exp D)) (num t)) (num t)) (cwrite t (own_exp e)) cskip
  rewrite n D (seq A B) = cseq (rewrite n D A) (rewrite n D B)
  rewrite n D (if e A B) =
      cseq (cassign (guard D) (op join_op (level_exp e) (guard_exp D)))
      (cseq (branch D (own_exp e) (rewrite n (suc D) A) (rewrite n (suc D) B) (named_has_while A || named_has_while B))
      (raise D (rising n (assigns (if e A B)))))
  rewrite n D (while e A) =
      cseq (cassign (guard D) (op join_op (level_exp e) (guard_exp D)))
      (cseq (stop_check_lem D 2)
      (cwhile (own_exp e) (cseq (rewrite n (suc D) A) (cseq (cassign (guard D) (op join_op (level_exp e) (guard_exp (suc D)))) (stop_check_lem D 2)))))
