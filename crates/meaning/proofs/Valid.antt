-- The rows of a rewritten script, and of a script as bought, use the registers that they have, and numbers of the language.
use Rattle.std.proofs.Common.{◌≡◌, ℕ, zero, suc, ◌+◌, ◌<◌, ◌≤◌, Bool, true, false, cond, ◌||◌, eqb, List, [], ◌∷◌, length, ℤ, pos, negsuc, refl, arith}
use Rattle.std.proofs.lemmas.Bool.{ne_eqb}
use mathlib.Core.Bool.{false≢true}
use native.Mathlib.Decide.{dec_lt}
use Rattle.meaning.specs.Families.{Family}
use Rattle.meaning.specs.Machine.{register}
use Rattle.meaning.specs.Confinement.{All}
use Rattle.meaning.proofs.Alone.{all_join}
use Rattle.std.proofs.lemmas.Bool.Decides.{nat_tests}
use Rattle.meaning.proofs.NamedCode.{Interpretation, Value, IsMachineCode, Exp, num, var, op, Reg, own, level, mark, guard, Code, cnil, cskip, cassign, crelease, cwrite, cstop, cseq, cif, cwhile, Laid, lay, inside, natural}
use Rattle.meaning.proofs.NamedRules.{Script, nil, skip, assign, release, write, seq, if, while, named_has_while, assigns, rising, NamedWellFormed, pads, own_exp, level_exp, mark_exp, guard_exp, raise, branch, rewrite}
use Rattle.meaning.proofs.Registers.{same_reg}
use Rattle.meaning.proofs.Interpretations.{machine}
use Rattle.meaning.proofs.Programs.{at, named_first_rows, program, plain, named_plain_rows, nesting}
use Rattle.meaning.proofs.Numbers.{register_number, ValidE, ValidR, Match}

eqb_cong : (a b c d : ℕ) → (a ≡ b → c ≡ d) → (c ≡ d → a ≡ b) → eqb a b ≡ eqb c d
eqb_cong a b c d f g = grind (arith, nat_tests)

-- the registers of a rewritten script of n variables, nested H deep
abbrev pub RewrittenRegister : ℕ → ℕ → Reg → Type 0
RewrittenRegister n H (own k) = k < n
RewrittenRegister n H (level k) = k < n
RewrittenRegister n H (mark k) = k < n
RewrittenRegister n H (guard d) = d < H

pub rewritten_apart : (n H : ℕ) (r q : Reg) → RewrittenRegister n H r → RewrittenRegister n H q → eqb (register_number n r) (register_number n q) ≡ same_reg r q
rewritten_apart n H (own i) (own j) v w = refl
rewritten_apart n H (own i) (level j) v w = ne_eqb _ _ (omega arith)
rewritten_apart n H (own i) (mark j) v w = ne_eqb _ _ (omega arith)
rewritten_apart n H (own i) (guard j) v w = ne_eqb _ _ (omega arith)
rewritten_apart n H (level i) (own j) v w = ne_eqb _ _ (omega arith)
rewritten_apart n H (level i) (level j) v w = eqb_cong _ _ i j (omega arith) (omega arith)
rewritten_apart n H (level i) (mark j) v w = ne_eqb _ _ (omega arith)
rewritten_apart n H (level i) (guard j) v w = ne_eqb _ _ (omega arith)
rewritten_apart n H (mark i) (own j) v w = ne_eqb _ _ (omega arith)
rewritten_apart n H (mark i) (level j) v w = ne_eqb _ _ (omega arith)
rewritten_apart n H (mark i) (mark j) v w = eqb_cong _ _ i j (omega arith) (omega arith)
rewritten_apart n H (mark i) (guard j) v w = ne_eqb _ _ (omega arith)
rewritten_apart n H (guard i) (own j) v w = ne_eqb _ _ (omega arith)
rewritten_apart n H (guard i) (level j) v w = ne_eqb _ _ (omega arith)
rewritten_apart n H (guard i) (mark j) v w = ne_eqb _ _ (omega arith)
rewritten_apart n H (guard i) (guard j) v w = eqb_cong _ _ i j (omega arith) (omega arith)

-- the registers of a script as bought
abbrev pub OwnRegister : ℕ → Reg → Type 0
OwnRegister n (own k) = k < n
OwnRegister n (level k) = ⊥
OwnRegister n (mark k) = ⊥
OwnRegister n (guard d) = ⊥

pub own_apart : (n : ℕ) (r q : Reg) → OwnRegister n r → OwnRegister n q → eqb (register_number n r) (register_number n q) ≡ same_reg r q
own_apart n (own i) (own j) v w = refl
own_apart n (own i) (level j) v w = absurd w
own_apart n (own i) (mark j) v w = absurd w
own_apart n (own i) (guard j) v w = absurd w
own_apart n (level i) q v w = absurd v
own_apart n (mark i) q v w = absurd v
own_apart n (guard i) q v w = absurd v

-- the variables that an expression and a script read are among the n, and their numbers are of the language
abbrev pub Below : ℕ → Exp ℕ → Type 0
Below n (num v) = v ≡ pos (natural v)
Below n (var k) = k < n
Below n (op o a b) = Below n a × Below n b

abbrev pub Reads : ℕ → Script → Type 0
Reads n nil = Unit {0}
Reads n skip = Unit {0}
Reads n (assign K e) = Below n e
Reads n (release K e) = Below n e
Reads n (write t e) = Below n e
Reads n (seq A B) = Reads n A × Reads n B
Reads n (if e A B) = Below n e × Reads n A × Reads n B
Reads n (while e A) = Below n e × Reads n A

-- a code is a natural number
pub code-natural : (G : Family) (t : Value) → IsMachineCode (machine G) t → t ≡ pos (natural t)
code-natural G (pos k) c = refl
code-natural G (negsuc k) c = absurd (false≢true c)

module _ (n : ℕ) (V : Reg → Type 0) (apart : (r q : Reg) → V r → V q → eqb (register_number n r) (register_number n q) ≡ same_reg r q) (G : Family) where
  abbrev ValidE' : Exp Reg → Type 0
  ValidE' = ValidE n V apart

  abbrev pub ValidS : Code Reg → Type 0
  ValidS cnil = Unit {0}
  ValidS cskip = Unit {0}
  ValidS (cassign r e) = V r × ValidE' e
  ValidS (crelease r e) = V r × ValidE' e
  ValidS (cwrite t e) = IsMachineCode (machine G) t × ValidE' e
  ValidS (cstop k) = Unit {0}
  ValidS (cseq A B) = ValidS A × ValidS B
  ValidS (cif x e A B) = ValidE' e × ValidS A × ValidS B
  ValidS (cwhile e A) = ValidE' e × ValidS A

  abbrev ValidL : Laid Reg → Type 0
  ValidL x = ValidR n V apart G x.row

  lay_valid : (D b : ℕ) (s : Code Reg) → ValidS s → All ValidL (lay D b s)
  lay_valid D b cnil v = tt
  lay_valid D b cskip v = (tt, tt)
  lay_valid D b (cassign r e) v = (v, tt)
  lay_valid D b (crelease r e) v = (v, tt)
  lay_valid D b (cwrite t e) v = (v, tt)
  lay_valid D b (cstop k) v = (tt, tt)
  lay_valid D b (cseq A B) v = all_join ValidL (lay D b A) _ (lay_valid D b A v.0) (lay_valid D _ B v.1)
  lay_valid D b (cif x e A B) v = (v.0, all_join ValidL (lay (inside x D) (suc b) A) _ (lay_valid _ _ A v.1) (tt, all_join ValidL (lay (inside x D) _ B) _ (lay_valid _ _ B v.2) (tt, tt)))
  lay_valid D b (cwhile e A) v = (v.0, all_join ValidL (lay (suc D) (suc b) A) _ (lay_valid _ _ A v.1) (tt, tt))

  at_valid : (l : List (Laid Reg)) → All ValidL l → (p : ℕ) → ValidL (at l p)
  at_valid [] a p = tt
  at_valid (r ∷ l) a zero = a.0
  at_valid (r ∷ l) a (suc p) = at_valid l a.1 p

  pub code_valid : (s : Code Reg) → ValidS s → (p : ℕ) → ValidL (at (lay 0 0 s) p)
  code_valid s v = at_valid (lay 0 0 s) (lay_valid 0 0 s v)

module _ (n H : ℕ) (G : Family) where
  abbrev F : Interpretation
  F = machine G

  abbrev VE : Exp Reg → Type 0
  VE = ValidE n (RewrittenRegister n H) (rewritten_apart n H)

  abbrev VS : Code Reg → Type 0
  VS = ValidS n (RewrittenRegister n H) (rewritten_apart n H) G

  pads_valid : (m : ℕ) → VS (pads m)
  pads_valid zero = tt
  pads_valid (suc m) = (tt, pads_valid m)

  rising_below : (m : ℕ) → m ≤ n → (p : ℕ → Bool) → All (λ k. k < n) (rising m p)
  rising_below zero h p = tt
  rising_below (suc m) h p = all_join (λ k. k < n) (rising m p) _ (rising_below m (omega arith) p) (last (p m))
    where
      last : (b : Bool) → All (λ k. k < n) (cond b (m ∷ []) [])
      last true = (h, tt)
      last false = tt

  first_rows_valid : (K : ℕ) (ls : List Value) → All (IsMachineCode F) ls → K + length ls ≤ n → VS (named_first_rows K ls)
  first_rows_valid K [] c h = tt
  first_rows_valid K (l ∷ ls) c h = ((omega arith, code-natural G l c.0), first_rows_valid (suc K) ls c.1 (omega arith))

  own_valid : (e : Exp ℕ) → Below n e → VE (own_exp F e)
  own_valid (num v) h = h
  own_valid (var k) h = h
  own_valid (op o a b) h = (own_valid a h.0, own_valid b h.1)

  level_valid : (e : Exp ℕ) → Below n e → VE (level_exp F e)
  level_valid (num v) h = refl
  level_valid (var k) h = h
  level_valid (op o a b) h = (level_valid a h.0, level_valid b h.1)

  mark_valid : (e : Exp ℕ) → Below n e → VE (mark_exp F e)
  mark_valid (num v) h = refl
  mark_valid (var k) h = h
  mark_valid (op o a b) h = (mark_valid a h.0, mark_valid b h.1)

  pub guard_valid : (D : ℕ) → D ≤ H → VE (guard_exp F D)
  guard_valid zero h = refl
  guard_valid (suc d) h = h

  raise_valid : (D : ℕ) (ks : List ℕ) → D < H → All (λ k. k < n) ks → VS (raise F D ks)
  raise_valid D [] h a = tt
  raise_valid D (k ∷ ks) h a = ((a.0, (a.0, h)), ((a.0, (a.0, (refl, h))), raise_valid D ks h a.1))

  branch_valid : (D : ℕ) (e : Exp Reg) (A B : Code Reg) (x : Bool) → D < H → VE e → VS A → VS B → VS (branch F D e A B x)
  branch_valid D e A B true h v a b = (((h, refl), tt, tt), (v, a, b))
  branch_valid D e A B false h v a b = (v, (a, pads_valid _), (b, pads_valid _))

  rewrite_valid : (D : ℕ) (S : Script) → NamedWellFormed (IsMachineCode F) n S → Reads n S → D + nesting S ≤ H → VS (rewrite F n D S)
  rewrite_valid D nil w r h = tt
  rewrite_valid D skip w r h = tt
  rewrite_valid D (assign K e) w r h = ((w, (level_valid e r, guard_valid D (omega arith))), ((w, refl), (w, own_valid e r)))
  rewrite_valid D (release K e) w r h = (((guard_valid D (omega arith), mark_valid e r), refl), ((w, refl), ((w, refl), (w, own_valid e r))), (tt, (tt, tt)))
  rewrite_valid D (write t e) w r h =
      let t-natural = code-natural G t w in
      ((((level_valid e r, guard_valid D (omega arith)), t-natural), t-natural), (w, own_valid e r), tt)
  rewrite_valid D (seq A B) w r h = (rewrite_valid D A w.0 r.0 (omega arith), rewrite_valid D B w.1 r.1 (omega arith))
  rewrite_valid D (if e A B) w r h =
      let d : D < H = omega arith in (
        (d, (level_valid e r.0, guard_valid D (omega arith))),
        (
          branch_valid D (own_exp F e) (rewrite F n (suc D) A) (rewrite F n (suc D) B) (named_has_while A || named_has_while B) d (own_valid e r.0)
              (rewrite_valid (suc D) A w.0 r.1 (omega arith)) (rewrite_valid (suc D) B w.1 r.2 (omega arith)),
          raise_valid D _ d (rising_below n (omega arith) (assigns (if e A B))),
        ),
      )
  rewrite_valid D (while e A) w r h =
      let d : D < H = omega arith in (
        (d, (level_valid e r.0, guard_valid D (omega arith))),
        (((d, refl), tt, tt), (own_valid e r.0, (rewrite_valid (suc D) A w r.1 (omega arith), ((d, (level_valid e r.0, d)), ((d, refl), tt, tt))))),
      )

-- the rewritten rows
pub rows_valid : (G : Family) (ls : List Value) (S : Script) → All (IsMachineCode (machine G)) ls → NamedWellFormed (IsMachineCode (machine G)) (length ls) S → Reads (length ls) S → (p : ℕ) →
    ValidR (length ls) (RewrittenRegister (length ls) (nesting S)) (rewritten_apart (length ls) (nesting S)) G (program (machine G) ls S p)
rows_valid G ls S cl wf rs =
    let n = length ls in
    let H = nesting S in
    code_valid n (RewrittenRegister n H) (rewritten_apart n H) G (cseq (named_first_rows 0 ls) (rewrite (machine G) n 0 S))
    (first_rows_valid n H G 0 ls cl (omega arith), rewrite_valid n H G 0 S wf rs (omega arith))

-- and those as bought
module _ (n : ℕ) (G : Family) where
  bought_exp : (e : Exp ℕ) → Below n e → ValidE n (OwnRegister n) (own_apart n) (own_exp (machine G) e)
  bought_exp (num v) h = h
  bought_exp (var k) h = h
  bought_exp (op o a b) h = (bought_exp a h.0, bought_exp b h.1)

  plain_valid : (S : Script) → NamedWellFormed (IsMachineCode (machine G)) n S → Reads n S → ValidS n (OwnRegister n) (own_apart n) G (plain (machine G) S)
  plain_valid nil w r = tt
  plain_valid skip w r = tt
  plain_valid (assign K e) w r = (w, bought_exp e r)
  plain_valid (release K e) w r = (w, bought_exp e r)
  plain_valid (write t e) w r = (w, bought_exp e r)
  plain_valid (seq A B) w r = (plain_valid A w.0 r.0, plain_valid B w.1 r.1)
  plain_valid (if e A B) w r = (bought_exp e r.0, plain_valid A w.0 r.1, plain_valid B w.1 r.2)
  plain_valid (while e A) w r = (bought_exp e r.0, plain_valid A w r.1)

  pub bought_valid : (S : Script) → NamedWellFormed (IsMachineCode (machine G)) n S → Reads n S → (p : ℕ) → ValidR n (OwnRegister n) (own_apart n) G (named_plain_rows (machine G) S p)
  bought_valid S w r = code_valid n (OwnRegister n) (own_apart n) G (plain (machine G) S) (plain_valid S w r)

-- the named registers that a bank begins with: the own variables as the bank has them, all others 0
abbrev pub beginning : (n : ℕ) → List ℤ → Reg → Value
beginning n bank (own k) = elim (dec_lt k n) [ yes h ↦ register bank k | no h ↦ pos 0 ]
beginning n bank (level k) = pos 0
beginning n bank (mark k) = pos 0
beginning n bank (guard k) = pos 0

own_beginning : (n : ℕ) (bank : List ℤ) (k : ℕ) → k < n → register bank k ≡ beginning n bank (own k)
own_beginning n bank k v = elim (dec_lt k n) as (λ d. register bank k ≡ (elim d as (λ x. Value) [ yes q ↦ register bank k | no q ↦ pos 0 ])) [ yes q ↦ refl | no q ↦ absurd (q v) ]

-- a bank whose registers from n on are 0 matches them
pub begins : (n H : ℕ) (bank : List ℤ) → n + n + n + H ≤ length bank → ((i : ℕ) → n ≤ i → i < n + n + n + H → register bank i ≡ pos 0) →
    Match n (RewrittenRegister n H) (rewritten_apart n H) bank (beginning n bank)
begins n H bank long h = record { room = room; is = go }
  where
    room : (r : Reg) → RewrittenRegister n H r → register_number n r < length bank
    room (own k) v = omega arith
    room (level k) v = omega arith
    room (mark k) v = omega arith
    room (guard k) v = omega arith

    go : (r : Reg) → RewrittenRegister n H r → register bank (register_number n r) ≡ beginning n bank r
    go (own k) v = own_beginning n bank k v
    go (level k) v = h (n + k) (omega arith) (omega arith)
    go (mark k) v = h (n + n + k) (omega arith) (omega arith)
    go (guard k) v = h (n + n + n + k) (omega arith) (omega arith)

-- and so for a script as bought, whose registers are its own variables
pub begins_bought : (n : ℕ) (bank : List ℤ) → n ≤ length bank → Match n (OwnRegister n) (own_apart n) bank (beginning n bank)
begins_bought n bank long = record { room = room; is = go }
  where
    room : (r : Reg) → OwnRegister n r → register_number n r < length bank
    room (own k) v = omega arith
    room (level k) v = absurd v
    room (mark k) v = absurd v
    room (guard k) v = absurd v

    go : (r : Reg) → OwnRegister n r → register bank (register_number n r) ≡ beginning n bank r
    go (own k) v = own_beginning n bank k v
    go (level k) v = absurd v
    go (mark k) v = absurd v
    go (guard k) v = absurd v
