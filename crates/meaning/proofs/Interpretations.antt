-- What the proofs use of values, operators and levels, and that it follows from the laws of the operators and of the family.
use Rattle.std.proofs.Common.{◌≡◌, ℕ, max, Bool, true, false, cond, eqb, ◌⊎◌, ℤ, pos, negsuc, Some, None, Option, sym, refl, ap, ◌∙◌, inl, inr, arith}
use mathlib.Core.Bool.{false≢true}
use Rattle.values.specs.declared.Operator.{Operator}
use Rattle.values.specs.declared.Operator.TheVariants.{Equal, Less, Maximum}
use Rattle.std.specs.Ordering.{int_eq}
use Rattle.std.proofs.lemmas.Cmp.{int_eq_equiv}
use Rattle.std.proofs.lemmas.Bool.Decides.{Decides-int_eq, nat_tests}
use Rattle.std.proofs.lemmas.Int.{ints}
use Rattle.values.specs.Operators.{operate, operator_numbered, truth}
use Rattle.values.proofs.Keeps.{laws}
use Rattle.meaning.specs.Families as spec
use Rattle.meaning.specs.Families.{FamilyLaws, IsCode, joiner, operator_or}
use Rattle.meaning.proofs.NamedCode.{Interpretation, Value, IsMachineCode}

pub record Laws (F : Interpretation) : Type 0 where
  pub eq_sound : (a b : Value) → F.equal a b ≡ true → a ≡ b
  pub eq_refl : (a : Value) → F.equal a a ≡ true
  pub one_z : F.equal F.one F.z ≡ false
  pub op_eq : (a b : Value) → F.apply F.eq_op a b ≡ cond (F.equal a b) F.one F.z
  pub z_is_code : IsMachineCode F F.z
  pub code_J : {a b : Value} → IsMachineCode F a → IsMachineCode F b → IsMachineCode F (F.apply F.join_op a b)
  pub J_z : {a : Value} → IsMachineCode F a → F.apply F.join_op F.z a ≡ a
  pub J_comm : {a b : Value} → IsMachineCode F a → IsMachineCode F b → F.apply F.join_op a b ≡ F.apply F.join_op b a
  pub J_assoc : {a b c : Value} → IsMachineCode F a → IsMachineCode F b → IsMachineCode F c → F.apply F.join_op (F.apply F.join_op a b) c ≡ F.apply F.join_op a (F.apply F.join_op b c)
  pub J_idem : {a : Value} → IsMachineCode F a → F.apply F.join_op a a ≡ a
  pub max_zz : F.apply F.max_op F.z F.z ≡ F.z
  pub max_zo : F.apply F.max_op F.z F.one ≡ F.one
  pub max_oz : F.apply F.max_op F.one F.z ≡ F.one
  pub max_oo : F.apply F.max_op F.one F.one ≡ F.one
  pub max_none : {p m : Value} → IsMachineCode F p → (m ≡ F.z) ⊎ (m ≡ F.one) → F.apply F.max_op p m ≡ F.z → (p ≡ F.z) × (m ≡ F.z)
  pub lt_code : {g : Value} → IsMachineCode F g → F.apply F.lt_op F.z g ≡ cond (F.equal g F.z) F.z F.one

module _ (F : Interpretation) (rd : Value) where
  open F use {z, one, equal, apply, join_op}

  -- a flows to the reader
  abbrev pub Flows : Value → Type 0
  Flows a = apply join_op a rd ≡ rd

-- the codes, as values
abbrev pub code_z : (ℕ → Bool) → ℤ → Bool
code_z code (pos n) = code n
code_z code (negsuc n) = false

-- the values and operators of scripts, and the levels of a family
abbrev pub machine : spec.Family → Interpretation
machine G = record {
  z = pos 0;
  one = pos 1;
  equal = int_eq;
  apply = operate;
  join_op = joiner G;
  max_op = Maximum;
  eq_op = Equal;
  lt_op = Less;
  code = code_z G.code;
}

truth_is : (b : Bool) → truth b ≡ cond b (pos 1) (pos 0)
truth_is true = refl
truth_is false = refl

pub int_eq_pos : (a b : ℕ) → int_eq (pos a) (pos b) ≡ eqb a b
int_eq_pos a b = grind (arith, nat_tests)

-- the operator of a family gives the join
pub joiner_joins : (G : spec.Family) → FamilyLaws G → (a b : ℕ) → IsCode G a → IsCode G b → operate (joiner G) (pos a) (pos b) ≡ pos (G.join a b)
joiner_joins G L a b x y = go (operator_numbered G.operator) (L.applies a b x y)
  where
    go : (o : Option Operator) → Rattle.std.specs.Option.option_map (λ p. operate p (pos a) (pos b)) o ≡ Some (pos (G.join a b)) →
        operate (operator_or Maximum o) (pos a) (pos b) ≡ pos (G.join a b)
    go None e = cc
    go (Some p) e = cc

module _ (G : spec.Family) where
  -- what holds of numbers that are codes holds of values that are
  lift₁ : (P : ℤ → Type 0) → ((i : ℕ) → IsCode G i → P (pos i)) → (a : ℤ) → code_z G.code a ≡ true → P a
  lift₁ P f (pos i) c = f i c
  lift₁ P f (negsuc i) c = absurd (false≢true c)

  lift₂ : (P : ℤ → ℤ → Type 0) → ((i j : ℕ) → IsCode G i → IsCode G j → P (pos i) (pos j)) → (a b : ℤ) → code_z G.code a ≡ true → code_z G.code b ≡ true → P a b
  lift₂ P f a b c d = lift₁ (λ u. P u b) (λ i x. lift₁ (P (pos i)) (λ j y. f i j x y) b d) a c

  lift₃ : (P : ℤ → ℤ → ℤ → Type 0) → ((i j k : ℕ) → IsCode G i → IsCode G j → IsCode G k → P (pos i) (pos j) (pos k)) → (a b c : ℤ) →
      code_z G.code a ≡ true → code_z G.code b ≡ true → code_z G.code c ≡ true → P a b c
  lift₃ P f a b c x y w = lift₁ (λ u. P a b u) (λ k hk. lift₂ (λ s t. P s t (pos k)) (λ i j hi hj. f i j k hi hj hk) a b x y) c w

max_pos : (i j : ℕ) → operate Maximum (pos i) (pos j) ≡ pos (max i j)
max_pos = laws.maximum_natural

max_none_pos : (i : ℕ) (q : ℤ) → (q ≡ pos 0) ⊎ (q ≡ pos 1) → operate Maximum (pos i) q ≡ pos 0 → (pos i ≡ pos 0) × (q ≡ pos 0)
max_none_pos i q (inl h) e = let k : pos (max i 0) ≡ pos 0 = sym (max_pos i 0) ∙ ap (operate Maximum (pos i)) (sym h) ∙ e in (omega (arith, ints), h)
max_none_pos i q (inr h) e = let k : pos (max i 1) ≡ pos 0 = sym (max_pos i 1) ∙ ap (operate Maximum (pos i)) (sym h) ∙ e in absurd (omega (arith, ints))

less_zero : (n : ℕ) → operate Less (pos 0) (pos n) ≡ cond (int_eq (pos n) (pos 0)) (pos 0) (pos 1)
less_zero n = grind (arith, nat_tests)

pub machine_laws : (G : spec.Family) → FamilyLaws G → Laws (machine G)
machine_laws G L = record {
  eq_sound = λ a b. (Decides-int_eq a b).0;
  eq_refl = int_eq_equiv.refl;
  one_z = refl;
  op_eq = λ a b. truth_is (int_eq a b);
  z_is_code = L.bottom;
  code_J = λ {a} {b} x y. lift₂ G (λ s t. code_z G.code (operate (joiner G) s t) ≡ true) (λ i j c d. rw (joiner_joins G L i j c d) (L.closed i j c d)) a b x y;
  J_z = λ {a} x. lift₁ G (λ s. operate (joiner G) (pos 0) s ≡ s) (λ i c. joiner_joins G L 0 i L.bottom c ∙ ap pos (L.neutral i c)) a x;
  J_comm = λ {a} {b} x y. lift₂ G (λ s t. operate (joiner G) s t ≡ operate (joiner G) t s)
      (λ i j c d. joiner_joins G L i j c d ∙ ap pos (L.commutes i j c d) ∙ sym (joiner_joins G L j i d c)) a b x y;
  J_assoc = λ {a} {b} {c} x y w. lift₃ G (λ s t u. operate (joiner G) (operate (joiner G) s t) u ≡ operate (joiner G) s (operate (joiner G) t u))
      (λ i j k hi hj hk. ap (λ v. operate (joiner G) v (pos k)) (joiner_joins G L i j hi hj) ∙ joiner_joins G L _ k (L.closed i j hi hj) hk ∙ ap pos (L.groups i j k hi hj hk)
      ∙ sym (ap (operate (joiner G) (pos i)) (joiner_joins G L j k hj hk) ∙ joiner_joins G L i _ hi (L.closed j k hj hk))) a b c x y w;
  J_idem = λ {a} x. lift₁ G (λ s. operate (joiner G) s s ≡ s) (λ i c. joiner_joins G L i i c c ∙ ap pos (L.same i c)) a x;
  max_zz = refl;
  max_zo = refl;
  max_oz = refl;
  max_oo = refl;
  max_none = λ {p} {m} c h e. lift₁ G (λ s. operate Maximum s m ≡ pos 0 → (s ≡ pos 0) × (m ≡ pos 0)) (λ i x. max_none_pos i m h) p c e;
  lt_code = λ {g} c. lift₁ G (λ s. operate Less (pos 0) s ≡ cond (int_eq s (pos 0)) (pos 0) (pos 1)) (λ i x. less_zero i) g c;
}
