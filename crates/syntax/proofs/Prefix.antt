-- Expressions in prefix order: what each way through `expression_end` shows, and that an expression and its nodes determine each other.
--
-- `Of o P` says P of what an option holds, if it holds something; with `bind_of`, `when_of` and `cond_of` a fact is carried through the decoder
-- without a case for each refusal.
use Rattle.std.proofs.Common.{◌≡◌, ℕ, zero, suc, ◌+◌, ◌-◌, ◌<◌, ◌≤◌, Bool, true, false, cond, ltb, leb, List, [], ◌∷◌, length, get_or, drop, Some, None, Option, refl, ap, ◌∙◌, sub-one, arith, MatchOption}
use Rattle.std.proofs.lemmas.Bool.{cond-true, lt-ltb, le-leb}
use Rattle.std.proofs.lemmas.Bool.Decides.{nat_tests}
use Rattle.std.proofs.lemmas.List.{drop_more}
use Rattle.values.specs.declared.Operator.{Operator}
use Rattle.syntax.specs.declared.form.Node.{Node}
use Rattle.syntax.specs.declared.form.Node.TheVariants.{Numeral, Variable, Apply}
use Rattle.syntax.specs.Trees.{Expression, number, variable, apply, depth_of, InRange}
use Rattle.syntax.specs.Form.{nodes_onto}
use Rattle.syntax.specs.Decoder.{Parsed, parsed, bind, when, expression_of, Spans}

abbrev second : ℕ → ℕ → Operator → Parsed → Option Parsed
second k d o a = bind (expression_of k d a.rest) (λ b. Some (parsed (apply o a.expression b.expression) b.rest))

module _ (k : ℕ) (nodes : List Node) (at : ℕ) where
  module _ (lt : at < length nodes) where
    from : (x : Node) → get_or nodes at (Numeral 0) ≡ x → drop at nodes ≡ x ∷ drop (at + 1) nodes
    from x e = drop_more nodes at (Numeral 0) lt ∙ ap (λ y. y ∷ drop (at + 1) nodes) e

    pub numeral_spans : (d n : ℕ) → get_or nodes at (Numeral 0) ≡ Numeral n → n ≤ 2147483647 → Spans k d nodes at (at + 1)
    numeral_spans d n e h = record {
      expression = number n;
      reads = ap (expression_of k d) (from (Numeral n) e) ∙ cond-true _ _ _ (le-leb n 2147483647 h);
      behind = refl;
      within = omega arith;
    }

    pub variable_spans : (d v : ℕ) → get_or nodes at (Numeral 0) ≡ Variable v → v < k → Spans k d nodes at (at + 1)
    variable_spans d v e h = record {
      expression = variable v;
      reads = ap (expression_of k d) (from (Variable v) e) ∙ cond-true _ _ _ (lt-ltb v k h);
      behind = refl;
      within = omega arith;
    }

    module _ (o : Operator) (e : get_or nodes at (Numeral 0) ≡ Apply o) where
      opens : (d : ℕ) → (d ≡ 0 → ⊥) → expression_of k d (drop at nodes) ≡ bind (expression_of k (d - 1) (drop (at + 1) nodes)) (second k (d - 1) o)
      opens zero n = absurd (n refl)
      opens (suc d) n = rw (sub-one (suc d)) (ap (expression_of k (suc d)) (from (Apply o) e))

      pub both : (d : ℕ) → (d ≡ 0 → ⊥) → (p : ℕ) → Spans k (d - 1) nodes (at + 1) p → (r : Option ℕ)
          → MatchOption r (expression_of k (d - 1) (drop p nodes) ≡ None) (λ q. Spans k (d - 1) nodes p q)
          → MatchOption r (expression_of k d (drop at nodes) ≡ None) (λ q. Spans k d nodes at q)
      both d n p l None h = opens d n ∙ ap (λ x. bind x (second k (d - 1) o)) l.reads ∙ ap (λ x. bind x (λ b. Some (parsed (apply o l.expression b.expression) b.rest))) h
      both d n p l (Some q) h = record {
        expression = apply o l.expression h.expression;
        reads = opens d n ∙ ap (λ x. bind x (second k (d - 1) o)) l.reads ∙ ap (λ x. bind x (λ b. Some (parsed (apply o l.expression b.expression) b.rest))) h.reads;
        behind = omega (arith, l.behind, h.behind);
        within = h.within;
      }

-- the nodes of an expression are read as that expression
pub reads_nodes : (k d : ℕ) (e : Expression) (l : List Node) → InRange k e → depth_of e ≤ d → expression_of k d (nodes_onto e l) ≡ Some (parsed e l)
reads_nodes k d (number n) l h s = cond-true _ _ _ (le-leb n 2147483647 h)
reads_nodes k d (variable v) l h s = cond-true _ _ _ (lt-ltb v k h)
reads_nodes k zero (apply o a b) l h s = absurd (omega arith)
reads_nodes k (suc d) (apply o a b) l h s =
    ap (λ x. bind x (second k d o)) (reads_nodes k d a (nodes_onto b l) h.0 (omega arith))
    ∙ ap (λ x. bind x (λ y. Some (parsed (apply o a y.expression) y.rest))) (reads_nodes k d b l h.1 (omega arith))

-- and what is read has these nodes
pub record Reads (k d : ℕ) (l : List Node) (p : Parsed) : Type 0 where
  pub nodes : l ≡ nodes_onto p.expression p.rest
  pub ranged : InRange k p.expression
  pub shallow : depth_of p.expression ≤ d

-- a fact of what an option holds
abbrev pub Of : {A : Type 0} → Option A → (A → Type 0) → Type 0
Of None P = Unit {0}
Of (Some x) P = P x

pub of_at : {A : Type 0} (o : Option A) (x : A) (P : A → Type 0) → o ≡ Some x → Of o P → P x
of_at o x P e h = rw e at h

pub when_of : {A : Type 0} (b : Bool) (x : A) (P : A → Type 0) → (b ≡ true → P x) → Of (when b x) P
when_of true x P f = f refl
when_of false x P f = tt

pub of_map : {A : Type 0} (o : Option A) (P Q : A → Type 0) → Of o P → ((x : A) → P x → Q x) → Of o Q
of_map None P Q h f = tt
of_map (Some x) P Q h f = f x h

pub cond_of : {A : Type 0} (b : Bool) (o : Option A) (P : A → Type 0) → (b ≡ true → Of o P) → Of (cond b o None) P
cond_of true o P f = f refl
cond_of false o P f = tt

pub bind_of : {A B : Type 0} (o : Option A) (f : A → Option B) (P : A → Type 0) (Q : B → Type 0) → Of o P → ((x : A) → P x → Of (f x) Q) → Of (bind o f) Q
bind_of None f P Q h k = tt
bind_of (Some x) f P Q h k = k x h

pub read_is : (k d : ℕ) (l : List Node) → Of (expression_of k d l) (Reads k d l)
read_is k d [] = tt
read_is k d (Numeral n ∷ l) = when_of (leb n 2147483647) _ _ (λ t. record { nodes = refl; ranged = grind (arith, nat_tests); shallow = omega arith })
read_is k d (Variable v ∷ l) = when_of (ltb v k) _ _ (λ t. record { nodes = refl; ranged = grind (arith, nat_tests); shallow = omega arith })
read_is k zero (Apply o ∷ l) = tt
read_is k (suc d) (Apply o ∷ l) =
    bind_of (expression_of k d l) (second k d o) (Reads k d l) _ (read_is k d l) (λ a ra.
    bind_of (expression_of k d a.rest) _ (Reads k d a.rest) _ (read_is k d a.rest) (λ b rb. record {
      nodes = ap (λ x. Apply o ∷ x) (ra.nodes ∙ ap (nodes_onto a.expression) rb.nodes);
      ranged = (ra.ranged, rb.ranged);
      shallow = omega (arith, ra.shallow, rb.shallow);
    }))
