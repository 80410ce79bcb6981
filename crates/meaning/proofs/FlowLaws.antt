-- What flows to what is a partial order, and the join is its least upper bound.
use Rattle.std.proofs.Common.{◌≡◌, ℕ, true, ◌&&◌, eqb, sym, refl, ap, ◌∙◌, ap₂}
use Rattle.std.proofs.lemmas.Bool.{eq-eqb, eqb-true, and_parts}
use Rattle.meaning.specs.Families.{Family, FamilyLaws, IsCode, flows}
use Rattle.meaning.specs.FlowLaws.{FlowLaws, FlowLawsHold}

module _ (G : Family) (L : FamilyLaws G) where
  -- a flows to b where both are codes and their join is b
  told : (a b : ℕ) → flows G a b ≡ true → IsCode G a × IsCode G b × (G.join a b ≡ b)
  told a b e =
      let h = and_parts (G.code a && G.code b) (eqb (G.join a b) b) e in
      let k = and_parts (G.code a) (G.code b) h.0 in
      (k.0, k.1, eqb-true (G.join a b) b h.1)

  tells : (a b : ℕ) → IsCode G a → IsCode G b → G.join a b ≡ b → flows G a b ≡ true
  tells a b x y e = ap₂ (λ p q. (p && q) && eqb (G.join a b) b) x y ∙ ap (λ z. eqb z b) e ∙ eq-eqb b b refl

  laws : FlowLaws G
  laws = record {
    only_codes = λ a b e. let h = told a b e in (h.0, h.1);
    reflexive = λ a x. tells a a x x (L.same a x);
    antisymmetric = λ a b e f. let h = told a b e in let k = told b a f in sym k.2 ∙ L.commutes b a h.1 h.0 ∙ h.2;
    transitive = λ a b c e f.
        let h = told a b e in
        let k = told b c f in
        tells a c h.0 k.1 (ap (G.join a) (sym k.2) ∙ sym (L.groups a b c h.0 h.1 k.1) ∙ ap (λ z. G.join z c) h.2 ∙ k.2);
    from_bottom = λ a x. tells 0 a L.bottom x (L.neutral a x);
    join_left = λ a b x y. tells a (G.join a b) x (L.closed a b x y) (sym (L.groups a a b x x y) ∙ ap (λ z. G.join z b) (L.same a x));
    join_right = λ a b x y. tells b (G.join a b) y (L.closed a b x y)
        (ap (G.join b) (L.commutes a b x y) ∙ sym (L.groups b b a y y x) ∙ ap (λ z. G.join z a) (L.same b y) ∙ L.commutes b a y x);
    join_least = λ a b c e f.
        let h = told a c e in
        let k = told b c f in
        tells (G.join a b) c (L.closed a b h.0 k.0) h.1 (L.groups a b c h.0 k.0 h.1 ∙ ap (G.join a) k.2 ∙ h.2);
  }

pub flow_laws : FlowLawsHold
flow_laws G L = laws G L
