-- A rewritten script, and the script as bought, can be opened for every reader's level on every bank with enough registers.
use Rattle.std.proofs.Common.{◌≡◌, ℕ, zero, suc, ◌-◌, ◌≤◌, Bool, true, false, cond, ◌||◌, List, [], ◌∷◌, ◌++◌, length, ℤ, Some, None, refl, ap₂}
use Rattle.std.proofs.lemmas.Bool.{and_parts, and_from, le-ltb}
use Rattle.refusals.specs.declared.Reason.TheVariants as reason
use Rattle.values.specs.declared.Operator.{Operator}
use Rattle.syntax.specs.declared.form.Declaration.{Declaration}
use Rattle.syntax.specs.Trees.{Expression, Statement, Statements, none, then, skip, assign, release, write, stop, branch, while, join, nesting_in}
use Rattle.syntax.specs.Scripts.{Script}
use Rattle.meaning.specs.Families.{Family, FamilyLaws, IsCode, joiner}
use Rattle.meaning.specs.Rules.{guard_register, has_while_in, changes_in, raised, rising, tolls, padding, rewritten_arms, rewritten_of, rewritten_in}
use Rattle.meaning.specs.Rewriting.{variables, levels_of, all_codes, writes_codes, writes_codes_in, Rewritable, generated_from, first_rows, rewritten}
use Rattle.meaning.specs.Runs.{refusal, open_refusal}

module _ (G : Family) where
  -- ---- declared levels
  codes_append : (ds es : List Declaration) → all_codes G (levels_of ds) ≡ true → all_codes G (levels_of es) ≡ true → all_codes G (levels_of (ds ++ es)) ≡ true
  codes_append [] es p q = q
  codes_append (d ∷ ds) es p q = let ps = and_parts (G.code d.level) (all_codes G (levels_of ds)) p in and_from _ _ ps.0 (codes_append ds es ps.1 q)

  generated_codes : IsCode G 0 → (letter k n : ℕ) → all_codes G (levels_of (generated_from letter k n)) ≡ true
  generated_codes z letter k zero = refl
  generated_codes z letter k (suc n) = and_from _ _ z (generated_codes z letter (suc k) n)

  -- ---- written levels
  writes_join : (A B : Statements) → writes_codes_in G A ≡ true → writes_codes_in G B ≡ true → writes_codes_in G (join A B) ≡ true
  writes_join none B p q = q
  writes_join (then s l) B p q = let ps = and_parts (writes_codes G s) (writes_codes_in G l) p in and_from _ _ ps.0 (writes_join l B ps.1 q)

  writes_padding : (n : ℕ) → writes_codes_in G (padding n) ≡ true
  writes_padding zero = refl
  writes_padding (suc n) = writes_padding n

  writes_raised : (v : ℕ) (j : Operator) (g : ℕ) (ks : List ℕ) → writes_codes_in G (raised v j g ks) ≡ true
  writes_raised v j g [] = refl
  writes_raised v j g (k ∷ ks) = writes_raised v j g ks

  writes_first : (v k : ℕ) (ls : List ℕ) → writes_codes_in G (first_rows v k ls) ≡ true
  writes_first v k [] = refl
  writes_first v k (l ∷ ls) = writes_first v (suc k) ls

  writes_arms : (w : Bool) (g : ℕ) (e : Expression) (A B : Statements) → writes_codes_in G A ≡ true → writes_codes_in G B ≡ true → writes_codes_in G (rewritten_arms w g e A B) ≡ true
  writes_arms true g e A B p q = and_from _ _ (and_from _ _ p q) refl
  writes_arms false g e A B p q = and_from _ _ (and_from _ _ (writes_join A _ p (writes_padding (tolls B - tolls A))) (writes_join B _ q (writes_padding (tolls A - tolls B)))) refl

  module _ (v : ℕ) (j : Operator) where
    mutual
      writes_of : (d : ℕ) (s : Statement) → writes_codes G s ≡ true → writes_codes_in G (rewritten_of v j d s) ≡ true
      writes_of d skip h = refl
      writes_of d (assign k e) h = refl
      writes_of d (release k e) h = refl
      writes_of d (write t e) h = and_from _ _ (and_from _ _ (and_from _ _ h refl) refl) refl
      writes_of d (stop n) h = refl
      writes_of d (branch e A B) h =
          let hs = and_parts (writes_codes_in G A) (writes_codes_in G B) h in
          writes_join (rewritten_arms (has_while_in A || has_while_in B) (guard_register v d) e (rewritten_in v j (suc d) A) (rewritten_in v j (suc d) B)) _
          (writes_arms (has_while_in A || has_while_in B) (guard_register v d) e _ _ (writes_in (suc d) A hs.0) (writes_in (suc d) B hs.1))
          (writes_raised v j (guard_register v d) (rising v (λ k. changes_in A k || changes_in B k)))
      writes_of d (while e A) h = and_from _ _ (writes_join (rewritten_in v j (suc d) A) _ (writes_in (suc d) A h) refl) refl

      writes_in : (d : ℕ) (l : Statements) → writes_codes_in G l ≡ true → writes_codes_in G (rewritten_in v j d l) ≡ true
      writes_in d none h = refl
      writes_in d (then s l) h =
          let hs = and_parts (writes_codes G s) (writes_codes_in G l) h in
          writes_join (rewritten_of v j d s) (rewritten_in v j d l) (writes_of d s hs.0) (writes_in d l hs.1)

-- nothing is in the way
opened : (G : Family) (P : Script) (reader : ℕ) (bank : List ℤ) → IsCode G reader → all_codes G (levels_of P.declarations) ≡ true → writes_codes_in G P.statements ≡ true →
    variables P ≤ length bank → open_refusal G P reader bank ≡ None
opened G P reader bank r d w h = ap₂ (λ a b. cond a (cond b (Some (refusal reason.BankTooSmall)) None) (Some (refusal reason.NotACode))) (and_from _ _ r (and_from _ _ d w)) (le-ltb (length bank) (variables P) h)

pub opens_bought : (G : Family) (s : Script) → Rewritable G s → (reader : ℕ) (bank : List ℤ) → IsCode G reader → variables s ≤ length bank → open_refusal G s reader bank ≡ None
opens_bought G s ok reader bank r h = opened G s reader bank r ok.declared ok.written h

pub opens_rewritten : (G : Family) → FamilyLaws G → (s : Script) → Rewritable G s → (reader : ℕ) (bank : List ℤ) → IsCode G reader → variables (rewritten G s) ≤ length bank →
    open_refusal G (rewritten G s) reader bank ≡ None
opens_rewritten G L s ok reader bank r h = opened G (rewritten G s) reader bank r declared written h
  where
    n : ℕ
    n = variables s

    declared : all_codes G (levels_of (rewritten G s).declarations) ≡ true
    declared = codes_append G s.declarations _ ok.declared (codes_append G (generated_from 115 0 n) _ (generated_codes G L.bottom 115 0 n)
        (codes_append G (generated_from 116 0 n) _ (generated_codes G L.bottom 116 0 n) (generated_codes G L.bottom 103 1 (nesting_in s.statements))))

    written : writes_codes_in G (rewritten G s).statements ≡ true
    written = writes_join G (first_rows n 0 (levels_of s.declarations)) _ (writes_first G n 0 (levels_of s.declarations)) (writes_in G n (joiner G) 0 s.statements ok.written)
