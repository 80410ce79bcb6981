-- The places of a rewritten script are the places of the named rows: place p belongs to row p.
use Rattle.std.proofs.Common.{◌≡◌, ℕ, zero, suc, ◌+◌, ◌-◌, Bool, true, false, ◌||◌, List, [], ◌∷◌, ◌++◌, length, replicate, ℤ, sym, refl, ap, ◌∙◌, ap₂, append_assoc, add-zero, one-add}
use Rattle.std.proofs.lemmas.Bool.{and_parts}
use mathlib.Core.Bool.{false≢true}
use Rattle.values.specs.declared.Operator.{Operator}
use Rattle.syntax.specs.Trees as tree
use Rattle.syntax.specs.Trees.{Expression, Statement, Statements, none, then, join}
use Rattle.syntax.specs.Parts.{row_counts}
use Rattle.meaning.specs.Families.{Family, joiner}
use Rattle.meaning.specs.Rules.{guard_register, has_while_in, raised, tolls, rewritten_in}
use Rattle.meaning.specs.Rewriting.{never_stops, never_stops_in}
use Rattle.meaning.specs.Places.{Place, plain, plain_rows, arm_places, branch_places, check_places, places_of, places_in, place_at}
use Rattle.meaning.proofs.NamedCode.{Interpretation, Exp, op, Reg, guard, Code, cassign, cseq, cif, bought, rback, Laid, laid-at, lay, after}
use Rattle.meaning.proofs.NamedRules.{named_has_while, pads, own_exp, level_exp, guard_exp, stop_check_lem, raise, branch, rewrite}
use Rattle.meaning.proofs.NamedRules as named
use Rattle.meaning.proofs.Programs.{at, named_first_rows}
use Rattle.meaning.proofs.Bridge.{exp_of, named_of, named_in, join_none, toll-onto, rules_in, while_in, raised_is}

abbrev pub place_of : Laid Reg → Place
place_of x = record { depth = x.depth; test = x.test }

abbrev place_list : List (Laid Reg) → List Place
place_list [] = []
place_list (x ∷ xs) = place_of x ∷ place_list xs

place_list-append : (xs ys : List (Laid Reg)) → place_list (xs ++ ys) ≡ place_list xs ++ place_list ys
place_list-append [] ys = refl
place_list-append (x ∷ xs) ys = ap (λ l. place_of x ∷ l) (place_list-append xs ys)

pub place_at_lem : (xs : List (Laid Reg)) (p : ℕ) → place_at (place_list xs) p ≡ place_of (at xs p)
place_at_lem [] p = refl
place_at_lem (x ∷ xs) zero = refl
place_at_lem (x ∷ xs) (suc p) = place_at_lem xs p

pads_places : (D b k : ℕ) → place_list (lay D b (pads k)) ≡ plain_rows D k
pads_places D b zero = refl
pads_places D b (suc k) = ap (λ l. plain D ∷ l) (pads_places D (suc b) k)

first_places : (b k : ℕ) (ls : List ℤ) → place_list (lay 0 b (named_first_rows k ls)) ≡ plain_rows 0 (length ls)
first_places b k [] = refl
first_places b k (l ∷ ls) = ap (λ r. plain 0 ∷ r) (first_places (suc b) (suc k) ls)

-- an `if` of the script, and a `while`
if_places : (D b : ℕ) (e : Exp Reg) (A B : Code Reg) (X Y : List Place) → ((c : ℕ) → place_list (lay (suc D) c A) ≡ X) → ((c : ℕ) → place_list (lay (suc D) c B) ≡ Y) →
    place_list (lay D b (cif bought e A B)) ≡ arm_places D X Y
if_places D b e A B X Y x y = ap (λ l. plain D ∷ l)
    (place_list-append (lay (suc D) (suc b) A) _ ∙ ap₂ (λ u v. u ++ (plain D ∷ v)) (x (suc b)) (place_list-append (lay (suc D) (suc (after (suc b) A)) B) _ ∙ ap (λ u. u ++ (plain D ∷ [])) (y _)))

-- a part, and a part behind it
seq_places : (D b : ℕ) (A B : Code Reg) (X Y : List Place) → place_list (lay D b A) ≡ X → place_list (lay D (after b A) B) ≡ Y → place_list (lay D b (cseq A B)) ≡ X ++ Y
seq_places D b A B X Y x y = place_list-append (lay D b A) (lay D (after b A) B) ∙ ap₂ (λ u v. u ++ v) x y

module _ (G : Family) (n : ℕ) where
  abbrev F : Interpretation
  F = Rattle.meaning.proofs.Interpretations.machine G

  abbrev j : Operator
  j = joiner G

  raise_places : (D b E : ℕ) (ks : List ℕ) → place_list (lay D b (raise F E ks)) ≡ plain_rows D (row_counts (raised n j (guard_register n E) ks))
  raise_places D b E [] = refl
  raise_places D b E (k ∷ ks) =
      ap (λ l. plain D ∷ (plain D ∷ l)) (raise_places D (suc (suc b)) E ks)
      ∙ ap (λ m. replicate m (plain D)) (sym (one-add (1 + row_counts (raised n j (guard_register n E) ks)) ∙ ap suc (one-add (row_counts (raised n j (guard_register n E) ks)))))

  toll_in : (D : ℕ) (l : Statements) → never_stops_in l ≡ true → named.toll (rewrite F n D (named_in l)) ≡ tolls (rewritten_in n j D l)
  toll_in D l h = sym (ap tolls (sym (join_none (rewritten_in n j D l)) ∙ sym (rules_in G n D l h none)) ∙ toll-onto n (rewrite F n D (named_in l)) none ∙ add-zero (named.toll (rewrite F n D (named_in l))))

  -- the arms of an `if`, their places and tolls given
  arm_places_lem : (D b : ℕ) (e : Exp Reg) (A B : Code Reg) (X Y : List Place) (w : Bool) → ((c : ℕ) → place_list (lay (suc D) c A) ≡ X) → ((c : ℕ) → place_list (lay (suc D) c B) ≡ Y) →
      place_list (lay D b (branch F D e A B w)) ≡ branch_places w D (named.toll A) (named.toll B) X Y
  arm_places_lem D b e A B X Y true x y = seq_places D b (stop_check_lem F D 1) (cif bought e A B) (check_places D) (arm_places D X Y) refl (if_places D _ e A B X Y x y)
  arm_places_lem D b e A B X Y false x y = if_places D b e (cseq A (pads (named.toll B - named.toll A))) (cseq B (pads (named.toll A - named.toll B))) _ _
      (λ c. seq_places (suc D) c A (pads (named.toll B - named.toll A)) X _ (x c) (pads_places (suc D) _ (named.toll B - named.toll A)))
      (λ c. seq_places (suc D) c B (pads (named.toll A - named.toll B)) Y _ (y c) (pads_places (suc D) _ (named.toll A - named.toll B)))

  mutual
    places_of_lem : (D b : ℕ) (s : Statement) → never_stops s ≡ true → place_list (lay D b (rewrite F n D (named_of s))) ≡ places_of n j D s
    places_of_lem D b tree.skip h = refl
    places_of_lem D b (tree.assign k e) h = refl
    places_of_lem D b (tree.release k e) h = refl
    places_of_lem D b (tree.write t e) h = refl
    places_of_lem D b (tree.stop k) h = absurd (false≢true h)
    places_of_lem D b (tree.branch e A B) h =
        let hs = and_parts (never_stops_in A) (never_stops_in B) h in
        let X : List Place = places_in n j (suc D) A in
        let Y : List Place = places_in n j (suc D) B in
        let A' : Code Reg = rewrite F n (suc D) (named_in A) in
        let B' : Code Reg = rewrite F n (suc D) (named_in B) in
        let ks : List ℕ = named.rising n (λ k. named.assigns (named_in A) k || named.assigns (named_in B) k) in
        let arms : Code Reg = branch F D (own_exp F (exp_of e)) A' B' (named_has_while (named_in A) || named_has_while (named_in B)) in
        ap (λ l. plain D ∷ l)
        (seq_places D (suc b) arms (raise F D ks) (branch_places (named_has_while (named_in A) || named_has_while (named_in B)) D (named.toll A') (named.toll B') X Y) (plain_rows D (row_counts (raised n j (guard_register n D) ks)))
        (arm_places_lem D (suc b) (own_exp F (exp_of e)) A' B' X Y (named_has_while (named_in A) || named_has_while (named_in B)) (λ c. places_in_lem (suc D) c A hs.0) (λ c. places_in_lem (suc D) c B hs.1))
        (raise_places D (after (suc b) arms) D ks)
        ∙ ap₂ (λ u v. u ++ plain_rows D (row_counts (raised n j (guard_register n D) v)))
        (ap (λ w. branch_places w D (named.toll A') (named.toll B') X Y) (ap₂ ◌||◌ (while_in A) (while_in B))
        ∙ ap₂ (λ x y. branch_places (has_while_in A || has_while_in B) D x y X Y) (toll_in (suc D) A hs.0) (toll_in (suc D) B hs.1))
        (raised_is G n A B))
    places_of_lem D b (tree.while e A) h =
        let A' : Code Reg = rewrite F n (suc D) (named_in A) in
        let again : Code Reg = cseq (cassign (guard D) (op j (level_exp F (exp_of e)) (guard_exp F (suc D)))) (stop_check_lem F D 2) in
        let c : ℕ = suc (after (suc b) (stop_check_lem F D 2)) in
        ap (λ l. plain D ∷ (check_places D ++ (plain D ∷ l)))
        (place_list-append (lay (suc D) c (cseq A' again)) (laid-at D (rback (after (suc b) (stop_check_lem F D 2))) ∷ [])
        ∙ ap (λ l. l ++ (plain D ∷ [])) (seq_places (suc D) c A' again (places_in n j (suc D) A) (plain (suc D) ∷ check_places (suc D)) (places_in_lem (suc D) c A h) refl)
        ∙ append_assoc (places_in n j (suc D) A) (plain (suc D) ∷ check_places (suc D)) (plain D ∷ []))

    places_in_lem : (D b : ℕ) (l : Statements) → never_stops_in l ≡ true → place_list (lay D b (rewrite F n D (named_in l))) ≡ places_in n j D l
    places_in_lem D b none h = refl
    places_in_lem D b (then s l) h =
        let hs = and_parts (never_stops s) (never_stops_in l) h in
        seq_places D b (rewrite F n D (named_of s)) (rewrite F n D (named_in l)) _ _ (places_of_lem D b s hs.0) (places_in_lem D _ l hs.1)

  -- the places of a whole script
  pub script_places : (ls : List ℤ) (l : Statements) → never_stops_in l ≡ true →
      place_list (lay 0 0 (cseq (named_first_rows 0 ls) (rewrite F n 0 (named_in l)))) ≡ plain_rows 0 (length ls) ++ places_in n j 0 l
  script_places ls l h = seq_places 0 0 (named_first_rows 0 ls) (rewrite F n 0 (named_in l)) _ _ (first_places 0 0 ls) (places_in_lem 0 _ l h)
