-- What is known of a script that can be rewritten: its named form, and that the named rows and places are its rows and places.
use Rattle.std.proofs.Common.{◌≡◌, ℕ, zero, suc, ◌+◌, ◌≤◌, true, false, ◌&&◌, eqb, List, [], ◌∷◌, ◌++◌, map, length, get_or, ℤ, pos, sym, refl, ap, ◌∙◌, subst, ap₂, arith, length-append}
use Rattle.std.proofs.lemmas.Bool.{eq-eqb, and_parts}
use mathlib.Core.Path.{fun_ext}
use Rattle.syntax.specs.declared.form.Declaration.{Declaration}
use Rattle.syntax.specs.Trees as tree
use Rattle.syntax.specs.Trees.{Expression, number, variable, apply, Statement, Statements, none, then, InRange, LegalStatement, LegalStatements, nesting_in}
use Rattle.syntax.specs.Scripts.{Script, WellFormed}
use Rattle.meaning.specs.Families.{Family, FamilyLaws, IsCode, joiner, flows}
use Rattle.meaning.specs.Rewriting.{variables, levels_of, all_codes, writes_codes, writes_codes_in, Rewritable, generated_from, rewritten, first_rows}
use Rattle.meaning.specs.Rules.{rewritten_in}
use Rattle.meaning.specs.Places.{places_in, plain_rows, places_in_script, place_at}
use Rattle.meaning.specs.Runs.{enterable_at, enterable, program_row}
use Rattle.meaning.specs.Confinement.{All}
use Rattle.meaning.proofs.NamedCode.{Interpretation, IsMachineCode, cseq, lay}
use Rattle.meaning.proofs.NamedRules.{NamedWellFormed, rewrite}
use Rattle.meaning.proofs.NamedRules as named
use Rattle.meaning.proofs.Interpretations.{machine, joiner_joins, Flows}
use Rattle.meaning.proofs.Programs.{level_at_lem, named_first_rows, laid, program, plain, named_plain_rows}
use Rattle.meaning.proofs.Numbers.{tree_row}
use Rattle.meaning.proofs.Valid.{Below, Reads}
use Rattle.meaning.proofs.Bridge.{exp_of, named_of, named_in, row_at_lem, rewritten-onto, bought_onto}
use Rattle.meaning.proofs.BridgePlaces.{place_of, place_at_lem, script_places}

-- the declared levels, as values
abbrev pub level_values : Script → List ℤ
level_values s = map pos (levels_of s.declarations)

levels_length : (ds : List Declaration) → length (map pos (levels_of ds)) ≡ length ds
levels_length [] = refl
levels_length (d ∷ ds) = ap suc (levels_length ds)

pub count_levels : (s : Script) → length (level_values s) ≡ variables s
count_levels s = levels_length s.declarations

pub level_value : (xs : List ℕ) (K : ℕ) → level_at_lem (pos 0) (map pos xs) K ≡ pos (get_or xs K 0)
level_value [] K = refl
level_value (x ∷ xs) zero = refl
level_value (x ∷ xs) (suc K) = level_value xs K

all_codes_lem : (G : Family) (xs : List ℕ) → all_codes G xs ≡ true → All (IsMachineCode (machine G)) (map pos xs)
all_codes_lem G [] h = tt
all_codes_lem G (x ∷ xs) h = let hs = and_parts (G.code x) (all_codes G xs) h in (hs.0, all_codes_lem G xs hs.1)

code_at : (G : Family) → FamilyLaws G → (xs : List ℕ) → all_codes G xs ≡ true → (K : ℕ) → IsCode G (get_or xs K 0)
code_at G L [] h K = L.bottom
code_at G L (x ∷ xs) h zero = (and_parts (G.code x) (all_codes G xs) h).0
code_at G L (x ∷ xs) h (suc K) = code_at G L xs (and_parts (G.code x) (all_codes G xs) h).1 K

-- ---- legal statements are well-formed by name

below : (k : ℕ) (e : Expression) → InRange k e → Below k (exp_of e)
below k (number n) h = refl
below k (variable v) h = h
below k (apply o a b) h = (below k a h.0, below k b h.1)

module _ (G : Family) (k : ℕ) where
  mutual
    well_of : (s : Statement) → LegalStatement k s → writes_codes G s ≡ true → NamedWellFormed (IsMachineCode (machine G)) k (named_of s)
    well_of tree.skip h w = tt
    well_of (tree.assign v e) h w = h.0
    well_of (tree.release v e) h w = h.0
    well_of (tree.write t e) h w = w
    well_of (tree.stop n) h w = tt
    well_of (tree.branch e A B) h w = let ws = and_parts (writes_codes_in G A) (writes_codes_in G B) w in (well_in A h.1 ws.0, well_in B h.2 ws.1)
    well_of (tree.while e A) h w = well_in A h.1 w

    well_in : (l : Statements) → LegalStatements k l → writes_codes_in G l ≡ true → NamedWellFormed (IsMachineCode (machine G)) k (named_in l)
    well_in none h w = tt
    well_in (then s l) h w = let ws = and_parts (writes_codes G s) (writes_codes_in G l) w in (well_of s h.0 ws.0, well_in l h.1 ws.1)

  mutual
    reads_of : (s : Statement) → LegalStatement k s → Reads k (named_of s)
    reads_of tree.skip h = tt
    reads_of (tree.assign v e) h = below k e h.1.ranged
    reads_of (tree.release v e) h = below k e h.1.ranged
    reads_of (tree.write t e) h = below k e h.1.ranged
    reads_of (tree.stop n) h = tt
    reads_of (tree.branch e A B) h = (below k e h.0.ranged, reads_in A h.1, reads_in B h.2)
    reads_of (tree.while e A) h = (below k e h.0.ranged, reads_in A h.1)

    reads_in : (l : Statements) → LegalStatements k l → Reads k (named_in l)
    reads_in none h = tt
    reads_in (then s l) h = (reads_of s h.0, reads_in l h.1)

-- ---- which variables figures may be entered for

generated_none : (letter k m K : ℕ) → enterable_at (generated_from letter k m) K ≡ false
generated_none letter k zero K = refl
generated_none letter k (suc m) zero = refl
generated_none letter k (suc m) (suc K) = generated_none letter (suc k) m K

enterable-append : (ds es : List Declaration) → ((K : ℕ) → enterable_at es K ≡ false) → (K : ℕ) → enterable_at (ds ++ es) K ≡ enterable_at ds K
enterable-append [] es h K = h K
enterable-append (d ∷ ds) es h zero = refl
enterable-append (d ∷ ds) es h (suc K) = enterable-append ds es h K

-- the same in the rewritten script as in the script
pub enterable_same : (G : Family) (s : Script) (K : ℕ) → enterable (rewritten G s) K ≡ enterable s K
enterable_same G s = enterable-append s.declarations _
    (λ K. enterable-append (generated_from 115 0 (variables s)) _
    (λ K'. enterable-append (generated_from 116 0 (variables s)) _ (λ K''. generated_none 103 1 (nesting_in s.statements) K'') K' ∙ generated_none 116 0 (variables s) K') K
    ∙ generated_none 115 0 (variables s) K)

beyond : (ds : List Declaration) (K : ℕ) → length ds ≤ K → enterable_at ds K ≡ false
beyond [] K h = refl
beyond (d ∷ ds) zero h = absurd (omega arith)
beyond (d ∷ ds) (suc K) h = beyond ds K (omega arith)

pub not_enterable : (G : Family) (s : Script) (K : ℕ) → variables s ≤ K → enterable (rewritten G s) K ≡ false
not_enterable G s K h = enterable_same G s K ∙ beyond s.declarations K h

-- ---- how many variables the rewritten script has

generated-length : (letter k m : ℕ) → length (generated_from letter k m) ≡ m
generated-length letter k zero = refl
generated-length letter k (suc m) = ap suc (generated-length letter (suc k) m)

pub count_rewritten : (G : Family) (s : Script) → variables (rewritten G s) ≡ variables s + variables s + variables s + nesting_in s.statements
count_rewritten G s =
    let n = variables s in
    let a = length-append s.declarations (generated_from 115 0 n ++ (generated_from 116 0 n ++ generated_from 103 1 (nesting_in s.statements))) in
    let b = length-append (generated_from 115 0 n) (generated_from 116 0 n ++ generated_from 103 1 (nesting_in s.statements)) in
    let c = length-append (generated_from 116 0 n) (generated_from 103 1 (nesting_in s.statements)) in
    let x = generated-length 115 0 n in
    let y = generated-length 116 0 n in
    let w = generated-length 103 1 (nesting_in s.statements) in
    omega arith

-- ---- a script that can be rewritten

module _ (G : Family) (L : FamilyLaws G) (s : Script) (wf : WellFormed s) (ok : Rewritable G s) where
  abbrev F : Interpretation
  F = machine G

  abbrev pub script : named.Script
  script = named_in s.statements

  pub codes : All (IsMachineCode F) (level_values s)
  codes = all_codes_lem G (levels_of s.declarations) ok.declared

  pub level_code : (K : ℕ) → IsCode G (get_or (levels_of s.declarations) K 0)
  level_code = code_at G L (levels_of s.declarations) ok.declared

  pub well : NamedWellFormed (IsMachineCode F) (length (level_values s)) script
  well = subst (λ n. NamedWellFormed (IsMachineCode F) n script) (sym (count_levels s)) (well_in G (variables s) s.statements wf.legal ok.written)

  pub reads : Reads (length (level_values s)) script
  reads = subst (λ n. Reads n script) (sym (count_levels s)) (reads_in G (variables s) s.statements wf.legal)

  -- row p of the rewritten script
  pub rewritten_row : (p : ℕ) → program_row (rewritten G s) p ≡ tree_row (length (level_values s)) (program F (level_values s) script p)
  rewritten_row p =
      row_at_lem (length (level_values s)) (cseq (named_first_rows 0 (level_values s)) (rewrite F (length (level_values s)) 0 script)) (rewritten G s).statements
      (rewritten-onto G (length (level_values s)) (levels_of s.declarations) s.statements ok.unstopped
      ∙ ap (λ n. tree.join (first_rows n 0 (levels_of s.declarations)) (rewritten_in n (joiner G) 0 s.statements)) (count_levels s)) p

  pub rewritten-rows : program_row (rewritten G s) ≡ (λ p. tree_row (length (level_values s)) (program F (level_values s) script p))
  rewritten-rows = fun_ext rewritten_row

  -- row p of the script as bought
  pub bought_rows : program_row s ≡ (λ p. tree_row (length (level_values s)) (named_plain_rows F script p))
  bought_rows = fun_ext (row_at_lem (length (level_values s)) (plain F script) s.statements (bought_onto G (length (level_values s)) s.statements ok.unstopped))

  -- the place of row p
  pub place_of_row : (p : ℕ) → place_at (places_in_script G s) p ≡ place_of (laid F (level_values s) script p)
  place_of_row p =
      ap (λ l. place_at l p)
      (ap (λ n. plain_rows 0 n ++ places_in n (joiner G) 0 s.statements) (sym (count_levels s))
      ∙ sym (script_places G (length (level_values s)) (level_values s) s.statements ok.unstopped))
      ∙ place_at_lem (lay 0 0 (cseq (named_first_rows 0 (level_values s)) (rewrite F (length (level_values s)) 0 script))) p

-- a level that flows to the reader by the operator does so by the family's join
pub flows_family : (G : Family) → FamilyLaws G → (a reader : ℕ) → IsCode G a → IsCode G reader → Flows (machine G) (pos reader) (pos a) → flows G a reader ≡ true
flows_family G L a reader ca cr f =
    let e : G.join a reader ≡ reader = same (sym (joiner_joins G L a reader ca cr) ∙ f) in
    ap₂ (λ x y. (x && y) && eqb (G.join a reader) reader) ca cr ∙ ap (λ x. eqb x reader) e ∙ eq-eqb reader reader refl
  where
    same : {i j : ℕ} → pos i ≡ pos j → i ≡ j
    same e = cc
