-- The list of places has as many places as the rewritten script has rows, and each test among them is the place of an `if`.
use Rattle.std.proofs.Common.{◌≡◌, ℕ, zero, suc, ◌+◌, ◌-◌, Bool, true, false, ◌||◌, List, [], ◌∷◌, ◌++◌, length, sym, refl, ap, ◌∙◌, arith, length-append}
use Rattle.std.proofs.lemmas.List.{length-replicate}
use Rattle.values.specs.declared.Operator.{Operator}
use Rattle.syntax.specs.declared.form.Declaration.{Declaration}
use Rattle.syntax.specs.Trees.{Expression, Statement, Statements, none, then, skip, assign, release, write, stop, branch, while, single}
use Rattle.syntax.specs.Parts.{row_counts}
use mathlib.Core.Bool.{false≢true}
use Rattle.syntax.specs.Scripts.{Script, WellFormed}
use Rattle.syntax.proofs.Emitting.{row_counts_join}
use Rattle.meaning.specs.Families.{Family, FamilyLaws, joiner}
use Rattle.meaning.specs.Rules.{guard_register, guarded_level, stop_check, has_while_in, raised_after, tolls, padding, rewritten_arms, rewritten_of, rewritten_in}
use Rattle.meaning.specs.Rewriting.{variables, levels_of, first_rows, Rewritable, rewritten}
use Rattle.meaning.specs.Places.{Place, plain, plain_rows, check_places, arm_places, branch_places, places_of, places_in, places_in_script, is_test, is_if}
use Rattle.meaning.specs.Runs.{program_row}
use Rattle.meaning.proofs.NamedCode.{Reg, Code, cnil, cskip, cassign, crelease, cwrite, cstop, cseq, cif, cwhile, Row, rskip, rassign, rrelease, rwrite, rstop, rif, relse, rend, rwhile, rback, rnone, Laid, laid-at, lay, inside, after}
use Rattle.meaning.proofs.NamedRules.{rewrite}
use Rattle.meaning.proofs.Programs.{at, named_first_rows}
use Rattle.meaning.proofs.Numbers.{tree_row}
use Rattle.meaning.proofs.Interpretations.{machine}
use Rattle.meaning.proofs.Setup.{level_values, script, rewritten_row, place_of_row}

plain-length : (d n : ℕ) → length (plain_rows d n) ≡ n
plain-length d n = length-replicate n (plain d)

padding_rows : (n : ℕ) → row_counts (padding n) ≡ n
padding_rows zero = refl
padding_rows (suc n) = omega (arith, padding_rows n)

-- the `if`, `else` and `end` of two arms
arms_length : (d : ℕ) (X Y : List Place) → length (arm_places d X Y) ≡ 3 + length X + length Y
arms_length d X Y = omega (arith, length-append X (plain d ∷ (Y ++ (plain d ∷ []))), length-append Y (plain d ∷ []))

branch_length : (w : Bool) (g d : ℕ) (e : Expression) (A B : Statements) (X Y : List Place) → length X ≡ row_counts A → length Y ≡ row_counts B →
    length (branch_places w d (tolls A) (tolls B) X Y) ≡ row_counts (rewritten_arms w g e A B)
branch_length true g d e A B X Y x y = omega (arith, x, y, length-append (check_places d) (arm_places d X Y), arms_length d X Y)
branch_length false g d e A B X Y x y =
    let k : ℕ = tolls B - tolls A in
    let m : ℕ = tolls A - tolls B in
    omega (
      arith,
      x,
      y,
      arms_length d (X ++ plain_rows (suc d) k) (Y ++ plain_rows (suc d) m),
      length-append X (plain_rows (suc d) k),
      length-append Y (plain_rows (suc d) m),
      plain-length (suc d) k,
      plain-length (suc d) m,
      row_counts_join A (padding k),
      row_counts_join B (padding m),
      padding_rows k,
      padding_rows m,
    )

module _ (v : ℕ) (j : Operator) where
  mutual
    length_of : (d : ℕ) (s : Statement) → length (places_of v j d s) ≡ row_counts (rewritten_of v j d s)
    length_of d skip = refl
    length_of d (assign k e) = refl
    length_of d (release k e) = refl
    length_of d (write t e) = refl
    length_of d (stop n) = refl
    length_of d (branch e A B) =
        let w : Bool = has_while_in A || has_while_in B in
        let g : ℕ = guard_register v d in
        let A' : Statements = rewritten_in v j (suc d) A in
        let B' : Statements = rewritten_in v j (suc d) B in
        let arms = branch_length w g d e A' B' (places_in v j (suc d) A) (places_in v j (suc d) B) (length_in (suc d) A) (length_in (suc d) B) in
        let rest : List Place = plain_rows d (row_counts (raised_after v j g A B)) in
        omega (
          arith,
          arms,
          length-append (branch_places w d (tolls A') (tolls B') (places_in v j (suc d) A) (places_in v j (suc d) B)) rest,
          plain-length d (row_counts (raised_after v j g A B)),
          row_counts_join (rewritten_arms w g e A' B') (raised_after v j g A B),
        )
    length_of d (while e A) =
        let a = length_in (suc d) A in
        let X : List Place = places_in v j (suc d) A in
        let g : ℕ = guard_register v d in
        let again : Statements = then (assign g (guarded_level v j (suc d) e)) (single (stop_check g 2)) in
        omega (arith, a, length-append X (plain (suc d) ∷ (check_places (suc d) ++ (plain d ∷ []))), row_counts_join (rewritten_in v j (suc d) A) again)

    length_in : (d : ℕ) (l : Statements) → length (places_in v j d l) ≡ row_counts (rewritten_in v j d l)
    length_in d none = refl
    length_in d (then s l) =
        omega (arith, length_of d s, length_in d l, length-append (places_of v j d s) (places_in v j d l), row_counts_join (rewritten_of v j d s) (rewritten_in v j d l))

  first_length : (k : ℕ) (ls : List ℕ) → row_counts (first_rows v k ls) ≡ length ls
  first_length k [] = refl
  first_length k (l ∷ ls) = omega (arith, first_length (suc k) ls)

levels_length : (ds : List Declaration) → length (levels_of ds) ≡ length ds
levels_length [] = refl
levels_length (d ∷ ds) = ap suc (levels_length ds)

pub aligned : (G : Family) (s : Script) → length (places_in_script G s) ≡ row_counts (rewritten G s).statements
aligned G s =
    let n : ℕ = variables s in
    let first : Statements = first_rows n 0 (levels_of s.declarations) in
    omega (
      arith,
      length-append (plain_rows 0 n) (places_in n (joiner G) 0 s.statements),
      plain-length 0 n,
      length_in n (joiner G) 0 s.statements,
      first_length n (joiner G) 0 (levels_of s.declarations),
      levels_length s.declarations,
      row_counts_join first (rewritten_in n (joiner G) 0 s.statements),
    )

-- ---- tests

abbrev named_if : Row Reg → Bool
named_if rskip = false
named_if (rassign r e) = false
named_if (rrelease r e) = false
named_if (rwrite t e) = false
named_if (rstop n) = false
named_if (rif e m) = true
named_if (relse m) = false
named_if rend = false
named_if (rwhile e m) = false
named_if (rback m) = false
named_if rnone = false

abbrev OnTest : Laid Reg → Type 0
OnTest x = x.test ≡ true → named_if x.row ≡ true

abbrev AllOnTests : List (Laid Reg) → Type 0
AllOnTests [] = Unit {0}
AllOnTests (x ∷ xs) = OnTest x × AllOnTests xs

no_test : (D : ℕ) (r : Row Reg) → OnTest (laid-at D r)
no_test D r h = absurd (false≢true h)

tests-append : (xs ys : List (Laid Reg)) → AllOnTests xs → AllOnTests ys → AllOnTests (xs ++ ys)
tests-append [] ys x y = y
tests-append (a ∷ xs) ys x y = (x.0, tests-append xs ys x.1 y)

tests_in_code : (D b : ℕ) (A : Code Reg) → AllOnTests (lay D b A)
tests_in_code D b cnil = tt
tests_in_code D b cskip = (no_test D rskip, tt)
tests_in_code D b (cassign r e) = (no_test D (rassign r e), tt)
tests_in_code D b (crelease r e) = (no_test D (rrelease r e), tt)
tests_in_code D b (cwrite t e) = (no_test D (rwrite t e), tt)
tests_in_code D b (cstop n) = (no_test D (rstop n), tt)
tests_in_code D b (cseq A B) = tests-append (lay D b A) (lay D (after b A) B) (tests_in_code D b A) (tests_in_code D (after b A) B)
tests_in_code D b (cif x e A B) =
    let m = after (suc b) A in
    let n = after (suc m) B in (
      λ h. refl,
      tests-append (lay (inside x D) (suc b) A) (laid-at D (relse n) ∷ (lay (inside x D) (suc m) B ++ (laid-at D rend ∷ []))) (tests_in_code (inside x D) (suc b) A)
          (no_test D (relse n), tests-append (lay (inside x D) (suc m) B) (laid-at D rend ∷ []) (tests_in_code (inside x D) (suc m) B) (no_test D rend, tt)),
    )
tests_in_code D b (cwhile e A) =
    let m = after (suc b) A in
    (no_test D (rwhile e m), tests-append (lay (suc D) (suc b) A) (laid-at D (rback b) ∷ []) (tests_in_code (suc D) (suc b) A) (no_test D (rback b), tt))

test_at : (xs : List (Laid Reg)) → AllOnTests xs → (p : ℕ) → OnTest (at xs p)
test_at [] a p h = absurd (false≢true h)
test_at (x ∷ xs) a zero h = a.0 h
test_at (x ∷ xs) a (suc p) h = test_at xs a.1 p h

if_row : (n : ℕ) (r : Row Reg) → is_if (tree_row n r) ≡ named_if r
if_row n rskip = refl
if_row n (rassign r e) = refl
if_row n (rrelease r e) = refl
if_row n (rwrite t e) = refl
if_row n (rstop k) = refl
if_row n (rif e m) = refl
if_row n (relse m) = refl
if_row n rend = refl
if_row n (rwhile e m) = refl
if_row n (rback m) = refl
if_row n rnone = refl

pub tests_are_ifs : (G : Family) → FamilyLaws G → (s : Script) → WellFormed s → Rewritable G s → (p : ℕ) → is_test G s p ≡ true → is_if (program_row (rewritten G s) p) ≡ true
tests_are_ifs G L s wf ok p h =
    let n : ℕ = length (level_values s) in
    let code : Code Reg = cseq (named_first_rows 0 (level_values s)) (rewrite (machine G) n 0 (script G L s wf ok)) in
    let here = ap (λ (x : Place). x.test) (sym (place_of_row G L s wf ok p)) ∙ h in
    ap is_if (rewritten_row G L s wf ok p) ∙ if_row n (at (lay 0 0 code) p).row ∙ test_at (lay 0 0 code) (tests_in_code 0 0 code) p here
