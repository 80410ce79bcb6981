-- The rewriting of a script: which scripts may be rewritten, and what a script is rewritten to.
--
-- A script may be rewritten for a family where it has at most 64 variables, is nested at most 16 deep with expressions at most 16 deep, has no
-- name that begins with `_` and no `stop`, and declares and writes at codes of the family only.
--
-- The rewritten script declares the own variables as before, then all `_s`, all `_t`, and `_g1` up to the deepest nesting, at level 0. Its first
-- rows set each `_sK` to the level of K; then come the rewritten statements.
--
-- Example: `var p : 0; write 0 p;` is rewritten for the ladder to
--   var p : 0 ; var _s0 : 0 ; var _t0 : 0 ; _s0 := 0 ; if ( ( ( _s0 max 0 ) max 0 ) = 0 ) then write 0 p ; else skip ; end ;
use Rattle.std.specs.Prelude.{◌≡◌, ℕ, zero, suc, ◌+◌, ◌-◌, ◌≤◌, max, Bool, true, false, not, ◌&&◌, List, [], ◌∷◌, ◌++◌, map, length, replicate, decimal, ◌==◌, slice_index}
use Rattle.syntax.specs.declared.form.Name.{Name}
use Rattle.syntax.specs.declared.form.Declaration.{Declaration}
use Rattle.syntax.specs.Trees.{Statement, Statements, none, then, skip, assign, release, write, stop, branch, while, join, number, depth_of, nesting_in}
use Rattle.syntax.specs.Scripts.{Script}
use Rattle.meaning.specs.Families.{Family, joiner}
use Rattle.meaning.specs.Rules.{level_register, rewritten_in}

abbrev pub variables : Script → ℕ
variables s = length s.declarations

abbrev pub levels_of : List Declaration → List ℕ
levels_of ds = map (λ d. d.level) ds

-- whether a name begins with `_`
abbrev pub is_reserved : Name → Bool
is_reserved n = slice_index n.bytes 0 == 95

abbrev pub none_reserved : List Declaration → Bool
none_reserved [] = true
none_reserved (d ∷ ds) = not (is_reserved d.name) && none_reserved ds

-- whether declared levels, and written levels, are codes
abbrev pub all_codes : Family → List ℕ → Bool
all_codes G [] = true
all_codes G (l ∷ ls) = G.code l && all_codes G ls

abbrev mutual
  pub writes_codes : Family → Statement → Bool
  writes_codes G skip = true
  writes_codes G (assign k e) = true
  writes_codes G (release k e) = true
  writes_codes G (write t e) = G.code t
  writes_codes G (stop n) = true
  writes_codes G (branch e A B) = writes_codes_in G A && writes_codes_in G B
  writes_codes G (while e A) = writes_codes_in G A

  pub writes_codes_in : Family → Statements → Bool
  writes_codes_in G none = true
  writes_codes_in G (then s l) = writes_codes G s && writes_codes_in G l

-- whether there is no `stop`
abbrev mutual
  pub never_stops : Statement → Bool
  never_stops skip = true
  never_stops (assign k e) = true
  never_stops (release k e) = true
  never_stops (write t e) = true
  never_stops (stop n) = false
  never_stops (branch e A B) = never_stops_in A && never_stops_in B
  never_stops (while e A) = never_stops_in A

  pub never_stops_in : Statements → Bool
  never_stops_in none = true
  never_stops_in (then s l) = never_stops s && never_stops_in l

-- the depth of the deepest expression
abbrev mutual
  pub deepest : Statement → ℕ
  deepest skip = 0
  deepest (assign k e) = depth_of e
  deepest (release k e) = depth_of e
  deepest (write t e) = depth_of e
  deepest (stop n) = 0
  deepest (branch e A B) = max (depth_of e) (max (deepest_in A) (deepest_in B))
  deepest (while e A) = max (depth_of e) (deepest_in A)

  pub deepest_in : Statements → ℕ
  deepest_in none = 0
  deepest_in (then s l) = max (deepest s) (deepest_in l)

pub record Rewritable (G : Family) (s : Script) : Type 0 where
  pub few : variables s ≤ 64
  pub nested : nesting_in s.statements ≤ 16
  pub shallow : deepest_in s.statements ≤ 16
  pub names : none_reserved s.declarations ≡ true
  pub declared : all_codes G (levels_of s.declarations) ≡ true
  pub unstopped : never_stops_in s.statements ≡ true
  pub written : writes_codes_in G s.statements ≡ true

-- the declaration of `_`, a letter and a number, at level 0; 95 is `_`
abbrev pub generated : ℕ → ℕ → Declaration
generated letter k = record {
  name = record {
    length = 2 + length (decimal k);
    bytes = 95 ∷ letter ∷ (decimal k ++ replicate (13 - length (decimal k)) 0);
  };
  level = 0;
}

-- n of them, from number k on
abbrev pub generated_from : ℕ → ℕ → ℕ → List Declaration
generated_from letter k zero = []
generated_from letter k (suc n) = generated letter k ∷ generated_from letter (suc k) n

-- 115 is `s`, 116 is `t`, 103 is `g`
abbrev pub rewritten_declarations : Script → List Declaration
rewritten_declarations s =
    s.declarations
    ++ (generated_from 115 0 (variables s)
    ++ (generated_from 116 0 (variables s)
    ++ generated_from 103 1 (nesting_in s.statements)))

-- `_sK` is set to the level of K, from K = k on
abbrev pub first_rows : ℕ → ℕ → List ℕ → Statements
first_rows v k [] = none
first_rows v k (l ∷ ls) = then (assign (level_register v k) (number l)) (first_rows v (suc k) ls)

abbrev pub rewritten : Family → Script → Script
rewritten G s = record {
  declarations = rewritten_declarations s;
  statements = join (first_rows (variables s) 0 (levels_of s.declarations)) (rewritten_in (variables s) (joiner G) 0 s.statements);
}
