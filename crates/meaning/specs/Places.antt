-- The rows of a rewritten script, one by one: how many ifs and whiles of the script stand around each, and which of them test whether a line or a
-- release is withheld.
--
-- The list of places runs beside the rewritten rows: place p belongs to row p. It is written from the script, not from the rows, and the rows
-- carry no marks. `if`s that rewriting inserts do not count as ifs around a place.
--
-- A row's guard level is P at its place. A private branch is a place where the guard level's value is not 0. A line or a release is withheld
-- where its test, the inserted `if`, takes `else`.
--
-- Example: `if h then write 0 1; else skip; end;` has, for the rows of its rewriting, the places
--   0 (guard), 0 (if), 1 test, 1, 1, 1, 1 (the line with its test), 0 (else), 1 (skip), 1, 1 (padding), 0 (end)
use Rattle.std.specs.Prelude.{ℕ, zero, suc, ◌-◌, Bool, true, false, ◌||◌, List, [], ◌∷◌, ◌++◌, replicate, Some, None, Option}
use Rattle.values.specs.declared.Operator.{Operator}
use Rattle.syntax.specs.Trees.{Expression, Statement, Statements, none, then, skip, assign, release, write, stop, branch, while}
use Rattle.syntax.specs.Form.{TreeRow, skips, assigns, releases, writes, stops, branches, leaves, closes, repeats, goes_back}
use Rattle.syntax.specs.Parts.{row_counts}
use Rattle.syntax.specs.Scripts.{Script}
use Rattle.meaning.specs.Families.{Family, joiner}
use Rattle.meaning.specs.Rules.{guard_of, guard_register, has_while_in, raised_after, tolls, rewritten_in}
use Rattle.meaning.specs.Rewriting.{variables}

pub record Place : Type 0 where
  -- ifs and whiles of the script around it
  pub depth : ℕ
  -- whether it tests if a line or a release is withheld
  pub test : Bool

abbrev pub plain : ℕ → Place
plain d = record { depth = d; test = false }

abbrev pub testing : ℕ → Place
testing d = record { depth = d; test = true }

-- n rows of one depth, none of them a test
abbrev pub plain_rows : ℕ → ℕ → List Place
plain_rows d n = replicate n (plain d)

-- the rows of a stop check
abbrev pub check_places : ℕ → List Place
check_places d = plain_rows d 5

-- the `if`, its first arm, `else`, its second arm, `end`
abbrev pub arm_places : ℕ → List Place → List Place → List Place
arm_places d A B = plain d ∷ (A ++ (plain d ∷ (B ++ (plain d ∷ []))))

-- the rewritten arms of an `if`: behind a stop check, or padded to equal tolls a and b
abbrev pub branch_places : Bool → ℕ → ℕ → ℕ → List Place → List Place → List Place
branch_places true d a b A B = check_places d ++ arm_places d A B
branch_places false d a b A B = arm_places d (A ++ plain_rows (suc d) (b - a)) (B ++ plain_rows (suc d) (a - b))

abbrev mutual
  pub places_of : ℕ → Operator → ℕ → Statement → List Place
  places_of v j d skip = plain_rows d 1
  places_of v j d (assign k e) = plain_rows d 3
  places_of v j d (release k e) = testing d ∷ plain_rows d 8
  places_of v j d (write t e) = testing d ∷ plain_rows d 4
  places_of v j d (stop n) = plain_rows d 1
  places_of v j d (branch e A B) =
      plain d
      ∷ (branch_places (has_while_in A || has_while_in B) d (tolls (rewritten_in v j (suc d) A)) (tolls (rewritten_in v j (suc d) B)) (places_in v j (suc d) A) (places_in v j (suc d) B)
      ++ plain_rows d (row_counts (raised_after v j (guard_register v d) A B)))
  places_of v j d (while e A) =
      plain d
      ∷ (check_places d
      ++ (plain d ∷ (places_in v j (suc d) A ++ (plain (suc d) ∷ (check_places (suc d) ++ (plain d ∷ []))))))

  pub places_in : ℕ → Operator → ℕ → Statements → List Place
  places_in v j d none = []
  places_in v j d (then s l) = places_of v j d s ++ places_in v j d l

-- the places of the rows of a rewritten script: first a row for each variable
abbrev pub places_in_script : Family → Script → List Place
places_in_script G s = plain_rows 0 (variables s) ++ places_in (variables s) (joiner G) 0 s.statements

-- the place of row p; behind the last row there is none
abbrev pub place_at : List Place → ℕ → Place
place_at [] p = plain 0
place_at (x ∷ places) zero = x
place_at (x ∷ places) (suc p) = place_at places p

-- the guard level of row p
abbrev pub guard_at : Family → Script → ℕ → Expression
guard_at G s p = guard_of (variables s) (place_at (places_in_script G s) p).depth

-- whether a row is an `if`
abbrev pub is_if : Option TreeRow → Bool
is_if None = false
is_if (Some skips) = false
is_if (Some (assigns v e)) = false
is_if (Some (releases v e)) = false
is_if (Some (writes t e)) = false
is_if (Some (stops n)) = false
is_if (Some (branches e m)) = true
is_if (Some (leaves m)) = false
is_if (Some closes) = false
is_if (Some (repeats e m)) = false
is_if (Some (goes_back m)) = false

-- whether row p tests if a line or a release is withheld
abbrev pub is_test : Family → Script → ℕ → Bool
is_test G s p = (place_at (places_in_script G s) p).test
