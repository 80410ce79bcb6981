-- What stands in a reader before and after it has read a part of a script.
use Rattle.std.specs.Prelude.{◌≡◌, ℕ, true, false, List, [], ◌∷◌, length, Ok, Err, Bool, Result}
use Rattle.refusals.specs.declared.Refusal.{Refusal}
use Rattle.letters.specs.Texts.{Piece, Ending}
use Rattle.reading.specs.declared.reader.Reader.{Reader}
use Rattle.reading.specs.Grammar.{Terminal}
use Rattle.reading.specs.Heard.{heard}
use Rattle.reading.specs.Rule.{Expected, statements, judge}
use Rattle.reading.specs.Reads.{Progress, StatementRead, ListRead, ListGoing, Fails}

-- the text, the names and the lists are the same; what stands in the lists may have changed
abbrev pub Kept : Reader → Reader → Type 0
Kept r s =
    (s.cursor.text ≡ r.cursor.text) × (s.names ≡ r.names)
    × (s.rows.now.cells.ghost_name ≡ r.rows.now.cells.ghost_name) × (length s.rows.now.cells.now ≡ length r.rows.now.cells.now)
    × (s.nodes.now.cells.ghost_name ≡ r.nodes.now.cells.ghost_name) × (length s.nodes.now.cells.now ≡ length r.nodes.now.cells.now)
    × (s.rows.ghost_name ≡ r.rows.ghost_name) × (s.nodes.ghost_name ≡ r.nodes.ghost_name)

-- the text that is read, and the names that are declared
abbrev pub Has : Reader → List ℕ → List (List ℕ) → Type 0
Has r text names = (r.cursor.text.now ≡ text) × (heard r.names.now ≡ names)

-- no row is written
abbrev pub Rowless : Reader → Reader → Type 0
Rowless r s = (s.rows.now.cells.now ≡ r.rows.now.cells.now) × (s.rows.now.used ≡ r.rows.now.used)

abbrev pub progress : Reader → Progress
progress r = record { at = r.cursor.at; rows = r.rows.now.used; nodes = r.nodes.now.used }

module _ (text : List ℕ) (names : List (List ℕ)) (room : ℕ) where
  -- the rest of a statement is read
  abbrev pub StatementReadBy : (X : List Expected) (first : Terminal) (ps : List Piece) (f : Ending) → Reader → Reader → Type 0
  StatementReadBy X first ps f r s = StatementRead text names room X first ps f r.rows.now.cells.now r.nodes.now.cells.now (progress r) s.rows.now.cells.now s.nodes.now.cells.now (progress s)

  -- a list of statements is read
  abbrev pub ListReadBy : (ps : List Piece) (f : Ending) → Reader → Reader → Type 0
  ListReadBy ps f r s = ListRead text names room ps f r.rows.now.cells.now r.nodes.now.cells.now (progress r) s.rows.now.cells.now s.nodes.now.cells.now (progress s)

  -- statements of a list are read, and the list goes on
  abbrev pub ListGoingBy : (ps : List Piece) (f : Ending) → Reader → Reader → Type 0
  ListGoingBy ps f r s = ListGoing text names room ps f r.rows.now.cells.now r.nodes.now.cells.now (progress r) s.rows.now.cells.now s.nodes.now.cells.now (progress s)

  -- no statement begins
  abbrev pub NoneRead : (ps : List Piece) (f : Ending) → Reader → Reader → Type 0
  NoneRead ps f r s =
      (s.rows.now.cells.now ≡ r.rows.now.cells.now) × (s.nodes.now.cells.now ≡ r.nodes.now.cells.now) × (progress s ≡ progress r)
      × ((K : List Expected) → judge (length text) ps f names (statements room ∷ K) ≡ judge (length text) ps f names K)

  -- one statement of a list: there is one, there is none, or the text is refused
  abbrev pub OneReadBy : (ps : List Piece) (f : Ending) → Reader → Reader → Result Bool Refusal → Type 0
  OneReadBy ps f r s (Ok true) = ListGoingBy ps f r s
  OneReadBy ps f r s (Ok false) = NoneRead ps f r s
  OneReadBy ps f r s (Err e) = Fails text names (statements room ∷ []) ps f e
