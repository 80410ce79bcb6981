use Rattle.std.proofs.Common.{ℕ, ◌+◌, ◌-◌, ◌*◌, ◌≤◌, List, length}
use Rattle.letters.specs.Texts.{Piece, Ending}
use Rattle.reading.specs.Reads.{Ahead}
use Rattle.reading.specs.Readers.{Has, Kept, ListGoingBy}
use Rattle.reading.proofs.reader.Reader.+branch_list_repeat_statement.Given as goal

abbrev pub decreases-list : goal.decreases-list
decreases-list l = 3 * l.room + 2

abbrev pub decreases-statement : goal.decreases-statement
decreases-statement l = 3 * l.room + 1

abbrev pub decreases-branch : goal.decreases-branch
decreases-branch l = 3 * l.room + 3

abbrev pub decreases-repeat : goal.decreases-repeat
decreases-repeat l = 3 * l.room + 3

abbrev pub invariant-list-each : goal.invariant-list-each
invariant-list-each l =
    Kept l.initial.self l.self × (l.initial.self.cursor.at ≤ l.self.cursor.at)
    × ((text : List ℕ) (names : List (List ℕ)) (ps : List Piece) (f : Ending) → Has l.initial.self text names → Ahead text l.initial.self.cursor.at ps f → ListGoingBy text names l.room ps f l.initial.self l.self)

abbrev pub decreases-list-each : goal.decreases-list-each
decreases-list-each l = length l.self.cursor.text.now - l.self.cursor.at
