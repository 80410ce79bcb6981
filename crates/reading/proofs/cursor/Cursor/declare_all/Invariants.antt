use Rattle.std.proofs.Common.{◌≡◌, ◌-◌, ◌≤◌, List, length}
use Rattle.letters.specs.Texts.{Piece, Ending}
use Rattle.reading.specs.Heard.{heard}
use Rattle.reading.specs.Reads.{Ahead}
use Rattle.reading.specs.Declares.{DeclarationsRead}
use Rattle.reading.proofs.cursor.Cursor.declare_all.Given as goal

abbrev pub invariant-each : goal.invariant-each
invariant-each l = record {
  text : l.self.text ≡ l.fn.self.text;
  list : l.declarations.cells.ghost_name ≡ l.fn.declarations.cells.ghost_name;
  counted : l.declarations.used ≡ length l.names.items;
  few : length l.names.items ≤ 256;
  read : (ps : List Piece) (f : Ending) → Ahead l.fn.self.text.now 0 ps f → DeclarationsRead l.fn.self.text.now (heard l.names.items) ps f l.fn.declarations.cells.now l.declarations.cells.now l.self.at l.declarations.used;
}

abbrev pub decreases-each : goal.decreases-each
decreases-each l = length l.self.text.now - l.self.at
