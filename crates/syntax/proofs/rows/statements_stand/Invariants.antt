-- The rows that are left stand in front of those that the decoder has read, and what the code keeps of these.
use Rattle.std.proofs.Common.{◌≡◌, ◌++◌, length, drop}
use Rattle.syntax.proofs.Opens.{Sofar}
use Rattle.syntax.proofs.rows.statements_stand.Given as goal

abbrev pub invariant-each : goal.invariant-each
invariant-each l =
    let left = l.i-iterator.iter.iter.rest.now in
    record {
      from_0 : l.i-iterator.iter.count ≡ 0;
      front : left ++ drop (length left) l.rows ≡ l.rows;
      so : Sofar l.count l.nodes l.rows (length left) l.opens.items l.next;
      can_next : (goal.iterator-each).can_next l.i-iterator;
      is_finite : (goal.iterator-each).is_finite l.i-iterator;
    }
