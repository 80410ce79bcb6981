-- One write, within the list or past its end.
use Rattle.std.proofs.Common.{sym}
use Rattle.lists.proofs.Laws.{overlay_one, overlay_past}
use Rattle.lists.proofs.Places.set.Goals as goal

pub returns-then-i-self-clause-written : goal.returns-then-i-self-clause-written
returns-then-i-self-clause-written g c = sym (overlay_one c.args.self.now.cells.now c.args.i c.args.x c.if-i-self.true)

pub returns-else-i-self-clause-written : goal.returns-else-i-self-clause-written
returns-else-i-self-clause-written g c = sym (overlay_past _ _ _ c.if-i-self.false)
