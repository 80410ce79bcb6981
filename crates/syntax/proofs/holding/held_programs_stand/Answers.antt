-- What is known of every held program.
use Rattle.syntax.proofs.HeldRows.{held_program}
use Rattle.syntax.proofs.holding.held_programs_stand.Goals as goal

pub returns : goal.returns
returns c = held_program
