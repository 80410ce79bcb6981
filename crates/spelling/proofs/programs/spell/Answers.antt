-- The count decides.
use Rattle.std.proofs.Common.{rules}
use Rattle.spelling.proofs.Nodes.{held}
use Rattle.spelling.proofs.Whole.{turned, fitted, text_back}
use Rattle.spelling.proofs.programs.spell.Goals as goal

pub returns-in-Err : goal.returns-in-Err
returns-in-Err c = record { spelled = turned c.put_program-count.ensures c.in-Err.ensures c.new.ensures.0 c.new.ensures.1 c.blank.ensures; reads_back = tt }

pub returns : goal.returns
returns c =
    let p = c.args.program.now in
    let f = fitted c.put_program-count.ensures (search rules) c.blank-2.ensures in
    record { spelled = f; reads_back = text_back p (held p) f }
