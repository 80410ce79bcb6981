-- One part behind another.
use Rattle.spelling.proofs.Putting.{put_more}
use Rattle.spelling.proofs.rows.put_assign.Goals as goal

pub returns : goal.returns
returns c =
    λ e rest h. put_more c.put_target.ensures (put_more (c.put_expression.ensures e rest h) c.put_symbol.ensures)
