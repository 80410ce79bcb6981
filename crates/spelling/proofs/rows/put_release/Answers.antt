-- One part behind another.
use Rattle.spelling.proofs.Putting.{put_more}
use Rattle.spelling.proofs.rows.put_release.Goals as goal

pub returns : goal.returns
returns c =
    λ e rest h. put_more c.put_target.ensures (put_more c.put_keyword.ensures (put_more c.put_symbol.ensures
    (put_more (c.put_expression.ensures e rest h) (put_more c.put_symbol-2.ensures c.put_symbol-3.ensures))))
