-- One token behind another.
use Rattle.spelling.proofs.Putting.{put_more}
use Rattle.spelling.proofs.rows.put_stop.Goals as goal

pub returns : goal.returns
returns c = put_more c.put_keyword.ensures (put_more c.put_numeral.ensures c.put_symbol.ensures)
