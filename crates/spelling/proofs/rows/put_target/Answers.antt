-- The name and `:=`.
use Rattle.spelling.proofs.Putting.{put_more}
use Rattle.spelling.proofs.rows.put_target.Goals as goal

pub returns : goal.returns
returns c = put_more c.put_variable.ensures c.put_symbol.ensures
