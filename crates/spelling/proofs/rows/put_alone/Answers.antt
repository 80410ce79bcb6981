-- The keyword and `;`.
use Rattle.spelling.proofs.Putting.{put_more}
use Rattle.spelling.proofs.rows.put_alone.Goals as goal

pub returns : goal.returns
returns c = put_more c.put_keyword.ensures c.put_symbol.ensures
