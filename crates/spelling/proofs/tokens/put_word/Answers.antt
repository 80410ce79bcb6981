-- The bytes, and the separator behind them.
use Rattle.spelling.proofs.Putting.{put_one, put_more}
use Rattle.spelling.proofs.tokens.put_word.Goals as goal

pub returns : goal.returns
returns c = put_more c.put_bytes.ensures (put_one c.push.ensures.same c.push.ensures.written c.push.ensures.count)
