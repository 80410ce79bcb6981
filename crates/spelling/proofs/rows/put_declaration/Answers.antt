-- One token behind another.
use Rattle.spelling.proofs.Putting.{put_more}
use Rattle.spelling.proofs.rows.put_declaration.Goals as goal

pub returns : goal.returns
returns c =
    put_more c.put_keyword.ensures (put_more c.put_name.ensures (put_more c.put_symbol.ensures (put_more c.put_numeral.ensures c.put_symbol-2.ensures)))
