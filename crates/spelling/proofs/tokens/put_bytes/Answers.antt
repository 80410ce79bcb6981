-- One byte a turn.
use Rattle.std.proofs.Common.{sym, take_all}
use Rattle.std.proofs.lemmas.List.{take_more}
use Rattle.spelling.proofs.Putting.{put_none, put_one, put_more, put_as}
use Rattle.spelling.proofs.tokens.put_bytes.Goals as goal

pub each-init : goal.each-init
each-init c = put_none c.args.out.now

pub each-preserved : goal.each-preserved
each-preserved c =
    put_as (sym (take_more c.args.bytes.now c.each.byte-index 0 c.each-test.true))
    (put_more c.each.invariant (put_one c.push.ensures.same c.push.ensures.written c.push.ensures.count))

pub returns : goal.returns
returns c = put_as (take_all c.each.byte-index c.args.bytes.now c.each-test.false) c.each.invariant
