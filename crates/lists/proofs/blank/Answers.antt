-- Filling, one place a turn.
use Rattle.std.proofs.Common.{set, ap, ◌∙◌, arith}
use Rattle.lists.proofs.Laws.{fill_none, fill_more, fill-all}
use Rattle.lists.proofs.blank.Goals as goal

pub each-init : goal.each-init
each-init g c = (omega arith, fill_none c.args.xs.now c.args.from _ c.args.x (omega arith))

pub each-preserved : goal.each-preserved
each-preserved g c = (
  omega arith,
  ap (λ l. set l c.each.at c.args.x) c.each.invariant.1 ∙ fill_more c.args.xs.now c.args.from c.each.at c.args.x (omega arith) (omega arith),
)

pub returns : goal.returns
returns g c = c.each.invariant.1 ∙ fill-all c.args.xs.now c.args.from _ c.args.x (omega arith)
