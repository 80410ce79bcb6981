-- The names before the rest differ from all behind them.
use Rattle.std.proofs.Common.{◌≡◌, length}
use Rattle.syntax.specs.Names.{distinct, spellings}
use Rattle.syntax.proofs.names.all_distinct.Given as goal

abbrev pub invariant-each : goal.invariant-each
invariant-each l = distinct (spellings l.declarations) ≡ distinct (spellings l.rest)

abbrev pub decreases-each : goal.decreases-each
decreases-each l = length l.rest
