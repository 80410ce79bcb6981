use Rattle.std.proofs.Common.{◌-◌, length, vec_items}
use Rattle.letters.specs.Texts.{pieces}
use Rattle.letters.proofs.Going.{Goes}
use Rattle.letters.proofs.texts.scan.Given as goal

abbrev pub invariant-each : goal.invariant-each
invariant-each l = Goes l.text l.at (pieces (vec_items l.found))

abbrev pub decreases-each : goal.decreases-each
decreases-each l = length l.text - l.at
