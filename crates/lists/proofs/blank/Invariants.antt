-- The places from `from` up to `at` are filled.
use Rattle.std.proofs.Common.{◌≡◌, ◌-◌, ◌≤◌, length, replicate}
use Rattle.lists.specs.Overlay.{overlay}
use Rattle.lists.proofs.blank.Given as goal

abbrev pub invariant-each : goal.invariant-each
invariant-each g l = (l.at - l.from ≤ length l.initial.xs - l.from) × (l.xs ≡ overlay l.initial.xs l.from (replicate (l.at - l.from) l.x))
