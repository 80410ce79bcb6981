use Rattle.std.proofs.Common.{◌≡◌}
use Rattle.banks.specs.Cleared.{cleared}
use Rattle.banks.proofs.bank.reset.Given as goal

abbrev pub invariant-each : goal.invariant-each
invariant-each g l = (g.B.Bank.registers l.bank ≡ cleared l.k (g.B.Bank.registers l.initial.bank)) × (g.B.Bank.frame l.bank ≡ g.B.Bank.frame l.initial.bank)
