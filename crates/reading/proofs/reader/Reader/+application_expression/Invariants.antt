use Rattle.std.proofs.Common.{◌+◌, ◌*◌}
use Rattle.reading.proofs.reader.Reader.+application_expression.Given as goal

abbrev pub decreases-expression : goal.decreases-expression
decreases-expression l = 2 * l.room + 1

abbrev pub decreases-application : goal.decreases-application
decreases-application l = 2 * l.room + 2
