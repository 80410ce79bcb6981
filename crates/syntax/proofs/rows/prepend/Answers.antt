-- A row that is a statement.
use Rattle.syntax.proofs.Opens.{plain_prepended}
use Rattle.syntax.proofs.rows.prepend.Goals as goal

pub returns-in-Skip : goal.returns-in-Skip
returns-in-Skip c = λ e l gs s. plain_prepended _ _ e l gs _ c.in-Skip.is s
