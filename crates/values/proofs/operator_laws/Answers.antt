use Rattle.values.proofs.Keeps.{laws}
use Rattle.values.proofs.operator_laws.Goals as goal

pub returns : goal.returns
returns c = laws
