use Rattle.meaning.proofs.FlowLaws.{flow_laws}
use Rattle.meaning.proofs.laws.flow_laws.Goals as goal

pub returns : goal.returns
returns c = flow_laws
