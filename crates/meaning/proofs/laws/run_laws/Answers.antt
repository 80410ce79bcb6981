use Rattle.meaning.proofs.RunLaws.{run_laws}
use Rattle.meaning.proofs.laws.run_laws.Goals as goal

pub returns : goal.returns
returns c = run_laws
