use Rattle.meaning.proofs.Structured.{structured_runs}
use Rattle.meaning.proofs.laws.structured_runs_stand.Goals as goal

pub returns : goal.returns
returns c = structured_runs
