-- A rewritten script is a script again.
use Rattle.meaning.proofs.WellFormedness.{stands}
use Rattle.meaning.proofs.laws.rewritten_scripts_stand.Goals as goal

pub returns : goal.returns
returns c = stands
