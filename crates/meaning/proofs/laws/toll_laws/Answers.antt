-- Tolls are steps, and both arms of a padded `if` have the same toll.
use Rattle.meaning.proofs.Tolls.{toll_laws}
use Rattle.meaning.proofs.laws.toll_laws.Goals as goal

pub returns : goal.returns
returns c = toll_laws
