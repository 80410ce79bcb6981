use Rattle.meaning.proofs.laws.confinement_stands.Goals as goal
use Rattle.meaning.proofs.Confinement.{confined}

pub returns : goal.returns
returns c = confined
