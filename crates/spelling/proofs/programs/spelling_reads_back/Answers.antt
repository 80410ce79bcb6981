-- The law, as it is proved of all spellings.
use Rattle.spelling.proofs.ReadsBack.{reads_back}
use Rattle.spelling.proofs.programs.spelling_reads_back.Goals as goal

pub returns : goal.returns
returns c = reads_back
