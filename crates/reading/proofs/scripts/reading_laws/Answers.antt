use Rattle.reading.proofs.Accepts.{one_script}
use Rattle.reading.proofs.Completes.{fronts_complete}
use Rattle.reading.proofs.Fronts.{fronts_decide, places_within}
use Rattle.reading.proofs.Wholes.{refused_texts}
use Rattle.reading.proofs.scripts.reading_laws.Goals as goal

pub returns : goal.returns
returns c = record { one_script = one_script; refused_texts = refused_texts; fronts_decide = fronts_decide; fronts_complete = fronts_complete; places_within = places_within }
