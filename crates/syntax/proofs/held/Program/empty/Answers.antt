-- Three empty lists are the form of the empty script.
use Rattle.std.proofs.Common.{refl}
use Rattle.syntax.specs.Forms.{script_of}
use Rattle.syntax.specs.Decoder.{statements_of}
use Rattle.syntax.proofs.held.Program.empty.Goals as goal

pub invariant_of-result : goal.invariant_of-result
unfolding script_of statements_of
invariant_of-result c = record { ok = refl }
