-- The name that was read is the variable's.
use Rattle.std.proofs.Common.{[], ◌∷◌, ◌++◌, ap}
use Rattle.spelling.proofs.Putting.{put_as}
use Rattle.spelling.proofs.Nodes.{name_at}
use Rattle.spelling.proofs.expressions.put_variable.Goals as goal

pub returns : goal.returns
returns c = put_as (ap (λ l. l ++ (32 ∷ [])) (name_at c.args.program.now.declarations.now c.args.variable _ c.requires)) c.put_name.ensures
