-- An expression begins within the nodes.
use Rattle.spelling.proofs.Nodes.{begins_within}
use Rattle.spelling.proofs.expressions.put_expression.Goals as goal

pub put_nodes-requires : goal.put_nodes-requires
put_nodes-requires c = record { within = begins_within c.args.program.now c.args.at c.requires; stands = c.requires }
