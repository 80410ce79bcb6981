-- The nodes from the place on grow fewer.
use Rattle.std.proofs.Common.{◌-◌, length}
use Rattle.spelling.proofs.expressions.+put_nodes.Given as goal

abbrev pub decreases-put_nodes : goal.decreases-put_nodes
decreases-put_nodes l = length l.program.now.nodes.now - l.at
