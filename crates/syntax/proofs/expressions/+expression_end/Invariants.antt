-- The depth that is left falls with each operator.
use Rattle.syntax.proofs.expressions.+expression_end.Given as goal

abbrev pub decreases-expression-end : goal.decreases-expression-end
decreases-expression-end l = l.depth
