use Rattle.std.proofs.Common.{[], ◌∷◌, ap, ◌∙◌}
use Rattle.reading.specs.Grammar.{keyword, expression_tokens}
use Rattle.reading.specs.Rule.{expression, the_keyword}
use Rattle.reading.proofs.Applications.{by_outcome}
use Rattle.reading.proofs.Carried.{taken_in}
use Rattle.reading.proofs.Sequences.{passed_then, fails_then}
use Rattle.reading.proofs.reader.Reader.condition.Goals as goal

pub returns-clause-read : goal.returns-clause-read
returns-clause-read c = λ text names ps f has a.
    let k = c.args.behind in
    let e = c.in_ok-expression.ensures.read text names ps f has a in
    let same = ap (λ t. t.now) c.in_ok-expression.ensures.kept.0 ∙ has.0 in
    by_outcome c.take.result _ _ _ _
    (λ _ s. record {
      tree = e.tree;
      passed = passed_then text names (expression 20 ∷ []) (the_keyword k ∷ []) ps f (expression_tokens names e.tree) (λ rest. keyword k ∷ rest) _ _ e.passed s;
      legal = record { ranged = e.ranged; shallow = e.shallow };
      laid = e.laid;
    })
    (λ q s. fails_then text names (expression 20 ∷ []) (the_keyword k ∷ []) ps f (expression_tokens names e.tree) _ q e.passed s)
    (taken_in same names e.passed.rest f e.passed.ahead c.take.result (the_keyword k ∷ []) (λ rest. keyword k ∷ rest) _ (c.take.ensures.read names e.passed.rest f))
