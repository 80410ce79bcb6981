use Rattle.std.proofs.Common.{rules, [], ◌∷◌, ap, ◌∙◌}
use Rattle.letters.specs.declared.symbols.Symbol.TheVariants.{Open, Close}
use Rattle.reading.specs.Grammar.{symbol, expression_tokens}
use Rattle.reading.specs.Rule.{the_symbol, expression}
use Rattle.reading.specs.Reads.{Fails}
use Rattle.reading.proofs.Applications.{by_outcome}
use Rattle.reading.proofs.Carried.{passed_in, taken_in}
use Rattle.reading.proofs.Sequences.{passed_then, fails_then, fails_first}
use Rattle.reading.proofs.reader.Reader.take_released.Goals as goal

pub returns-in_err-expression-clause-read : goal.returns-in_err-expression-clause-read
returns-in_err-expression-clause-read c = λ text names ps f has a.
    let q = c.in_err-expression.field-0.0 in
    let o = passed_in has.0 names ps f a (the_symbol Open ∷ []) (λ rest. symbol Open ∷ rest) (c.in_ok-take.ensures.read names ps f) in
    let same = ap (λ t. t.now) c.in_ok-take.ensures.same ∙ has.0 in
    let failed : Fails text names (the_symbol Open ∷ expression 20 ∷ the_symbol Close ∷ []) ps f q = fails_then text names (the_symbol Open ∷ []) (expression 20 ∷ the_symbol Close ∷ []) ps f (λ rest. symbol Open ∷ rest) _ q o
    (fails_first text names (expression 20 ∷ []) (the_symbol Close ∷ []) o.rest f q (c.in_err-expression.ensures.read text names o.rest f (same, has.1) o.ahead)) in
    search rules

pub returns-clause-read : goal.returns-clause-read
returns-clause-read c = λ text names ps f has a.
    let o = passed_in has.0 names ps f a (the_symbol Open ∷ []) (λ rest. symbol Open ∷ rest) (c.in_ok-take.ensures.read names ps f) in
    let same = ap (λ t. t.now) c.in_ok-take.ensures.same ∙ has.0 in
    let e = c.in_ok-expression.ensures.read text names o.rest f (same, has.1) o.ahead in
    let same2 = ap (λ t. t.now) c.in_ok-expression.ensures.kept.0 ∙ same in
    by_outcome c.take-2.result _ _ _ _
    (λ _ s. record {
      tree = e.tree;
      passed =
          passed_then text names (the_symbol Open ∷ []) (expression 20 ∷ the_symbol Close ∷ []) ps f (λ rest. symbol Open ∷ rest) (λ rest. expression_tokens names e.tree (symbol Close ∷ rest)) _ _ o
          (passed_then text names (expression 20 ∷ []) (the_symbol Close ∷ []) o.rest f (expression_tokens names e.tree) (λ rest. symbol Close ∷ rest) _ _ e.passed s);
      legal = record { ranged = e.ranged; shallow = e.shallow };
      laid = e.laid;
    })
    (λ q s. fails_then text names (the_symbol Open ∷ []) (expression 20 ∷ the_symbol Close ∷ []) ps f (λ rest. symbol Open ∷ rest) _ q o
    (fails_then text names (expression 20 ∷ []) (the_symbol Close ∷ []) o.rest f (expression_tokens names e.tree) _ q e.passed s))
    (taken_in same2 names e.passed.rest f e.passed.ahead c.take-2.result (the_symbol Close ∷ []) (λ rest. symbol Close ∷ rest) _ (c.take-2.ensures.read names e.passed.rest f))
