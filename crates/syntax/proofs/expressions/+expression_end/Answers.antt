-- Each way through `expression_end`, by the lemma for it in Prefix.antt.
use Rattle.std.proofs.Common.{sym, ◌∙◌, arith}
use Rattle.syntax.specs.declared.form.Node.TheVariants.{Numeral}
use Rattle.syntax.proofs.Prefix.{numeral_spans, variable_spans, both}
use Rattle.syntax.proofs.expressions.+expression_end.Goals as goal

pub returns-in-Numeral : goal.returns-in-Numeral
returns-in-Numeral t c =
    let here = c.in_ok-n.ensures.lookup in
    numeral_spans _ _ _ here.3.0 _ _ (sym (here.3.1 (Numeral 0)) ∙ c.in-Numeral.is) c.if-n-le-GREATEST.true

pub returns-in-Variable : goal.returns-in-Variable
returns-in-Variable t c =
    let here = c.in_ok-n.ensures.lookup in
    variable_spans _ _ _ here.3.0 _ _ (sym (here.3.1 (Numeral 0)) ∙ c.in-Variable.is) c.if-v-count.true

pub returns-in_ok-middle-in-Apply : goal.returns-in_ok-middle-in-Apply
returns-in_ok-middle-in-Apply t c =
    let here = c.in_ok-n.ensures.lookup in
    both _ _ _ here.3.0 _ (sym (here.3.1 (Numeral 0)) ∙ c.in-Apply.is) _ (λ e. omega arith) _ c.in_ok-middle-in-Apply.ensures c.expression_end-in-Apply.result c.expression_end-in-Apply.ensures
