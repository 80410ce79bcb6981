use Rattle.std.proofs.Common.{rules, ◌+◌, ◌^◌, ◌<◌, [], ◌∷◌, refl, ap, ◌∙◌, arith}
use Rattle.letters.specs.declared.symbols.Symbol.TheVariants.{Semicolon}
use Rattle.syntax.specs.Trees as tree
use Rattle.syntax.proofs.Emitting.{emits_write}
use Rattle.reading.specs.Grammar.{symbol, numeral, expression_tokens}
use Rattle.reading.specs.Rule.{a_numeral, the_symbol, expression}
use Rattle.reading.specs.Reads.{Fails}
use Rattle.reading.proofs.Carried.{passed_in, fails_in, numeral_in, laid_behind}
use Rattle.reading.proofs.Sequences.{passed_then, fails_then, fails_first}
use Rattle.reading.proofs.reader.Reader.write.Goals as goal

pub returns-in_err-expression-clause-read : goal.returns-in_err-expression-clause-read
returns-in_err-expression-clause-read c = λ text names room ps f has a.
    let q = c.in_err-expression.field-0.0 in
    let n = (numeral_in has.0 names ps f a (c.in_ok-level.ensures.read names ps f)).0 in
    let same = ap (λ t. t.now) c.in_ok-level.ensures.same ∙ has.0 in
    let failed : Fails text names (a_numeral ∷ expression 20 ∷ the_symbol Semicolon ∷ []) ps f q = fails_then text names (a_numeral ∷ []) (expression 20 ∷ the_symbol Semicolon ∷ []) ps f (λ rest. numeral c.in_ok-level.level ∷ rest) _ q n
    (fails_first text names (expression 20 ∷ []) (the_symbol Semicolon ∷ []) n.rest f q (c.in_err-expression.ensures.read text names n.rest f (same, has.1) n.ahead)) in
    search rules

pub returns-in_err-take-clause-read : goal.returns-in_err-take-clause-read
returns-in_err-take-clause-read c = λ text names room ps f has a.
    let q = c.in_err-take.field-0.0 in
    let n = (numeral_in has.0 names ps f a (c.in_ok-level.ensures.read names ps f)).0 in
    let same = ap (λ t. t.now) c.in_ok-level.ensures.same ∙ has.0 in
    let e = c.in_ok-expression.ensures.read text names n.rest f (same, has.1) n.ahead in
    let same2 = ap (λ t. t.now) c.in_ok-expression.ensures.kept.0 ∙ same in
    let failed : Fails text names (a_numeral ∷ expression 20 ∷ the_symbol Semicolon ∷ []) ps f q = fails_then text names (a_numeral ∷ []) (expression 20 ∷ the_symbol Semicolon ∷ []) ps f (λ rest. numeral c.in_ok-level.level ∷ rest) _ q n
    (fails_then text names (expression 20 ∷ []) (the_symbol Semicolon ∷ []) n.rest f (expression_tokens names e.tree) _ q e.passed
    (fails_in same2 names e.passed.rest f e.passed.ahead (the_symbol Semicolon ∷ []) (c.in_err-take.ensures.read names e.passed.rest f))) in
    search rules

pub returns-clause-read : goal.returns-clause-read
returns-clause-read c = λ text names room ps f has a.
    let r = c.args.self.now in
    let v = c.in_ok-level.level in
    let row = c.in_ok-expression.ensures.rowless in
    let few : c.expression.new.self.rows.now.used + 1 < 2 ^ 64 = omega (arith, row.1, r.behind.0, r.cursor.within, r.cursor.short) in
    let laid = laid_behind row.0 row.1 (c.push.ensures.laid few) in
    let n = numeral_in has.0 names ps f a (c.in_ok-level.ensures.read names ps f) in
    let same = ap (λ t. t.now) c.in_ok-level.ensures.same ∙ has.0 in
    let e = c.in_ok-expression.ensures.read text names n.0.rest f (same, has.1) n.0.ahead in
    let same2 = ap (λ t. t.now) c.in_ok-expression.ensures.kept.0 ∙ same in
    let s = passed_in same2 names e.passed.rest f e.passed.ahead (the_symbol Semicolon ∷ []) (λ rest. symbol Semicolon ∷ rest) (c.in_ok-take.ensures.read names e.passed.rest f) in
    record {
      tree = tree.write v e.tree;
      tokens = λ rest. numeral v ∷ expression_tokens names e.tree (symbol Semicolon ∷ rest);
      passed =
          passed_then text names (a_numeral ∷ []) (expression 20 ∷ the_symbol Semicolon ∷ []) ps f (λ rest. numeral v ∷ rest) (λ rest. expression_tokens names e.tree (symbol Semicolon ∷ rest)) _ _ n.0
          (passed_then text names (expression 20 ∷ []) (the_symbol Semicolon ∷ []) n.0.rest f (expression_tokens names e.tree) (λ rest. symbol Semicolon ∷ rest) _ _ e.passed s);
      written = λ rest. refl;
      legal = (n.1, record { ranged = e.ranged; shallow = e.shallow });
      nested = omega arith;
      emits = emits_write v e.tree laid e.laid;
    }
