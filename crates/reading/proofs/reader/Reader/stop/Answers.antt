use Rattle.std.proofs.Common.{rules, ◌+◌, ◌^◌, ◌<◌, [], ◌∷◌, refl, ap, ◌∙◌, arith}
use Rattle.letters.specs.declared.symbols.Symbol.TheVariants.{Semicolon}
use Rattle.syntax.specs.Trees as tree
use Rattle.syntax.proofs.Emitting.{emits_stop}
use Rattle.reading.specs.Grammar.{symbol, numeral}
use Rattle.reading.specs.Rule.{a_numeral, the_symbol}
use Rattle.reading.specs.Reads.{Fails}
use Rattle.reading.proofs.Carried.{passed_in, fails_in, numeral_in}
use Rattle.reading.proofs.Sequences.{passed_then, fails_then}
use Rattle.reading.proofs.reader.Reader.stop.Goals as goal

pub returns-in_err-take-clause-read : goal.returns-in_err-take-clause-read
returns-in_err-take-clause-read c = λ text names room ps f has a.
    let q = c.in_err-take.field-0.0 in
    let n = (numeral_in has.0 names ps f a (c.in_ok-number.ensures.read names ps f)).0 in
    let same = ap (λ t. t.now) c.in_ok-number.ensures.same ∙ has.0 in
    let failed : Fails text names (a_numeral ∷ the_symbol Semicolon ∷ []) ps f q = fails_then text names (a_numeral ∷ []) (the_symbol Semicolon ∷ []) ps f (λ rest. numeral c.in_ok-number.number ∷ rest) _ q n
    (fails_in same names n.rest f n.ahead (the_symbol Semicolon ∷ []) (c.in_err-take.ensures.read names n.rest f)) in
    search rules

pub returns-clause-read : goal.returns-clause-read
returns-clause-read c = λ text names room ps f has a.
    let r = c.args.self.now in
    let few : r.rows.now.used + 1 < 2 ^ 64 = omega (arith, r.behind.0, r.cursor.within, r.cursor.short) in
    let v = c.in_ok-number.number in
    let n = numeral_in has.0 names ps f a (c.in_ok-number.ensures.read names ps f) in
    let same = ap (λ t. t.now) c.in_ok-number.ensures.same ∙ has.0 in
    let s = passed_in same names n.0.rest f n.0.ahead (the_symbol Semicolon ∷ []) (λ rest. symbol Semicolon ∷ rest) (c.in_ok-take.ensures.read names n.0.rest f) in
    record {
      tree = tree.stop v;
      tokens = λ rest. numeral v ∷ symbol Semicolon ∷ rest;
      passed = passed_then text names (a_numeral ∷ []) (the_symbol Semicolon ∷ []) ps f (λ rest. numeral v ∷ rest) (λ rest. symbol Semicolon ∷ rest) _ _ n.0 s;
      written = λ rest. refl;
      legal = n.1;
      nested = omega arith;
      emits = emits_stop v (c.push.ensures.laid few);
    }
