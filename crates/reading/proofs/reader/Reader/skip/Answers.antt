use Rattle.std.proofs.Common.{◌+◌, ◌^◌, ◌<◌, [], ◌∷◌, refl, arith}
use Rattle.letters.specs.declared.symbols.Symbol.TheVariants.{Semicolon}
use Rattle.syntax.specs.Trees as tree
use Rattle.syntax.proofs.Emitting.{emits_skip}
use Rattle.reading.specs.Grammar.{symbol}
use Rattle.reading.specs.Rule.{the_symbol}
use Rattle.reading.proofs.Carried.{passed_in}
use Rattle.reading.proofs.reader.Reader.skip.Goals as goal

pub returns-clause-read : goal.returns-clause-read
returns-clause-read c = λ text names room ps f has a.
    let r = c.args.self.now in
    let few : r.rows.now.used + 1 < 2 ^ 64 = omega (arith, r.behind.0, r.cursor.within, r.cursor.short) in
    record {
      tree = tree.skip;
      tokens = λ rest. symbol Semicolon ∷ rest;
      passed = passed_in has.0 names ps f a (the_symbol Semicolon ∷ []) (λ rest. symbol Semicolon ∷ rest) (c.in_ok-take.ensures.read names ps f);
      written = λ rest. refl;
      legal = tt;
      nested = omega arith;
      emits = emits_skip (c.push.ensures.laid few);
    }
