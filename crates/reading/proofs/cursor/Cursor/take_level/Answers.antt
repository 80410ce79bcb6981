use Rattle.std.proofs.Common.{rules, [], ◌∷◌}
use Rattle.letters.specs.declared.symbols.Symbol.TheVariants.{Colon, Semicolon}
use Rattle.reading.specs.Grammar.{symbol, numeral}
use Rattle.reading.specs.Rule.{the_symbol, a_numeral}
use Rattle.reading.specs.Reads.{Fails}
use Rattle.reading.specs.Declares.{levelled}
use Rattle.reading.proofs.Sequences.{passed_then, fails_then, fails_first}
use Rattle.reading.proofs.cursor.Cursor.take_level.Goals as goal

pub returns-in_err-level-clause-read : goal.returns-in_err-level-clause-read
returns-in_err-level-clause-read c = λ names ps f a.
    let text = c.args.self.now.text.now in
    let o = c.in_ok-take.ensures.read names ps f a in
    let q = c.in_err-level.field-0.0 in
    let last = rw c.in_ok-take.ensures.same at c.in_err-level.ensures.read in
    let failed : Fails text names levelled ps f q = fails_then text names (the_symbol Colon ∷ []) (a_numeral ∷ the_symbol Semicolon ∷ []) ps f (λ rest. symbol Colon ∷ rest) c.take.new.self.at q o
    (fails_first text names (a_numeral ∷ []) (the_symbol Semicolon ∷ []) o.rest f q (last names o.rest f o.ahead)) in
    search rules

pub returns-in_err-take-2-clause-read : goal.returns-in_err-take-2-clause-read
returns-in_err-take-2-clause-read c = λ names ps f a.
    let text = c.args.self.now.text.now in
    let o = c.in_ok-take.ensures.read names ps f a in
    let q = c.in_err-take-2.field-0.0 in
    let middle = rw c.in_ok-take.ensures.same at c.in_ok-level.ensures.read in
    let last = rw (c.in_ok-level.ensures.same, c.in_ok-take.ensures.same) at c.in_err-take-2.ensures.read in
    let n = (middle names o.rest f o.ahead).0 in
    let failed : Fails text names levelled ps f q = fails_then text names (the_symbol Colon ∷ []) (a_numeral ∷ the_symbol Semicolon ∷ []) ps f (λ rest. symbol Colon ∷ rest) c.take.new.self.at q o
    (fails_then text names (a_numeral ∷ []) (the_symbol Semicolon ∷ []) o.rest f (λ rest. numeral c.in_ok-level.level ∷ rest) c.take_numeral.new.self.at q n (last names n.rest f n.ahead)) in
    search rules

pub returns-clause-read : goal.returns-clause-read
returns-clause-read c = λ names ps f a.
    let text = c.args.self.now.text.now in
    let o = c.in_ok-take.ensures.read names ps f a in
    let k = c.in_ok-level.level in
    let middle = rw c.in_ok-take.ensures.same at c.in_ok-level.ensures.read in
    let last = rw (c.in_ok-level.ensures.same, c.in_ok-take.ensures.same) at c.in_ok-take-2.ensures.read in
    let n = middle names o.rest f o.ahead in (
      passed_then text names (the_symbol Colon ∷ []) (a_numeral ∷ the_symbol Semicolon ∷ []) ps f (λ rest. symbol Colon ∷ rest) (λ rest. numeral k ∷ symbol Semicolon ∷ rest) c.take.new.self.at _ o
          (passed_then text names (a_numeral ∷ []) (the_symbol Semicolon ∷ []) o.rest f (λ rest. numeral k ∷ rest) (λ rest. symbol Semicolon ∷ rest) c.take_numeral.new.self.at _ n.0 (last names n.0.rest f n.0.ahead)),
      n.1,
    )
