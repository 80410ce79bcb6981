use Rattle.std.proofs.Common.{[], ◌∷◌, ap}
use Rattle.letters.specs.declared.keywords.Keyword.TheVariants.{End}
use Rattle.letters.specs.declared.symbols.Symbol.TheVariants.{Semicolon}
use Rattle.reading.specs.Grammar.{keyword, symbol}
use Rattle.reading.specs.Rule.{the_keyword, the_symbol}
use Rattle.reading.proofs.Applications.{by_outcome}
use Rattle.reading.proofs.Carried.{taken_in}
use Rattle.reading.proofs.Sequences.{passed_then, fails_then}
use Rattle.reading.proofs.cursor.Cursor.ending.Goals as goal

pub returns-clause-read : goal.returns-clause-read
returns-clause-read c = λ names ps f a.
    let text = c.args.self.now.text.now in
    let k = c.in_ok-take.ensures.read names ps f a in
    by_outcome c.take-2.result _ _ _ _
    (λ _ s. passed_then text names (the_keyword End ∷ []) (the_symbol Semicolon ∷ []) ps f (λ rest. keyword End ∷ rest) (λ rest. symbol Semicolon ∷ rest) _ _ k s)
    (λ q s. fails_then text names (the_keyword End ∷ []) (the_symbol Semicolon ∷ []) ps f (λ rest. keyword End ∷ rest) _ q k s)
    (taken_in (ap (λ t. t.now) c.in_ok-take.ensures.same) names k.rest f k.ahead c.take-2.result (the_symbol Semicolon ∷ []) (λ rest. symbol Semicolon ∷ rest) _ (c.take-2.ensures.read names k.rest f))
