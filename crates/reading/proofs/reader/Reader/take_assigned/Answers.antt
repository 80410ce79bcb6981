use Rattle.std.proofs.Common.{rules, [], ◌∷◌, sym, refl, ap, ◌∙◌}
use Rattle.letters.specs.declared.keywords.Keyword.TheVariants.{Declassify}
use Rattle.letters.specs.Tokens.{view, token, next_at}
use Rattle.letters.specs.Tokens as lex
use Rattle.reading.specs.Rule.{assigned}
use Rattle.reading.specs.Reads.{Fails}
use Rattle.reading.proofs.Assigns.{plain, plain_read, release_fails, release_read}
use Rattle.reading.proofs.Carried.{fault_in, found_in, next_in, short_in}
use Rattle.reading.proofs.reader.Reader.take_assigned.Goals as goal

pub returns-in_err-lexed-clause-read : goal.returns-in_err-lexed-clause-read
returns-in_err-lexed-clause-read c = λ text names ps f has a.
    let failed : Fails text names (assigned ∷ []) ps f c.in_err-lexed.field-0.0 = fault_in has.0 names ps f a (assigned ∷ []) _ c.in_err-lexed.ensures.next in
    search rules

pub returns-in_err-take_released-clause-read : goal.returns-in_err-take_released-clause-read
returns-in_err-take_released-clause-read c = λ text names ps f has a.
    let q = c.in_err-take_released.field-0.0 in
    let x = c.in_ok-lexed.lexed in
    let h = ap (λ l. token l x.start x.end) (sym c.if-is.ensures) ∙ c.in_ok-lexed.ensures.next in
    let g = found_in has.0 names ps f a (lex.keyword Declassify) x.start x.end h refl c.in_ok-lexed.ensures.inside.2 in
    let failed : Fails text names (assigned ∷ []) ps f q = release_fails text c.args.self.now.cursor.at names ps f a g.0 x.start x.end q g.1 (c.in_err-take_released.ensures.read text names g.0 f has g.2) in
    search rules

pub returns-then-is-clause-read : goal.returns-then-is-clause-read
returns-then-is-clause-read c = λ text names ps f has a.
    let x = c.in_ok-lexed.lexed in
    let h = ap (λ l. token l x.start x.end) (sym c.if-is.ensures) ∙ c.in_ok-lexed.ensures.next in
    let g = found_in has.0 names ps f a (lex.keyword Declassify) x.start x.end h refl c.in_ok-lexed.ensures.inside.2 in
    release_read text c.args.self.now.cursor.at names ps f a g.0 x.start x.end c.args.variable g.1 (c.in_ok-take_released.ensures.read text names g.0 f has g.2)

pub returns-in_err-expression-clause-read : goal.returns-in_err-expression-clause-read
returns-in_err-expression-clause-read c = λ text names ps f has a.
    let q = c.in_err-expression.field-0.0 in
    let x = c.in_ok-lexed.lexed in
    let same = plain text c.args.self.now.cursor.at names ps f a x.token x.start x.end (next_in _ has.0 c.in_ok-lexed.ensures.next) (short_in has.0 c.in_ok-lexed.ensures.inside.2) c.if-is.ensures in
    let failed : Fails text names (assigned ∷ []) ps f q = λ K. same K ∙ c.in_err-expression.ensures.read text names ps f has a K in
    search rules

pub returns-clause-read : goal.returns-clause-read
returns-clause-read c = λ text names ps f has a.
    let x = c.in_ok-lexed.lexed in
    let same = plain text c.args.self.now.cursor.at names ps f a x.token x.start x.end (next_in _ has.0 c.in_ok-lexed.ensures.next) (short_in has.0 c.in_ok-lexed.ensures.inside.2) c.if-is.ensures in
    plain_read text c.args.self.now.cursor.at names ps f a c.args.variable same (c.in_ok-expression.ensures.read text names ps f has a)
