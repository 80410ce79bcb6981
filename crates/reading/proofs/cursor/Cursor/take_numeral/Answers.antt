use Rattle.std.proofs.Common.{rules, [], ◌∷◌, sym, refl, ap, ◌∙◌}
use Rattle.refusals.specs.declared.Reason.TheVariants.{Unexpected}
use Rattle.letters.specs.Tokens.{view, token}
use Rattle.letters.specs.Tokens as lex
use Rattle.reading.specs.Rule.{a_numeral}
use Rattle.reading.specs.Reads.{Fails}
use Rattle.reading.proofs.Aheads.{found, fails_fault, fails_token, passes_token}
use Rattle.reading.proofs.Terminals.{bad_numeral, numeral_bound, refuses}
use Rattle.reading.proofs.cursor.Cursor.take_numeral.Goals as goal

pub returns-in_err-lexed-clause-read : goal.returns-in_err-lexed-clause-read
returns-in_err-lexed-clause-read c = λ names ps f a.
    let failed : Fails c.args.self.now.text.now names (a_numeral ∷ []) ps f c.in_err-lexed.field-0.0 = λ K. fails_fault c.args.self.now.text.now c.args.self.now.at ps f a names _ _ c.in_err-lexed.ensures.next (a_numeral ∷ K) in
    search rules

pub returns-clause-read : goal.returns-clause-read
returns-clause-read c = λ names ps f a.
    let text = c.args.self.now.text.now in
    let x = c.in_ok-lexed.lexed in
    let l = lex.numeral c.in-Numeral.digits.now c.in-Numeral.value in
    let h = ap (λ t. token (view t) x.start x.end) (sym c.in-Numeral.is) ∙ c.in_ok-lexed.ensures.next in
    let short = c.in_ok-lexed.ensures.inside.2 in
    let g = found text c.args.self.now.at ps f l x.start x.end a h refl short in
    (passes_token text c.args.self.now.at ps f a names a_numeral l x.start x.end h refl short (λ K. refl), numeral_bound text c.args.self.now.at ps g.0 f c.in-Numeral.digits.now c.in-Numeral.value x.start x.end a g.1)

pub returns-in_default-clause-read : goal.returns-in_default-clause-read
returns-in_default-clause-read c = λ names ps f a.
    let text = c.args.self.now.text.now in
    let x = c.in_ok-lexed.lexed in
    refuses text names a_numeral ps f c.new.result Unexpected x.start c.new.ensures.0 c.new.ensures.1
    (fails_token text c.args.self.now.at ps f a names a_numeral x.token x.start x.end Unexpected c.in_ok-lexed.ensures.next c.in_ok-lexed.ensures.inside.2 (bad_numeral names x.token c.in_default.not-Numeral))
