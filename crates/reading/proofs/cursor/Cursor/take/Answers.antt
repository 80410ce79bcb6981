use Rattle.std.proofs.Common.{rules, [], ◌∷◌, sym, ap, ◌∙◌}
use Rattle.refusals.specs.declared.Reason.TheVariants.{Unexpected}
use Rattle.letters.specs.Tokens.{token}
use Rattle.reading.specs.Reads.{Fails}
use Rattle.reading.proofs.Aheads.{fails_fault, fails_token, passes_token}
use Rattle.reading.proofs.Terminals.{bad_other, refuses}
use Rattle.reading.proofs.cursor.Cursor.take.Goals as goal

pub returns-in_err-lexed-clause-read : goal.returns-in_err-lexed-clause-read
returns-in_err-lexed-clause-read g c = λ names ps f a.
    let x = g.T.Fixed.expected c.args.wanted in
    let failed : Fails c.args.self.now.text.now names (x ∷ []) ps f c.in_err-lexed.field-0.0 = λ K. fails_fault c.args.self.now.text.now c.args.self.now.at ps f a names _ _ c.in_err-lexed.ensures.next (x ∷ K) in
    search rules

pub returns-then-not-is-clause-read : goal.returns-then-not-is-clause-read
returns-then-not-is-clause-read g c = λ names ps f a.
    let text = c.args.self.now.text.now in
    let x = g.T.Fixed.expected c.args.wanted in
    let l = c.in_ok-lexed.lexed in
    refuses text names x ps f c.new.result Unexpected l.start c.new.ensures.0 c.new.ensures.1
    (fails_token text c.args.self.now.at ps f a names x l.token l.start l.end Unexpected c.in_ok-lexed.ensures.next c.in_ok-lexed.ensures.inside.2
    (bad_other names l.token (g.met.T.Fixed.fixes c.args.wanted) c.if-not-is.ensures))

pub returns-clause-read : goal.returns-clause-read
returns-clause-read g c = λ names ps f a.
    let F = g.met.T.Fixed.fixes c.args.wanted in
    let l = c.in_ok-lexed.lexed in
    let h = ap (λ t. token t l.start l.end) (sym c.if-not-is.ensures) ∙ c.in_ok-lexed.ensures.next in
    passes_token c.args.self.now.text.now c.args.self.now.at ps f a names (g.T.Fixed.expected c.args.wanted) (g.T.Fixed.lexeme c.args.wanted) l.start l.end h F.no_end c.in_ok-lexed.ensures.inside.2 (F.takes names)
