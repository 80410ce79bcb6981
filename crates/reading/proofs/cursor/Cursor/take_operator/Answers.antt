use Rattle.std.proofs.Common.{rules, ◌≡◌, None, [], ◌∷◌, sym, ◌∙◌, subst}
use Rattle.refusals.specs.declared.Reason.TheVariants.{Unexpected}
use Rattle.letters.specs.Tokens.{view}
use Rattle.reading.specs.Grammar.{terminal}
use Rattle.reading.specs.Rule.{operator, terminal_operator}
use Rattle.reading.specs.Reads.{Passed, Fails}
use Rattle.reading.proofs.Aheads.{fails_fault, fails_token, passes_token}
use Rattle.reading.proofs.Terminals.{bad_operator, takes_operator, terminal_operator_lem, operator_no_end, refuses}
use Rattle.reading.proofs.cursor.Cursor.take_operator.Goals as goal

pub returns-in_err-lexed-clause-read : goal.returns-in_err-lexed-clause-read
returns-in_err-lexed-clause-read c = λ names ps f a.
    let failed : Fails c.args.self.now.text.now names (operator ∷ []) ps f c.in_err-lexed.field-0.0 = λ K. fails_fault c.args.self.now.text.now c.args.self.now.at ps f a names _ _ c.in_err-lexed.ensures.next (operator ∷ K) in
    search rules

pub returns-clause-read : goal.returns-clause-read
returns-clause-read c = λ names ps f a.
    let text = c.args.self.now.text.now in
    let x = c.in_ok-lexed.lexed in
    let o = c.in-Some.operator in
    let is = sym c.operator_of.ensures ∙ c.in-Some.is in
    subst (λ y. Passed text names (operator ∷ []) (λ rest. y ∷ rest) ps f x.end) (terminal_operator_lem (terminal (view x.token)) o is)
    (passes_token text c.args.self.now.at ps f a names operator (view x.token) x.start x.end c.in_ok-lexed.ensures.next (operator_no_end x.token o is) c.in_ok-lexed.ensures.inside.2 (takes_operator names (terminal (view x.token)) o is))

pub returns-in_default-clause-read : goal.returns-in_default-clause-read
returns-in_default-clause-read c = λ names ps f a.
    let text = c.args.self.now.text.now in
    let none : terminal_operator (terminal (view c.in_ok-lexed.lexed.token)) ≡ None = search rules in
    let x = c.in_ok-lexed.lexed in
    refuses text names operator ps f c.new.result Unexpected x.start c.new.ensures.0 c.new.ensures.1
    (fails_token text c.args.self.now.at ps f a names operator x.token x.start x.end Unexpected c.in_ok-lexed.ensures.next c.in_ok-lexed.ensures.inside.2
    (bad_operator names x.token none))
