use Rattle.std.proofs.Common.{rules, ◌≡◌, ℕ, ◌+◌, ◌-◌, List, length, take, drop, sym, ap, ◌∙◌, subst, arith, length-drop}
use Rattle.std.proofs.lemmas.List.{take_all}
use Rattle.std.specs.List.{prefix_len}
use Rattle.letters.specs.Classes.{is_blank}
use Rattle.letters.specs.Tokens.{refused, token, next_at, Inside, lexeme, broken, view}
use Rattle.letters.proofs.Looks.{gives_token, gives_refusal, inside}
use Rattle.letters.proofs.tokens.next_token.Goals as goal

-- the bytes from a place on
rest : (text : List ℕ) (at : ℕ) → take (length text - at) (drop at text) ≡ drop at text
rest text at = take_all (length text - at) (drop at text) (omega (arith, length-drop at text))

gives : (c : goal.After-token-1) → token (view c.in_ok-token.token) (c.min-from.result + c.run.result) (c.min-from.result + c.run.result + c.in_ok-token.length) ≡ next_at c.args.text.now c.args.at
gives c =
    let full = c.args.text.now in
    let from = c.min-from.result in
    let start = from + c.run.result in
    let starts : start ≡ from + prefix_len is_blank (drop from full) = ap (λ k. from + k) (c.run.ensures.stop is_blank (λ b r h. search rules) ∙ ap (prefix_len is_blank) (rest full from)) in
    let read : lexeme (take (length full - start) (drop start full)) ≡ (view c.in_ok-token.token, c.in_ok-token.length) = search rules in
    let found = ap lexeme (sym (rest full start)) ∙ read in
    gives_token full c.args.at from start c.min-from.ensures starts c.in_ok-token.token _ (ap (λ x. x.0) found) (ap (λ n. start + n) (sym (ap (λ x. x.1) found)))

pub returns-clause-next : goal.returns-clause-next
returns-clause-next c = gives c

pub returns-clause-inside : goal.returns-clause-inside
returns-clause-inside c = subst (Inside c.args.text.now c.args.at) (sym (gives c)) (inside c.args.text.now c.args.at)

pub returns-in_err-token-clause-next : goal.returns-in_err-token-clause-next
returns-in_err-token-clause-next c =
    let full = c.args.text.now in
    let from = c.min-from.result in
    let start = from + c.run.result in
    let e = c.in_err-token.field-0.0 in
    let starts : start ≡ from + prefix_len is_blank (drop from full) = ap (λ k. from + k) (c.run.ensures.stop is_blank (λ b r h. search rules) ∙ ap (prefix_len is_blank) (rest full from)) in
    let broke : ((lexeme (take (length full - start) (drop start full))).0 ≡ broken e.reason) × (e.place ≡ start) = search rules in
    let whole : refused e.reason e.place ≡ next_at full c.args.at = ap (refused e.reason) broke.1 ∙ gives_refusal full c.args.at from start c.min-from.ensures starts e.reason (ap (λ l. (lexeme l).0) (sym (rest full start)) ∙ broke.0) in
    search (rules, whole)
