use Rattle.std.proofs.Common.{rules, ◌≡◌, ◌<◌, length, get_or, take, sym, ap, ap₂, ◌∙◌}
use Rattle.std.specs.List.{prefix_len}
use Rattle.letters.specs.Classes.{is_letter, is_digit, is_word}
use Rattle.letters.specs.Tokens.{lexeme, word_lexeme, digits_lexeme, broken}
use Rattle.letters.proofs.Fronts.{front_word, front_digits, class_letter, class_digit}
use Rattle.letters.proofs.tokens.front_token.Goals as goal
use Rattle.letters.proofs.tokens.front_token.Goals.{In-Letter, In-Digit}

word : (c : In-Letter) → lexeme c.args.text.now ≡ (word_lexeme (take (prefix_len is_word c.args.text.now) c.args.text.now), prefix_len is_word c.args.text.now)
word c =
    let bs = c.args.text.now in
    let some : 0 < length bs = search rules in
    let here : c.in-Some.first.now ≡ get_or bs 0 0 = search rules in
    front_word bs some (ap is_letter (sym here) ∙ class_letter c.in-Some.first.now (sym c.from.ensures ∙ c.in-Letter.is))

digits : (c : In-Digit) → lexeme c.args.text.now ≡ (digits_lexeme (take (prefix_len is_digit c.args.text.now) c.args.text.now), prefix_len is_digit c.args.text.now)
digits c =
    let bs = c.args.text.now in
    let some : 0 < length bs = search rules in
    let here : c.in-Some.first.now ≡ get_or bs 0 0 = search rules in
    let d = class_digit c.in-Some.first.now (sym c.from.ensures ∙ c.in-Digit.is) in
    front_digits bs some (ap is_letter (sym here) ∙ d.0) (ap is_digit (sym here) ∙ d.1)

pub returns-in_ok-word_token-in-Letter-clause-token : goal.returns-in_ok-word_token-in-Letter-clause-token
returns-in_ok-word_token-in-Letter-clause-token c =
    let bs = c.args.text.now in
    let count : c.run-length.result ≡ prefix_len is_word bs = c.run-length.ensures.stop is_word (λ b r h. search rules) in
    word (goal.at.returns-in_ok-word_token-in-Letter-clause-token c).In-Letter ∙ ap₂ (λ x y. (x, y)) (sym (c.in_ok-word_token-in-Letter.ensures ∙ ap (λ k. word_lexeme (take k bs)) count)) (sym count)

pub returns-in_err-word_token-in-Letter-clause-token : goal.returns-in_err-word_token-in-Letter-clause-token
returns-in_err-word_token-in-Letter-clause-token c =
    let bs = c.args.text.now in
    let count : c.run-length.result ≡ prefix_len is_word bs = c.run-length.ensures.stop is_word (λ b r h. search rules) in
    let broke : (lexeme bs).0 ≡ broken c.in_err-word_token-in-Letter.field-0.0 = ap (λ x. x.0) (word (goal.at.returns-in_err-word_token-in-Letter-clause-token c).In-Letter) ∙ sym (c.in_err-word_token-in-Letter.ensures ∙ ap (λ k. word_lexeme (take k bs)) count) in
    search rules

pub returns-in_ok-digits_token-in-Digit-clause-token : goal.returns-in_ok-digits_token-in-Digit-clause-token
returns-in_ok-digits_token-in-Digit-clause-token c =
    let bs = c.args.text.now in
    let count : c.run-length-in-Digit.result ≡ prefix_len is_digit bs = c.run-length-in-Digit.ensures.stop is_digit (λ b r h. search rules) in
    digits (goal.at.returns-in_ok-digits_token-in-Digit-clause-token c).In-Digit ∙ ap₂ (λ x y. (x, y)) (sym (c.in_ok-digits_token-in-Digit.ensures ∙ ap (λ k. digits_lexeme (take k bs)) count)) (sym count)

pub returns-in_err-digits_token-in-Digit-clause-token : goal.returns-in_err-digits_token-in-Digit-clause-token
returns-in_err-digits_token-in-Digit-clause-token c =
    let bs = c.args.text.now in
    let count : c.run-length-in-Digit.result ≡ prefix_len is_digit bs = c.run-length-in-Digit.ensures.stop is_digit (λ b r h. search rules) in
    let broke : (lexeme bs).0 ≡ broken c.in_err-digits_token-in-Digit.field-0.0 = ap (λ x. x.0) (digits (goal.at.returns-in_err-digits_token-in-Digit-clause-token c).In-Digit) ∙ sym (c.in_err-digits_token-in-Digit.ensures ∙ ap (λ k. digits_lexeme (take k bs)) count) in
    search rules
