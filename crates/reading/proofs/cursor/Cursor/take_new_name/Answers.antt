use Rattle.std.proofs.Common.{◌∷◌, sym, refl, ap, ◌∙◌, subst, rules}
use Rattle.refusals.specs.declared.Reason.TheVariants.{Unexpected, BadDeclaration}
use Rattle.letters.specs.Tokens.{view, token}
use Rattle.reading.specs.Heard.{heard}
use Rattle.reading.specs.Rule.{new_name}
use Rattle.reading.specs.Declares.{NewNameFails}
use Rattle.reading.proofs.Aheads.{Bad, fails_fault, fails_token}
use Rattle.reading.proofs.Declares.{bad_taken, bad_new, new_name_lem}
use Rattle.reading.proofs.Terminals.{refuses}
use Rattle.reading.proofs.cursor.Cursor.take_new_name.Goals as goal

pub returns-in_err-lexed-clause-read : goal.returns-in_err-lexed-clause-read
returns-in_err-lexed-clause-read c = λ ps f a.
    let text = c.args.self.now.text.now in
    let failed : NewNameFails text (heard c.args.names.now.items) ps f c.in_err-lexed.field-0.0 = λ K. fails_fault text c.args.self.now.at ps f a (heard c.args.names.now.items) _ _ c.in_err-lexed.ensures.next (new_name ∷ K) in
    search rules

pub returns-in_default : goal.returns-in_default
returns-in_default c =
    let text = c.args.self.now.text.now in
    let names = heard c.args.names.now.items in
    let l = c.in_ok-lexed.lexed in
    record {
      same = refl;
      onward = tt;
      read = λ ps f a. refuses text names new_name ps f c.new.result Unexpected l.start c.new.ensures.0 c.new.ensures.1
          (fails_token text c.args.self.now.at ps f a names new_name l.token l.start l.end Unexpected c.in_ok-lexed.ensures.next c.in_ok-lexed.ensures.inside.2 (bad_new names l.token c.in_default.not-Name));
    }

pub returns-then-is_taken-clause-read : goal.returns-then-is_taken-clause-read
returns-then-is_taken-clause-read c = λ ps f a.
    let text = c.args.self.now.text.now in
    let names = heard c.args.names.now.items in
    let l = c.in_ok-lexed.lexed in
    let bad : Bad names new_name (view l.token) BadDeclaration = subst (λ x. Bad names new_name (view x) BadDeclaration) (sym c.in-Name.is) (bad_taken names c.in-Name.word.now (sym c.if-is_taken.ensures)) in
    refuses text names new_name ps f c.new-then-is_taken.result BadDeclaration l.start c.new-then-is_taken.ensures.0 c.new-then-is_taken.ensures.1
    (fails_token text c.args.self.now.at ps f a names new_name l.token l.start l.end BadDeclaration c.in_ok-lexed.ensures.next c.in_ok-lexed.ensures.inside.2 bad)

pub returns-clause-read : goal.returns-clause-read
returns-clause-read c = λ ps f a.
    let l = c.in_ok-lexed.lexed in
    let h = ap (λ x. token (view x) l.start l.end) (sym c.in-Name.is) ∙ c.in_ok-lexed.ensures.next in
    new_name_lem c.args.self.now.text.now c.args.self.now.at (heard c.args.names.now.items) ps f c.in-Name.word.now l.start l.end a h c.in_ok-lexed.ensures.inside.2 (sym c.if-is_taken.ensures)
