use Rattle.std.proofs.Common.{◌≡◌, ◌+◌, ◌<◌, ◌∷◌, length, sym, refl, ap, ◌∙◌, arith, rules}
use Rattle.letters.specs.declared.keywords.Keyword.TheVariants.{Var}
use Rattle.letters.specs.Tokens.{token}
use Rattle.letters.specs.Tokens as lex
use Rattle.reading.specs.Heard.{heard}
use Rattle.reading.specs.Rule.{declarations}
use Rattle.reading.specs.Declares.{DeclarationsFail}
use Rattle.reading.proofs.Aheads.{found, fails_fault}
use Rattle.reading.proofs.Declares.{declarations_none, declarations_more, declarations_fail, declarations_over, heard_push}
use Rattle.reading.proofs.cursor.Cursor.declare_all.Goals as goal

pub each-init : goal.each-init
each-init c = record {
  text = refl;
  list = refl;
  counted = c.requires.none_written ∙ sym (ap length c.requires.none_named);
  few = omega (arith, ap length c.requires.none_named);
  read = λ ps f a. rw (c.requires.none_named, c.requires.front, c.requires.none_written) (declarations_none c.args.self.now.text.now ps f c.args.declarations.now.cells.now a);
}

pub returns-in_err-lexed-clause-same : goal.returns-in_err-lexed-clause-same
returns-in_err-lexed-clause-same c = (c.each.invariant.text, c.each.invariant.list)

pub returns-in_err-lexed-clause-read : goal.returns-in_err-lexed-clause-read
returns-in_err-lexed-clause-read c = λ ps f a.
    let text = c.args.self.now.text.now in
    let next = rw c.each.invariant.text at c.in_err-lexed.ensures.next in
    let g = c.each.invariant.read ps f a in
    let failed : DeclarationsFail text ps f c.in_err-lexed.field-0.0 = λ K. g.passes K ∙ fails_fault text c.each.self.at g.rest f g.ahead (heard c.each.names.items) _ _ next (declarations ∷ K) in
    search rules

pub returns-then-not-is-clause-same : goal.returns-then-not-is-clause-same
returns-then-not-is-clause-same c = (c.each.invariant.text, c.each.invariant.list)

pub returns-then-not-is-clause-read : goal.returns-then-not-is-clause-read
returns-then-not-is-clause-read c = λ ps f a.
    let l = c.in_ok-lexed.lexed in
    let next = rw c.each.invariant.text at c.in_ok-lexed.ensures.next in
    let inside = rw c.each.invariant.text at c.in_ok-lexed.ensures.inside in
    (c.each.invariant.read ps f a, λ qs b K. declarations_over c.args.self.now.text.now c.each.self.at (heard c.each.names.items) qs f b l.token l.start l.end next inside.2 c.if-not-is.ensures K)

pub returns-in_err-word-clause-same : goal.returns-in_err-word-clause-same
returns-in_err-word-clause-same c = (c.in_err-word.ensures.same ∙ c.each.invariant.text, c.each.invariant.list)

pub returns-in_err-word-clause-read : goal.returns-in_err-word-clause-read
returns-in_err-word-clause-read c = λ ps f a.
    let text = c.args.self.now.text.now in
    let l = c.in_ok-lexed.lexed in
    let next = rw c.each.invariant.text at c.in_ok-lexed.ensures.next in
    let inside = rw c.each.invariant.text at c.in_ok-lexed.ensures.inside in
    let behind = rw c.each.invariant.text at c.in_err-word.ensures.read in
    let g = c.each.invariant.read ps f a in
    let q = found text c.each.self.at g.rest f (lex.keyword Var) l.start l.end g.ahead (ap (λ t. token t l.start l.end) (sym c.if-not-is.ensures) ∙ next) refl inside.2 in
    let e = c.in_err-word.field-0.0 in
    let failed : DeclarationsFail text ps f e = declarations_fail text (heard c.each.names.items) ps f c.args.declarations.now.cells.now c.each.declarations.cells.now c.each.self.at c.each.declarations.used l.start l.end e g q.0 q.1 (behind q.0 f q.2) in
    search rules

pub each-smaller : goal.each-smaller
each-smaller c =
    let text = ap (λ t. length t.now) c.in_ok-word.ensures.same in
    omega (arith, text, c.in_ok-word.ensures.onward.0, c.in_ok-lexed.ensures.inside.0, c.in_ok-lexed.ensures.inside.1, c.declaration.new.self.within)

pub each-preserved : goal.each-preserved
each-preserved c =
    let text = c.args.self.now.text.now in
    let names = heard c.each.names.items in
    let l = c.in_ok-lexed.lexed in
    let w = c.in_ok-word.word in
    let d = c.in_ok-word.declaration in
    let cells = c.push-in-each.new.self.cells.now in
    let to = c.declaration.new.self.at in
    let room : length c.each.names.items < 256 = c.in_ok-word.ensures.onward.1 in
    let counted : c.push-in-each.new.self.used ≡ c.each.declarations.used + 1 = omega (arith, room, c.each.invariant.counted, c.push-in-each.ensures.count) in
    let next = rw c.each.invariant.text at c.in_ok-lexed.ensures.next in
    let inside = rw c.each.invariant.text at c.in_ok-lexed.ensures.inside in
    let behind = rw c.each.invariant.text at c.in_ok-word.ensures.read in
    record {
      text = c.in_ok-word.ensures.same ∙ c.each.invariant.text;
      list = c.push-in-each.ensures.same ∙ c.each.invariant.list;
      counted = omega (arith, counted, c.each.invariant.counted, c.push.ensures.len);
      few = omega (arith, room, c.push.ensures.len);
      read = λ ps f a.
          let g = c.each.invariant.read ps f a in
          let q = found text c.each.self.at g.rest f (lex.keyword Var) l.start l.end g.ahead (ap (λ t. token t l.start l.end) (sym c.if-not-is.ensures) ∙ next) refl inside.2 in
          rw (c.push.ensures.items, heard_push c.each.names.items w, counted)
          (declarations_more text names ps f c.args.declarations.now.cells.now c.each.declarations.cells.now cells c.each.self.at c.each.declarations.used to l.start l.end w.now d g q.0 q.1 (behind q.0 f q.2) c.push-in-each.ensures.written);
    }
