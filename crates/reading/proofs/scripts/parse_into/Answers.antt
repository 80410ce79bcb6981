use Rattle.std.proofs.Common.{[], sym, ap, ◌∙◌, ap₂, ◌≤◌, arith, length, rules}
use Rattle.letters.specs.Tokens.{view, token}
use Rattle.letters.proofs.Going.{made}
use Rattle.reading.specs.Heard.{heard}
use Rattle.reading.specs.Rule.{refused}
use Rattle.reading.specs.Reads.{Ahead}
use Rattle.reading.specs.Scripts.{Judged}
use Rattle.reading.proofs.Aheads.{fails_fault, found_end}
use Rattle.reading.proofs.Tables.{heard-length}
use Rattle.reading.proofs.Wholes.{whole-judged, script_read, behind-judged}
use Rattle.reading.proofs.scripts.parse_into.Goals as goal

pub returns-in_err-lexed-clause-read : goal.returns-in_err-lexed-clause-read
returns-in_err-lexed-clause-read c =
    let text = c.args.text.now in
    let names = heard c.declare_all.new.names.items in
    let same = ap (λ t. t.now) c.in_ok-declare_all.ensures.same.0 in
    let next = rw (c.in_ok-list.ensures.kept.0, c.in_ok-declare_all.ensures.same.0) at c.in_err-lexed.ensures.next in
    let failed : Judged text c.in_err-lexed.field-0.0 = λ ps f m.
    let a : Ahead text 0 ps f = record { within = omega arith; made = m } in
    let D = c.in_ok-declare_all.ensures.read ps f a in
    let L = c.in_ok-list.ensures.read text names D.0.rest f (same, ap heard c.as_slice.ensures.value) D.0.ahead in
    whole-judged text names ps f D.0 D.1 L ∙ fails_fault text c.list.new.self.cursor.at L.passed.rest f L.passed.ahead names _ _ next [] in
    search rules

pub returns-in_default : goal.returns-in_default
returns-in_default c = record {
  same = search rules;
  read = λ ps f m.
      let text = c.args.text.now in
      let names = heard c.declare_all.new.names.items in
      let same = ap (λ t. t.now) c.in_ok-declare_all.ensures.same.0 in
      let next = rw (c.in_ok-list.ensures.kept.0, c.in_ok-declare_all.ensures.same.0) at c.in_ok-lexed.ensures.next in
      let inside = rw (c.in_ok-list.ensures.kept.0, c.in_ok-declare_all.ensures.same.0) at c.in_ok-lexed.ensures.inside in
      let a : Ahead text 0 ps f = record { within = omega arith; made = m } in
      let D = c.in_ok-declare_all.ensures.read ps f a in
      let L = c.in_ok-list.ensures.read text names D.0.rest f (same, ap heard c.as_slice.ensures.value) D.0.ahead in
      let l = c.in_ok-lexed.lexed in
      whole-judged text names ps f D.0 D.1 L
      ∙ behind-judged text c.list.new.self.cursor.at names L.passed.rest f L.passed.ahead l.token l.start l.end next inside.2 c.in_default.not-End
      ∙ ap₂ refused (sym c.new.ensures.0) (sym c.new.ensures.1);
}

pub returns-clause-read : goal.returns-clause-read
returns-clause-read c =
    let text = c.args.text.now in
    let names = heard c.declare_all.new.names.items in
    let same = ap (λ t. t.now) c.in_ok-declare_all.ensures.same.0 in
    let m = made 0 text in
    let ps = m.tokens in
    let f = m.ending in
    let a : Ahead text 0 ps f = record { within = omega arith; made = m.made } in
    let D = c.in_ok-declare_all.ensures.read ps f a in
    let L = rw (c.requires.none_used.1, c.requires.none_used.2) at (c.in_ok-list.ensures.read text names D.0.rest f (same, ap heard c.as_slice.ensures.value) D.0.ahead) in
    let l = c.in_ok-lexed.lexed in
    let next = rw (c.in_ok-list.ensures.kept.0, c.in_ok-declare_all.ensures.same.0) at c.in_ok-lexed.ensures.next in
    let h = ap (λ t. token (view t) l.start l.end) (sym c.in-End.is) ∙ next in
    let q = found_end text c.list.new.self.cursor.at L.passed.rest f l.start l.end L.passed.ahead h in
    let few : length names ≤ 256 = omega (arith, heard-length c.declare_all.new.names.items, ap length c.as_slice.ensures.value, c.as_slice.ensures.fits) in
    let read = script_read text names ps f D.0 D.1 L m.made c.requires.short few (q.0, q.1) in
    search rules
