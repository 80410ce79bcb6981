use Rattle.std.proofs.Common.{rules, vec_items, sym, ap, ◌∙◌, subst, inr, arith}
use Rattle.letters.specs.Texts.{pieces}
use Rattle.letters.specs.Scans.{Failed}
use Rattle.letters.proofs.Going.{Goes, goes_none, goes_more, goes_end, goes_fault, pieces_push, no_end}
use Rattle.letters.specs.declared.texts.ScanError.TheVariants.{Refused}
use Rattle.letters.proofs.texts.scan.Goals as goal

pub each-init : goal.each-init
each-init c = subst (λ xs. Goes c.args.text.now 0 (pieces xs)) (sym c.new-found.ensures.items) (goes_none c.args.text.now)

pub returns-in-End : goal.returns-in-End
returns-in-End c =
    (c.if-text-gt-TEXT_BYTES.false, goes_end _ _ c.in_ok-lexed.lexed.start c.in_ok-lexed.lexed.end _ c.in_ok-lexed.lexed.token c.each.invariant c.in-End.is c.in_ok-lexed.ensures.next)

pub each-smaller : goal.each-smaller
each-smaller c =
    let i = c.in_ok-lexed.ensures.inside in
    omega (arith, i.0, i.2, i.3 (no_end c.in_ok-lexed.lexed.token c.in_default.not-End), c.each.invariant.within)

pub each-preserved : goal.each-preserved
each-preserved c =
    let i = c.in_ok-lexed.ensures.inside in
    let g = goes_more _ _ _ c.in_ok-lexed.lexed c.each.invariant c.in_ok-lexed.ensures.next i.2 (no_end c.in_ok-lexed.lexed.token c.in_default.not-End) in
    subst (λ xs. Goes c.args.text.now c.in_ok-lexed.lexed.end xs) (sym (ap pieces c.in_ok-push.ensures.items ∙ pieces_push (vec_items c.each.found) c.in_ok-lexed.lexed)) g

pub returns-in_err-lexed : goal.returns-in_err-lexed
returns-in_err-lexed c =
    let e = c.in_err-lexed.field-0.0 in
    let failed : Failed c.args.text.now (Refused e) = inr (c.if-text-gt-TEXT_BYTES.false, (pieces (vec_items c.each.found), goes_fault _ _ _ e.reason e.place c.each.invariant c.in_err-lexed.ensures.next)) in
    search rules
