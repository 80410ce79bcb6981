-- One declaration a turn.
use Rattle.std.proofs.Common.{get_or, take, sym, ap, ◌∙◌, take_all}
use Rattle.std.proofs.lemmas.List.{take_more}
use Rattle.spelling.specs.Parts.{declarations_bytes}
use Rattle.spelling.proofs.Putting.{put_none, put_more, put_as}
use Rattle.spelling.proofs.Appends.{declarations_more, unread}
use Rattle.spelling.proofs.rows.put_declarations.Goals as goal

pub each-init : goal.each-init
each-init c = put_none c.args.out.now

pub each-preserved : goal.each-preserved
each-preserved c =
    let ds = c.args.declarations.now in
    let i = c.each.declaration-index in
    put_as (declarations_more (take i ds) (get_or ds i unread) ∙ ap declarations_bytes (sym (take_more ds i unread c.each-test.true)))
    (put_more c.each.invariant c.put_declaration.ensures)

pub returns : goal.returns
returns c = put_as (ap declarations_bytes (take_all c.each.declaration-index c.args.declarations.now c.each-test.false)) c.each.invariant
