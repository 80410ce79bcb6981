-- One row a turn.
use Rattle.std.proofs.Common.{◌<◌, length, get_or, take, sym, ap, ◌∙◌, arith, take_all}
use Rattle.std.proofs.lemmas.List.{take_more}
use Rattle.syntax.specs.Form.{skips}
use Rattle.syntax.specs.Held.{tree_rows_held}
use Rattle.spelling.specs.Parts.{row_bytes, rows_bytes, names_held}
use Rattle.spelling.proofs.Nodes.{held}
use Rattle.spelling.proofs.Putting.{put_none, put_more, put_as}
use Rattle.spelling.proofs.Appends.{rows_more}
use Rattle.spelling.proofs.rows.put_rows.Goals as goal

pub each-init : goal.each-init
each-init c = put_none c.args.out.now

pub each-preserved : goal.each-preserved
each-preserved c =
    let p = c.args.program.now in
    let fs = tree_rows_held p in
    let f = get_or fs c.each.at skips in
    let lt : c.each.at < length fs = omega (arith, (held c.args.program.now).count) in
    put_as (rows_more (names_held p) (take c.each.at fs) f ∙ ap (rows_bytes (names_held p)) (sym (take_more fs c.each.at skips lt)))
    (put_more {vs = row_bytes (names_held p) f} c.each.invariant c.put_row.ensures)

pub returns : goal.returns
returns c =
    let p = c.args.program.now in
    let fs = tree_rows_held p in
    put_as (ap (rows_bytes (names_held p)) (take_all c.each.at fs (omega (arith, (held c.args.program.now).count)))) c.each.invariant

pub put_row-requires : goal.put_row-requires
put_row-requires c = record { within = omega (arith, c.each-test.true); held = held c.args.program.now }
