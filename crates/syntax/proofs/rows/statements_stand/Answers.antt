-- The loop from the last row to the first, beside the decoder.
use Rattle.std.proofs.Common.{◌≡◌, ◌++◌, length, is_some, None, sym, ap, ◌∙◌, arith, append-nil}
use Rattle.std.proofs.lemmas.List.{drop_all}
use Rattle.syntax.specs.Decoder.{statements_of}
use Rattle.syntax.proofs.Opens.{last_left, start, no_row, no_turn, one_more, ends}
use Rattle.syntax.proofs.rows.statements_stand.Goals as goal
use Rattle.syntax.proofs.rows.statements_stand.Goals.{then-not-row_stands-via-then-not-row_stands, then-not-row_stands-via-else-not-row_stands+then-not-prepend}

pub each-init : goal.each-init
each-init c =
    let it = c.into_iter-i-iterator.result.iter in
    let all : it.iter.rest.now ≡ c.args.rows.now = cc in
    let from_0 : it.count ≡ 0 = cc in
    let same : length it.iter.rest.now ≡ length c.args.rows.now = ap length all in
    record {
      from_0 = from_0;
      front = ap (λ x. it.iter.rest.now ++ x) (drop_all (length it.iter.rest.now) c.args.rows.now (omega arith)) ∙ append-nil it.iter.rest.now ∙ all;
      so = rw all (start _ _ _ _ c.new-opens.ensures);
      can_next = (tt, tt, omega arith);
      is_finite = tt;
    }

pub returns-then-not-row_stands : goal.returns-then-not-row_stands
returns-then-not-row_stands c =
    let inv = c.each.invariant in
    let step = c.in-Some.ensures.steps in
    let last = last_left c.args.rows.now _ _ _ step.1.0 inv.front in
    let i : c.in-Some.i ≡ length c.next.new.self.iter.iter.rest.now = omega arith in
    let none : statements_of c.args.count c.args.rows.now c.args.nodes.now ≡ None = elim c.then-not-row_stands.branch [
      | then-not-row_stands-via-then-not-row_stands w ↦ no_row _ _ _ _ _ _ _ inv.so last.one_less _ last.here w.if-not-row_stands.ensures
      | then-not-row_stands-via-else-not-row_stands+then-not-prepend w ↦
          no_turn _ _ _ _ _ _ _ inv.so last.one_less _ last.here w.if-not-row_stands.ensures (rw (← i) (w.if-not-prepend.ensures _ inv.so.block inv.so.frames inv.so.stacked))
    ] in
    sym (ap is_some none)

pub each-preserved : goal.each-preserved
each-preserved c =
    let inv = c.each.invariant in
    let step = c.in-Some.ensures.steps in
    let last = last_left c.args.rows.now _ _ _ step.1.0 inv.front in
    let i : c.in-Some.i ≡ length c.next.new.self.iter.iter.rest.now = omega arith in
    record {
      from_0 = step.0 ∙ inv.from_0;
      front = last.front;
      so = rw c.first_node-next.ensures (one_more _ _ _ _ _ _ _ inv.so last.one_less _ last.here c.if-not-row_stands.ensures _ (rw (← i) (c.if-not-prepend.ensures _ inv.so.block inv.so.frames inv.so.stacked)));
      can_next = (tt, tt, omega arith);
      is_finite = tt;
    }

pub returns : goal.returns
returns c =
    c.is_finished.ensures ∙ sym (ends _ _ c.args.rows.now _ _ _ c.each.invariant.so c.in-None.ensures.steps.1.0)
