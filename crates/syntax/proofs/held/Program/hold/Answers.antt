-- Both checks together say that the lists are a form.
use Rattle.std.proofs.Common.{◌≡◌, false, is_some, sym, refl, ◌∙◌}
use Rattle.syntax.specs.Forms.{script_of}
use Rattle.syntax.proofs.Forms.{held, not_held, found, none_found}
use Rattle.syntax.proofs.held.Program.hold.Goals as goal
use Rattle.syntax.proofs.held.Program.hold.Goals.{else-declarations_stand-via-else-declarations_stand, else-declarations_stand-via-then-declarations_stand+else-statements_stand}

pub invariant_of-self : goal.invariant_of-self
invariant_of-self c = record { ok = held c.args.declarations.now c.args.rows.now c.args.nodes.now (sym c.if-declarations_stand.ensures) ∙ sym c.if-statements_stand.ensures }

pub returns-then-statements_stand : goal.returns-then-statements_stand
returns-then-statements_stand c =
    let ok = held c.args.declarations.now c.args.rows.now c.args.nodes.now (sym c.if-declarations_stand.ensures) ∙ sym c.if-statements_stand.ensures in
    record { kept = (refl, refl, refl); exactly = found c.args.declarations.now c.args.rows.now c.args.nodes.now ok }

pub returns-else-declarations_stand : goal.returns-else-declarations_stand
returns-else-declarations_stand c =
    let no : is_some (script_of c.args.declarations.now c.args.rows.now c.args.nodes.now) ≡ false = elim c.else-declarations_stand.branch [
      | else-declarations_stand-via-else-declarations_stand w ↦ not_held _ _ _ (sym w.if-declarations_stand.ensures)
      | else-declarations_stand-via-then-declarations_stand+else-statements_stand w ↦ held _ _ _ (sym w.if-declarations_stand.ensures) ∙ sym w.if-statements_stand.ensures
    ] in
    record { kept = (c.new.ensures.0, c.new.ensures.1, refl); exactly = none_found c.args.declarations.now c.args.rows.now c.args.nodes.now no }
