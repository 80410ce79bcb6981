-- The declarations and rows make the spelling.
use Rattle.std.proofs.Common.{sym, ap, ◌∙◌, arith, rules}
use Rattle.spelling.proofs.Nodes.{held}
use Rattle.spelling.proofs.Whole.{whole}
use Rattle.spelling.proofs.programs.put_program.Goals as goal

pub returns : goal.returns
returns c =
    let same = sym (c.put_rows.ensures.same ∙ c.put_declarations.ensures.same ∙ ap (λ m. m.ghost_name) c.new-out.ensures.0) in
    let before = sym (ap (λ m. m.now) c.new-out.ensures.0) in
    whole c.args.program.now (held c.args.program.now) (omega arith) before c.new-out.ensures.1 (search rules) c.put_declarations.ensures c.put_rows.ensures
