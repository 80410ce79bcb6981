use Rattle.std.proofs.Common.{replicate, ap, ◌∙◌, inr, arith}
use Rattle.syntax.specs.declared.form.Node.TheVariants.{Numeral}
use Rattle.syntax.specs.declared.form.Row.TheVariants.{Skip}
use Rattle.syntax.specs.Names.{blank_declaration}
use Rattle.reading.proofs.Wholes.{accepted_read, cramped_read}
use Rattle.reading.proofs.scripts.read.Goals as goal

pub returns-then-has_room : goal.returns-then-has_room
returns-then-has_room c =
    let fits = c.if-has_room.ensures in
    let A = accepted_read c.in-Ok.ensures (omega (arith, fits.0, c.parse.auto.declarations)) (omega (arith, fits.1, c.parse.auto.rows)) (omega (arith, fits.2, c.parse.auto.nodes)) in
    rw (c.blank.ensures, c.default.ensures, c.blank-then-has_room.ensures, c.default-then-has_room.ensures, c.blank-then-has_room-2.ensures, c.default-then-has_room-2.ensures) A

pub returns-else-has_room : goal.returns-else-has_room
returns-else-has_room c =
    let b = c.blank_all-else-has_room.ensures in
    let tight = c.if-has_room.ensures in (
      record {
        declarations_are = b.declarations_are ∙ ap (λ k. replicate k blank_declaration) c.parse.auto.declarations;
        rows_are = b.rows_are ∙ ap (λ k. replicate k Skip) c.parse.auto.rows;
        nodes_are = b.nodes_are ∙ ap (λ k. replicate k (Numeral 0)) c.parse.auto.nodes;
      },
      inr (inr (cramped_read c.in-Ok.ensures c.new-else-has_room.result (λ x y z. tight (omega (arith, c.parse.auto.declarations)) (omega (arith, c.parse.auto.rows)) (omega (arith, c.parse.auto.nodes))) c.new-else-has_room.ensures.0 c.new-else-has_room.ensures.1)),
    )
