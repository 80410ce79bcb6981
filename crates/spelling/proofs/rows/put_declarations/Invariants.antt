-- The declarations before the present one are written.
use Rattle.std.proofs.Common.{take}
use Rattle.spelling.specs.Buffers.{Put}
use Rattle.spelling.specs.Parts.{declarations_bytes}
use Rattle.spelling.proofs.rows.put_declarations.Given as goal

abbrev pub invariant-each : goal.invariant-each
invariant-each l = Put l.initial.out l.out (declarations_bytes (take l.declaration-index l.declarations))
