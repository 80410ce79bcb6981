-- The rows before the present one are written.
use Rattle.std.proofs.Common.{take}
use Rattle.syntax.specs.Held.{tree_rows_held}
use Rattle.spelling.specs.Buffers.{Put}
use Rattle.spelling.specs.Parts.{rows_bytes, names_held}
use Rattle.spelling.proofs.rows.put_rows.Given as goal

abbrev pub invariant-each : goal.invariant-each
invariant-each l = Put l.initial.out l.out (rows_bytes (names_held l.program) (take l.at (tree_rows_held l.program)))
