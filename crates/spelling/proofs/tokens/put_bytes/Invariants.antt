-- The bytes before the present one are written.
use Rattle.std.proofs.Common.{take}
use Rattle.spelling.specs.Buffers.{Put}
use Rattle.spelling.proofs.tokens.put_bytes.Given as goal

abbrev pub invariant-each : goal.invariant-each
invariant-each l = Put l.initial.out l.out (take l.byte-index l.bytes)
