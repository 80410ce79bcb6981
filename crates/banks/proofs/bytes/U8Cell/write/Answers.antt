use Rattle.std.proofs.Common.{◌<◌, ◌+◌, ◌-◌, ◌*◌, ◌/◌, length, nat_lt, ap, ◌∙◌, arith}
use Rattle.std.proofs.lemmas.Int.{to_z-of_z}
use Rattle.banks.specs.Words.{words, left_over}
use Rattle.banks.proofs.Registers.{length-words, words-written, left_over_written}
use Rattle.banks.proofs.Chunks.{chunk_written}
use Rattle.banks.proofs.bytes.U8Cell.write.Goals as goal

pub returns-then-there : goal.returns-then-there
returns-then-there c =
    let bs = c.args.bytes.now in
    let k = c.args.k in
    let v = c.args.v in
    let inside : k < length bs / 4 = omega (arith, c.count.ensures, length-words bs) in
    let copied = simp (to_z-of_z, c.ranges.v) at (c.copy_from_slice.ensures.after ∙ c.to_be_bytes.ensures) in
    let e = chunk_written bs c.copy_from_slice.new.self k (4 * k + 4 - 4 * k) v inside (omega arith) copied in
    record { told = ap (nat_lt k) c.count.ensures; after = ap words e ∙ words-written bs k v c.ranges.v; spare = ap left_over e ∙ left_over_written bs k v; cells = e }
