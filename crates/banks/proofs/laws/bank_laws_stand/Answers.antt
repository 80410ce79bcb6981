use Rattle.banks.proofs.ByteLayout.{four_each, signed_numbers, every_number, read_back, nothing_else}
use Rattle.banks.proofs.Zeros.{length-cleared, cleared-first, cleared_rest}
use Rattle.banks.proofs.laws.bank_laws_stand.Goals as goal

pub returns : goal.returns
returns c = record { four = four_each; signed = signed_numbers; every = every_number; back = read_back; all = nothing_else; zeros = λ n rs. (length-cleared n rs, cleared-first n rs, cleared_rest n rs) }
