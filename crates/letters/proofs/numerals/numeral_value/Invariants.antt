use Rattle.std.proofs.Common.{◌≡◌, ◌≤◌, drop}
use Rattle.letters.specs.Numerals.{numeral_of}
use Rattle.letters.proofs.Digits.{go}
use Rattle.letters.proofs.numerals.numeral_value.Given as goal

abbrev pub invariant-loop-d : goal.invariant-loop-d
invariant-loop-d l = (numeral_of l.digits ≡ go l.sum (drop l.d-index l.digits)) × (l.sum ≤ 2147483647)
