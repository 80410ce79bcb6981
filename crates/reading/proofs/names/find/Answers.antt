use Rattle.std.proofs.Common.{◌≡◌, true, false, rules, tests, arith}
use Rattle.std.specs.Str.{bytes_eq}
use Rattle.std.proofs.lemmas.Iterator.{IsFirst-from_position, YieldsList-from_slice}
use Rattle.std.proofs.option.Match.{if_some, if_none}
use Rattle.reading.proofs.Tables.{among_here, among_none}
use Rattle.reading.proofs.names.find.Goals as goal

pub returns-in_err-place : goal.returns-in_err-place
returns-in_err-place c =
    let w = c.args.word.now in
    let first = if_none _ _ c.in_err-place.was (IsFirst-from_position _ _ _ (λ x. bytes_eq x.now w ≡ true) (λ x. bytes_eq x.now w ≡ false) c.position.ensures.ran (YieldsList-from_slice _ c.iter.ensures.rest) (λ x q k. search (rules, tests)) (λ x q k. search (rules, tests))) in
    rw c.from_residual.ensures (among_none w c.args.names.now (λ k d lt. first k d (omega arith) lt))

pub returns : goal.returns
returns c =
    let w = c.args.word.now in
    let first = if_some _ _ _ c.in_ok-place.was (IsFirst-from_position _ _ _ (λ x. bytes_eq x.now w ≡ true) (λ x. bytes_eq x.now w ≡ false) c.position.ensures.ran (YieldsList-from_slice _ c.iter.ensures.rest) (λ x q k. search (rules, tests)) (λ x q k. search (rules, tests))) in
    among_here w c.args.names.now c.in_ok-place.place first.0 first.1
