use Rattle.std.proofs.Common.{rules, ◌≡◌, true, false, get_or, sym, ◌∙◌, arith}
use Rattle.letters.specs.Classes.{is_digit}
use Rattle.letters.proofs.Digits.{go_no, go_big, go_ok, go_end, starts}
use Rattle.letters.proofs.numerals.numeral_value.Goals as goal
use Rattle.letters.proofs.numerals.numeral_value.Goals.{else-digits-gt1-via-then-digits-gt1+else-digits-eq48, else-digits-gt1-via-else-digits-gt1}

pub loop-d-init : goal.loop-d-init
loop-d-init c = (
  starts c.args.digits.now (omega arith) (elim c.else-digits-gt1.branch [
    | else-digits-gt1-via-then-digits-gt1+else-digits-eq48 w ↦ λ _ z. w.if-digits-eq48.false z
    | else-digits-gt1-via-else-digits-gt1 w ↦ λ l z. omega arith
  ]),
  omega arith,
)

pub returns-then-not-is_digit : goal.returns-then-not-is_digit
returns-then-not-is_digit c =
    let e : is_digit (get_or c.args.digits.now c.loop-d.d-index 0) ≡ false = search rules in
    sym (c.loop-d.invariant.0 ∙ go_no _ _ _ c.loop-d-test.true e)

pub returns-then-sum-gt-MOST : goal.returns-then-sum-gt-MOST
returns-then-sum-gt-MOST c = sym (c.loop-d.invariant.0 ∙ go_big _ _ _ c.loop-d-test.true c.if-sum-gt-MOST.true)

pub loop-d-preserved : goal.loop-d-preserved
loop-d-preserved c =
    let e : is_digit (get_or c.args.digits.now c.loop-d.d-index 0) ≡ true = search rules in
    (c.loop-d.invariant.0 ∙ go_ok _ _ _ c.loop-d-test.true e c.if-sum-gt-MOST.false, omega arith)

pub returns : goal.returns
returns c = sym (c.loop-d.invariant.0 ∙ go_end _ _ _ c.loop-d-test.false)
