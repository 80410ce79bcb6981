-- The eight operators of a script on signed 32-bit values, which are integers here.
--
-- `+`, `-` and `*` wrap: what is left is the integer's remainder by 2 ^ 32, read as a signed number. `/` drops the fraction, so that
-- -7 over 2 is -3. `=` and `<` give 1 or 0. `|` works on the 32 bits of two's complement. Laws.antt says the same in the words of the
-- language, without these functions' texts.
--
-- Example: 2147483647 + 1 is -2147483648; -1 | 0 is -1; 5 / 0 is 0.
use Rattle.std.specs.Prelude.{◌≡◌, ℕ, List, ◌++◌, codes, decimal, Result, MatchResult, Bool, true, false, cond, ℤ, pos, ◌+ℤ◌, ◌-ℤ◌, ◌*ℤ◌, Some, None, Option, ◌==◌, bit_or, int_div, int_lt}
use Rattle.std.specs.Ordering.{int_eq}
use Rattle.std.specs.Int.{cast_signed, cast_unsigned, int_max, int_wrap, w32}
use Rattle.values.specs.declared.Operator.{Operator}
use Rattle.values.specs.declared.Operator.TheVariants.{Add, Subtract, Multiply, Divide, Equal, Less, Maximum, Or}
use Rattle.values.specs.declared.UnknownOperator.{UnknownOperator}

-- the quotient: `int_div` drops the fraction and gives 0 at a zero divisor; the least number over -1 wraps to itself
abbrev pub quotient : ℤ → ℤ → ℤ
quotient a b = cast_signed w32 (cast_unsigned w32 (int_div a b))

-- what a comparison gives
abbrev pub truth : Bool → ℤ
truth true = pos 1
truth false = pos 0

abbrev pub operate : Operator → ℤ → ℤ → ℤ
operate Add a b = int_wrap w32 (a +ℤ b)
operate Subtract a b = int_wrap w32 (a -ℤ b)
operate Multiply a b = int_wrap w32 (a *ℤ b)
operate Divide a b = quotient a b
operate Equal a b = truth (int_eq a b)
operate Less a b = truth (int_lt a b)
operate Maximum a b = int_max a b
operate Or a b = cast_signed w32 (bit_or (cast_unsigned w32 a) (cast_unsigned w32 b))

-- the operators' numbers
abbrev pub number_of : Operator → ℕ
number_of Add = 0
number_of Subtract = 1
number_of Multiply = 2
number_of Divide = 3
number_of Equal = 4
number_of Less = 5
number_of Maximum = 6
number_of Or = 7

-- the operator of a number
abbrev pub operator_numbered : ℕ → Option Operator
operator_numbered n =
    cond (n == 0) (Some Add) (cond (n == 1) (Some Subtract) (cond (n == 2) (Some Multiply) (cond (n == 3) (Some Divide)
    (cond (n == 4) (Some Equal) (cond (n == 5) (Some Less) (cond (n == 6) (Some Maximum) (cond (n == 7) (Some Or) None)))))))

-- the operator of a number, or an error that holds the number where no operator has it
abbrev pub OperatorOrUnknown : ℕ → Result Operator UnknownOperator → Type 0
OperatorOrUnknown n r = MatchResult r (λ o. operator_numbered n ≡ Some o) (λ e. (e.0 ≡ n) × (operator_numbered n ≡ None))

-- what an unknown number prints
abbrev pub shown_unknown : UnknownOperator → List ℕ
shown_unknown e = codes "no operator has number " ++ decimal e.0
