-- The number and the layer of each reason to refuse, and the line that a refusal is printed as.
--
-- Example: a numeral with a leading zero at byte 8 is the reason `Malformed`, of number 2 and layer Letters, and prints
-- `refused 2 at 8`.
use Rattle.std.specs.Prelude.{◌≡◌, ℕ, List, ◌++◌, codes, decimal}
use Rattle.refusals.specs.declared.Layer.{Layer}
use Rattle.refusals.specs.declared.Layer.TheVariants.{Letters, Grammar, Names, Levels, Forms, Run, State}
use Rattle.refusals.specs.declared.Reason.{Reason}
use Rattle.refusals.specs.declared.Reason.TheVariants.{StrayByte, Malformed, Unexpected, Undeclared, BadDeclaration, TooDeep, NoRoom, TextTooLong, NotACode, Reserved, TooLarge, BankTooSmall, NotAForm, NoSuchVariable, MoreToDo, NoSuchLine, TooShort}
use Rattle.refusals.specs.declared.Refusal.{Refusal}

abbrev pub reason_number : Reason → ℕ
reason_number StrayByte = 1
reason_number Malformed = 2
reason_number Unexpected = 3
reason_number Undeclared = 4
reason_number BadDeclaration = 5
reason_number TooDeep = 6
reason_number NoRoom = 7
reason_number TextTooLong = 8
reason_number NotACode = 9
reason_number Reserved = 10
reason_number TooLarge = 11
reason_number BankTooSmall = 12
reason_number NotAForm = 13
reason_number NoSuchVariable = 14
reason_number MoreToDo = 21
reason_number NoSuchLine = 22
reason_number TooShort = 23

abbrev pub reason_layer : Reason → Layer
reason_layer StrayByte = Letters
reason_layer Malformed = Letters
reason_layer TextTooLong = Letters
reason_layer Unexpected = Grammar
reason_layer TooDeep = Grammar
reason_layer NoRoom = Grammar
reason_layer Undeclared = Names
reason_layer BadDeclaration = Names
reason_layer NotACode = Levels
reason_layer Reserved = Levels
reason_layer TooLarge = Levels
reason_layer NotAForm = Forms
reason_layer BankTooSmall = Run
reason_layer NoSuchVariable = Run
reason_layer MoreToDo = State
reason_layer NoSuchLine = State
reason_layer TooShort = State

-- what a refusal prints
abbrev pub shown_refusal : Refusal → List ℕ
shown_refusal x = codes "refused " ++ (decimal (reason_number x.reason) ++ (codes " at " ++ decimal x.place))

-- a number belongs to one reason
abbrev pub NumbersDiffer : Type 0
NumbersDiffer = (a b : Reason) → reason_number a ≡ reason_number b → a ≡ b
