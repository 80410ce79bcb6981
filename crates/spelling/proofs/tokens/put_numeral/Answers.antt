-- One digit is the numeral.
use Rattle.std.proofs.Common.{sym, ap, ◌++◌, [], ◌∷◌}
use Rattle.std.proofs.lemmas.Fmt.{decimal_digit}
use Rattle.spelling.proofs.Putting.{put_as}
use Rattle.spelling.proofs.tokens.put_numeral.Goals as goal

pub returns-then-number-lt10 : goal.returns-then-number-lt10
returns-then-number-lt10 c = put_as (ap (λ ds. ds ++ (32 ∷ [])) (sym (decimal_digit c.args.number c.if-number-lt10.true))) c.put_word.ensures
