use Rattle.std.proofs.Common.{refl}
use Rattle.letters.specs.declared.keywords.Keyword.TheVariants.{Var, Skip, If, Then, Else, End, While, Do, Write, Stop, Declassify, Max}
use Rattle.letters.specs.Keywords.{KeywordsWritten}
use Rattle.letters.proofs.Unique.{one_way, none_longer}
use Rattle.letters.proofs.texts.token_laws.Goals as goal

written : KeywordsWritten
written Var = refl
written Skip = refl
written If = refl
written Then = refl
written Else = refl
written End = refl
written While = refl
written Do = refl
written Write = refl
written Stop = refl
written Declassify = refl
written Max = refl

pub returns : goal.returns
returns c = record { one_way = one_way; none_longer = none_longer; keywords = written }
