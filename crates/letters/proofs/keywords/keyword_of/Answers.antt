use Rattle.std.proofs.Common.{rules, IsUtf8}
use Rattle.letters.proofs.Absent.{no_text}
use Rattle.letters.proofs.keywords.keyword_of.Goals as goal

pub returns-in_err-ok : goal.returns-in_err-ok
returns-in_err-ok c =
    let bad : IsUtf8 c.args.word.now → ⊥ = search rules in
    let none = no_text c.args.word.now bad in
    search rules
