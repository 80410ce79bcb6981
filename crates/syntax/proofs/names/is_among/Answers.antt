-- One of the declarations has the name if it is among their names.
use Rattle.std.proofs.Common.{◌∙◌, rules}
use Rattle.std.proofs.lemmas.Iterator.{YieldsList-from_slice}
use Rattle.std.proofs.lemmas.Iterator.Search.{any_from_yields_List}
use Rattle.std.specs.Str.{bytes_eq}
use borrow.Author.Tests.{tests}
use Rattle.syntax.specs.Names.{spelled}
use Rattle.syntax.proofs.Spelled.{among_names}
use Rattle.syntax.proofs.names.is_among.Goals as goal

pub returns : goal.returns
returns c =
    let w = spelled c.args.name.now in
    any_from_yields_List (λ d. bytes_eq w (spelled d.name)) _ _ _ c.any.ensures.ran (YieldsList-from_slice c.args.declarations.now cc) (λ x b q k. search (rules, tests))
    ∙ among_names w c.args.declarations.now
