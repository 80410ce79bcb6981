use Rattle.std.proofs.Common.{[], ◌∷◌, ◌++◌}
use Rattle.reading.specs.Heard.{heard}
use Rattle.reading.proofs.Declares.{declaration_read}
use Rattle.reading.proofs.cursor.Cursor.declaration.Goals as goal

pub returns-clause-read : goal.returns-clause-read
returns-clause-read c = λ ps f a.
    let names = heard c.args.names.now.items in
    let w = c.in_ok-word.word.now in
    let n = c.in_ok-word.ensures.read ps f a in
    let behind = rw c.in_ok-word.ensures.same at c.in_ok-level.ensures.read in
    let l = behind (names ++ (w ∷ [])) n.rest f n.ahead in
    let name = c.name_of-name.ensures in
    declaration_read c.args.self.now.text.now names w c.name_of-name.result c.in_ok-level.level ps f c.take_new_name.new.self.at c.take_level.new.self.at n l.0 l.1 (name.length n.legal.short) (name.bytes n.legal.short)
