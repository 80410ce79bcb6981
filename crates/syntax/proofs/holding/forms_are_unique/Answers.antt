-- One form a script, and one script a form.
use Rattle.syntax.proofs.Forms.{forms}
use Rattle.syntax.proofs.holding.forms_are_unique.Goals as goal

pub returns : goal.returns
returns c = forms
