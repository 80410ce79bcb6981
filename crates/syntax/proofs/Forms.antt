-- One form a script, and one script a form (`forms`), from both directions: Complete.antt and Sound.antt.
use Rattle.std.proofs.Common.{◌≡◌, true, false, List, length, is_some, Some, None, Option, sym, refl, ap, ◌∙◌}
use Rattle.std.proofs.lemmas.Bool.{cond-true, cond-false, false≢true}
use Rattle.syntax.specs.declared.form.Node.{Node}
use Rattle.syntax.specs.declared.form.Row.{Row}
use Rattle.syntax.specs.declared.form.Declaration.{Declaration}
use Rattle.syntax.specs.Names.{well_declared}
use Rattle.syntax.specs.Trees.{Statements}
use Rattle.syntax.specs.Decoder.{bind, statements_of}
use Rattle.syntax.specs.Scripts.{Script, WellFormed}
use Rattle.syntax.specs.Forms.{IsForm, script_of, Forms}
use Rattle.syntax.proofs.Prefix.{Of, of_at, bind_of, cond_of}
use Rattle.syntax.proofs.Complete.{reads_form}
use Rattle.syntax.proofs.Sound.{FormOf, read_form}

abbrev script : List Declaration → Statements → Script
script ds s = record { declarations = ds; statements = s }

pub reads : (p : Script) (ds : List Declaration) (rows : List Row) (nodes : List Node) → WellFormed p → IsForm p ds rows nodes → script_of ds rows nodes ≡ Some p
unfolding script_of
reads p ds rows nodes w f =
    rw (f.declarations_are, f.rows_are, f.nodes_are)
    (cond-true _ _ _ w.names ∙ ap (λ x. bind x (λ s. Some (record { declarations = p.declarations; statements = s }))) (reads_form (length p.declarations) p.statements w.legal w.room))

form_of : (ds : List Declaration) (rows : List Row) (nodes : List Node) → Of (script_of ds rows nodes) (λ p. WellFormed p × IsForm p ds rows nodes)
unfolding script_of
form_of ds rows nodes = cond_of (well_declared ds) _ _ (λ q.
    bind_of (statements_of (length ds) rows nodes) _ (FormOf (length ds) rows nodes) _ (read_form (length ds) nodes rows) (λ s f. (
      record { names = q; legal = f.legal; room = f.room },
      record { declarations_are = refl; rows_are = f.rows_are; nodes_are = f.nodes_are },
    )))

pub forms : Forms
forms = (reads, λ p ds rows nodes e. of_at (script_of ds rows nodes) p (λ p. WellFormed p × IsForm p ds rows nodes) e (form_of ds rows nodes))

-- lists that are a form, and those that are none
pub found : (ds : List Declaration) (rows : List Row) (nodes : List Node) → is_some (script_of ds rows nodes) ≡ true → (s : Script) × (WellFormed s × IsForm s ds rows nodes)
found ds rows nodes h = by (script_of ds rows nodes) h (form_of ds rows nodes)
  where
    by : (o : Option Script) → is_some o ≡ true → Of o (λ p. WellFormed p × IsForm p ds rows nodes) → (s : Script) × (WellFormed s × IsForm s ds rows nodes)
    by None h f = absurd (false≢true h)
    by (Some p) h f = (p, f)

pub none_found : (ds : List Declaration) (rows : List Row) (nodes : List Node) → is_some (script_of ds rows nodes) ≡ false → (s : Script) → WellFormed s → IsForm s ds rows nodes → ⊥
none_found ds rows nodes h s w f = false≢true (sym h ∙ ap is_some (reads s ds rows nodes w f))

-- both checks say it
pub held : (ds : List Declaration) (rows : List Row) (nodes : List Node) → well_declared ds ≡ true → is_some (script_of ds rows nodes) ≡ is_some (statements_of (length ds) rows nodes)
unfolding script_of
held ds rows nodes h = ap is_some (cond-true _ _ _ h) ∙ by (statements_of (length ds) rows nodes)
  where
    by : (o : Option Statements) → is_some (bind o (λ s. Some (script ds s))) ≡ is_some o
    by None = refl
    by (Some s) = refl

pub not_held : (ds : List Declaration) (rows : List Row) (nodes : List Node) → well_declared ds ≡ false → is_some (script_of ds rows nodes) ≡ false
unfolding script_of
not_held ds rows nodes h = ap is_some (cond-false _ _ _ h)
