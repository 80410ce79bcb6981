-- That a script is read, and what `read` answers and leaves in the lists.
--
-- Accepted: the text is the text of a script, the lists are its form and then blanks, and the places used are told. Refused: the lists hold only
-- blanks, and either the text is too long, or the left-to-right rule refuses it with that reason and place, or it is the text of a script and
-- one of the lists is too short for it. By `RefusedTexts` and by `OneScript` of Grammar.antt the three exclude each other and the script is
-- the only one: a text is accepted exactly where it is the text of a script and the lists have room.
use Rattle.std.specs.Prelude.{◌≡◌, ℕ, ◌-◌, ◌<◌, ◌≤◌, ◌⊎◌, List, [], ◌∷◌, ◌++◌, length, replicate, Ok, Err, Result}
use Rattle.refusals.specs.declared.Reason.{Reason}
use Rattle.refusals.specs.declared.Reason.TheVariants.{TextTooLong, NoRoom}
use Rattle.refusals.specs.declared.Refusal.{Refusal}
use Rattle.letters.specs.Texts.{Piece, Ending, finished, Spells, MadeOf}
use Rattle.lists.specs.Overlay.{Laid}
use Rattle.syntax.specs.declared.form.Declaration.{Declaration}
use Rattle.syntax.specs.declared.form.Node.{Node}
use Rattle.syntax.specs.declared.form.Node.TheVariants.{Numeral}
use Rattle.syntax.specs.declared.form.Row.{Row}
use Rattle.syntax.specs.declared.form.Row.TheVariants.{Skip}
use Rattle.syntax.specs.Names.{blank_declaration}
use Rattle.syntax.specs.Scripts.{Script}
use Rattle.syntax.specs.Form.{form_rows, form_nodes}
use Rattle.syntax.specs.Emits.{Emits}
use Rattle.reading.specs.declared.scripts.Used.{Used}
use Rattle.reading.specs.Grammar.{TextOf}
use Rattle.reading.specs.Rule.{Expected, new_name, judge, whole, accepted, refused}

-- a script is read, and as much of its form is written as finds room
pub record ScriptRead (text : List ℕ) (ds : List Declaration) (rows : List Row) (nodes : List Node) (ds' : List Declaration) (rows' : List Row) (nodes' : List Node) (used : Used) : Type 0 where
  pub script : Script
  pub text_of : TextOf text script
  pub declared : Laid ds 0 script.declarations ds' used.declarations
  pub emits : Emits script.statements rows nodes 0 0 rows' nodes' used.rows used.nodes

-- the left-to-right rule refuses the text, with that reason and place
abbrev pub Judged : List ℕ → Refusal → Type 0
Judged text e = (ps : List Piece) (f : Ending) → MadeOf 0 text ps f → judge (length text) ps f [] whole ≡ refused e.reason e.place

-- lists of so many places with blanks only, and lists that are the form of a script and then blanks
pub record Blanks (d r n : ℕ) (ds : List Declaration) (rows : List Row) (nodes : List Node) : Type 0 where
  pub declarations_are : ds ≡ replicate d blank_declaration
  pub rows_are : rows ≡ replicate r Skip
  pub nodes_are : nodes ≡ replicate n (Numeral 0)

pub record Accepted (text : List ℕ) (d r n : ℕ) (ds : List Declaration) (rows : List Row) (nodes : List Node) (used : Used) : Type 0 where
  pub script : Script
  pub text_of : TextOf text script
  pub declarations_are : ds ≡ script.declarations ++ replicate (d - length script.declarations) blank_declaration
  pub rows_are : rows ≡ form_rows script.statements ++ replicate (r - length (form_rows script.statements)) Skip
  pub nodes_are : nodes ≡ form_nodes script.statements ++ replicate (n - length (form_nodes script.statements)) (Numeral 0)
  pub declarations_used : used.declarations ≡ length script.declarations
  pub rows_used : used.rows ≡ length (form_rows script.statements)
  pub nodes_used : used.nodes ≡ length (form_nodes script.statements)
  pub room : (length script.declarations ≤ d) × (length (form_rows script.statements) ≤ r) × (length (form_nodes script.statements) ≤ n)

-- a list is too short
pub record Cramped (text : List ℕ) (d r n : ℕ) (e : Refusal) : Type 0 where
  pub script : Script
  pub text_of : TextOf text script
  pub short : (length script.declarations ≤ d) → (length (form_rows script.statements) ≤ r) → (length (form_nodes script.statements) ≤ n) → ⊥
  pub reason : e.reason ≡ NoRoom
  pub place : e.place ≡ 0

pub record Overlong (text : List ℕ) (e : Refusal) : Type 0 where
  pub long : 1048576 < length text
  pub reason : e.reason ≡ TextTooLong
  pub place : e.place ≡ 0

abbrev pub Outcome : (text : List ℕ) (d r n : ℕ) (ds : List Declaration) (rows : List Row) (nodes : List Node) → Result Used Refusal → Type 0
Outcome text d r n ds rows nodes (Ok used) = Accepted text d r n ds rows nodes used
Outcome text d r n ds rows nodes (Err e) = Blanks d r n ds rows nodes × (Overlong text e ⊎ (((length text ≤ 1048576) × Judged text e) ⊎ Cramped text d r n e))

-- a text that the rule refuses is the text of no script
abbrev pub RefusedTexts : Type 0
RefusedTexts = (text : List ℕ) (e : Refusal) → Judged text e → (s : Script) → TextOf text s → ⊥

-- the first tokens decide: the text is refused, whatever follows, or what follows is judged on its own
abbrev pub Decided : ℕ → List Piece → List (List ℕ) → List Expected → Type 0
Decided long front names K =
    ((r : Reason) × (place : ℕ) × ((rest : List Piece) (f : Ending) → judge long (front ++ rest) f names K ≡ refused r place))
    ⊎ ((names' : List (List ℕ)) × (K' : List Expected) × ((rest : List Piece) (f : Ending) → judge long (front ++ rest) f names K ≡ judge long rest f names' K'))

abbrev pub FrontsDecide : Type 0
FrontsDecide = (long : ℕ) (front : List Piece) (names : List (List ℕ)) (K : List Expected) → Decided long front names K

-- each is a token that some bytes spell
abbrev pub AreTokens : List Piece → Type 0
AreTokens [] = Unit {0}
AreTokens (p ∷ ps) = ((w : List ℕ) × Spells p.token w) × AreTokens ps

-- the first tokens are refused, or a new name must come next, or some tokens complete them to a script's
abbrev pub Completable : ℕ → List Piece → List (List ℕ) → List Expected → Type 0
Completable long front names K =
    ((r : Reason) × (place : ℕ) × ((rest : List Piece) (f : Ending) → judge long (front ++ rest) f names K ≡ refused r place))
    ⊎ (((names' : List (List ℕ)) × (K' : List Expected) × ((rest : List Piece) (f : Ending) → judge long (front ++ rest) f names K ≡ judge long rest f names' (new_name ∷ K')))
    ⊎ ((rest : List Piece) × AreTokens rest × (judge long (front ++ rest) finished names K ≡ accepted)))

abbrev pub FrontsComplete : Type 0
FrontsComplete = (long : ℕ) (front : List Piece) → Completable long front [] whole

-- the place of a refusal lies in the text or at its end
abbrev pub PlacesWithin : Type 0
PlacesWithin = (text : List ℕ) (e : Refusal) → Judged text e → e.place ≤ length text
