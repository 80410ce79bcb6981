-- That declarations are read.
use Rattle.std.specs.Prelude.{◌≡◌, ℕ, true, false, List, [], ◌∷◌, ◌++◌, length}
use Rattle.refusals.specs.declared.Refusal.{Refusal}
use Rattle.letters.specs.declared.symbols.Symbol.TheVariants as mark
use Rattle.letters.specs.Texts.{Piece, Ending, Name}
use Rattle.lists.specs.Overlay.{Laid}
use Rattle.syntax.specs.declared.form.Declaration.{Declaration}
use Rattle.syntax.specs.Names.{among, all_legal, legal_declaration, spelled, spellings, distinct}
use Rattle.reading.specs.Grammar.{name, numeral, symbol, terminals, declarations_tokens}
use Rattle.reading.specs.Rule.{Expected, declarations, new_name, a_numeral, the_symbol, judge, refused}
use Rattle.reading.specs.Reads.{Ahead}

-- a name that is not declared yet
pub record NewNameRead (text : List ℕ) (names : List (List ℕ)) (w : List ℕ) (ps : List Piece) (f : Ending) (to : ℕ) : Type 0 where
  pub rest : List Piece
  pub ahead : Ahead text to rest f
  pub reads : terminals ps ≡ name w ∷ terminals rest
  pub passes : (K : List Expected) → judge (length text) ps f names (new_name ∷ K) ≡ judge (length text) rest f (names ++ (w ∷ [])) K
  pub legal : Name w
  pub fresh : among w names ≡ false

abbrev pub NewNameFails : List ℕ → List (List ℕ) → List Piece → Ending → Refusal → Type 0
NewNameFails text names ps f e = (K : List Expected) → judge (length text) ps f names (new_name ∷ K) ≡ refused e.reason e.place

-- what is expected behind `var`
abbrev pub behind_var : List Expected
behind_var = new_name ∷ the_symbol mark.Colon ∷ a_numeral ∷ the_symbol mark.Semicolon ∷ []

-- and behind the name
abbrev pub levelled : List Expected
levelled = the_symbol mark.Colon ∷ a_numeral ∷ the_symbol mark.Semicolon ∷ []

-- a declaration, from behind `var`
pub record DeclarationRead (text : List ℕ) (names : List (List ℕ)) (w : List ℕ) (d : Declaration) (ps : List Piece) (f : Ending) (to : ℕ) : Type 0 where
  pub rest : List Piece
  pub ahead : Ahead text to rest f
  pub reads : terminals ps ≡ name (spelled d.name) ∷ symbol mark.Colon ∷ numeral d.level ∷ symbol mark.Semicolon ∷ terminals rest
  pub passes : (K : List Expected) → judge (length text) ps f names (behind_var ++ K) ≡ judge (length text) rest f (names ++ (spelled d.name ∷ [])) K
  pub spells : spelled d.name ≡ w
  pub legal : legal_declaration d ≡ true
  pub fresh : among (spelled d.name) names ≡ false

abbrev pub DeclarationFails : List ℕ → List (List ℕ) → List Piece → Ending → Refusal → Type 0
DeclarationFails text names ps f e = (K : List Expected) → judge (length text) ps f names (behind_var ++ K) ≡ refused e.reason e.place

-- declarations, and more may follow
pub record DeclarationsRead (text : List ℕ) (names : List (List ℕ)) (ps : List Piece) (f : Ending) (out out' : List Declaration) (to count : ℕ) : Type 0 where
  pub tree : List Declaration
  pub rest : List Piece
  pub ahead : Ahead text to rest f
  pub reads : terminals ps ≡ declarations_tokens tree (terminals rest)
  pub passes : (K : List Expected) → judge (length text) ps f [] (declarations ∷ K) ≡ judge (length text) rest f names (declarations ∷ K)
  pub named : names ≡ spellings tree
  pub legal : all_legal tree ≡ true
  pub apart : distinct (spellings tree) ≡ true
  pub laid : Laid out 0 tree out' count

-- no more follow
abbrev pub DeclarationsOver : List ℕ → List (List ℕ) → ℕ → Ending → Type 0
DeclarationsOver text names at f = (ps : List Piece) → Ahead text at ps f → (K : List Expected) → judge (length text) ps f names (declarations ∷ K) ≡ judge (length text) ps f names K

abbrev pub DeclarationsFail : List ℕ → List Piece → Ending → Refusal → Type 0
DeclarationsFail text ps f e = (K : List Expected) → judge (length text) ps f [] (declarations ∷ K) ≡ refused e.reason e.place
