-- A script from its declarations and its statements, and what `read` leaves in the lists.
use Rattle.std.proofs.Common.{◌≡◌, ℕ, ◌-◌, ◌≤◌, true, List, [], ◌∷◌, ◌++◌, length, take, replicate, sym, refl, ap, ◌∙◌, subst, ap₂, arith, le-leb}
use Rattle.refusals.specs.declared.Reason.{Reason}
use Rattle.refusals.specs.declared.Reason.TheVariants.{Unexpected, NoRoom}
use Rattle.refusals.specs.declared.Refusal.{Refusal}
use Rattle.letters.specs.declared.tokens.Token.{Token}
use Rattle.letters.specs.declared.tokens.Token.TheVariants as case
use Rattle.letters.specs.Tokens.{view, token, next_at}
use Rattle.letters.specs.Tokens as lex
use Rattle.letters.specs.Texts.{Piece, Ending, finished, MadeOf}
use Rattle.lists.proofs.Laws.{blank-behind}
use Rattle.syntax.specs.declared.form.Declaration.{Declaration}
use Rattle.syntax.specs.declared.form.Node.{Node}
use Rattle.syntax.specs.declared.form.Node.TheVariants.{Numeral}
use Rattle.syntax.specs.declared.form.Row.{Row}
use Rattle.syntax.specs.declared.form.Row.TheVariants.{Skip}
use Rattle.syntax.specs.Names.{well_declared, blank_declaration}
use Rattle.syntax.specs.Trees.{LegalStatements}
use Rattle.syntax.proofs.Emitting.{rows_laid_form, nodes_laid_form}
use Rattle.reading.specs.declared.scripts.Used.{Used}
use Rattle.reading.specs.Grammar.{terminals, declarations_tokens, statements_tokens}
use Rattle.reading.specs.Rule.{statements, whole, judge, accepted, refused}
use Rattle.reading.specs.Reads.{Progress, Ahead, ListRead}
use Rattle.reading.specs.Declares.{DeclarationsRead, DeclarationsOver}
use Rattle.reading.specs.Scripts.{ScriptRead, Accepted, Cramped, RefusedTexts}
use Rattle.reading.proofs.Accepts.{accepts, spellings-length}
use Rattle.reading.proofs.Aheads.{found}

module _ (text : List ℕ) (names : List (List ℕ)) (ps : List Piece) (f : Ending) {ds ds' : List Declaration} {at count : ℕ} (D : DeclarationsRead text names ps f ds ds' at count) (over : DeclarationsOver text names at f) where
  pub whole-judged : {rows rows' : List Row} {nodes nodes' : List Node} {from to : Progress} (L : ListRead text names 20 D.rest f rows nodes from rows' nodes' to) → judge (length text) ps f [] whole ≡ judge (length text) L.passed.rest f names []
  whole-judged L = D.passes (statements 20 ∷ []) ∙ over D.rest D.ahead (statements 20 ∷ []) ∙ L.passed.passes []

  pub list_judged : (e : Refusal) → judge (length text) D.rest f names (statements 20 ∷ []) ≡ refused e.reason e.place → judge (length text) ps f [] whole ≡ refused e.reason e.place
  list_judged e h = D.passes (statements 20 ∷ []) ∙ over D.rest D.ahead (statements 20 ∷ []) ∙ h

  pub script_read : {rows rows' : List Row} {nodes nodes' : List Node} {to : Progress} (L : ListRead text names 20 D.rest f rows nodes (record { at = at; rows = 0; nodes = 0 }) rows' nodes' to) → MadeOf 0 text ps f → length text ≤ 1048576 → length names ≤ 256 → (L.passed.rest ≡ []) × (f ≡ finished) → ScriptRead text ds rows nodes ds' rows' nodes' (record { declarations = count; rows = to.rows; nodes = to.nodes })
  script_read L m short few end =
      let names-are : length names ≡ length D.tree = ap length D.named ∙ spellings-length D.tree in
      let n : length D.tree ≤ 256 = omega (arith, names-are) in
      let well : well_declared D.tree ≡ true = rw (le-leb (length D.tree) 256 n, D.legal, D.apart) refl in
      record {
        script = record { declarations = D.tree; statements = L.tree };
        text_of = record {
          short = short;
          pieces = ps;
          made = subst (MadeOf 0 text ps) end.1 m;
          tokens = D.reads ∙ ap (declarations_tokens D.tree) L.passed.reads ∙ ap₂ (λ x y. declarations_tokens D.tree (statements_tokens x L.tree (terminals y))) D.named end.0;
          well_formed = record { names = well; legal = subst (λ k. LegalStatements k L.tree) names-are L.legal; room = L.nested };
        };
        declared = D.laid;
        emits = L.emits;
      }

-- a token behind the script
pub behind-judged : (text : List ℕ) (at : ℕ) (names : List (List ℕ)) (ps : List Piece) (f : Ending) → Ahead text at ps f → (t : Token) (s e : ℕ) → token (view t) s e ≡ next_at text at → e ≤ length text → (t ≡ case.End → ⊥) → judge (length text) ps f names [] ≡ refused Unexpected s
behind-judged text at names ps f a case.End s e h short other = absurd (other refl)
behind-judged text at names ps f a (case.Name w) s e h short other = ap (λ x. judge (length text) x f names []) (found text at ps f (lex.name w.now) s e a h refl short).1
behind-judged text at names ps f a (case.Numeral w n) s e h short other = ap (λ x. judge (length text) x f names []) (found text at ps f (lex.numeral w.now n) s e a h refl short).1
behind-judged text at names ps f a (case.Keyword k) s e h short other = ap (λ x. judge (length text) x f names []) (found text at ps f (lex.keyword k) s e a h refl short).1
behind-judged text at names ps f a (case.Symbol x) s e h short other = ap (λ x. judge (length text) x f names []) (found text at ps f (lex.symbol x) s e a h refl short).1

-- the lists at the end
pub accepted_read : {text : List ℕ} {ds ds' : List Declaration} {rows rows' : List Row} {nodes nodes' : List Node} {used : Used} (s : ScriptRead text ds rows nodes ds' rows' nodes' used) → used.declarations ≤ length ds → used.rows ≤ length rows → used.nodes ≤ length nodes → Accepted text (length ds) (length rows) (length nodes) (take used.declarations ds' ++ replicate (length ds' - used.declarations) blank_declaration) (take used.rows rows' ++ replicate (length rows' - used.rows) Skip) (take used.nodes nodes' ++ replicate (length nodes' - used.nodes) (Numeral 0)) used
accepted_read s a b c =
    let r = rows_laid_form s.emits in
    let n = nodes_laid_form s.emits in
    record {
      script = s.script;
      text_of = s.text_of;
      declarations_are = blank-behind blank_declaration s.declared a;
      rows_are = blank-behind Skip r b;
      nodes_are = blank-behind (Numeral 0) n c;
      declarations_used = omega (arith, s.declared.behind);
      rows_used = omega (arith, r.behind);
      nodes_used = omega (arith, n.behind);
      room = (omega (arith, s.declared.behind), omega (arith, r.behind), omega (arith, n.behind));
    }

pub cramped_read : {text : List ℕ} {ds ds' : List Declaration} {rows rows' : List Row} {nodes nodes' : List Node} {used : Used} (s : ScriptRead text ds rows nodes ds' rows' nodes' used) (e : Refusal) → (used.declarations ≤ length ds → used.rows ≤ length rows → used.nodes ≤ length nodes → ⊥) → e.reason ≡ NoRoom → e.place ≡ 0 → Cramped text (length ds) (length rows) (length nodes) e
cramped_read s e h p q =
    let r = rows_laid_form s.emits in
    let n = nodes_laid_form s.emits in
    record {
      script = s.script;
      text_of = s.text_of;
      short = λ x y z. h (omega (arith, s.declared.behind)) (omega (arith, r.behind)) (omega (arith, n.behind));
      reason = p;
      place = q;
    }

apart : (r : Reason) (p : ℕ) → accepted ≡ refused r p → ⊥
apart r p h = let z : ◌≡◌ {A = ℕ} 0 1 = cc in omega arith

pub refused_texts : RefusedTexts
refused_texts text e j s t =
    apart e.reason e.place (sym (accepts (length text) t.pieces s t.well_formed t.tokens) ∙ j t.pieces finished t.made)
