-- An expression or a release behind `:=`.
use Rattle.std.proofs.Common.{◌≡◌, ℕ, ◌<◌, ◌≤◌, Bool, true, false, List, [], ◌∷◌, length, get_or, sym, refl, ap, ◌∙◌, ap₂, arith}
use Rattle.std.proofs.lemmas.Bool.{cond-false}
use Rattle.refusals.specs.declared.Refusal.{Refusal}
use Rattle.letters.specs.declared.keywords.Keyword.TheVariants.{Declassify}
use Rattle.letters.specs.declared.symbols.Symbol.TheVariants.{Open, Close, Assign}
use Rattle.letters.specs.declared.tokens.Token.{Token}
use Rattle.letters.specs.declared.tokens.Token.TheVariants as case
use Rattle.letters.specs.Tokens.{Lexeme, view, token, next_at, is_end}
use Rattle.letters.specs.Tokens as lex
use Rattle.letters.specs.Texts.{Piece, Ending}
use Rattle.lists.specs.Overlay.{Laid}
use Rattle.syntax.specs.declared.form.Node.{Node}
use Rattle.syntax.specs.declared.form.Row.{Row}
use Rattle.syntax.specs.declared.form.Row.TheVariants as row
use Rattle.syntax.specs.Trees.{Expression, LegalExpression, LegalStatement, nesting_of, single}
use Rattle.syntax.specs.Parts.{expression_nodes}
use Rattle.syntax.specs.Emits.{Emits}
use Rattle.syntax.proofs.Emitting.{emits_assign, emits_release}
use Rattle.reading.specs.Grammar.{Terminal, name, keyword, symbol, terminal, terminals, statement_tokens}
use Rattle.reading.specs.Rule.{Expected, expression, assigned, the_symbol, step, judge, resolve}
use Rattle.reading.specs.Reads.{Ahead, ExpressionRead, Fails}
use Rattle.reading.specs.Assigns.{assigned_tokens, assigning, assigning_row, AssignedRead, ReleasedRead}
use Rattle.reading.proofs.Aheads.{found, found_end}
use Rattle.reading.specs.Fixed.{keywords_differ}

module _ (text : List ℕ) (at : ℕ) (names : List (List ℕ)) (ps : List Piece) (f : Ending) (a : Ahead text at ps f) where
  -- without `declassify` an expression is expected
  plain_token : (l : Lexeme) (s e : ℕ) → token l s e ≡ next_at text at → is_end l ≡ false → e ≤ length text → ((K : List Expected) → step names (assigned ∷ K) (terminal l) ≡ step names (expression 20 ∷ K) (terminal l)) → (K : List Expected) → judge (length text) ps f names (assigned ∷ K) ≡ judge (length text) ps f names (expression 20 ∷ K)
  plain_token l s e h more short same K =
      let g = found text at ps f l s e a h more short in
      ap (λ x. judge (length text) x f names (assigned ∷ K)) g.1
      ∙ ap (λ v. resolve v s (judge (length text) g.0 f)) (same K)
      ∙ ap (λ x. judge (length text) x f names (expression 20 ∷ K)) (sym g.1)

  pub plain : (t : Token) (s e : ℕ) → token (view t) s e ≡ next_at text at → e ≤ length text → (view t ≡ lex.keyword Declassify → ⊥) → (K : List Expected) → judge (length text) ps f names (assigned ∷ K) ≡ judge (length text) ps f names (expression 20 ∷ K)
  plain case.End s e h short other K =
      let g = found_end text at ps f s e a h in
      ap₂ (λ x y. judge (length text) x y names (assigned ∷ K)) g.0 g.1 ∙ sym (ap₂ (λ x y. judge (length text) x y names (expression 20 ∷ K)) g.0 g.1)
  plain (case.Name w) s e h short other K = plain_token (lex.name w.now) s e h refl short (λ K. refl) K
  plain (case.Numeral w n) s e h short other K = plain_token (lex.numeral w.now n) s e h refl short (λ K. refl) K
  plain (case.Keyword k) s e h short other K = plain_token (lex.keyword k) s e h refl short (λ K. cond-false _ _ _ (keywords_differ k Declassify (λ q. other (ap lex.keyword q)))) K
  plain (case.Symbol x) s e h short other K = plain_token (lex.symbol x) s e h refl short (λ K. refl) K

  pub plain_read : {nodes nodes' : List Node} {used used' to : ℕ} (v : ℕ) → ((K : List Expected) → judge (length text) ps f names (assigned ∷ K) ≡ judge (length text) ps f names (expression 20 ∷ K)) → ExpressionRead text names 20 (expression 20 ∷ []) ps f nodes used nodes' to used' → AssignedRead text names v ps f nodes used nodes' (row.Assign v used) to used'
  plain_read v same e = record {
    released = false;
    tree = e.tree;
    passed = record { rest = e.passed.rest; ahead = e.passed.ahead; reads = e.passed.reads; passes = λ K. same K ∙ e.passed.passes K };
    legal = record { ranged = e.ranged; shallow = e.shallow };
    laid = e.laid;
    row_is = refl;
  }

  pub release_fails : (rest : List Piece) (s e : ℕ) (r : Refusal) → ps ≡ record { token = lex.keyword Declassify; start = s; stop = e } ∷ rest → Fails text names (the_symbol Open ∷ expression 20 ∷ the_symbol Close ∷ []) rest f r → Fails text names (assigned ∷ []) ps f r
  release_fails rest s e r is h K = ap (λ x. judge (length text) x f names (assigned ∷ K)) is ∙ h K

  pub release_read : (rest : List Piece) (s e : ℕ) {nodes nodes' : List Node} {used used' to : ℕ} (v : ℕ) → ps ≡ record { token = lex.keyword Declassify; start = s; stop = e } ∷ rest → ReleasedRead text names rest f nodes used nodes' to used' → AssignedRead text names v ps f nodes used nodes' (row.Release v used) to used'
  release_read rest s e v is r = record {
    released = true;
    tree = r.tree;
    passed = record {
      rest = r.passed.rest;
      ahead = r.passed.ahead;
      reads = ap terminals is ∙ ap (λ t. keyword Declassify ∷ t) r.passed.reads;
      passes = λ K. ap (λ x. judge (length text) x f names (assigned ∷ K)) is ∙ r.passed.passes K;
    };
    legal = r.legal;
    laid = r.laid;
    row_is = refl;
  }

-- an assignment or a release, from behind its name
pub assign_written : (b : Bool) (names : List (List ℕ)) (v : ℕ) (e : Expression) (rest : List Terminal) → name (get_or names v []) ∷ symbol Assign ∷ assigned_tokens b names e rest ≡ statement_tokens names (assigning b v e) rest
assign_written false names v e rest = refl
assign_written true names v e rest = refl

pub assign_legal : (b : Bool) (k v : ℕ) (e : Expression) → v < k → LegalExpression k e → LegalStatement k (assigning b v e)
assign_legal false k v e h l = (h, l)
assign_legal true k v e h l = (h, l)

pub assign_nested : (b : Bool) (v : ℕ) (e : Expression) (room : ℕ) → nesting_of (assigning b v e) ≤ room
assign_nested false v e room = omega arith
assign_nested true v e room = omega arith

pub assign_emits : (b : Bool) (v : ℕ) (e : Expression) {xs ys : List Row} {ms ns : List Node} {i k j l : ℕ} → Laid xs i (assigning_row b v k ∷ []) ys j → Laid ms k (expression_nodes e) ns l → Emits (single (assigning b v e)) xs ms i k ys ns j l
assign_emits false v e r n = emits_assign v e r n
assign_emits true v e r n = emits_release v e r n
