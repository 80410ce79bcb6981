-- Expressions from their parts.
use Rattle.std.proofs.Common.{◌≡◌, ℕ, zero, suc, ◌+◌, ◌-◌, ◌<◌, ◌≤◌, false, List, [], ◌∷◌, ◌++◌, length, get_or, Ok, Err, Result, sym, refl, ap, ◌∙◌, subst, arith, Bor, MatchResult}
use Rattle.std.proofs.lemmas.Bool.{cond-false, true≢false}
use Rattle.values.specs.declared.Operator.{Operator}
use Rattle.refusals.specs.declared.Reason.TheVariants.{Unexpected, Undeclared, TooDeep}
use Rattle.refusals.specs.declared.Refusal.{Refusal}
use Rattle.letters.specs.declared.symbols.Symbol.{Symbol}
use Rattle.letters.specs.declared.symbols.Symbol.TheVariants.{Open, Close}
use Rattle.letters.specs.declared.tokens.Token.{Token}
use Rattle.letters.specs.declared.tokens.Token.TheVariants as case
use Rattle.letters.specs.Tokens.{Lexeme, view, token, next_at, is_end}
use Rattle.letters.specs.Tokens as lex
use Rattle.letters.specs.Texts.{Piece, Ending}
use Rattle.lists.specs.Overlay.{overlay, Laid}
use Rattle.syntax.specs.declared.form.Node.{Node}
use Rattle.syntax.specs.declared.form.Node.TheVariants.{Numeral, Variable, Apply}
use Rattle.syntax.specs.Names.{among}
use Rattle.syntax.specs.Trees.{number, variable, apply}
use Rattle.syntax.proofs.Emitting.{laid_apply}
use Rattle.reading.specs.Grammar.{name, numeral, symbol, terminals, operator_terminal, expression_tokens}
use Rattle.reading.specs.Rule.{Expected, expression, operator, the_symbol, onward, step, judge}
use Rattle.reading.specs.Reads.{Passed, ExpressionRead, ApplicationRead, Fails, applied}
use Rattle.reading.proofs.Aheads.{Bad}
use Rattle.reading.proofs.Sequences.{passed_then, fails_then}
use Rattle.reading.specs.Fixed.{symbols_differ}

module _ (text : List ℕ) (names : List (List ℕ)) (room : ℕ) (ps : List Piece) (f : Ending) where
  -- an operator applied to two parts
  pub application : {nodes n1 n2 n3 : List Node} {used a1 u1 a2 a3 u2 a4 : ℕ} (o : Operator)
      (l : ExpressionRead text names room (expression room ∷ []) ps f nodes (used + 1) n1 a1 u1)
      (by : Passed text names (operator ∷ []) (λ rest. operator_terminal o ∷ rest) l.passed.rest f a2)
      (r : ExpressionRead text names room (expression room ∷ []) by.rest f n1 u1 n2 a3 u2)
      → Passed text names (the_symbol Close ∷ []) (λ rest. symbol Close ∷ rest) r.passed.rest f a4
      → n3 ≡ overlay n2 used (Apply o ∷ []) → ApplicationRead text names room ps f nodes used n3 a4 u2
  application {a1 = a1} {a2 = a2} {a3 = a3} {a4 = a4} o l by r c e = record {
    by = o;
    left = l.tree;
    right = r.tree;
    passed =
        passed_then text names (expression room ∷ []) (operator ∷ expression room ∷ the_symbol Close ∷ []) ps f (expression_tokens names l.tree) (λ rest. operator_terminal o ∷ expression_tokens names r.tree (symbol Close ∷ rest)) a1 a4 l.passed
        (passed_then text names (operator ∷ []) (expression room ∷ the_symbol Close ∷ []) l.passed.rest f (λ rest. operator_terminal o ∷ rest) (λ rest. expression_tokens names r.tree (symbol Close ∷ rest)) a2 a4 by
        (passed_then text names (expression room ∷ []) (the_symbol Close ∷ []) by.rest f (expression_tokens names r.tree) (λ rest. symbol Close ∷ rest) a3 a4 r.passed c));
    ranged = (l.ranged, r.ranged);
    shallow_left = l.shallow;
    shallow_right = r.shallow;
    laid = laid_apply o l.tree r.tree l.laid r.laid e;
  }

  -- a fault in the second part, or where the bracket should close
  pub second_fails : {nodes n1 : List Node} {used a1 u1 a2 : ℕ} (o : Operator) (e : Refusal)
      (l : ExpressionRead text names room (expression room ∷ []) ps f nodes used n1 a1 u1)
      (by : Passed text names (operator ∷ []) (λ rest. operator_terminal o ∷ rest) l.passed.rest f a2)
      → Fails text names (expression room ∷ the_symbol Close ∷ []) by.rest f e → Fails text names (applied room) ps f e
  second_fails {a1 = a1} {a2 = a2} o e l by h =
      fails_then text names (expression room ∷ []) (operator ∷ expression room ∷ the_symbol Close ∷ []) ps f (expression_tokens names l.tree) a1 e l.passed
      (fails_then text names (operator ∷ []) (expression room ∷ the_symbol Close ∷ []) l.passed.rest f (λ rest. operator_terminal o ∷ rest) a2 e by h)

-- an expression of one token
pub number_read : (text : List ℕ) (names : List (List ℕ)) (room : ℕ) (ps : List Piece) (f : Ending) (nodes nodes' : List Node) (used used' to n : ℕ) → Passed text names (expression room ∷ []) (λ rest. numeral n ∷ rest) ps f to → n ≤ 2147483647 → Laid nodes used (Numeral n ∷ []) nodes' used' → ExpressionRead text names room (expression room ∷ []) ps f nodes used nodes' to used'
number_read text names room ps f nodes nodes' used used' to n p small l = record { tree = number n; passed = p; ranged = small; shallow = omega arith; laid = l }

pub variable_read : (text : List ℕ) (names : List (List ℕ)) (room : ℕ) (ps : List Piece) (f : Ending) (nodes nodes' : List Node) (used used' to v : ℕ) (w : List ℕ) → Passed text names (expression room ∷ []) (λ rest. name w ∷ rest) ps f to → get_or names v [] ≡ w → v < length names → Laid nodes used (Variable v ∷ []) nodes' used' → ExpressionRead text names room (expression room ∷ []) ps f nodes used nodes' to used'
variable_read text names room ps f nodes nodes' used used' to v w p is small l = record {
  tree = variable v;
  passed = subst (λ x. Passed text names (expression room ∷ []) (λ rest. name x ∷ rest) ps f to) (sym is) p;
  ranged = small;
  shallow = omega arith;
  laid = l;
}

-- a bracket opens
opens : (names : List (List ℕ)) (less : ℕ) (K : List Expected) → step names (expression (suc less) ∷ K) (symbol Open) ≡ onward names (applied less ++ K)
opens names less K = refl

module _ (text : List ℕ) (names : List (List ℕ)) (less : ℕ) (ps rest : List Piece) (f : Ending) (s e : ℕ) (is : ps ≡ record { token = lex.symbol Open; start = s; stop = e } ∷ rest) where
  opened : (K : List Expected) → judge (length text) ps f names (expression (suc less) ∷ K) ≡ judge (length text) rest f names (applied less ++ K)
  opened K = ap (λ x. judge (length text) x f names (expression (suc less) ∷ K)) is

  pub bracket_read : {nodes nodes' : List Node} {used used' to : ℕ} → ApplicationRead text names less rest f nodes used nodes' to used' → ExpressionRead text names (suc less) (expression (suc less) ∷ []) ps f nodes used nodes' to used'
  bracket_read a = record {
    tree = apply a.by a.left a.right;
    passed = record {
      rest = a.passed.rest;
      ahead = a.passed.ahead;
      reads = ap terminals is ∙ ap (λ t. symbol Open ∷ t) a.passed.reads;
      passes = λ K. opened K ∙ a.passed.passes K;
    };
    ranged = a.ranged;
    shallow = omega (arith, a.shallow_left, a.shallow_right);
    laid = a.laid;
  }

  pub bracket_fails : (r : Refusal) → Fails text names (applied less) rest f r → Fails text names (expression (suc less) ∷ []) ps f r
  bracket_fails r h K = opened K ∙ h K

-- what may not begin an expression
pub bad_mark : (names : List (List ℕ)) (room : ℕ) (s : Symbol) → (s ≡ Open → ⊥) → Bad names (expression room) (lex.symbol s) Unexpected
bad_mark names room s h = record { turns = λ K. cond-false _ _ _ (symbols_differ s Open h); ends = λ e. absurd (true≢false (sym e)) }

pub bad_word : (names : List (List ℕ)) (room : ℕ) (w : List ℕ) → among w names ≡ false → Bad names (expression room) (lex.name w) Undeclared
bad_word names room w h = record { turns = λ K. cond-false _ _ _ h; ends = λ e. absurd (true≢false (sym e)) }

pub bad_depth : (names : List (List ℕ)) (room : ℕ) → room ≡ 0 → Bad names (expression room) (lex.symbol Open) TooDeep
bad_depth names zero h = record { turns = λ K. refl; ends = λ e. absurd (true≢false (sym e)) }
bad_depth names (suc room) h = absurd (omega arith)

pub bad_start : (names : List (List ℕ)) (room : ℕ) (t : Token) → ((w : Bor (List ℕ)) (n : ℕ) → t ≡ case.Numeral w n → ⊥) → ((w : Bor (List ℕ)) → t ≡ case.Name w → ⊥) → ((s : Symbol) → t ≡ case.Symbol s → ⊥) → Bad names (expression room) (view t) Unexpected
bad_start names room case.End h g k = record { turns = λ K. refl; ends = λ _. (refl, λ long K. refl) }
bad_start names room (case.Name w) h g k = absurd (g w refl)
bad_start names room (case.Numeral w n) h g k = absurd (h w n refl)
bad_start names room (case.Keyword x) h g k = record { turns = λ K. refl; ends = λ e. absurd (true≢false (sym e)) }
bad_start names room (case.Symbol s) h g k = absurd (k s refl)

-- what holds at each outcome
pub by_outcome : {A E : Type 0} (r : Result A E) (P Q : A → Type 0) (F G : E → Type 0) → ((x : A) → P x → Q x) → ((e : E) → F e → G e) → MatchResult r P F → MatchResult r Q G
by_outcome (Ok x) P Q F G h k c = h x c
by_outcome (Err e) P Q F G h k c = k e c

pub less_room : (room : ℕ) → (room ≡ 0 → ⊥) → room ≡ suc (room - 1)
less_room zero h = absurd (h refl)
less_room (suc n) h = omega arith
