-- Statements of a list, one behind the other.
use Rattle.std.proofs.Common.{◌≡◌, ℕ, ◌≤◌, List, [], ◌∷◌, ◌++◌, length, sym, refl, ap, ◌∙◌, subst, arith}
use Rattle.refusals.specs.declared.Refusal.{Refusal}
use Rattle.letters.specs.declared.symbols.Symbol.TheVariants.{Semicolon}
use Rattle.letters.specs.Tokens.{Lexeme}
use Rattle.letters.specs.Texts.{Piece, Ending}
use Rattle.syntax.specs.declared.form.Node.{Node}
use Rattle.syntax.specs.declared.form.Row.{Row}
use Rattle.syntax.specs.Trees.{Statements, none, then, single, join, LegalStatements, nesting_in}
use Rattle.syntax.specs.Emits.{Emits}
use Rattle.syntax.proofs.Emitting.{emits_none, emits_join}
use Rattle.reading.specs.Grammar.{Terminal, symbol, terminal, terminals, statement_tokens, statements_tokens}
use Rattle.reading.specs.Rule.{Expected, statements, onward, step, judge, resolve}
use Rattle.reading.specs.Reads.{Progress, Ahead, StatementRead, ListRead, ListGoing, Fails}

tokens-join : (names : List (List ℕ)) (A B : Statements) (rest : List Terminal) → statements_tokens names (join A B) rest ≡ statements_tokens names A (statements_tokens names B rest)
tokens-join names none B rest = refl
tokens-join names (then s l) B rest = ap (λ t. statement_tokens names s (symbol Semicolon ∷ t)) (tokens-join names l B rest)

legal_join : (k : ℕ) (A B : Statements) → LegalStatements k A → LegalStatements k B → LegalStatements k (join A B)
legal_join k none B a b = b
legal_join k (then s l) B a b = (a.0, legal_join k l B a.1 b)

nested_join : (A B : Statements) (room : ℕ) → nesting_in A ≤ room → nesting_in B ≤ room → nesting_in (join A B) ≤ room
nested_join none B room a b = b
nested_join (then s l) B room a b = omega (arith, nested_join l B room (omega arith) b)

module _ (text : List ℕ) (names : List (List ℕ)) (room : ℕ) (f : Ending) where
  -- nothing is read yet
  pub going_none : (ps : List Piece) (rows : List Row) (nodes : List Node) (from : Progress) → Ahead text from.at ps f → ListGoing text names room ps f rows nodes from rows nodes from
  going_none ps rows nodes from a = record {
    tree = none;
    rest = ps;
    ahead = a;
    reads = refl;
    passes = λ K. refl;
    legal = tt;
    nested = omega arith;
    emits = emits_none;
  }

  -- one behind the other
  pub going_more : (ps : List Piece) {rows r1 r2 : List Row} {nodes n1 n2 : List Node} {from now to : Progress} (g : ListGoing text names room ps f rows nodes from r1 n1 now) → ListGoing text names room g.rest f r1 n1 now r2 n2 to → ListGoing text names room ps f rows nodes from r2 n2 to
  going_more ps g h = record {
    tree = join g.tree h.tree;
    rest = h.rest;
    ahead = h.ahead;
    reads = g.reads ∙ ap (statements_tokens names g.tree) h.reads ∙ sym (tokens-join names g.tree h.tree (terminals h.rest));
    passes = λ K. g.passes K ∙ h.passes K;
    legal = legal_join (length names) g.tree h.tree g.legal h.legal;
    nested = nested_join g.tree h.tree room g.nested h.nested;
    emits = emits_join g.emits h.emits;
  }

  -- the list is over
  pub going_over : (ps : List Piece) {rows r1 : List Row} {nodes n1 : List Node} {from to : Progress} (g : ListGoing text names room ps f rows nodes from r1 n1 to) → ((K : List Expected) → judge (length text) g.rest f names (statements room ∷ K) ≡ judge (length text) g.rest f names K) → ListRead text names room ps f rows nodes from r1 n1 to
  going_over ps g over = record {
    tree = g.tree;
    passed = record { rest = g.rest; ahead = g.ahead; reads = g.reads; passes = λ K. g.passes K ∙ over K };
    legal = g.legal;
    nested = g.nested;
    emits = g.emits;
  }

  pub going_fails : (ps : List Piece) {rows r1 : List Row} {nodes n1 : List Node} {from to : Progress} (e : Refusal) (g : ListGoing text names room ps f rows nodes from r1 n1 to) → Fails text names (statements room ∷ []) g.rest f e → Fails text names (statements room ∷ []) ps f e
  going_fails ps e g h K = g.passes K ∙ h K

  -- a statement from its first token on
  module _ (ps rest : List Piece) (l : Lexeme) (s e : ℕ) (is : ps ≡ record { token = l; start = s; stop = e } ∷ rest) (X : List Expected) (begins : (K : List Expected) → step names (statements room ∷ K) (terminal l) ≡ onward names (X ++ (statements room ∷ K))) where
    begun : (K : List Expected) → judge (length text) ps f names (statements room ∷ K) ≡ judge (length text) rest f names (X ++ (statements room ∷ K))
    begun K = ap (λ x. judge (length text) x f names (statements room ∷ K)) is ∙ ap (λ v. resolve v s (judge (length text) rest f)) (begins K)

    pub one_read : {rows rows' : List Row} {nodes nodes' : List Node} {from behind to : Progress} → behind.rows ≡ from.rows → behind.nodes ≡ from.nodes → StatementRead text names room X (terminal l) rest f rows nodes behind rows' nodes' to → ListGoing text names room ps f rows nodes from rows' nodes' to
    one_read {rows} {rows'} {nodes} {nodes'} {from} {behind} {to} er en r = record {
      tree = single r.tree;
      rest = r.passed.rest;
      ahead = r.passed.ahead;
      reads = ap terminals is ∙ ap (λ t. terminal l ∷ t) r.passed.reads ∙ r.written (terminals r.passed.rest);
      passes = λ K. begun K ∙ r.passed.passes (statements room ∷ K);
      legal = (r.legal, tt);
      nested = omega (arith, r.nested);
      emits = subst (λ k. Emits (single r.tree) rows nodes from.rows k rows' nodes' to.rows to.nodes) en (subst (λ i. Emits (single r.tree) rows nodes i behind.nodes rows' nodes' to.rows to.nodes) er r.emits);
    }

    pub one_fails : (q : Refusal) → Fails text names X rest f q → Fails text names (statements room ∷ []) ps f q
    one_fails q h K = begun K ∙ h (statements room ∷ K)

-- a list from where it is said to begin
pub list_as : {text : List ℕ} {names : List (List ℕ)} {room : ℕ} {ps : List Piece} {f : Ending} {rows rows' r1 : List Row} {nodes nodes' n1 : List Node} {at at' i i' k k' : ℕ} {to : Progress} → rows' ≡ rows → nodes' ≡ nodes → at' ≡ at → i' ≡ i → k' ≡ k → ListRead text names room ps f rows' nodes' (record { at = at'; rows = i'; nodes = k' }) r1 n1 to → ListRead text names room ps f rows nodes (record { at = at; rows = i; nodes = k }) r1 n1 to
list_as {text} {names} {room} {ps} {f} {rows} {rows'} {r1} {nodes} {nodes'} {n1} {at} {at'} {i} {i'} {k} {k'} {to} er en ea ei ek l =
    subst (λ x. ListRead text names room ps f rows nodes (record { at = at; rows = i; nodes = x }) r1 n1 to) ek
    (subst (λ x. ListRead text names room ps f rows nodes (record { at = at; rows = x; nodes = k' }) r1 n1 to) ei
    (subst (λ x. ListRead text names room ps f rows nodes (record { at = x; rows = i'; nodes = k' }) r1 n1 to) ea
    (subst (λ x. ListRead text names room ps f rows x (record { at = at'; rows = i'; nodes = k' }) r1 n1 to) en
    (subst (λ x. ListRead text names room ps f x nodes' (record { at = at'; rows = i'; nodes = k' }) r1 n1 to) er l))))
