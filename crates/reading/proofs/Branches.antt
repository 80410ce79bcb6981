-- Ifs and whiles from their parts, and where a list is over.
use Rattle.std.proofs.Common.{◌≡◌, ℕ, zero, suc, ◌+◌, ◌≤◌, false, List, [], ◌∷◌, ◌++◌, length, sym, refl, ap, ◌∙◌, ap₂, arith, Bor}
use Rattle.std.proofs.lemmas.Bool.{cond-false, true≢false}
use Rattle.refusals.specs.declared.Reason.TheVariants.{Undeclared, TooDeep}
use Rattle.refusals.specs.declared.Refusal.{Refusal}
use Rattle.letters.specs.declared.keywords.Keyword.{Keyword}
use Rattle.letters.specs.declared.keywords.Keyword.TheVariants as word
use Rattle.letters.specs.declared.symbols.Symbol.TheVariants as mark
use Rattle.letters.specs.declared.tokens.Token.{Token}
use Rattle.letters.specs.declared.tokens.Token.TheVariants as case
use Rattle.letters.specs.Tokens.{Lexeme, view, token, next_at, is_end}
use Rattle.letters.specs.Tokens as lex
use Rattle.letters.specs.Texts.{Piece, Ending}
use Rattle.lists.specs.Overlay.{overlay, Laid}
use Rattle.lists.proofs.Laws.{laid_slot}
use Rattle.syntax.specs.declared.form.Node.{Node}
use Rattle.syntax.specs.declared.form.Row.{Row}
use Rattle.syntax.specs.declared.form.Row.TheVariants.{If, Else, EndIf, While, EndWhile}
use Rattle.syntax.specs.Names.{among}
use Rattle.syntax.specs.Trees as tree
use Rattle.syntax.proofs.Emitting.{emits_branch, emits_while}
use Rattle.reading.specs.Grammar.{keyword, symbol, terminal, expression_tokens, statements_tokens}
use Rattle.reading.specs.Rule.{Expected, statements, expression, the_keyword, the_symbol, onward, step, judge, resolve}
use Rattle.reading.specs.Reads.{Progress, Ahead, Passed, StatementRead, ListRead, Fails}
use Rattle.reading.specs.Blocks.{ConditionRead, behind_if, behind_while}
use Rattle.reading.proofs.Aheads.{Bad, found, found_end}
use Rattle.reading.proofs.Sequences.{passed_then, fails_then}

-- what begins a statement
pub begins_if : (names : List (List ℕ)) (room less : ℕ) → room ≡ suc less → (K : List Expected) → step names (statements room ∷ K) (keyword word.If) ≡ onward names (behind_if less ++ (statements room ∷ K))
begins_if names zero less e K = absurd (omega arith)
begins_if names (suc n) less e K = let same : n ≡ less = omega arith in ap (λ m. onward names (behind_if m ++ (statements (suc n) ∷ K))) same

pub begins_while : (names : List (List ℕ)) (room less : ℕ) → room ≡ suc less → (K : List Expected) → step names (statements room ∷ K) (keyword word.While) ≡ onward names (behind_while less ++ (statements room ∷ K))
begins_while names zero less e K = absurd (omega arith)
begins_while names (suc n) less e K = let same : n ≡ less = omega arith in ap (λ m. onward names (behind_while m ++ (statements (suc n) ∷ K))) same

-- what may not stand there
pub deep_if : (names : List (List ℕ)) (room : ℕ) → room ≡ 0 → Bad names (statements room) (lex.keyword word.If) TooDeep
deep_if names zero h = record { turns = λ K. refl; ends = λ e. absurd (true≢false (sym e)) }
deep_if names (suc n) h = absurd (omega arith)

pub deep_while : (names : List (List ℕ)) (room : ℕ) → room ≡ 0 → Bad names (statements room) (lex.keyword word.While) TooDeep
deep_while names zero h = record { turns = λ K. refl; ends = λ e. absurd (true≢false (sym e)) }
deep_while names (suc n) h = absurd (omega arith)

pub unknown_name : (names : List (List ℕ)) (room : ℕ) (w : List ℕ) → among w names ≡ false → Bad names (statements room) (lex.name w) Undeclared
unknown_name names room w h = record { turns = λ K. cond-false _ _ _ h; ends = λ e. absurd (true≢false (sym e)) }

-- a keyword that begins no statement
pub word_over : (names : List (List ℕ)) (room : ℕ) (k : Keyword) → (k ≡ word.Skip → ⊥) → (k ≡ word.If → ⊥) → (k ≡ word.While → ⊥) → (k ≡ word.Write → ⊥) → (k ≡ word.Stop → ⊥) → (K : List Expected) → step names (statements room ∷ K) (keyword k) ≡ step names K (keyword k)
word_over names room word.Var a b c d e K = refl
word_over names room word.Skip a b c d e K = absurd (a refl)
word_over names room word.If a b c d e K = absurd (b refl)
word_over names room word.Then a b c d e K = refl
word_over names room word.Else a b c d e K = refl
word_over names room word.End a b c d e K = refl
word_over names room word.While a b c d e K = absurd (c refl)
word_over names room word.Do a b c d e K = refl
word_over names room word.Write a b c d e K = absurd (d refl)
word_over names room word.Stop a b c d e K = absurd (e refl)
word_over names room word.Declassify a b c d e K = refl
word_over names room word.Max a b c d e K = refl

module _ (text : List ℕ) (at : ℕ) (names : List (List ℕ)) (room : ℕ) (ps : List Piece) (f : Ending) (a : Ahead text at ps f) where
  pub over_token : (l : Lexeme) (s e : ℕ) → token l s e ≡ next_at text at → is_end l ≡ false → e ≤ length text → ((K : List Expected) → step names (statements room ∷ K) (terminal l) ≡ step names K (terminal l)) → (K : List Expected) → judge (length text) ps f names (statements room ∷ K) ≡ judge (length text) ps f names K
  over_token l s e h more short same K =
      let g = found text at ps f l s e a h more short in
      ap (λ x. judge (length text) x f names (statements room ∷ K)) g.1
      ∙ ap (λ v. resolve v s (judge (length text) g.0 f)) (same K)
      ∙ ap (λ x. judge (length text) x f names K) (sym g.1)

  pub over : (t : Token) (s e : ℕ) → token (view t) s e ≡ next_at text at → e ≤ length text → ((w : Bor (List ℕ)) → t ≡ case.Name w → ⊥) → ((k : Keyword) → t ≡ case.Keyword k → ⊥) → (K : List Expected) → judge (length text) ps f names (statements room ∷ K) ≡ judge (length text) ps f names K
  over case.End s e h short nn nk K =
      let g = found_end text at ps f s e a h in
      ap₂ (λ x y. judge (length text) x y names (statements room ∷ K)) g.0 g.1 ∙ sym (ap₂ (λ x y. judge (length text) x y names K) g.0 g.1)
  over (case.Name w) s e h short nn nk K = absurd (nn w refl)
  over (case.Numeral w n) s e h short nn nk K = over_token (lex.numeral w.now n) s e h refl short (λ K. refl) K
  over (case.Keyword k) s e h short nn nk K = absurd (nk k refl)
  over (case.Symbol x) s e h short nn nk K = over_token (lex.symbol x) s e h refl short (λ K. refl) K

-- an if from its parts
module _ (text : List ℕ) (names : List (List ℕ)) (room : ℕ) (ps : List Piece) (f : Ending) {nodes n1 : List Node} {used a1 u1 : ℕ} (c : ConditionRead text names word.Then ps f nodes used n1 a1 u1) where
  pub if_read : {rows r1 r2 r3 r4 r5 : List Row} {n2 n3 : List Node} {i i5 to a0 a3 : ℕ} {first second : Progress}
      (A : ListRead text names room c.passed.rest f rows n1 (record { at = a1; rows = i + 1; nodes = u1 }) r1 n2 first)
      → r2 ≡ overlay r1 i (If used first.rows ∷ [])
      → (E : Passed text names (the_keyword word.Else ∷ []) (λ rest. keyword word.Else ∷ rest) A.passed.rest f a3)
      → (B : ListRead text names room E.rest f r2 n2 (record { at = a3; rows = first.rows + 1; nodes = first.nodes }) r3 n3 second)
      → r4 ≡ overlay r3 first.rows (Else second.rows ∷ [])
      → Passed text names (the_keyword word.End ∷ the_symbol mark.Semicolon ∷ []) (λ rest. keyword word.End ∷ symbol mark.Semicolon ∷ rest) B.passed.rest f to
      → Laid r4 second.rows (EndIf ∷ []) r5 i5
      → StatementRead text names (room + 1) (behind_if room) (keyword word.If) ps f rows nodes (record { at = a0; rows = i; nodes = used }) r5 n3 (record { at = to; rows = i5; nodes = second.nodes })
  if_read {to = to} {a3 = a3} {first} {second} A p1 E B p2 N foot = record {
    tree = tree.branch c.tree A.tree B.tree;
    tokens = λ rest. expression_tokens names c.tree (keyword word.Then ∷ statements_tokens names A.tree (keyword word.Else ∷ statements_tokens names B.tree (keyword word.End ∷ symbol mark.Semicolon ∷ rest)));
    passed =
        passed_then text names (expression 20 ∷ the_keyword word.Then ∷ []) (statements room ∷ the_keyword word.Else ∷ statements room ∷ the_keyword word.End ∷ the_symbol mark.Semicolon ∷ []) ps f (λ rest. expression_tokens names c.tree (keyword word.Then ∷ rest)) (λ rest. statements_tokens names A.tree (keyword word.Else ∷ statements_tokens names B.tree (keyword word.End ∷ symbol mark.Semicolon ∷ rest))) a1 to c.passed
        (passed_then text names (statements room ∷ []) (the_keyword word.Else ∷ statements room ∷ the_keyword word.End ∷ the_symbol mark.Semicolon ∷ []) c.passed.rest f (statements_tokens names A.tree) (λ rest. keyword word.Else ∷ statements_tokens names B.tree (keyword word.End ∷ symbol mark.Semicolon ∷ rest)) first.at to A.passed
        (passed_then text names (the_keyword word.Else ∷ []) (statements room ∷ the_keyword word.End ∷ the_symbol mark.Semicolon ∷ []) A.passed.rest f (λ rest. keyword word.Else ∷ rest) (λ rest. statements_tokens names B.tree (keyword word.End ∷ symbol mark.Semicolon ∷ rest)) a3 to E
        (passed_then text names (statements room ∷ []) (the_keyword word.End ∷ the_symbol mark.Semicolon ∷ []) E.rest f (statements_tokens names B.tree) (λ rest. keyword word.End ∷ symbol mark.Semicolon ∷ rest) second.at to B.passed N)));
    written = λ rest. refl;
    legal = (c.legal, A.legal, B.legal);
    nested = omega (arith, A.nested, B.nested);
    emits = emits_branch (laid_slot A.emits.rows_laid p1) (laid_slot B.emits.rows_laid p2) foot c.laid A.emits.nodes_laid B.emits.nodes_laid refl refl;
  }

  -- a fault in the second arm or behind it
  pub if_fails : {rows r1 : List Row} {n2 : List Node} {from : Progress} {a3 : ℕ} {first : Progress} (q : Refusal)
      (A : ListRead text names room c.passed.rest f rows n1 from r1 n2 first)
      → (E : Passed text names (the_keyword word.Else ∷ []) (λ rest. keyword word.Else ∷ rest) A.passed.rest f a3)
      → Fails text names (statements room ∷ the_keyword word.End ∷ the_symbol mark.Semicolon ∷ []) E.rest f q → Fails text names (behind_if room) ps f q
  if_fails {a3 = a3} {first} q A E h =
      fails_then text names (expression 20 ∷ the_keyword word.Then ∷ []) (statements room ∷ the_keyword word.Else ∷ statements room ∷ the_keyword word.End ∷ the_symbol mark.Semicolon ∷ []) ps f (λ rest. expression_tokens names c.tree (keyword word.Then ∷ rest)) a1 q c.passed
      (fails_then text names (statements room ∷ []) (the_keyword word.Else ∷ statements room ∷ the_keyword word.End ∷ the_symbol mark.Semicolon ∷ []) c.passed.rest f (statements_tokens names A.tree) first.at q A.passed
      (fails_then text names (the_keyword word.Else ∷ []) (statements room ∷ the_keyword word.End ∷ the_symbol mark.Semicolon ∷ []) A.passed.rest f (λ rest. keyword word.Else ∷ rest) a3 q E h))

-- a while from its parts
pub while_read : (text : List ℕ) (names : List (List ℕ)) (room : ℕ) (ps : List Piece) (f : Ending) {nodes n1 n2 : List Node} {used a0 a1 u1 i i3 to : ℕ} {rows r1 r2 r3 : List Row} {body : Progress} (c : ConditionRead text names word.Do ps f nodes used n1 a1 u1)
    (A : ListRead text names room c.passed.rest f rows n1 (record { at = a1; rows = i + 1; nodes = u1 }) r1 n2 body)
    → r2 ≡ overlay r1 i (While used body.rows ∷ [])
    → Passed text names (the_keyword word.End ∷ the_symbol mark.Semicolon ∷ []) (λ rest. keyword word.End ∷ symbol mark.Semicolon ∷ rest) A.passed.rest f to
    → Laid r2 body.rows (EndWhile i ∷ []) r3 i3
    → StatementRead text names (room + 1) (behind_while room) (keyword word.While) ps f rows nodes (record { at = a0; rows = i; nodes = used }) r3 n2 (record { at = to; rows = i3; nodes = body.nodes })
while_read text names room ps f {a1 = a1} {to = to} {body = body} c A p N foot = record {
  tree = tree.while c.tree A.tree;
  tokens = λ rest. expression_tokens names c.tree (keyword word.Do ∷ statements_tokens names A.tree (keyword word.End ∷ symbol mark.Semicolon ∷ rest));
  passed =
      passed_then text names (expression 20 ∷ the_keyword word.Do ∷ []) (statements room ∷ the_keyword word.End ∷ the_symbol mark.Semicolon ∷ []) ps f (λ rest. expression_tokens names c.tree (keyword word.Do ∷ rest)) (λ rest. statements_tokens names A.tree (keyword word.End ∷ symbol mark.Semicolon ∷ rest)) a1 to c.passed
      (passed_then text names (statements room ∷ []) (the_keyword word.End ∷ the_symbol mark.Semicolon ∷ []) c.passed.rest f (statements_tokens names A.tree) (λ rest. keyword word.End ∷ symbol mark.Semicolon ∷ rest) body.at to A.passed N);
  written = λ rest. refl;
  legal = (c.legal, A.legal);
  nested = omega (arith, A.nested);
  emits = emits_while (laid_slot A.emits.rows_laid p) foot c.laid A.emits.nodes_laid refl;
}
