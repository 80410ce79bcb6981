-- The tokens of a well-formed script can be written.
use Rattle.std.proofs.Common.{◌≡◌, ℕ, zero, suc, ◌<◌, ◌≤◌, true, cond, not, List, [], ◌∷◌, length, get_or, take, is_some, Some, None, Option, refl, ap, arith, eqb-true, leb-true}
use Rattle.std.proofs.lemmas.Bool.{and_parts, and_from}
use Rattle.std.proofs.lemmas.Bool.Decides.{nat_tests}
use Rattle.values.specs.declared.Operator.{Operator}
use Rattle.values.specs.declared.Operator.TheVariants as op
use Rattle.letters.specs.declared.keywords.Keyword.{Keyword}
use Rattle.letters.specs.Classes.{is_letter, is_digit, is_word, every, begins}
use Rattle.letters.specs.Keywords.{keyword_of}
use Rattle.letters.specs.Texts as texts
use Rattle.syntax.specs.declared.form.Name.{Name}
use Rattle.syntax.specs.declared.form.Declaration.{Declaration}
use Rattle.syntax.specs.Names.{padded, spelled, legal_name, all_legal, spellings}
use Rattle.syntax.specs.Trees.{Expression, number, variable, apply, Statement, Statements, none, then, skip, assign, release, write, stop, branch, while, InRange, LegalStatement, LegalStatements}
use Rattle.syntax.specs.Scripts.{Script, WellFormed}
use Rattle.reading.specs.Grammar.{Terminal, operator_terminal, expression_tokens, statement_tokens, statements_tokens, declarations_tokens, script_tokens}
use Rattle.spelling.proofs.Lexemes.{Writable}

abbrev pub AllWritable : List Terminal → Type 0
AllWritable [] = Unit {0}
AllWritable (t ∷ ts) = Writable t × AllWritable ts

-- the bytes of a legal name
all_word : (n : ℕ) (bs : List ℕ) → padded n bs ≡ true → (every is_word (take n bs) ≡ true) × (length (take n bs) ≤ length bs)
all_word zero bs h = (refl, omega arith)
all_word (suc n) [] h = (refl, omega arith)
all_word (suc n) (b ∷ bs) h =
    let parts = and_parts (is_word b) (padded n bs) h in
    let rest = all_word n bs parts.1 in
    (and_from (is_word b) (every is_word (take n bs)) parts.0 rest.0, omega (arith, rest.1))

a_letter : (b : ℕ) → is_word b ≡ true → not (is_digit b) ≡ true → is_letter b ≡ true
a_letter b w d = grind (arith, nat_tests)

letter_first : (n : ℕ) (bs : List ℕ) → 0 < n → padded n bs ≡ true → not (is_digit (get_or bs 0 0)) ≡ true → begins is_letter (take n bs) ≡ true
letter_first zero bs some h d = absurd (omega arith)
letter_first (suc n) [] some h d = h
letter_first (suc n) (b ∷ bs) some h d = a_letter b (and_parts _ _ h).0 d

no_keyword : (o : Option Keyword) → not (is_some o) ≡ true → o ≡ None
no_keyword None h = refl
no_keyword (Some k) h = (ap (λ b. cond b None (Some k)) h)

-- a legal name is a name of the language
legal_name_lem : (n : Name) → legal_name n ≡ true → texts.Name (spelled n)
legal_name_lem n h =
    let kept = and_parts _ _ h in
    let some = and_parts _ _ kept.1 in
    let pads = and_parts _ _ some.1 in
    let last = and_parts _ _ pads.1 in
    let fifteen : length n.bytes ≡ 15 = eqb-true _ _ kept.0 in
    let words = all_word n.length n.bytes pads.0 in
    record {
      word = record { letter_first = letter_first n.length n.bytes (leb-true _ _ some.0) pads.0 last.0; all_word = words.0 };
      short = omega (arith, words.1, fifteen);
      no_keyword = no_keyword (keyword_of (spelled n)) last.1;
    }

-- the names of variables
named : (ds : List Declaration) → all_legal ds ≡ true → (v : ℕ) → v < length ds → texts.Name (get_or (spellings ds) v [])
named [] h v lt = absurd (omega arith)
named (d ∷ ds) h zero lt = legal_name_lem d.name (and_parts _ _ (and_parts _ _ h).0).0
named (d ∷ ds) h (suc v) lt = named ds (and_parts _ _ h).1 v (omega arith)

module _ (names : List (List ℕ)) (k : ℕ) (named : (v : ℕ) → v < k → texts.Name (get_or names v [])) where
  operator_writable : (o : Operator) → Writable (operator_terminal o)
  operator_writable op.Add = tt
  operator_writable op.Subtract = tt
  operator_writable op.Multiply = tt
  operator_writable op.Divide = tt
  operator_writable op.Equal = tt
  operator_writable op.Less = tt
  operator_writable op.Maximum = tt
  operator_writable op.Or = tt

  expression_writable : (e : Expression) (rest : List Terminal) → InRange k e → AllWritable rest → AllWritable (expression_tokens names e rest)
  expression_writable (number n) rest r h = (r, h)
  expression_writable (variable v) rest r h = (named v r, h)
  expression_writable (apply o a b) rest r h = (tt, expression_writable a _ r.0 (operator_writable o, expression_writable b _ r.1 (tt, h)))

  mutual
    statement_writable : (s : Statement) (rest : List Terminal) → LegalStatement k s → AllWritable rest → AllWritable (statement_tokens names s rest)
    statement_writable skip rest l h = (tt, h)
    statement_writable (assign v e) rest l h = (named v l.0, (tt, expression_writable e rest l.1.ranged h))
    statement_writable (release v e) rest l h = (named v l.0, (tt, (tt, (tt, expression_writable e _ l.1.ranged (tt, h)))))
    statement_writable (write t e) rest l h = (tt, (l.0, expression_writable e rest l.1.ranged h))
    statement_writable (stop n) rest l h = (tt, (l, h))
    statement_writable (branch e A B) rest l h =
        (tt, expression_writable e _ l.0.ranged (tt, statements_writable A _ l.1 (tt, statements_writable B _ l.2 (tt, h))))
    statement_writable (while e A) rest l h = (tt, expression_writable e _ l.0.ranged (tt, statements_writable A _ l.1 (tt, h)))

    pub statements_writable : (S : Statements) (rest : List Terminal) → LegalStatements k S → AllWritable rest → AllWritable (statements_tokens names S rest)
    statements_writable none rest l h = h
    statements_writable (then s S) rest l h = statement_writable s _ l.0 (tt, statements_writable S rest l.1 h)

declarations_writable : (ds : List Declaration) (rest : List Terminal) → all_legal ds ≡ true → AllWritable rest → AllWritable (declarations_tokens ds rest)
declarations_writable [] rest l h = h
declarations_writable (d ∷ ds) rest l h =
    let both = and_parts _ _ l in
    let parts = and_parts _ _ both.0 in
    (tt, (legal_name_lem d.name parts.0, (tt, (leb-true _ _ parts.1, (tt, declarations_writable ds rest both.1 h)))))

pub script_writable : (s : Script) → WellFormed s → AllWritable (script_tokens s)
script_writable s w =
    let ds = s.declarations in
    let legal = (and_parts _ _ (and_parts _ _ w.names).1).0 in
    declarations_writable ds _ legal (statements_writable (spellings ds) (length ds) (named ds legal) s.statements [] w.legal tt)
