-- The left-to-right rule accepts the tokens of every script, and two scripts with the same tokens are the same.
use Rattle.std.proofs.Common.{◌≡◌, ℕ, zero, suc, ◌+◌, ◌<◌, ◌≤◌, Bool, true, false, cond, not, ◌&&◌, ◌||◌, eqb, ltb, leb, List, [], ◌∷◌, ◌++◌, map, length, get_or, take, Some, sym, refl, ap, ◌∙◌, subst, ap₂, ⊎_elim, append_assoc, append-nil, le_of_suc-le-suc, arith, length-append}
use Rattle.std.specs.Str.{bytes_eq}
use Rattle.std.proofs.lemmas.Slice.Eq.{bytes_eq-Decides}
use Rattle.std.proofs.lemmas.Bool.{cond-true, cond-false, cases_Bool, both_ways, not-true, and_parts, or_parts, or_from, or_left, or_right, leb-true, lt-leb, eqb-true, eqb-false, false≢true}
use Rattle.values.specs.declared.Operator.{Operator}
use Rattle.values.specs.declared.Operator.TheVariants as op
use Rattle.letters.specs.declared.symbols.Symbol.TheVariants as mark
use Rattle.letters.specs.Classes.{is_word}
use Rattle.letters.specs.Texts.{Piece, Ending, finished}
use Rattle.letters.proofs.Unique.{one_way}
use Rattle.syntax.specs.declared.form.Name.{Name}
use Rattle.syntax.specs.declared.form.Declaration.{Declaration}
use Rattle.syntax.specs.Names.{padded, spelled, spellings, among, distinct, legal_name, legal_declaration, all_legal}
use Rattle.syntax.specs.Trees.{Expression, number, variable, apply, Statement, Statements, none, then, skip, assign, release, write, stop, branch, while, depth_of, nesting_of, nesting_in, InRange, LegalExpression, LegalStatement, LegalStatements}
use Rattle.syntax.specs.Scripts.{Script, WellFormed}
use Rattle.reading.specs.Grammar.{Terminal, name, numeral, keyword, symbol, nothing, terminal, terminals, operator_terminal, expression_tokens, statement_tokens, statements_tokens, declarations_tokens, script_tokens, TextOf, OneScript}
use Rattle.reading.specs.Rule.{Expected, declarations, statements, expression, assigned, operator, onward, step, accepted, resolve, judge, whole, keyword_number, terminal_operator}

-- pieces that begin with a token
first : (ps : List Piece) (t : Terminal) (ts : List Terminal) → terminals ps ≡ t ∷ ts → (p : Piece) × (rest : List Piece) × (ps ≡ p ∷ rest) × (terminal p.token ≡ t) × (terminals rest ≡ ts)
first [] t ts e = let z : ◌≡◌ {A = ℕ} 0 1 = cc in absurd (omega arith)
first (p ∷ rest) t ts e = (p, rest, refl, cc, cc)

no_pieces : (ps : List Piece) → terminals ps ≡ [] → ps ≡ []
no_pieces [] e = refl
no_pieces (p ∷ ps) e = let z : ◌≡◌ {A = ℕ} 0 1 = cc in absurd (omega arith)

-- with these names and expectations the rule reads the tokens `from` down to `to`, and then has those names and expectations
record Goes (n : List (List ℕ)) (X : List Expected) (from : List Terminal) (m : List (List ℕ)) (Y : List Expected) (to : List Terminal) : Type 0 where
  pub on : (ps : List Piece) → terminals ps ≡ from → (rest : List Piece) × (terminals rest ≡ to) × ((long : ℕ) (f : Ending) → judge long ps f n X ≡ judge long rest f m Y)

goes_then : {n m o : List (List ℕ)} {X Y Z : List Expected} {ts us vs : List Terminal} → Goes n X ts m Y us → Goes m Y us o Z vs → Goes n X ts o Z vs
goes_then g h = record {
  on = λ ps e.
      let a = g.on ps e in
      let b = h.on a.0 a.1 in
      (b.0, b.1, λ long f. a.2 long f ∙ b.2 long f);
}

goes_no_further : {n : List (List ℕ)} {X : List Expected} {ts : List Terminal} → Goes n X ts n X ts
goes_no_further = record { on = λ ps e. (ps, e, λ long f. refl) }

-- one token
goes_token : {n m : List (List ℕ)} {X Y : List Expected} {t : Terminal} {ts : List Terminal} → step n X t ≡ onward m Y → Goes n X (t ∷ ts) m Y ts
goes_token {n = n} {m = m} {X = X} {Y = Y} {t = t} {ts = ts} s = record {
  on = λ ps e.
      let h = first ps t ts e in (
        h.1,
        h.4,
        λ long f.
            ap (λ qs. judge long qs f n X) h.2
            ∙ ap (λ u. resolve (step n X u) h.0.start (judge long h.1 f)) h.3
            ∙ ap (λ v. resolve v h.0.start (judge long h.1 f)) s,
      );
}

-- two expectations that a token does not tell apart
goes_same : {n : List (List ℕ)} {X Y : List Expected} {t : Terminal} {ts : List Terminal} → step n X t ≡ step n Y t → Goes n X (t ∷ ts) n Y (t ∷ ts)
goes_same {n = n} {X = X} {Y = Y} {t = t} {ts = ts} s = record {
  on = λ ps e.
      let h = first ps t ts e in (
        ps,
        e,
        λ long f.
            ap (λ qs. judge long qs f n X) h.2
            ∙ ap (λ u. resolve (step n X u) h.0.start (judge long h.1 f)) h.3
            ∙ ap (λ v. resolve v h.0.start (judge long h.1 f)) s
            ∙ sym (ap (λ u. resolve (step n Y u) h.0.start (judge long h.1 f)) h.3)
            ∙ sym (ap (λ qs. judge long qs f n Y) h.2),
      );
}

-- a token, and then what follows
goes_on_lem : {n m o : List (List ℕ)} {X Y Z : List Expected} {t : Terminal} {ts us : List Terminal} → step n X t ≡ onward m Y → Goes m Y ts o Z us → Goes n X (t ∷ ts) o Z us
goes_on_lem s g = goes_then (goes_token s) g

-- a declared variable is among the names
declared-among : (names : List (List ℕ)) (v : ℕ) → v < length names → among (get_or names v []) names ≡ true
declared-among [] v h = absurd (omega arith)
declared-among (x ∷ xs) zero h = or_left (bytes_eq x x) (among x xs) ((bytes_eq-Decides x x).1 refl)
declared-among (x ∷ xs) (suc v) h = or_right (bytes_eq (get_or xs v []) x) (among (get_or xs v []) xs) (declared-among xs v (le_of_suc-le-suc h))

-- an operator, and an expression
goes_operator : {n : List (List ℕ)} {K : List Expected} (o : Operator) → step n (operator ∷ K) (operator_terminal o) ≡ onward n K
goes_operator op.Add = refl
goes_operator op.Subtract = refl
goes_operator op.Multiply = refl
goes_operator op.Divide = refl
goes_operator op.Equal = refl
goes_operator op.Less = refl
goes_operator op.Maximum = refl
goes_operator op.Or = refl

goes_expression : (names : List (List ℕ)) (e : Expression) (room : ℕ) → InRange (length names) e → depth_of e ≤ room → (ts : List Terminal) (K : List Expected) → Goes names (expression room ∷ K) (expression_tokens names e ts) names K ts
goes_expression names (number n) room h d ts K = goes_token refl
goes_expression names (variable v) room h d ts K = goes_token (cond-true _ _ _ (declared-among names v h))
goes_expression names (apply o a b) zero h d ts K = absurd (omega arith)
goes_expression names (apply o a b) (suc room) h d ts K =
    goes_on_lem refl
    (goes_then (goes_expression names a room h.0 (omega arith) _ _)
    (goes_on_lem (goes_operator o)
    (goes_then (goes_expression names b room h.1 (omega arith) _ _)
    (goes_token refl))))

-- what stands behind `:=`, where it is no release
goes_assigned : (names : List (List ℕ)) (e : Expression) → LegalExpression (length names) e → (ts : List Terminal) (K : List Expected) → Goes names (assigned ∷ K) (expression_tokens names e ts) names K ts
goes_assigned names (number n) h ts K = goes_token refl
goes_assigned names (variable v) h ts K = goes_token (cond-true _ _ _ (declared-among names v h.ranged))
goes_assigned names (apply o a b) h ts K = goes_then (goes_same refl) (goes_expression names (apply o a b) 20 h.ranged h.shallow ts K)

-- a statement with its `;`, and a list of statements
mutual
  goes_statement : (names : List (List ℕ)) (s : Statement) (room : ℕ) → LegalStatement (length names) s → nesting_of s ≤ room → (ts : List Terminal) (K : List Expected) → Goes names (statements room ∷ K) (statement_tokens names s (symbol mark.Semicolon ∷ ts)) names (statements room ∷ K) ts
  goes_statement names skip room h d ts K = goes_on_lem refl (goes_token refl)
  goes_statement names (assign v e) room h d ts K =
      goes_on_lem (cond-true _ _ _ (declared-among names v h.0)) (goes_on_lem refl (goes_then (goes_assigned names e h.1 _ _) (goes_token refl)))
  goes_statement names (release v e) room h d ts K =
      goes_on_lem (cond-true _ _ _ (declared-among names v h.0)) (goes_on_lem refl (goes_on_lem refl (goes_on_lem refl (goes_then (goes_expression names e 20 h.1.ranged h.1.shallow _ _) (goes_on_lem refl (goes_token refl))))))
  goes_statement names (write t e) room h d ts K =
      goes_on_lem refl (goes_on_lem refl (goes_then (goes_expression names e 20 h.1.ranged h.1.shallow _ _) (goes_token refl)))
  goes_statement names (stop n) room h d ts K = goes_on_lem refl (goes_on_lem refl (goes_token refl))
  goes_statement names (branch e A B) zero h d ts K = absurd (omega arith)
  goes_statement names (branch e A B) (suc room) h d ts K =
      goes_on_lem refl
      (goes_then (goes_expression names e 20 h.0.ranged h.0.shallow _ _)
      (goes_on_lem refl
      (goes_then (goes_statements names A room h.1 (omega arith) _ _)
      (goes_on_lem refl
      (goes_then (goes_statements names B room h.2 (omega arith) _ _)
      (goes_on_lem refl
      (goes_token refl)))))))
  goes_statement names (while e A) zero h d ts K = absurd (omega arith)
  goes_statement names (while e A) (suc room) h d ts K =
      goes_on_lem refl
      (goes_then (goes_expression names e 20 h.0.ranged h.0.shallow _ _)
      (goes_on_lem refl
      (goes_then (goes_statements names A room h.1 (omega arith) _ _)
      (goes_on_lem refl
      (goes_token refl)))))

  goes_statements : (names : List (List ℕ)) (l : Statements) (room : ℕ) → LegalStatements (length names) l → nesting_in l ≤ room → (ts : List Terminal) (K : List Expected) → Goes names (statements room ∷ K) (statements_tokens names l ts) names (statements room ∷ K) ts
  goes_statements names none room h d ts K = goes_no_further
  goes_statements names (then s l) room h d ts K =
      goes_then (goes_statement names s room h.0 (omega arith) _ K) (goes_statements names l room h.1 (omega arith) ts K)

-- distinct names: none stands among those before it
among-behind : (w : List ℕ) (xs : List (List ℕ)) (x : List ℕ) (ys : List (List ℕ)) → among w (xs ++ (x ∷ ys)) ≡ false → bytes_eq w x ≡ false
among-behind w [] x ys h = (or_parts (bytes_eq w x) (among w ys) h).0
among-behind w (y ∷ xs) x ys h = among-behind w xs x ys (or_parts (bytes_eq w y) (among w (xs ++ (x ∷ ys))) h).1

differ_back : (v w : List ℕ) → bytes_eq v w ≡ false → bytes_eq w v ≡ false
differ_back v w h =
    ⊎_elim (λ e. absurd (both_ways (bytes_eq v w) h ((bytes_eq-Decides v w).1 (sym ((bytes_eq-Decides w v).0 e))))) (λ f. f) (cases_Bool (bytes_eq w v))

new_name_lem : (xs : List (List ℕ)) (w : List ℕ) (ys : List (List ℕ)) → distinct (xs ++ (w ∷ ys)) ≡ true → among w xs ≡ false
new_name_lem [] w ys h = refl
new_name_lem (x ∷ xs) w ys h =
    let p = and_parts (not (among x (xs ++ (w ∷ ys)))) (distinct (xs ++ (w ∷ ys))) h in
    or_from (bytes_eq w x) (among w xs) (differ_back x w (among-behind x xs w ys (not-true (among x (xs ++ (w ∷ ys))) p.0))) (new_name_lem xs w ys p.1)

-- declarations
goes_declarations : (names : List (List ℕ)) (ds : List Declaration) → distinct (names ++ spellings ds) ≡ true → length (names ++ spellings ds) ≤ 256 → (ts : List Terminal) (K : List Expected) → Goes names (declarations ∷ K) (declarations_tokens ds ts) (names ++ spellings ds) (declarations ∷ K) ts
goes_declarations names [] h few ts K = subst (λ m. Goes names (declarations ∷ K) ts m (declarations ∷ K) ts) (sym (append-nil names)) goes_no_further
goes_declarations names (d ∷ ds) h few ts K =
    let w = spelled d.name in
    let more = names ++ (w ∷ []) in
    let e : more ++ spellings ds ≡ names ++ (w ∷ spellings ds) = append_assoc names (w ∷ []) (spellings ds) in
    let n : length names + suc (length (spellings ds)) ≤ 256 = subst (λ k. k ≤ 256) (length-append names (w ∷ spellings ds)) few in
    let new = or_from (among w names) (leb 256 (length names)) (new_name_lem names w (spellings ds) h) (lt-leb 256 (length names) (omega arith)) in
    let rest : Goes more (declarations ∷ K) (declarations_tokens ds ts) (more ++ spellings ds) (declarations ∷ K) ts =
    goes_declarations more ds (ap distinct e ∙ h) (subst (λ l. length l ≤ 256) (sym e) few) ts K in
    goes_on_lem refl
    (goes_on_lem (cond-false _ _ _ new)
    (goes_on_lem refl
    (goes_on_lem refl
    (goes_on_lem refl
    (subst (λ m. Goes more (declarations ∷ K) (declarations_tokens ds ts) m (declarations ∷ K) ts) e rest)))))

-- a statement ends the declarations
goes_first : (names : List (List ℕ)) (s : Statement) (ts : List Terminal) (K : List Expected) → Goes names (declarations ∷ K) (statement_tokens names s ts) names K (statement_tokens names s ts)
goes_first names skip ts K = goes_same refl
goes_first names (assign v e) ts K = goes_same refl
goes_first names (release v e) ts K = goes_same refl
goes_first names (write t e) ts K = goes_same refl
goes_first names (stop n) ts K = goes_same refl
goes_first names (branch e A B) ts K = goes_same refl
goes_first names (while e A) ts K = goes_same refl

goes_all : (names : List (List ℕ)) (l : Statements) → LegalStatements (length names) l → nesting_in l ≤ 20 → (long : ℕ) (ps : List Piece) → terminals ps ≡ statements_tokens names l [] → judge long ps finished names whole ≡ accepted
goes_all names none h d long ps e = ap (λ qs. judge long qs finished names whole) (no_pieces ps e)
goes_all names (then s l) h d long ps e =
    let g : Goes names whole (statements_tokens names (then s l) []) names (statements 20 ∷ []) [] =
    goes_then (goes_first names s _ (statements 20 ∷ [])) (goes_statements names (then s l) 20 h d [] []) in
    let r = g.on ps e in
    r.2 long finished ∙ ap (λ qs. judge long qs finished names (statements 20 ∷ [])) (no_pieces r.0 r.1)

pub spellings-length : (ds : List Declaration) → length (spellings ds) ≡ length ds
spellings-length [] = refl
spellings-length (d ∷ ds) = ap suc (spellings-length ds)

-- what the declarations of a script keep
well_parts : (s : Script) → WellFormed s → (length s.declarations ≤ 256) × (all_legal s.declarations ≡ true) × (distinct (spellings s.declarations) ≡ true)
well_parts s h =
    let ds = s.declarations in
    let p = and_parts (leb (length ds) 256) (all_legal ds && distinct (spellings ds)) h.names in
    let q = and_parts (all_legal ds) (distinct (spellings ds)) p.1 in
    (leb-true (length ds) 256 p.0, q.0, q.1)

legal_spelled : (s : Script) → WellFormed s → LegalStatements (length (spellings s.declarations)) s.statements
legal_spelled s h = subst (λ k. LegalStatements k s.statements) (sym (spellings-length s.declarations)) h.legal

-- a whole script
pub accepts : (long : ℕ) (ps : List Piece) (s : Script) → WellFormed s → terminals ps ≡ script_tokens s → judge long ps finished [] whole ≡ accepted
accepts long ps s h e =
    let ds = s.declarations in
    let p = well_parts s h in
    let few : length (spellings ds) ≤ 256 = subst (λ k. k ≤ 256) (sym (spellings-length ds)) p.0 in
    let r = (goes_declarations [] ds p.2 few (statements_tokens (spellings ds) s.statements []) (statements 20 ∷ [])).on ps e in
    r.2 long finished ∙ goes_all (spellings ds) s.statements (legal_spelled s h) h.room long r.0 r.1

-- two lists with the same first and the same rest
uncons : {A : Type 0} {x y : A} {xs ys : List A} → x ∷ xs ≡ y ∷ ys → (x ≡ y) × (xs ≡ ys)
uncons e = (cc, cc)

name_is : {v w : List ℕ} → name v ≡ name w → v ≡ w
name_is e = cc

numeral_is : {m n : ℕ} → numeral m ≡ numeral n → m ≡ n
numeral_is e = cc

-- tokens by number: a keyword by its own, other tokens by their kind
abbrev code : Terminal → ℕ
code (name w) = 20
code (numeral n) = 21
code (keyword k) = keyword_number k
code (symbol s) = 22
code nothing = 23

abbrev code_at : List Terminal → ℕ → ℕ
code_at ts i = code (get_or ts i nothing)

apart : {A : Type 0} {t u : Terminal} {ts us : List Terminal} → t ∷ ts ≡ u ∷ us → eqb (code t) (code u) ≡ false → A
apart {t = t} {u = u} e h = absurd (eqb-false (code t) (code u) h (ap code (uncons e).0))

-- distinct names are told apart by their spelling
same_variable : (names : List (List ℕ)) (v w : ℕ) → distinct names ≡ true → v < length names → w < length names → get_or names v [] ≡ get_or names w [] → v ≡ w
same_variable [] v w d h k e = absurd (omega arith)
same_variable (x ∷ xs) zero zero d h k e = refl
same_variable (x ∷ xs) zero (suc w) d h k e =
    let p = and_parts (not (among x xs)) (distinct xs) d in
    absurd (both_ways (among x xs) (not-true (among x xs) p.0) (ap (λ y. among y xs) e ∙ declared-among xs w (le_of_suc-le-suc k)))
same_variable (x ∷ xs) (suc v) zero d h k e =
    let p = and_parts (not (among x xs)) (distinct xs) d in
    absurd (both_ways (among x xs) (not-true (among x xs) p.0) (ap (λ y. among y xs) (sym e) ∙ declared-among xs v (le_of_suc-le-suc h)))
same_variable (x ∷ xs) (suc v) (suc w) d h k e =
    let p = and_parts (not (among x xs)) (distinct xs) d in
    ap suc (same_variable xs v w p.1 (le_of_suc-le-suc h) (le_of_suc-le-suc k) e)

same_operator : (o q : Operator) → operator_terminal o ≡ operator_terminal q → o ≡ q
same_operator o q e = let s = sym (again o) ∙ ap terminal_operator e ∙ again q in cc
  where
    again : (o : Operator) → terminal_operator (operator_terminal o) ≡ Some o
    again op.Add = refl
    again op.Subtract = refl
    again op.Multiply = refl
    again op.Divide = refl
    again op.Equal = refl
    again op.Less = refl
    again op.Maximum = refl
    again op.Or = refl

-- a statement by its parts: its kind, its variable, level or number, its expression and its lists
record Parts : Type 0 where
  pub kind : ℕ
  pub figure : ℕ
  pub value : Expression
  pub first_list : Statements
  pub second_list : Statements

abbrev parts_of : Statement → Parts
parts_of skip = record { kind = 1; figure = 0; value = number 0; first_list = none; second_list = none }
parts_of (assign v e) = record { kind = 20; figure = v; value = e; first_list = none; second_list = none }
parts_of (release v e) = record { kind = 30; figure = v; value = e; first_list = none; second_list = none }
parts_of (write t e) = record { kind = 8; figure = t; value = e; first_list = none; second_list = none }
parts_of (stop n) = record { kind = 9; figure = n; value = number 0; first_list = none; second_list = none }
parts_of (branch e A B) = record { kind = 2; figure = 0; value = e; first_list = A; second_list = B }
parts_of (while e A) = record { kind = 6; figure = 0; value = e; first_list = A; second_list = none }

abbrev built : ℕ → Parts → Statement
built k p =
    cond (eqb k 1) skip (cond (eqb k 20) (assign p.figure p.value) (cond (eqb k 30) (release p.figure p.value) (cond (eqb k 8) (write p.figure p.value)
    (cond (eqb k 9) (stop p.figure) (cond (eqb k 2) (branch p.value p.first_list p.second_list) (while p.value p.first_list))))))

built_again : (s : Statement) → s ≡ built (parts_of s).kind (parts_of s)
built_again skip = refl
built_again (assign v e) = refl
built_again (release v e) = refl
built_again (write t e) = refl
built_again (stop n) = refl
built_again (branch e A B) = refl
built_again (while e A) = refl

-- the kind is told by the first and the third token
abbrev kind_told : List Terminal → ℕ
kind_told ts = cond (eqb (code_at ts 0) 20) (cond (eqb (code_at ts 2) 10) 30 20) (code_at ts 0)

kind_told_lem : (names : List (List ℕ)) (s : Statement) (ts : List Terminal) → kind_told (statement_tokens names s ts) ≡ (parts_of s).kind
kind_told_lem names skip ts = refl
kind_told_lem names (assign v (number n)) ts = refl
kind_told_lem names (assign v (variable w)) ts = refl
kind_told_lem names (assign v (apply o a b)) ts = refl
kind_told_lem names (release v e) ts = refl
kind_told_lem names (write t e) ts = refl
kind_told_lem names (stop n) ts = refl
kind_told_lem names (branch e A B) ts = refl
kind_told_lem names (while e A) ts = refl

-- a statement with the same tokens is of the same kind
alike : (names : List (List ℕ)) (s t : Statement) (ts us : List Terminal) → statement_tokens names s ts ≡ statement_tokens names t us → t ≡ built (parts_of s).kind (parts_of t)
alike names s t ts us e =
    built_again t ∙ ap (λ k. built k (parts_of t)) (sym (kind_told_lem names t us) ∙ ap kind_told (sym e) ∙ kind_told_lem names s ts)

-- a list of statements is over: the text ends, or `else` or `end` comes
abbrev over : List Terminal → Bool
over [] = true
over (t ∷ ts) = eqb (code t) 4 || eqb (code t) 5

more_comes : (names : List (List ℕ)) (s : Statement) (ts : List Terminal) → over (statement_tokens names s ts) ≡ false
more_comes names skip ts = refl
more_comes names (assign v e) ts = refl
more_comes names (release v e) ts = refl
more_comes names (write t e) ts = refl
more_comes names (stop n) ts = refl
more_comes names (branch e A B) ts = refl
more_comes names (while e A) ts = refl

module _ (names : List (List ℕ)) (d : distinct names ≡ true) where
  -- an expression and what follows it are told by the tokens
  same_expression : (e f : Expression) → InRange (length names) e → InRange (length names) f → (ts us : List Terminal) → expression_tokens names e ts ≡ expression_tokens names f us → (e ≡ f) × (ts ≡ us)
  same_expression (number n) (number m) h k ts us q = let r = uncons q in (ap number (numeral_is r.0), r.1)
  same_expression (number n) (variable w) h k ts us q = apart q refl
  same_expression (number n) (apply o a b) h k ts us q = apart q refl
  same_expression (variable v) (number m) h k ts us q = apart q refl
  same_expression (variable v) (variable w) h k ts us q = let r = uncons q in (ap variable (same_variable names v w d h k (name_is r.0)), r.1)
  same_expression (variable v) (apply o a b) h k ts us q = apart q refl
  same_expression (apply o a b) (number m) h k ts us q = apart q refl
  same_expression (apply o a b) (variable w) h k ts us q = apart q refl
  same_expression (apply o a b) (apply p a' b') h k ts us q =
      let l = same_expression a a' h.0 k.0 _ _ (uncons q).1 in
      let m = uncons l.1 in
      let r = same_expression b b' h.1 k.1 _ _ m.1 in
      (ap (λ x. apply x a b) (same_operator o p m.0) ∙ ap (λ x. apply p x b) l.0 ∙ ap (apply p a') r.0, (uncons r.1).1)

  -- a statement or a list of them, and what follows, are told by the tokens
  mutual
    same_kind : (s : Statement) (p : Parts) → LegalStatement (length names) s → LegalStatement (length names) (built (parts_of s).kind p) → (ts us : List Terminal) → statement_tokens names s ts ≡ statement_tokens names (built (parts_of s).kind p) us → (s ≡ built (parts_of s).kind p) × (ts ≡ us)
    same_kind skip p h k ts us q = (refl, (uncons q).1)
    same_kind (assign v e) p h k ts us q =
        let a = uncons q in
        let x = same_variable names v p.figure d h.0 k.0 (name_is a.0) in
        let r = same_expression e p.value h.1.ranged k.1.ranged ts us (uncons a.1).1 in
        (ap₂ assign x r.0, r.1)
    same_kind (release v e) p h k ts us q =
        let a = uncons q in
        let x = same_variable names v p.figure d h.0 k.0 (name_is a.0) in
        let r = same_expression e p.value h.1.ranged k.1.ranged _ _ (uncons (uncons (uncons a.1).1).1).1 in
        (ap₂ release x r.0, (uncons r.1).1)
    same_kind (write t e) p h k ts us q =
        let a = uncons (uncons q).1 in
        let r = same_expression e p.value h.1.ranged k.1.ranged ts us a.1 in
        (ap₂ write (numeral_is a.0) r.0, r.1)
    same_kind (stop n) p h k ts us q =
        let a = uncons (uncons q).1 in
        (ap stop (numeral_is a.0), a.1)
    same_kind (branch e A B) p h k ts us q =
        let r = same_expression e p.value h.0.ranged k.0.ranged _ _ (uncons q).1 in
        let a = same_statements A p.first_list h.1 k.1 _ _ refl refl (uncons r.1).1 in
        let b = same_statements B p.second_list h.2 k.2 _ _ refl refl (uncons a.1).1 in
        (ap (λ x. branch x A B) r.0 ∙ ap₂ (branch p.value) a.0 b.0, (uncons b.1).1)
    same_kind (while e A) p h k ts us q =
        let r = same_expression e p.value h.0.ranged k.0.ranged _ _ (uncons q).1 in
        let a = same_statements A p.first_list h.1 k.1 _ _ refl refl (uncons r.1).1 in
        (ap₂ while r.0 a.0, (uncons a.1).1)

    same_statements : (l m : Statements) → LegalStatements (length names) l → LegalStatements (length names) m → (ts us : List Terminal) → over ts ≡ true → over us ≡ true → statements_tokens names l ts ≡ statements_tokens names m us → (l ≡ m) × (ts ≡ us)
    same_statements none none h k ts us o p q = (refl, q)
    same_statements none (then t m) h k ts us o p q = absurd (both_ways (over ts) (ap over q ∙ more_comes names t _) o)
    same_statements (then s l) none h k ts us o p q = absurd (both_ways (over us) (ap over (sym q) ∙ more_comes names s _) p)
    same_statements (then s l) (then t m) h k ts us o p q =
        let e = alike names s t _ _ q in
        let a = same_kind s (parts_of t) h.0 (subst (LegalStatement (length names)) e k.0) _ _ (q ∙ ap (λ x. statement_tokens names x (symbol mark.Semicolon ∷ statements_tokens names m us)) e) in
        let b = same_statements l m h.1 k.1 ts us o p (uncons a.1).1 in
        (ap₂ then (a.0 ∙ sym e) b.0, b.1)

-- a declaration by what is written of it: its name's spelling and its level
abbrev pub written : List Declaration → List (List ℕ × ℕ)
written [] = []
written (d ∷ ds) = (spelled d.name, d.level) ∷ written ds

-- no declaration comes
abbrev no_var : List Terminal → Bool
no_var [] = true
no_var (t ∷ ts) = not (eqb (code t) 0)

same_declarations : (ds es : List Declaration) (ts us : List Terminal) → no_var ts ≡ true → no_var us ≡ true → declarations_tokens ds ts ≡ declarations_tokens es us → (written ds ≡ written es) × (ts ≡ us)
same_declarations [] [] ts us h k q = (refl, q)
same_declarations [] (e ∷ es) ts us h k q = absurd (both_ways (no_var ts) (ap no_var q) h)
same_declarations (d ∷ ds) [] ts us h k q = absurd (both_ways (no_var us) (ap no_var (sym q)) k)
same_declarations (d ∷ ds) (e ∷ es) ts us h k q =
    let a = uncons (uncons q).1 in
    let b = uncons (uncons a.1).1 in
    let r = same_declarations ds es ts us h k (uncons b.1).1 in
    let P : List ℕ → ℕ → List ℕ × ℕ = λ w n. (w, n) in
    (ap₂ (λ x y. x ∷ y) (ap₂ P (name_is a.0) (numeral_is b.0)) r.0, r.1)

statement_no_var : (names : List (List ℕ)) (s : Statement) (ts : List Terminal) → no_var (statement_tokens names s ts) ≡ true
statement_no_var names skip ts = refl
statement_no_var names (assign v e) ts = refl
statement_no_var names (release v e) ts = refl
statement_no_var names (write t e) ts = refl
statement_no_var names (stop n) ts = refl
statement_no_var names (branch e A B) ts = refl
statement_no_var names (while e A) ts = refl

statements_no_var : (names : List (List ℕ)) (l : Statements) → no_var (statements_tokens names l []) ≡ true
statements_no_var names none = refl
statements_no_var names (then s l) = statement_no_var names s _

written-spellings : (ds : List Declaration) → map (λ p. p.0) (written ds) ≡ spellings ds
written-spellings [] = refl
written-spellings (d ∷ ds) = ap (λ l. spelled d.name ∷ l) (written-spellings ds)

-- a name is kept in one way in a given number of bytes
same_bytes : (n m : ℕ) (bs cs : List ℕ) → padded n bs ≡ true → padded m cs ≡ true → length bs ≡ length cs → take n bs ≡ take m cs → (n ≡ m) × (bs ≡ cs)
same_bytes zero zero [] [] h k l e = (refl, refl)
same_bytes zero zero [] (c ∷ cs) h k l e = absurd (omega arith)
same_bytes zero zero (b ∷ bs) [] h k l e = absurd (omega arith)
same_bytes zero zero (b ∷ bs) (c ∷ cs) h k l e =
    let p = and_parts (eqb b 0) (padded zero bs) h in
    let q = and_parts (eqb c 0) (padded zero cs) k in
    let r = same_bytes zero zero bs cs p.1 q.1 (omega arith) refl in
    (refl, ap₂ (λ x y. x ∷ y) (eqb-true b 0 p.0 ∙ sym (eqb-true c 0 q.0)) r.1)
same_bytes zero (suc m) bs [] h k l e = absurd (false≢true k)
same_bytes zero (suc m) bs (c ∷ cs) h k l e = let z : ◌≡◌ {A = ℕ} 0 1 = cc in absurd (omega arith)
same_bytes (suc n) zero [] cs h k l e = absurd (false≢true h)
same_bytes (suc n) zero (b ∷ bs) cs h k l e = let z : ◌≡◌ {A = ℕ} 0 1 = cc in absurd (omega arith)
same_bytes (suc n) (suc m) [] cs h k l e = absurd (false≢true h)
same_bytes (suc n) (suc m) (b ∷ bs) [] h k l e = absurd (false≢true k)
same_bytes (suc n) (suc m) (b ∷ bs) (c ∷ cs) h k l e =
    let a = uncons e in
    let r = same_bytes n m bs cs (and_parts (is_word b) (padded n bs) h).1 (and_parts (is_word c) (padded m cs) k).1 (omega arith) a.1 in
    (ap suc r.0, ap₂ (λ x y. x ∷ y) a.0 r.1)

legal_padded : (n : Name) → legal_name n ≡ true → padded n.length n.bytes ≡ true
legal_padded n h = (and_parts (padded n.length n.bytes) _ (and_parts (ltb 0 n.length) _ (and_parts (eqb (length n.bytes) 15) _ h).1).1).0

legal_fifteen : (n : Name) → legal_name n ≡ true → length n.bytes ≡ 15
legal_fifteen n h = eqb-true (length n.bytes) 15 (and_parts (eqb (length n.bytes) 15) _ h).0

same_name : (n m : Name) → legal_name n ≡ true → legal_name m ≡ true → spelled n ≡ spelled m → n ≡ m
same_name n m h k e =
    let r = same_bytes n.length m.length n.bytes m.bytes (legal_padded n h) (legal_padded m k) (legal_fifteen n h ∙ sym (legal_fifteen m k)) e in
    let R : ℕ → List ℕ → Name = λ x y. record { length = x; bytes = y } in
    ap₂ R r.0 r.1

same_kept : (ds es : List Declaration) → all_legal ds ≡ true → all_legal es ≡ true → written ds ≡ written es → ds ≡ es
same_kept [] [] h k q = refl
same_kept [] (e ∷ es) h k q = let z : ◌≡◌ {A = ℕ} 0 1 = cc in absurd (omega arith)
same_kept (d ∷ ds) [] h k q = let z : ◌≡◌ {A = ℕ} 0 1 = cc in absurd (omega arith)
same_kept (d ∷ ds) (e ∷ es) h k q =
    let a = uncons q in
    let l = and_parts (legal_declaration d) (all_legal ds) h in
    let m = and_parts (legal_declaration e) (all_legal es) k in
    let n : d.name ≡ e.name =
    same_name d.name e.name (and_parts (legal_name d.name) _ l.0).0 (and_parts (legal_name e.name) _ m.0).0 (ap (λ p. p.0) a.0) in
    let R : Name → ℕ → Declaration = λ x y. record { name = x; level = y } in
    ap₂ (λ x y. x ∷ y) (ap₂ R n (ap (λ p. p.1) a.0)) (same_kept ds es l.1 m.1 a.1)

-- two scripts with the same tokens
pub same_written : (s t : Script) → WellFormed s → WellFormed t → script_tokens s ≡ script_tokens t → (written s.declarations ≡ written t.declarations) × (s.statements ≡ t.statements)
same_written s t h k q =
    let ds = s.declarations in
    let es = t.declarations in
    let a = same_declarations ds es _ _ (statements_no_var (spellings ds) s.statements) (statements_no_var (spellings es) t.statements) q in
    let n : spellings es ≡ spellings ds = sym (written-spellings es) ∙ ap (map (λ p. p.0)) (sym a.0) ∙ written-spellings ds in
    let legal : LegalStatements (length (spellings ds)) t.statements = subst (λ x. LegalStatements (length x) t.statements) n (legal_spelled t k) in
    (a.0, (same_statements (spellings ds) (well_parts s h).2 s.statements t.statements (legal_spelled s h) legal [] [] refl refl (a.1 ∙ ap (λ x. statements_tokens x t.statements []) n)).0)

pub same_script : (s t : Script) → WellFormed s → WellFormed t → script_tokens s ≡ script_tokens t → s ≡ t
same_script s t h k q =
    let a = same_written s t h k q in
    let R : List Declaration → Statements → Script = λ x y. record { declarations = x; statements = y } in
    ap₂ R (same_kept s.declarations t.declarations (well_parts s h).1 (well_parts t k).1 a.0) a.1

-- two scripts with the same text
same_tokens : (text : List ℕ) (s t : Script) → TextOf text s → TextOf text t → script_tokens s ≡ script_tokens t
same_tokens text s t a b = sym a.tokens ∙ ap terminals (one_way 0 text a.pieces b.pieces finished finished a.made b.made).0 ∙ b.tokens

pub one_written : (text : List ℕ) (s t : Script) → TextOf text s → TextOf text t → (written s.declarations ≡ written t.declarations) × (s.statements ≡ t.statements)
one_written text s t a b = same_written s t a.well_formed b.well_formed (same_tokens text s t a b)

pub one_script : OneScript
one_script text s t a b = same_script s t a.well_formed b.well_formed (same_tokens text s t a b)
