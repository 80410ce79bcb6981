-- Declarations from their parts, and one behind the other.
use Rattle.std.proofs.Common.{◌≡◌, ℕ, zero, suc, ◌+◌, ◌-◌, ◌<◌, ◌≤◌, Bool, true, false, not, ◌&&◌, ◌||◌, eqb, ltb, leb, List, [], ◌∷◌, ◌++◌, length, get_or, take, drop, replicate, is_some, sym, refl, ap, ◌∙◌, subst, ap₂, ⊎_elim, arith, length-append, Bor, lt-ltb, eq-eqb, le-leb, leb-false}
use lib.Seq.{take-append_seam}
use Rattle.std.specs.Str.{bytes_eq}
use Rattle.std.proofs.lemmas.List.{map-append, length-replicate}
use Rattle.std.proofs.lemmas.Bool.{cond-true, cond-false, cases_Bool, and_parts, true≢false}
use Rattle.refusals.specs.declared.Reason.TheVariants.{Unexpected, BadDeclaration}
use Rattle.refusals.specs.declared.Refusal.{Refusal}
use Rattle.letters.specs.declared.keywords.Keyword.TheVariants.{Var}
use Rattle.letters.specs.declared.symbols.Symbol.TheVariants as mark
use Rattle.letters.specs.declared.tokens.Token.{Token}
use Rattle.letters.specs.declared.tokens.Token.TheVariants as case
use Rattle.letters.specs.Classes.{is_word, is_digit, is_letter, every, begins}
use Rattle.letters.specs.Keywords.{keyword_of}
use Rattle.letters.specs.Tokens.{Lexeme, view, token, next_at, is_end}
use Rattle.letters.specs.Tokens as lex
use Rattle.letters.specs.Texts.{Piece, Ending, MadeOf}
use Rattle.letters.specs.Texts as texts
use Rattle.letters.proofs.Marks.{digit_no_letter}
use Rattle.lists.specs.Overlay.{overlay}
use Rattle.lists.proofs.Laws.{laid_none, laid_one, laid_more}
use Rattle.syntax.specs.declared.form.Name.{Name}
use Rattle.syntax.specs.declared.form.Declaration.{Declaration}
use Rattle.syntax.specs.Names.{among, padded, spelled, legal_name, legal_declaration, all_legal, spellings, distinct}
use Rattle.reading.specs.Heard.{heard}
use Rattle.reading.specs.Grammar.{Terminal, name, numeral, keyword, symbol, terminal, terminals, declaration_tokens, declarations_tokens}
use Rattle.reading.specs.Rule.{Expected, declarations, new_name, step, judge, resolve}
use Rattle.reading.specs.Reads.{Ahead, Passed}
use Rattle.reading.specs.Declares.{NewNameRead, DeclarationRead, DeclarationsRead, DeclarationsFail, DeclarationFails, levelled, behind_var}
use Rattle.reading.proofs.Aheads.{Bad, found, found_end}
use Rattle.reading.proofs.Tables.{same_sym}
use Rattle.reading.specs.Fixed.{keywords_differ}

or_parts : (a b : Bool) → (a || b) ≡ false → (a ≡ false) × (b ≡ false)
or_parts true b h = absurd (true≢false h)
or_parts false b h = (refl, h)

-- a name where a new one is expected
pub bad_taken : (names : List (List ℕ)) (w : List ℕ) → (among w names || leb 256 (length names)) ≡ true → Bad names new_name (lex.name w) BadDeclaration
bad_taken names w h = record { turns = λ K. cond-true _ _ _ h; ends = λ e. absurd (true≢false (sym e)) }

pub bad_new : (names : List (List ℕ)) (t : Token) → ((w : Bor (List ℕ)) → t ≡ case.Name w → ⊥) → Bad names new_name (view t) Unexpected
bad_new names case.End h = record { turns = λ K. refl; ends = λ _. (refl, λ long K. refl) }
bad_new names (case.Name w) h = absurd (h w refl)
bad_new names (case.Numeral w n) h = record { turns = λ K. refl; ends = λ e. absurd (true≢false (sym e)) }
bad_new names (case.Keyword k) h = record { turns = λ K. refl; ends = λ e. absurd (true≢false (sym e)) }
bad_new names (case.Symbol s) h = record { turns = λ K. refl; ends = λ e. absurd (true≢false (sym e)) }

name_legal : (text : List ℕ) (at : ℕ) (ps rest : List Piece) (f : Ending) (w : List ℕ) (s e : ℕ) → Ahead text at ps f → ps ≡ record { token = lex.name w; start = s; stop = e } ∷ rest → texts.Name w
name_legal text at ps rest f w s e a h =
    let m : MadeOf at (drop at text) (record { token = lex.name w; start = s; stop = e } ∷ rest) f = subst (λ x. MadeOf at (drop at text) x f) h a.made in
    subst texts.Name (sym m.1.spells.0) m.1.spells.1

pub new_room : (names : List (List ℕ)) (w : List ℕ) → (among w names || leb 256 (length names)) ≡ false → length names < 256
new_room names w h = leb-false 256 (length names) (or_parts (among w names) (leb 256 (length names)) h).1

pub new_name_lem : (text : List ℕ) (at : ℕ) (names : List (List ℕ)) (ps : List Piece) (f : Ending) (w : List ℕ) (s e : ℕ) → Ahead text at ps f → token (lex.name w) s e ≡ next_at text at → e ≤ length text → (among w names || leb 256 (length names)) ≡ false → NewNameRead text names w ps f e
new_name_lem text at names ps f w s e a h short free =
    let g = found text at ps f (lex.name w) s e a h refl short in
    record {
      rest = g.0;
      ahead = g.2;
      reads = ap terminals g.1;
      passes = λ K. ap (λ x. judge (length text) x f names (new_name ∷ K)) g.1 ∙ ap (λ v. resolve v s (judge (length text) g.0 f)) (cond-false _ _ _ free);
      legal = name_legal text at ps g.0 f w s e a g.1;
      fresh = (or_parts (among w names) (leb 256 (length names)) free).0;
    }

-- a legal name, kept with zeros behind it
padded_zeros : (m : ℕ) → padded 0 (replicate m 0) ≡ true
padded_zeros zero = refl
padded_zeros (suc m) = padded_zeros m

padded_word : (w : List ℕ) (m : ℕ) → every is_word w ≡ true → padded (length w) (w ++ replicate m 0) ≡ true
padded_word [] m h = padded_zeros m
padded_word (c ∷ cs) m h =
    let p = and_parts (is_word c) (every is_word cs) h in
    ap (λ b. b && padded (length cs) (cs ++ replicate m 0)) p.0 ∙ padded_word cs m p.1

first_letter : (w : List ℕ) (m : ℕ) → begins is_letter w ≡ true → is_digit (get_or (w ++ replicate m 0) 0 0) ≡ false
first_letter [] m h = absurd (true≢false (sym h))
first_letter (c ∷ cs) m h = ⊎_elim (λ d. absurd (true≢false (sym h ∙ digit_no_letter c d))) (λ d. d) (cases_Bool (is_digit c))

some_word : (w : List ℕ) → begins is_letter w ≡ true → 0 < length w
some_word [] h = absurd (true≢false (sym h))
some_word (c ∷ cs) h = omega arith

module _ (w : List ℕ) (n : Name) (long : n.length ≡ length w) (bytes : n.bytes ≡ w ++ replicate (15 - length w) 0) where
  pub name_spelled : spelled n ≡ w
  name_spelled = ap₂ (λ k b. take k b) long bytes ∙ take-append_seam w (replicate (15 - length w) 0)

  name_kept : length w ≤ 15 → length n.bytes ≡ 15
  name_kept h = ap length bytes ∙ length-append w (replicate (15 - length w) 0) ∙ omega (arith, length-replicate {A = ℕ} (15 - length w) 0)

  pub name_is_legal : texts.Name w → legal_name n ≡ true
  name_is_legal h =
      let e : eqb (length n.bytes) 15 ≡ true = eq-eqb (length n.bytes) 15 (name_kept h.short) in
      let a : ltb 0 n.length ≡ true = lt-ltb 0 n.length (omega (arith, some_word w h.word.letter_first)) in
      let b : padded n.length n.bytes ≡ true = ap₂ (λ k b. padded k b) long bytes ∙ padded_word w (15 - length w) h.word.all_word in
      let c : is_digit (get_or n.bytes 0 0) ≡ false = ap (λ b. is_digit (get_or b 0 0)) bytes ∙ first_letter w (15 - length w) h.word.letter_first in
      let d : is_some (keyword_of (spelled n)) ≡ false = ap (λ x. is_some (keyword_of x)) name_spelled ∙ ap is_some h.no_keyword in
      rw (e, a, b, c, d) refl

-- a declaration
pub declaration_read : (text : List ℕ) (names : List (List ℕ)) (w : List ℕ) (n : Name) (level : ℕ) (ps : List Piece) (f : Ending) (middle to : ℕ) → (N : NewNameRead text names w ps f middle) → Passed text (names ++ (w ∷ [])) levelled (λ rest. symbol mark.Colon ∷ numeral level ∷ symbol mark.Semicolon ∷ rest) N.rest f to → level ≤ 2147483647 → n.length ≡ length w → n.bytes ≡ w ++ replicate (15 - length w) 0 → DeclarationRead text names w (record { name = n; level = level }) ps f to
declaration_read text names w n level ps f middle to N L small long bytes =
    let is = name_spelled w n long bytes in
    record {
      rest = L.rest;
      ahead = L.ahead;
      reads = N.reads ∙ ap (λ t. name w ∷ t) L.reads ∙ ap (λ x. name x ∷ symbol mark.Colon ∷ numeral level ∷ symbol mark.Semicolon ∷ terminals L.rest) (sym is);
      passes = λ K. N.passes (levelled ++ K) ∙ L.passes K ∙ ap (λ x. judge (length text) L.rest f (names ++ (x ∷ [])) K) (sym is);
      spells = is;
      legal = ap (λ b. b && leb level 2147483647) (name_is_legal w n long bytes N.legal) ∙ le-leb level 2147483647 small;
      fresh = ap (λ x. among x names) is ∙ N.fresh;
    }

-- one behind the other
tokens_push : (ds : List Declaration) (d : Declaration) (rest : List Terminal) → declarations_tokens (ds ++ (d ∷ [])) rest ≡ declarations_tokens ds (declaration_tokens d rest)
tokens_push [] d rest = refl
tokens_push (e ∷ ds) d rest = ap (declaration_tokens e) (tokens_push ds d rest)

spellings_push : (ds : List Declaration) (d : Declaration) → spellings (ds ++ (d ∷ [])) ≡ spellings ds ++ (spelled d.name ∷ [])
spellings_push [] d = refl
spellings_push (e ∷ ds) d = ap (λ x. spelled e.name ∷ x) (spellings_push ds d)

legal_push : (ds : List Declaration) (d : Declaration) → all_legal ds ≡ true → legal_declaration d ≡ true → all_legal (ds ++ (d ∷ [])) ≡ true
legal_push [] d h k = ap (λ b. b && true) k
legal_push (e ∷ ds) d h k =
    let p = and_parts (legal_declaration e) (all_legal ds) h in
    ap (λ b. b && all_legal (ds ++ (d ∷ []))) p.0 ∙ legal_push ds d p.1 k

among_push : (x : List ℕ) (ws : List (List ℕ)) (w : List ℕ) → among x ws ≡ false → bytes_eq x w ≡ false → among x (ws ++ (w ∷ [])) ≡ false
among_push x [] w h k = ap (λ b. b || false) k
among_push x (v ∷ ws) w h k =
    let p = or_parts (bytes_eq x v) (among x ws) h in
    ap (λ b. b || among x (ws ++ (w ∷ []))) p.0 ∙ among_push x ws w p.1 k

not-true : (b : Bool) → not b ≡ true → b ≡ false
not-true true h = absurd (true≢false (sym h))
not-true false h = refl

distinct_push : (ws : List (List ℕ)) (w : List ℕ) → distinct ws ≡ true → among w ws ≡ false → distinct (ws ++ (w ∷ [])) ≡ true
distinct_push [] w h k = refl
distinct_push (v ∷ ws) w h k =
    let p = and_parts (not (among v ws)) (distinct ws) h in
    let q = or_parts (bytes_eq w v) (among w ws) k in
    ap (λ b. not b && distinct (ws ++ (w ∷ []))) (among_push v ws w (not-true (among v ws) p.0) (same_sym w v q.0)) ∙ distinct_push ws w p.1 q.1

pub declarations_none : (text : List ℕ) (ps : List Piece) (f : Ending) (out : List Declaration) → Ahead text 0 ps f → DeclarationsRead text [] ps f out out 0 0
declarations_none text ps f out a = record {
  tree = [];
  rest = ps;
  ahead = a;
  reads = refl;
  passes = λ K. refl;
  named = refl;
  legal = refl;
  apart = refl;
  laid = laid_none out 0;
}

-- what `var` begins
var_begins : (text : List ℕ) (names : List (List ℕ)) (ps rest : List Piece) (f : Ending) (s e : ℕ) → ps ≡ record { token = lex.keyword Var; start = s; stop = e } ∷ rest → (K : List Expected) → judge (length text) ps f names (declarations ∷ K) ≡ judge (length text) rest f names (behind_var ++ (declarations ∷ K))
var_begins text names ps rest f s e is K = ap (λ x. judge (length text) x f names (declarations ∷ K)) is

pub declarations_more : (text : List ℕ) (names : List (List ℕ)) (ps : List Piece) (f : Ending) (out out' out'' : List Declaration) (at count to s e : ℕ) (w : List ℕ) (d : Declaration) (g : DeclarationsRead text names ps f out out' at count) (rest : List Piece) → g.rest ≡ record { token = lex.keyword Var; start = s; stop = e } ∷ rest → DeclarationRead text names w d rest f to → out'' ≡ overlay out' count (d ∷ []) → DeclarationsRead text (names ++ (w ∷ [])) ps f out out'' to (count + 1)
declarations_more text names ps f out out' out'' at count to s e w d g rest is r p =
    let named : names ++ (w ∷ []) ≡ spellings (g.tree ++ (d ∷ [])) = ap₂ (λ x y. x ++ (y ∷ [])) g.named (sym r.spells) ∙ sym (spellings_push g.tree d) in
    record {
      tree = g.tree ++ (d ∷ []);
      rest = r.rest;
      ahead = r.ahead;
      reads = g.reads ∙ ap (λ x. declarations_tokens g.tree (terminals x)) is ∙ ap (λ x. declarations_tokens g.tree (keyword Var ∷ x)) r.reads ∙ sym (tokens_push g.tree d (terminals r.rest));
      passes = λ K. g.passes K ∙ var_begins text names g.rest rest f s e is K ∙ r.passes (declarations ∷ K) ∙ ap (λ x. judge (length text) r.rest f (names ++ (x ∷ [])) (declarations ∷ K)) r.spells;
      named = named;
      legal = legal_push g.tree d g.legal r.legal;
      apart = ap distinct (spellings_push g.tree d) ∙ distinct_push (spellings g.tree) (spelled d.name) g.apart (ap (among (spelled d.name)) (sym g.named) ∙ r.fresh);
      laid = laid_more g.laid (laid_one p);
    }

pub declarations_fail : (text : List ℕ) (names : List (List ℕ)) (ps : List Piece) (f : Ending) (out out' : List Declaration) (at count s e : ℕ) (q : Refusal) (g : DeclarationsRead text names ps f out out' at count) (rest : List Piece) → g.rest ≡ record { token = lex.keyword Var; start = s; stop = e } ∷ rest → DeclarationFails text names rest f q → DeclarationsFail text ps f q
declarations_fail text names ps f out out' at count s e q g rest is h K = g.passes K ∙ var_begins text names g.rest rest f s e is K ∙ h (declarations ∷ K)

-- another token
module _ (text : List ℕ) (at : ℕ) (names : List (List ℕ)) (ps : List Piece) (f : Ending) (a : Ahead text at ps f) where
  over_token : (l : Lexeme) (s e : ℕ) → token l s e ≡ next_at text at → is_end l ≡ false → e ≤ length text → ((K : List Expected) → step names (declarations ∷ K) (terminal l) ≡ step names K (terminal l)) → (K : List Expected) → judge (length text) ps f names (declarations ∷ K) ≡ judge (length text) ps f names K
  over_token l s e h more short same K =
      let g = found text at ps f l s e a h more short in
      ap (λ x. judge (length text) x f names (declarations ∷ K)) g.1
      ∙ ap (λ v. resolve v s (judge (length text) g.0 f)) (same K)
      ∙ ap (λ x. judge (length text) x f names K) (sym g.1)

  pub declarations_over : (t : Token) (s e : ℕ) → token (view t) s e ≡ next_at text at → e ≤ length text → (view t ≡ lex.keyword Var → ⊥) → (K : List Expected) → judge (length text) ps f names (declarations ∷ K) ≡ judge (length text) ps f names K
  declarations_over case.End s e h short other K =
      let g = found_end text at ps f s e a h in
      ap₂ (λ x y. judge (length text) x y names (declarations ∷ K)) g.0 g.1 ∙ sym (ap₂ (λ x y. judge (length text) x y names K) g.0 g.1)
  declarations_over (case.Name w) s e h short other K = over_token (lex.name w.now) s e h refl short (λ K. refl) K
  declarations_over (case.Numeral w n) s e h short other K = over_token (lex.numeral w.now n) s e h refl short (λ K. refl) K
  declarations_over (case.Keyword k) s e h short other K = over_token (lex.keyword k) s e h refl short (λ K. cond-false _ _ _ (keywords_differ k Var (λ q. other (ap lex.keyword q)))) K
  declarations_over (case.Symbol x) s e h short other K = over_token (lex.symbol x) s e h refl short (λ K. refl) K

-- the table with one name more
pub heard_push : (table : List (Bor (List ℕ))) (w : Bor (List ℕ)) → heard (table ++ (w ∷ [])) ≡ heard table ++ (w.now ∷ [])
heard_push table w = map-append (λ (r : Bor (List ℕ)). r.now) table (w ∷ [])
