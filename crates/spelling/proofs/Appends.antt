-- The spelling of a script is that of its parts, one behind the other.
use Rattle.std.proofs.Common.{◌≡◌, ℕ, suc, List, [], ◌∷◌, ◌++◌, get_or, sym, refl, ap, ◌∙◌, append_assoc, append-nil}
use Rattle.letters.specs.declared.keywords.Keyword.TheVariants as word
use Rattle.letters.specs.declared.symbols.Symbol.TheVariants as mark
use Rattle.syntax.specs.declared.form.Declaration.{Declaration}
use Rattle.syntax.specs.Names.{spelled, spellings}
use Rattle.syntax.specs.Trees.{Expression, number, variable, apply, Statement, Statements, none, then, skip, assign, release, write, stop, branch, while}
use Rattle.syntax.specs.Scripts.{Script}
use Rattle.syntax.specs.Form.{TreeRow, skips, assigns, releases, writes, stops, branches, leaves, closes, repeats, goes_back, row_after_of, row_after_in, tree_rows_of, tree_rows_in, tree_rows}
use Rattle.reading.specs.Grammar.{Terminal, name, numeral, keyword, symbol, operator_terminal, expression_tokens, statement_tokens, statements_tokens, declaration_tokens, declarations_tokens}
use Rattle.spelling.specs.Spelling.{terminal_bytes, separator, layout, spelling}
use Rattle.spelling.specs.Parts.{token_bytes, expression_bytes, target_bytes, row_bytes, rows_bytes, declaration_bytes, declarations_bytes}

-- the tokens ts are laid out as these bytes, and then come the tokens us
record Lays (ts us : List Terminal) (bytes : List ℕ) : Type 0 where
  so : layout ts ≡ bytes ++ layout us

token : (t : Terminal) {us : List Terminal} → Lays (t ∷ us) us (token_bytes t)
token t {us} = record { so = sym (append_assoc (terminal_bytes t) (separator t ∷ []) (layout us)) }

more : {ts us vs : List Terminal} {a b : List ℕ} → Lays ts us a → Lays us vs b → Lays ts vs (a ++ b)
more {vs = vs} {a = a} {b = b} p q = record { so = p.so ∙ ap (λ l. a ++ l) q.so ∙ sym (append_assoc a b (layout vs)) }

semicolon : {us : List Terminal} → Lays (symbol mark.Semicolon ∷ us) us (token_bytes (symbol mark.Semicolon))
semicolon = token (symbol mark.Semicolon)

module _ (names : List (List ℕ)) where
  expression : (e : Expression) {us : List Terminal} → Lays (expression_tokens names e us) us (expression_bytes names e)
  expression (number n) = token (numeral n)
  expression (variable v) = token (name (get_or names v []))
  expression (apply o a b) =
      more (token (symbol mark.Open)) (more (expression a) (more (token (operator_terminal o)) (more (expression b) (token (symbol mark.Close)))))

  target : (v : ℕ) {us : List Terminal} → Lays (name (get_or names v []) ∷ symbol mark.Assign ∷ us) us (target_bytes names v)
  target v = more (token (name (get_or names v []))) (token (symbol mark.Assign))

  ending : {us : List Terminal} → Lays (keyword word.End ∷ symbol mark.Semicolon ∷ us) us (row_bytes names closes)
  ending = more (token (keyword word.End)) semicolon

  -- a row, and the rows behind it
  first : (f : TreeRow) (fs : List TreeRow) (us : List Terminal) {ts : List Terminal} → Lays ts us (row_bytes names f) → rows_bytes names fs ≡ layout us → rows_bytes names (f ∷ fs) ≡ layout ts
  first f fs us p h = ap (λ l. row_bytes names f ++ l) h ∙ sym p.so

  mutual
    rows_of : (b : ℕ) (s : Statement) (fs : List TreeRow) (us : List Terminal) → rows_bytes names fs ≡ layout us
        → rows_bytes names (tree_rows_of b s fs) ≡ layout (statement_tokens names s (symbol mark.Semicolon ∷ us))
    rows_of b skip fs us h = first skips fs us (more (token (keyword word.Skip)) semicolon) h
    rows_of b (assign v e) fs us h = first (assigns v e) fs us (more (target v) (more (expression e) semicolon)) h
    rows_of b (release v e) fs us h =
        first (releases v e) fs us
        (more (target v) (more (token (keyword word.Declassify)) (more (token (symbol mark.Open)) (more (expression e) (more (token (symbol mark.Close)) semicolon))))) h
    rows_of b (write t e) fs us h = first (writes t e) fs us (more (token (keyword word.Write)) (more (token (numeral t)) (more (expression e) semicolon))) h
    rows_of b (stop n) fs us h = first (stops n) fs us (more (token (keyword word.Stop)) (more (token (numeral n)) semicolon)) h
    rows_of b (branch e A B) fs us h =
        let m = row_after_in (suc b) A in
        let n = row_after_in (suc m) B in
        let second = rows_in_lem (suc m) B (closes ∷ fs) (keyword word.End ∷ symbol mark.Semicolon ∷ us) (first closes fs us ending h) in
        let behind = statements_tokens names B (keyword word.End ∷ symbol mark.Semicolon ∷ us) in
        let left = first (leaves n) (tree_rows_in (suc m) B (closes ∷ fs)) behind (token (keyword word.Else)) second in
        first (branches e m) (tree_rows_in (suc b) A (leaves n ∷ tree_rows_in (suc m) B (closes ∷ fs))) (statements_tokens names A (keyword word.Else ∷ behind)) (more (token (keyword word.If)) (more (expression e) (token (keyword word.Then))))
        (rows_in_lem (suc b) A (leaves n ∷ tree_rows_in (suc m) B (closes ∷ fs)) (keyword word.Else ∷ behind) left)
    rows_of b (while e A) fs us h =
        let m = row_after_in (suc b) A in
        let behind = keyword word.End ∷ symbol mark.Semicolon ∷ us in
        first (repeats e m) (tree_rows_in (suc b) A (goes_back b ∷ fs)) (statements_tokens names A behind) (more (token (keyword word.While)) (more (expression e) (token (keyword word.Do))))
        (rows_in_lem (suc b) A (goes_back b ∷ fs) behind (first (goes_back b) fs us ending h))

    rows_in_lem : (b : ℕ) (l : Statements) (fs : List TreeRow) (us : List Terminal) → rows_bytes names fs ≡ layout us → rows_bytes names (tree_rows_in b l fs) ≡ layout (statements_tokens names l us)
    rows_in_lem b none fs us h = h
    rows_in_lem b (then s l) fs us h = rows_of b s (tree_rows_in (row_after_of b s) l fs) (statements_tokens names l us) (rows_in_lem (row_after_of b s) l fs us h)

declaration : (d : Declaration) {ts : List Terminal} → Lays (declaration_tokens d ts) ts (declaration_bytes d)
declaration d = more (token (keyword word.Var)) (more (token (name (spelled d.name))) (more (token (symbol mark.Colon)) (more (token (numeral d.level)) semicolon)))

declarations : (ds : List Declaration) (ts : List Terminal) → Lays (declarations_tokens ds ts) ts (declarations_bytes ds)
declarations [] ts = record { so = refl }
declarations (d ∷ ds) ts = more (declaration d) (declarations ds ts)

pub spelling_parts : (s : Script) → spelling s ≡ declarations_bytes s.declarations ++ rows_bytes (spellings s.declarations) (tree_rows s.statements)
spelling_parts s =
    let names = spellings s.declarations in
    (declarations s.declarations (statements_tokens names s.statements [])).so ∙ ap (λ l. declarations_bytes s.declarations ++ l) (sym (rows_in_lem names 0 s.statements [] [] refl))

-- what is written in one turn of a loop
pub rows_more : (names : List (List ℕ)) (fs : List TreeRow) (f : TreeRow) → rows_bytes names fs ++ row_bytes names f ≡ rows_bytes names (fs ++ (f ∷ []))
rows_more names [] f = sym (append-nil (row_bytes names f))
rows_more names (x ∷ fs) f = append_assoc (row_bytes names x) (rows_bytes names fs) (row_bytes names f) ∙ ap (λ l. row_bytes names x ++ l) (rows_more names fs f)

pub declarations_more : (ds : List Declaration) (d : Declaration) → declarations_bytes ds ++ declaration_bytes d ≡ declarations_bytes (ds ++ (d ∷ []))
declarations_more [] d = sym (append-nil (declaration_bytes d))
declarations_more (x ∷ ds) d = append_assoc (declaration_bytes x) (declarations_bytes ds) (declaration_bytes d) ∙ ap (λ l. declaration_bytes x ++ l) (declarations_more ds d)

-- what code takes for a declaration behind the list
abbrev pub unread : Declaration
unread = record { name = record { length = 0; bytes = [] }; level = 0 }
