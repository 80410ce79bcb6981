use Rattle.std.proofs.Common.{rules, ◌≡◌, ℕ, ◌+◌, ◌-◌, ◌^◌, ◌<◌, true, false, List, [], ◌∷◌, ◌++◌, get_or, sym, refl, ap, ◌∙◌, subst, arith, Ok, Err}
use Rattle.std.proofs.lemmas.Bool.{cond-true, true≢false}
use Rattle.refusals.specs.declared.Reason.TheVariants.{Undeclared, TooDeep}
use Rattle.letters.specs.declared.keywords.Keyword.TheVariants as word
use Rattle.letters.specs.declared.symbols.Symbol.TheVariants as mark
use Rattle.letters.specs.declared.tokens.Token.TheVariants as case
use Rattle.letters.specs.Tokens.{view, token}
use Rattle.letters.specs.Tokens as lex
use Rattle.lists.specs.Overlay.{overlay, Laid}
use Rattle.syntax.specs.declared.form.Row.TheVariants.{If, EndIf, While, EndWhile}
use Rattle.syntax.specs.Names.{among}
use Rattle.reading.specs.Heard.{heard}
use Rattle.reading.specs.Grammar.{keyword, symbol, name, terminal, expression_tokens, statements_tokens}
use Rattle.reading.specs.Rule.{Expected, statements, expression, assigned, a_numeral, the_keyword, the_symbol, step, onward}
use Rattle.reading.specs.Reads.{Progress, ListRead, StatementRead, Fails}
use Rattle.reading.specs.Readers.{progress, OneReadBy}
use Rattle.reading.specs.Blocks.{behind_if, behind_while}
use Rattle.reading.proofs.Aheads.{Bad}
use Rattle.reading.proofs.Applications.{less_room}
use Rattle.reading.proofs.Branches.{begins_if, begins_while, deep_if, deep_while, unknown_name, word_over, over_token, over, if_read, if_fails, while_read}
use Rattle.reading.proofs.Carried.{has_kept, kept_more, next_in, short_in, passed_in, fails_in, fault_in, found_in, turned_in}
use Rattle.reading.proofs.Lists.{list_as, going_none, going_more, going_over, going_fails, one_read, one_fails}
use Rattle.reading.proofs.Sequences.{fails_then, fails_first}
use Rattle.reading.proofs.reader.Reader.+branch_list_repeat_statement.Goals as goal

back : (room : ℕ) → (room ≡ 0 → ⊥) → room - 1 + 1 ≡ room
back room h = omega (arith, less_room room h)

pub list-each-init : goal.list-each-init
list-each-init t c = ((refl, refl, refl, refl, refl, refl, refl, refl), omega arith, λ text names ps f has a. going_none text names c.args.room f ps _ _ _ a)

pub list-returns-in_err-statement-clause-read : goal.list-returns-in_err-statement-clause-read
list-returns-in_err-statement-clause-read t c = λ text names ps f has a.
    let i = c.each.invariant in
    let q = c.in_err-statement.field-0.0 in
    let g = i.2 text names ps f has a in
    let failed : Fails text names (statements c.args.room ∷ []) ps f q = going_fails text names c.args.room f ps q g (c.in_err-statement.ensures.read text names g.rest f (has_kept c.args.self.now c.each.self i.0 has) g.ahead) in
    search rules

pub list-each-preserved : goal.list-each-preserved
list-each-preserved t c =
    let i = c.each.invariant in (
      kept_more c.args.self.now c.each.self c.statement.new.self i.0 c.in_ok-statement.ensures.kept,
      omega (arith, i.1, c.in_ok-statement.ensures.onward.0),
      λ text names ps f has a.
          let g = i.2 text names ps f has a in
          going_more text names c.args.room f ps g (subst (λ b. OneReadBy text names c.args.room g.rest f c.each.self c.statement.new.self (Ok b)) c.if-branch.true (c.in_ok-statement.ensures.read text names g.rest f (has_kept c.args.self.now c.each.self i.0 has) g.ahead)),
    )

pub list-returns-clause-onward : goal.list-returns-clause-onward
list-returns-clause-onward t c = omega (arith, c.each.invariant.1, c.in_ok-statement.ensures.onward.0)

pub list-returns-clause-read : goal.list-returns-clause-read
list-returns-clause-read t c = λ text names ps f has a.
    let i = c.each.invariant in
    let old = c.args.self.now in
    let new = c.statement.new.self in
    let g = i.2 text names ps f has a in
    let none = subst (λ b. OneReadBy text names c.args.room g.rest f c.each.self new (Ok b)) c.if-branch.false (c.in_ok-statement.ensures.read text names g.rest f (has_kept c.args.self.now c.each.self i.0 has) g.ahead) in
    subst (λ (p : Progress). ListRead text names c.args.room ps f old.rows.now.cells.now old.nodes.now.cells.now (progress old) new.rows.now.cells.now new.nodes.now.cells.now p) (sym none.2)
    (subst (λ m. ListRead text names c.args.room ps f old.rows.now.cells.now old.nodes.now.cells.now (progress old) new.rows.now.cells.now m (progress c.each.self)) (sym none.1)
    (subst (λ x. ListRead text names c.args.room ps f old.rows.now.cells.now old.nodes.now.cells.now (progress old) x c.each.self.nodes.now.cells.now (progress c.each.self)) (sym none.0)
    (going_over text names c.args.room f ps g none.3)))

pub statement-returns-in_err-assign-in-Name-clause-read : goal.statement-returns-in_err-assign-in-Name-clause-read
statement-returns-in_err-assign-in-Name-clause-read t c = λ text names ps f has a.
    let x = c.in_ok-lexed.lexed in
    let q = c.in_err-assign-in-Name.field-0.0 in
    let l = lex.name c.in-Name.word.now in
    let h = ap (λ k. token (view k) x.start x.end) (sym (c.in-Name.is)) ∙ c.in_ok-lexed.ensures.next in
    let g = found_in has.0 names ps f a l x.start x.end h refl c.in_ok-lexed.ensures.inside.2 in
    let v = c.in-Some.variable in
    let named = subst (λ n. get_or n v [] ≡ c.in-Name.word.now) has.1 c.in-Some.ensures.1 in
    let declared = subst (λ n. among c.in-Name.word.now n ≡ true) has.1 c.in-Some.ensures.2 in
    let begins : (K : List Expected) → step names (statements c.args.room ∷ K) (terminal l) ≡ onward names ((the_symbol mark.Assign ∷ assigned ∷ the_symbol mark.Semicolon ∷ []) ++ (statements c.args.room ∷ K)) = λ K. cond-true _ _ _ declared in
    let failed : Fails text names (statements c.args.room ∷ []) ps f q = one_fails text names c.args.room f ps g.0 l x.start x.end g.1 (the_symbol mark.Assign ∷ assigned ∷ the_symbol mark.Semicolon ∷ []) begins q (c.in_err-assign-in-Name.ensures.read text names c.args.room g.0 f has g.2) in
    let is : c.from_residual-in_err-assign-in-Name.result ≡ Err q = search rules in
    subst (OneReadBy text names c.args.room ps f c.args.self.now c.assign.new.self) (sym is) failed

pub statement-returns-in_ok-assign-in-Name-clause-read : goal.statement-returns-in_ok-assign-in-Name-clause-read
statement-returns-in_ok-assign-in-Name-clause-read t c = λ text names ps f has a.
    let x = c.in_ok-lexed.lexed in
    let l = lex.name c.in-Name.word.now in
    let h = ap (λ k. token (view k) x.start x.end) (sym (c.in-Name.is)) ∙ c.in_ok-lexed.ensures.next in
    let g = found_in has.0 names ps f a l x.start x.end h refl c.in_ok-lexed.ensures.inside.2 in
    let v = c.in-Some.variable in
    let named = subst (λ n. get_or n v [] ≡ c.in-Name.word.now) has.1 c.in-Some.ensures.1 in
    let declared = subst (λ n. among c.in-Name.word.now n ≡ true) has.1 c.in-Some.ensures.2 in
    let begins : (K : List Expected) → step names (statements c.args.room ∷ K) (terminal l) ≡ onward names ((the_symbol mark.Assign ∷ assigned ∷ the_symbol mark.Semicolon ∷ []) ++ (statements c.args.room ∷ K)) = λ K. cond-true _ _ _ declared in
    one_read text names c.args.room f ps g.0 l x.start x.end g.1 (the_symbol mark.Assign ∷ assigned ∷ the_symbol mark.Semicolon ∷ []) begins refl refl (subst (λ w. StatementRead text names c.args.room (the_symbol mark.Assign ∷ assigned ∷ the_symbol mark.Semicolon ∷ []) (name w) g.0 f c.args.self.now.rows.now.cells.now c.args.self.now.nodes.now.cells.now (record { at = x.end; rows = c.args.self.now.rows.now.used; nodes = c.args.self.now.nodes.now.used }) c.assign.new.self.rows.now.cells.now c.assign.new.self.nodes.now.cells.now (progress c.assign.new.self)) named (c.in_ok-assign-in-Name.ensures.read text names c.args.room g.0 f has g.2))

pub statement-returns-in_err-skip-in-Skip-clause-read : goal.statement-returns-in_err-skip-in-Skip-clause-read
statement-returns-in_err-skip-in-Skip-clause-read t c = λ text names ps f has a.
    let x = c.in_ok-lexed.lexed in
    let q = c.in_err-skip-in-Skip.field-0.0 in
    let l = lex.keyword word.Skip in
    let h = ap (λ k. token (view k) x.start x.end) (sym (c.in-Keyword.is ∙ ap case.Keyword c.in-Skip.is)) ∙ c.in_ok-lexed.ensures.next in
    let g = found_in has.0 names ps f a l x.start x.end h refl c.in_ok-lexed.ensures.inside.2 in
    let begins : (K : List Expected) → step names (statements c.args.room ∷ K) (terminal l) ≡ onward names ((the_symbol mark.Semicolon ∷ []) ++ (statements c.args.room ∷ K)) = λ K. refl in
    let failed : Fails text names (statements c.args.room ∷ []) ps f q = one_fails text names c.args.room f ps g.0 l x.start x.end g.1 (the_symbol mark.Semicolon ∷ []) begins q (c.in_err-skip-in-Skip.ensures.read text names c.args.room g.0 f has g.2) in
    let is : c.from_residual-in_err-skip-in-Skip.result ≡ Err q = search rules in
    subst (OneReadBy text names c.args.room ps f c.args.self.now c.skip.new.self) (sym is) failed

pub statement-returns-in_ok-skip-in-Skip-clause-read : goal.statement-returns-in_ok-skip-in-Skip-clause-read
statement-returns-in_ok-skip-in-Skip-clause-read t c = λ text names ps f has a.
    let x = c.in_ok-lexed.lexed in
    let l = lex.keyword word.Skip in
    let h = ap (λ k. token (view k) x.start x.end) (sym (c.in-Keyword.is ∙ ap case.Keyword c.in-Skip.is)) ∙ c.in_ok-lexed.ensures.next in
    let g = found_in has.0 names ps f a l x.start x.end h refl c.in_ok-lexed.ensures.inside.2 in
    let begins : (K : List Expected) → step names (statements c.args.room ∷ K) (terminal l) ≡ onward names ((the_symbol mark.Semicolon ∷ []) ++ (statements c.args.room ∷ K)) = λ K. refl in
    one_read text names c.args.room f ps g.0 l x.start x.end g.1 (the_symbol mark.Semicolon ∷ []) begins refl refl (c.in_ok-skip-in-Skip.ensures.read text names c.args.room g.0 f has g.2)

pub statement-returns-in_err-write-in-Write-clause-read : goal.statement-returns-in_err-write-in-Write-clause-read
statement-returns-in_err-write-in-Write-clause-read t c = λ text names ps f has a.
    let x = c.in_ok-lexed.lexed in
    let q = c.in_err-write-in-Write.field-0.0 in
    let l = lex.keyword word.Write in
    let h = ap (λ k. token (view k) x.start x.end) (sym (c.in-Keyword.is ∙ ap case.Keyword c.in-Write.is)) ∙ c.in_ok-lexed.ensures.next in
    let g = found_in has.0 names ps f a l x.start x.end h refl c.in_ok-lexed.ensures.inside.2 in
    let begins : (K : List Expected) → step names (statements c.args.room ∷ K) (terminal l) ≡ onward names ((a_numeral ∷ expression 20 ∷ the_symbol mark.Semicolon ∷ []) ++ (statements c.args.room ∷ K)) = λ K. refl in
    let failed : Fails text names (statements c.args.room ∷ []) ps f q = one_fails text names c.args.room f ps g.0 l x.start x.end g.1 (a_numeral ∷ expression 20 ∷ the_symbol mark.Semicolon ∷ []) begins q (c.in_err-write-in-Write.ensures.read text names c.args.room g.0 f has g.2) in
    let is : c.from_residual-in_err-write-in-Write.result ≡ Err q = search rules in
    subst (OneReadBy text names c.args.room ps f c.args.self.now c.write.new.self) (sym is) failed

pub statement-returns-in_ok-write-in-Write-clause-read : goal.statement-returns-in_ok-write-in-Write-clause-read
statement-returns-in_ok-write-in-Write-clause-read t c = λ text names ps f has a.
    let x = c.in_ok-lexed.lexed in
    let l = lex.keyword word.Write in
    let h = ap (λ k. token (view k) x.start x.end) (sym (c.in-Keyword.is ∙ ap case.Keyword c.in-Write.is)) ∙ c.in_ok-lexed.ensures.next in
    let g = found_in has.0 names ps f a l x.start x.end h refl c.in_ok-lexed.ensures.inside.2 in
    let begins : (K : List Expected) → step names (statements c.args.room ∷ K) (terminal l) ≡ onward names ((a_numeral ∷ expression 20 ∷ the_symbol mark.Semicolon ∷ []) ++ (statements c.args.room ∷ K)) = λ K. refl in
    one_read text names c.args.room f ps g.0 l x.start x.end g.1 (a_numeral ∷ expression 20 ∷ the_symbol mark.Semicolon ∷ []) begins refl refl (c.in_ok-write-in-Write.ensures.read text names c.args.room g.0 f has g.2)

pub statement-returns-in_err-stop-in-Stop-clause-read : goal.statement-returns-in_err-stop-in-Stop-clause-read
statement-returns-in_err-stop-in-Stop-clause-read t c = λ text names ps f has a.
    let x = c.in_ok-lexed.lexed in
    let q = c.in_err-stop-in-Stop.field-0.0 in
    let l = lex.keyword word.Stop in
    let h = ap (λ k. token (view k) x.start x.end) (sym (c.in-Keyword.is ∙ ap case.Keyword c.in-Stop.is)) ∙ c.in_ok-lexed.ensures.next in
    let g = found_in has.0 names ps f a l x.start x.end h refl c.in_ok-lexed.ensures.inside.2 in
    let begins : (K : List Expected) → step names (statements c.args.room ∷ K) (terminal l) ≡ onward names ((a_numeral ∷ the_symbol mark.Semicolon ∷ []) ++ (statements c.args.room ∷ K)) = λ K. refl in
    let failed : Fails text names (statements c.args.room ∷ []) ps f q = one_fails text names c.args.room f ps g.0 l x.start x.end g.1 (a_numeral ∷ the_symbol mark.Semicolon ∷ []) begins q (c.in_err-stop-in-Stop.ensures.read text names c.args.room g.0 f has g.2) in
    let is : c.from_residual-in_err-stop-in-Stop.result ≡ Err q = search rules in
    subst (OneReadBy text names c.args.room ps f c.args.self.now c.stop.new.self) (sym is) failed

pub statement-returns-in_ok-stop-in-Stop-clause-read : goal.statement-returns-in_ok-stop-in-Stop-clause-read
statement-returns-in_ok-stop-in-Stop-clause-read t c = λ text names ps f has a.
    let x = c.in_ok-lexed.lexed in
    let l = lex.keyword word.Stop in
    let h = ap (λ k. token (view k) x.start x.end) (sym (c.in-Keyword.is ∙ ap case.Keyword c.in-Stop.is)) ∙ c.in_ok-lexed.ensures.next in
    let g = found_in has.0 names ps f a l x.start x.end h refl c.in_ok-lexed.ensures.inside.2 in
    let begins : (K : List Expected) → step names (statements c.args.room ∷ K) (terminal l) ≡ onward names ((a_numeral ∷ the_symbol mark.Semicolon ∷ []) ++ (statements c.args.room ∷ K)) = λ K. refl in
    one_read text names c.args.room f ps g.0 l x.start x.end g.1 (a_numeral ∷ the_symbol mark.Semicolon ∷ []) begins refl refl (c.in_ok-stop-in-Stop.ensures.read text names c.args.room g.0 f has g.2)

pub statement-returns-in_err-branch-in-If-clause-read : goal.statement-returns-in_err-branch-in-If-clause-read
statement-returns-in_err-branch-in-If-clause-read t c = λ text names ps f has a.
    let x = c.in_ok-lexed.lexed in
    let q = c.in_err-branch-in-If.field-0.0 in
    let l = lex.keyword word.If in
    let h = ap (λ k. token (view k) x.start x.end) (sym (c.in-Keyword.is ∙ ap case.Keyword c.in-If.is)) ∙ c.in_ok-lexed.ensures.next in
    let g = found_in has.0 names ps f a l x.start x.end h refl c.in_ok-lexed.ensures.inside.2 in
    let begins : (K : List Expected) → step names (statements c.args.room ∷ K) (terminal l) ≡ onward names ((behind_if (c.args.room - 1)) ++ (statements c.args.room ∷ K)) = begins_if names c.args.room (c.args.room - 1) (less_room c.args.room c.if-room-eq0.false) in
    let failed : Fails text names (statements c.args.room ∷ []) ps f q = one_fails text names c.args.room f ps g.0 l x.start x.end g.1 (behind_if (c.args.room - 1)) begins q (c.in_err-branch-in-If.ensures.read text names g.0 f has g.2) in
    let is : c.from_residual-in_err-branch-in-If.result ≡ Err q = search rules in
    subst (OneReadBy text names c.args.room ps f c.args.self.now c.branch-self.new.self) (sym is) failed

pub statement-returns-in_ok-branch-in-If-clause-read : goal.statement-returns-in_ok-branch-in-If-clause-read
statement-returns-in_ok-branch-in-If-clause-read t c = λ text names ps f has a.
    let x = c.in_ok-lexed.lexed in
    let l = lex.keyword word.If in
    let h = ap (λ k. token (view k) x.start x.end) (sym (c.in-Keyword.is ∙ ap case.Keyword c.in-If.is)) ∙ c.in_ok-lexed.ensures.next in
    let g = found_in has.0 names ps f a l x.start x.end h refl c.in_ok-lexed.ensures.inside.2 in
    let begins : (K : List Expected) → step names (statements c.args.room ∷ K) (terminal l) ≡ onward names ((behind_if (c.args.room - 1)) ++ (statements c.args.room ∷ K)) = begins_if names c.args.room (c.args.room - 1) (less_room c.args.room c.if-room-eq0.false) in
    one_read text names c.args.room f ps g.0 l x.start x.end g.1 (behind_if (c.args.room - 1)) begins refl refl (subst (λ n. StatementRead text names n (behind_if (c.args.room - 1)) (keyword word.If) g.0 f c.args.self.now.rows.now.cells.now c.args.self.now.nodes.now.cells.now (record { at = x.end; rows = c.args.self.now.rows.now.used; nodes = c.args.self.now.nodes.now.used }) c.branch-self.new.self.rows.now.cells.now c.branch-self.new.self.nodes.now.cells.now (progress c.branch-self.new.self)) (back c.args.room c.if-room-eq0.false) (c.in_ok-branch-in-If.ensures.read text names g.0 f has g.2))

pub statement-returns-in_err-repeat-in-While-clause-read : goal.statement-returns-in_err-repeat-in-While-clause-read
statement-returns-in_err-repeat-in-While-clause-read t c = λ text names ps f has a.
    let x = c.in_ok-lexed.lexed in
    let q = c.in_err-repeat-in-While.field-0.0 in
    let l = lex.keyword word.While in
    let h = ap (λ k. token (view k) x.start x.end) (sym (c.in-Keyword.is ∙ ap case.Keyword c.in-While.is)) ∙ c.in_ok-lexed.ensures.next in
    let g = found_in has.0 names ps f a l x.start x.end h refl c.in_ok-lexed.ensures.inside.2 in
    let begins : (K : List Expected) → step names (statements c.args.room ∷ K) (terminal l) ≡ onward names ((behind_while (c.args.room - 1)) ++ (statements c.args.room ∷ K)) = begins_while names c.args.room (c.args.room - 1) (less_room c.args.room c.if-room-eq0-2.false) in
    let failed : Fails text names (statements c.args.room ∷ []) ps f q = one_fails text names c.args.room f ps g.0 l x.start x.end g.1 (behind_while (c.args.room - 1)) begins q (c.in_err-repeat-in-While.ensures.read text names g.0 f has g.2) in
    let is : c.from_residual-in_err-repeat-in-While.result ≡ Err q = search rules in
    subst (OneReadBy text names c.args.room ps f c.args.self.now c.repeat.new.self) (sym is) failed

pub statement-returns-in_ok-repeat-in-While-clause-read : goal.statement-returns-in_ok-repeat-in-While-clause-read
statement-returns-in_ok-repeat-in-While-clause-read t c = λ text names ps f has a.
    let x = c.in_ok-lexed.lexed in
    let l = lex.keyword word.While in
    let h = ap (λ k. token (view k) x.start x.end) (sym (c.in-Keyword.is ∙ ap case.Keyword c.in-While.is)) ∙ c.in_ok-lexed.ensures.next in
    let g = found_in has.0 names ps f a l x.start x.end h refl c.in_ok-lexed.ensures.inside.2 in
    let begins : (K : List Expected) → step names (statements c.args.room ∷ K) (terminal l) ≡ onward names ((behind_while (c.args.room - 1)) ++ (statements c.args.room ∷ K)) = begins_while names c.args.room (c.args.room - 1) (less_room c.args.room c.if-room-eq0-2.false) in
    one_read text names c.args.room f ps g.0 l x.start x.end g.1 (behind_while (c.args.room - 1)) begins refl refl (subst (λ n. StatementRead text names n (behind_while (c.args.room - 1)) (keyword word.While) g.0 f c.args.self.now.rows.now.cells.now c.args.self.now.nodes.now.cells.now (record { at = x.end; rows = c.args.self.now.rows.now.used; nodes = c.args.self.now.nodes.now.used }) c.repeat.new.self.rows.now.cells.now c.repeat.new.self.nodes.now.cells.now (progress c.repeat.new.self)) (back c.args.room c.if-room-eq0-2.false) (c.in_ok-repeat-in-While.ensures.read text names g.0 f has g.2))

pub statement-returns-in_err-lexed-clause-read : goal.statement-returns-in_err-lexed-clause-read
statement-returns-in_err-lexed-clause-read t c = λ text names ps f has a.
    let q = c.in_err-lexed.field-0.0 in
    let failed : Fails text names (statements c.args.room ∷ []) ps f q = fault_in has.0 names ps f a (statements c.args.room ∷ []) _ c.in_err-lexed.ensures.next in
    let is : c.from_residual.result ≡ Err q = search rules in
    subst (OneReadBy text names c.args.room ps f c.args.self.now c.args.self.now) (sym is) failed

pub statement-returns-then-room-eq0-clause-read : goal.statement-returns-then-room-eq0-clause-read
statement-returns-then-room-eq0-clause-read t c = λ text names ps f has a.
    let x = c.in_ok-lexed.lexed in
    let bad = subst (λ k. Bad names (statements c.args.room) (view k) TooDeep) (sym (c.in-Keyword.is ∙ ap case.Keyword c.in-If.is)) (deep_if names c.args.room c.if-room-eq0.true) in
    turned_in has.0 names ps f a (statements c.args.room) x.token x.start x.end TooDeep _ c.new-then-room-eq0.ensures c.in_ok-lexed.ensures.next c.in_ok-lexed.ensures.inside.2 bad

pub statement-returns-then-room-eq0-2-clause-read : goal.statement-returns-then-room-eq0-2-clause-read
statement-returns-then-room-eq0-2-clause-read t c = λ text names ps f has a.
    let x = c.in_ok-lexed.lexed in
    let bad = subst (λ k. Bad names (statements c.args.room) (view k) TooDeep) (sym (c.in-Keyword.is ∙ ap case.Keyword c.in-While.is)) (deep_while names c.args.room c.if-room-eq0-2.true) in
    turned_in has.0 names ps f a (statements c.args.room) x.token x.start x.end TooDeep _ c.new-then-room-eq0-2.ensures c.in_ok-lexed.ensures.next c.in_ok-lexed.ensures.inside.2 bad

pub statement-returns-in_default-find-clause-read : goal.statement-returns-in_default-find-clause-read
statement-returns-in_default-find-clause-read t c = λ text names ps f has a.
    let x = c.in_ok-lexed.lexed in
    let w = c.in-Name.word.now in
    let unnamed : among w (heard c.args.self.now.names.now) ≡ false = search rules in
    let bad = subst (λ k. Bad names (statements c.args.room) (view k) Undeclared) (sym c.in-Name.is) (unknown_name names c.args.room w (ap (among w) (sym has.1) ∙ unnamed)) in
    turned_in has.0 names ps f a (statements c.args.room) x.token x.start x.end Undeclared _ c.new.ensures c.in_ok-lexed.ensures.next c.in_ok-lexed.ensures.inside.2 bad

pub statement-returns-in_default-keyword : goal.statement-returns-in_default-keyword
statement-returns-in_default-keyword t c = record {
  kept = (refl, refl, refl, refl, refl, refl, refl, refl);
  onward = (omega arith, λ e. absurd (true≢false (sym e)));
  read = λ text names ps f has a.
      let x = c.in_ok-lexed.lexed in
      let h = ap (λ k. token (view k) x.start x.end) (sym c.in-Keyword.is) ∙ c.in_ok-lexed.ensures.next in (
        refl,
        refl,
        refl,
        over_token text c.args.self.now.cursor.at names c.args.room ps f a (lex.keyword c.in-Keyword.keyword) x.start x.end (next_in _ has.0 h) refl (short_in has.0 c.in_ok-lexed.ensures.inside.2)
            (word_over names c.args.room c.in-Keyword.keyword c.in_default-keyword.not-Skip c.in_default-keyword.not-If c.in_default-keyword.not-While c.in_default-keyword.not-Write c.in_default-keyword.not-Stop),
      );
}

pub statement-returns-in_default : goal.statement-returns-in_default
statement-returns-in_default t c = record {
  kept = (refl, refl, refl, refl, refl, refl, refl, refl);
  onward = (omega arith, λ e. absurd (true≢false (sym e)));
  read = λ text names ps f has a.
      let x = c.in_ok-lexed.lexed in
      (refl, refl, refl, over text c.args.self.now.cursor.at names c.args.room ps f a x.token x.start x.end (next_in _ has.0 c.in_ok-lexed.ensures.next) (short_in has.0 c.in_ok-lexed.ensures.inside.2) c.in_default.not-Name c.in_default.not-Keyword);
}

pub branch-returns-in_err-list-clause-read : goal.branch-returns-in_err-list-clause-read
branch-returns-in_err-list-clause-read t c = λ text names ps f has a.
    let q = c.in_err-list.field-0.0 in
    let k = c.in_ok-condition.ensures.read text names ps f has a in
    let kept1 = c.in_ok-condition.ensures.kept in
    let same1 = ap (λ t. t.now) kept1.0 ∙ has.0 in
    let named1 = ap (λ n. heard n.now) kept1.1 ∙ has.1 in
    let failed : Fails text names (behind_if c.args.room) ps f q = fails_then text names (expression 20 ∷ the_keyword word.Then ∷ []) (statements c.args.room ∷ the_keyword word.Else ∷ statements c.args.room ∷ the_keyword word.End ∷ the_symbol mark.Semicolon ∷ []) ps f (λ rest. expression_tokens names k.tree (keyword word.Then ∷ rest)) _ q k.passed
    (fails_first text names (statements c.args.room ∷ []) (the_keyword word.Else ∷ statements c.args.room ∷ the_keyword word.End ∷ the_symbol mark.Semicolon ∷ []) k.passed.rest f q (c.in_err-list.ensures.read text names k.passed.rest f (same1, named1) k.passed.ahead)) in
    search rules

pub branch-returns-in_err-take-clause-read : goal.branch-returns-in_err-take-clause-read
branch-returns-in_err-take-clause-read t c = λ text names ps f has a.
    let q = c.in_err-take.field-0.0 in
    let k = c.in_ok-condition.ensures.read text names ps f has a in
    let kept1 = c.in_ok-condition.ensures.kept in
    let same1 = ap (λ t. t.now) kept1.0 ∙ has.0 in
    let named1 = ap (λ n. heard n.now) kept1.1 ∙ has.1 in
    let A = c.in_ok-list.ensures.read text names k.passed.rest f (same1, named1) k.passed.ahead in
    let same2 = ap (λ t. t.now) c.in_ok-list.ensures.kept.0 ∙ same1 in
    let named2 = ap (λ n. heard n.now) c.in_ok-list.ensures.kept.1 ∙ named1 in
    let failed : Fails text names (behind_if c.args.room) ps f q = fails_then text names (expression 20 ∷ the_keyword word.Then ∷ []) (statements c.args.room ∷ the_keyword word.Else ∷ statements c.args.room ∷ the_keyword word.End ∷ the_symbol mark.Semicolon ∷ []) ps f (λ rest. expression_tokens names k.tree (keyword word.Then ∷ rest)) _ q k.passed
    (fails_then text names (statements c.args.room ∷ []) (the_keyword word.Else ∷ statements c.args.room ∷ the_keyword word.End ∷ the_symbol mark.Semicolon ∷ []) k.passed.rest f (statements_tokens names A.tree) _ q A.passed
    (fails_first text names (the_keyword word.Else ∷ []) (statements c.args.room ∷ the_keyword word.End ∷ the_symbol mark.Semicolon ∷ []) A.passed.rest f q (fails_in same2 names A.passed.rest f A.passed.ahead (the_keyword word.Else ∷ []) (c.in_err-take.ensures.read names A.passed.rest f)))) in
    search rules

pub branch-returns-in_err-list-2-clause-read : goal.branch-returns-in_err-list-2-clause-read
branch-returns-in_err-list-2-clause-read t c = λ text names ps f has a.
    let q = c.in_err-list-2.field-0.0 in
    let k = c.in_ok-condition.ensures.read text names ps f has a in
    let kept1 = c.in_ok-condition.ensures.kept in
    let same1 = ap (λ t. t.now) kept1.0 ∙ has.0 in
    let named1 = ap (λ n. heard n.now) kept1.1 ∙ has.1 in
    let A = c.in_ok-list.ensures.read text names k.passed.rest f (same1, named1) k.passed.ahead in
    let same2 = ap (λ t. t.now) c.in_ok-list.ensures.kept.0 ∙ same1 in
    let named2 = ap (λ n. heard n.now) c.in_ok-list.ensures.kept.1 ∙ named1 in
    let E = passed_in same2 names A.passed.rest f A.passed.ahead (the_keyword word.Else ∷ []) (λ rest. keyword word.Else ∷ rest) (c.in_ok-take.ensures.read names A.passed.rest f) in
    let same3 = ap (λ t. t.now) c.in_ok-take.ensures.same ∙ same2 in
    let failed : Fails text names (behind_if c.args.room) ps f q = if_fails text names c.args.room ps f k q A E
    (fails_first text names (statements c.args.room ∷ []) (the_keyword word.End ∷ the_symbol mark.Semicolon ∷ []) E.rest f q (c.in_err-list-2.ensures.read text names E.rest f (same3, named2) E.ahead)) in
    search rules

pub branch-returns-in_err-ending-clause-read : goal.branch-returns-in_err-ending-clause-read
branch-returns-in_err-ending-clause-read t c = λ text names ps f has a.
    let q = c.in_err-ending.field-0.0 in
    let k = c.in_ok-condition.ensures.read text names ps f has a in
    let kept1 = c.in_ok-condition.ensures.kept in
    let same1 = ap (λ t. t.now) kept1.0 ∙ has.0 in
    let named1 = ap (λ n. heard n.now) kept1.1 ∙ has.1 in
    let A = c.in_ok-list.ensures.read text names k.passed.rest f (same1, named1) k.passed.ahead in
    let same2 = ap (λ t. t.now) c.in_ok-list.ensures.kept.0 ∙ same1 in
    let named2 = ap (λ n. heard n.now) c.in_ok-list.ensures.kept.1 ∙ named1 in
    let E = passed_in same2 names A.passed.rest f A.passed.ahead (the_keyword word.Else ∷ []) (λ rest. keyword word.Else ∷ rest) (c.in_ok-take.ensures.read names A.passed.rest f) in
    let same3 = ap (λ t. t.now) c.in_ok-take.ensures.same ∙ same2 in
    let B = c.in_ok-list-2.ensures.read text names E.rest f (same3, named2) E.ahead in
    let same4 = ap (λ t. t.now) c.in_ok-list-2.ensures.kept.0 ∙ same3 in
    let failed : Fails text names (behind_if c.args.room) ps f q = if_fails text names c.args.room ps f k q A E
    (fails_then text names (statements c.args.room ∷ []) (the_keyword word.End ∷ the_symbol mark.Semicolon ∷ []) E.rest f (statements_tokens names B.tree) _ q B.passed
    (fails_in same4 names B.passed.rest f B.passed.ahead (the_keyword word.End ∷ the_symbol mark.Semicolon ∷ []) (c.in_err-ending.ensures.read names B.passed.rest f))) in
    search rules

pub branch-returns-clause-read : goal.branch-returns-clause-read
branch-returns-clause-read t c = λ text names ps f has a.
    let old = c.args.self.now in
    let s1 = c.condition.new.self in
    let s2 = c.list.new.self in
    let s3 = c.list-2.new.self in
    let row = c.in_ok-condition.ensures.rowless in
    let few1 : old.rows.now.used + 1 < 2 ^ 64 = omega (arith, old.behind.0, old.cursor.within, old.cursor.short) in
    let few2 : s2.rows.now.used + 1 < 2 ^ 64 = omega (arith, s2.behind.0, s2.cursor.within, s2.cursor.short) in
    let few3 : s3.rows.now.used + 1 < 2 ^ 64 = omega (arith, s3.behind.0, s3.cursor.within, s3.cursor.short) in
    let counted1 : c.leave-row.new.self.used ≡ old.rows.now.used + 1 = omega (arith, c.leave-row.ensures.count, row.1) in
    let counted2 : c.leave.new.self.used ≡ s2.rows.now.used + 1 = omega (arith, c.leave.ensures.count, c.set.ensures.count) in
    let place : c.leave-row.result ≡ old.rows.now.used = c.leave-row.ensures.told ∙ row.1 in
    let k = c.in_ok-condition.ensures.read text names ps f has a in
    let kept1 = c.in_ok-condition.ensures.kept in
    let same1 = ap (λ t. t.now) kept1.0 ∙ has.0 in
    let named1 = ap (λ n. heard n.now) kept1.1 ∙ has.1 in
    let A = list_as (ap (λ x. x.now) c.leave-row.ensures.same ∙ row.0) refl refl counted1 refl (c.in_ok-list.ensures.read text names k.passed.rest f (same1, named1) k.passed.ahead) in
    let same2 = ap (λ t. t.now) c.in_ok-list.ensures.kept.0 ∙ same1 in
    let named2 = ap (λ n. heard n.now) c.in_ok-list.ensures.kept.1 ∙ named1 in
    let E = passed_in same2 names A.passed.rest f A.passed.ahead (the_keyword word.Else ∷ []) (λ rest. keyword word.Else ∷ rest) (c.in_ok-take.ensures.read names A.passed.rest f) in
    let same3 = ap (λ t. t.now) c.in_ok-take.ensures.same ∙ same2 in
    let B = list_as (ap (λ x. x.now) c.leave.ensures.same) refl refl counted2 refl (c.in_ok-list-2.ensures.read text names E.rest f (same3, named2) E.ahead) in
    let same4 = ap (λ t. t.now) c.in_ok-list-2.ensures.kept.0 ∙ same3 in
    let N = passed_in same4 names B.passed.rest f B.passed.ahead (the_keyword word.End ∷ the_symbol mark.Semicolon ∷ []) (λ rest. keyword word.End ∷ symbol mark.Semicolon ∷ rest) (c.in_ok-ending.ensures.read names B.passed.rest f) in
    let written = c.set.ensures.written ∙ ap (λ i. overlay s2.rows.now.cells.now i (If old.nodes.now.used s2.rows.now.used ∷ [])) place in
    let foot = subst (λ u. Laid c.set-2.new.self.cells.now u (EndIf ∷ []) c.push.new.self.cells.now c.push.new.self.used) c.set-2.ensures.count (c.push.ensures.laid (omega (arith, few3, c.set-2.ensures.count))) in
    if_read text names c.args.room ps f k A written E B c.set-2.ensures.written N foot

pub repeat-returns-in_err-list-clause-read : goal.repeat-returns-in_err-list-clause-read
repeat-returns-in_err-list-clause-read t c = λ text names ps f has a.
    let q = c.in_err-list.field-0.0 in
    let k = c.in_ok-condition.ensures.read text names ps f has a in
    let kept1 = c.in_ok-condition.ensures.kept in
    let same1 = ap (λ t. t.now) kept1.0 ∙ has.0 in
    let named1 = ap (λ n. heard n.now) kept1.1 ∙ has.1 in
    let failed : Fails text names (behind_while c.args.room) ps f q = fails_then text names (expression 20 ∷ the_keyword word.Do ∷ []) (statements c.args.room ∷ the_keyword word.End ∷ the_symbol mark.Semicolon ∷ []) ps f (λ rest. expression_tokens names k.tree (keyword word.Do ∷ rest)) _ q k.passed
    (fails_first text names (statements c.args.room ∷ []) (the_keyword word.End ∷ the_symbol mark.Semicolon ∷ []) k.passed.rest f q (c.in_err-list.ensures.read text names k.passed.rest f (same1, named1) k.passed.ahead)) in
    search rules

pub repeat-returns-in_err-ending-clause-read : goal.repeat-returns-in_err-ending-clause-read
repeat-returns-in_err-ending-clause-read t c = λ text names ps f has a.
    let q = c.in_err-ending.field-0.0 in
    let k = c.in_ok-condition.ensures.read text names ps f has a in
    let kept1 = c.in_ok-condition.ensures.kept in
    let same1 = ap (λ t. t.now) kept1.0 ∙ has.0 in
    let named1 = ap (λ n. heard n.now) kept1.1 ∙ has.1 in
    let A = c.in_ok-list.ensures.read text names k.passed.rest f (same1, named1) k.passed.ahead in
    let same2 = ap (λ t. t.now) c.in_ok-list.ensures.kept.0 ∙ same1 in
    let named2 = ap (λ n. heard n.now) c.in_ok-list.ensures.kept.1 ∙ named1 in
    let failed : Fails text names (behind_while c.args.room) ps f q = fails_then text names (expression 20 ∷ the_keyword word.Do ∷ []) (statements c.args.room ∷ the_keyword word.End ∷ the_symbol mark.Semicolon ∷ []) ps f (λ rest. expression_tokens names k.tree (keyword word.Do ∷ rest)) _ q k.passed
    (fails_then text names (statements c.args.room ∷ []) (the_keyword word.End ∷ the_symbol mark.Semicolon ∷ []) k.passed.rest f (statements_tokens names A.tree) _ q A.passed
    (fails_in same2 names A.passed.rest f A.passed.ahead (the_keyword word.End ∷ the_symbol mark.Semicolon ∷ []) (c.in_err-ending.ensures.read names A.passed.rest f))) in
    search rules

pub repeat-returns-clause-read : goal.repeat-returns-clause-read
repeat-returns-clause-read t c = λ text names ps f has a.
    let old = c.args.self.now in
    let s2 = c.list.new.self in
    let row = c.in_ok-condition.ensures.rowless in
    let few1 : old.rows.now.used + 1 < 2 ^ 64 = omega (arith, old.behind.0, old.cursor.within, old.cursor.short) in
    let few2 : s2.rows.now.used + 1 < 2 ^ 64 = omega (arith, s2.behind.0, s2.cursor.within, s2.cursor.short) in
    let counted1 : c.leave-while_row.new.self.used ≡ old.rows.now.used + 1 = omega (arith, c.leave-while_row.ensures.count, row.1) in
    let place : c.leave-while_row.result ≡ old.rows.now.used = c.leave-while_row.ensures.told ∙ row.1 in
    let k = c.in_ok-condition.ensures.read text names ps f has a in
    let kept1 = c.in_ok-condition.ensures.kept in
    let same1 = ap (λ t. t.now) kept1.0 ∙ has.0 in
    let named1 = ap (λ n. heard n.now) kept1.1 ∙ has.1 in
    let A = list_as (ap (λ x. x.now) c.leave-while_row.ensures.same ∙ row.0) refl refl counted1 refl (c.in_ok-list.ensures.read text names k.passed.rest f (same1, named1) k.passed.ahead) in
    let same2 = ap (λ t. t.now) c.in_ok-list.ensures.kept.0 ∙ same1 in
    let named2 = ap (λ n. heard n.now) c.in_ok-list.ensures.kept.1 ∙ named1 in
    let N = passed_in same2 names A.passed.rest f A.passed.ahead (the_keyword word.End ∷ the_symbol mark.Semicolon ∷ []) (λ rest. keyword word.End ∷ symbol mark.Semicolon ∷ rest) (c.in_ok-ending.ensures.read names A.passed.rest f) in
    let written = c.set.ensures.written ∙ ap (λ i. overlay s2.rows.now.cells.now i (While old.nodes.now.used s2.rows.now.used ∷ [])) place in
    let laid = c.push.ensures.laid (omega (arith, few2, c.set.ensures.count)) in
    let foot = subst (λ u. Laid c.set.new.self.cells.now u (EndWhile old.rows.now.used ∷ []) c.push.new.self.cells.now c.push.new.self.used) c.set.ensures.count
    (subst (λ i. Laid c.set.new.self.cells.now c.set.new.self.used (EndWhile i ∷ []) c.push.new.self.cells.now c.push.new.self.used) place laid) in
    while_read text names c.args.room ps f k A written N foot
