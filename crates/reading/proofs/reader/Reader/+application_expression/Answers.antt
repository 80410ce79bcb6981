use Rattle.std.proofs.Common.{rules, ◌≡◌, ◌+◌, ◌-◌, ◌^◌, ◌<◌, true, false, [], ◌∷◌, length, get_or, sym, refl, ap, ◌∙◌, subst, arith, MatchResult}
use Rattle.std.proofs.lemmas.Bool.{cond-true}
use Rattle.refusals.specs.declared.Reason.TheVariants.{Unexpected, Undeclared, TooDeep}
use Rattle.letters.specs.declared.symbols.Symbol.TheVariants.{Open, Close}
use Rattle.letters.specs.declared.tokens.Token.TheVariants as case
use Rattle.letters.specs.Tokens.{view, token}
use Rattle.letters.specs.Tokens as lex
use Rattle.lists.specs.Overlay.{overlay}
use Rattle.syntax.specs.declared.form.Node.TheVariants.{Apply}
use Rattle.syntax.specs.Names.{among}
use Rattle.reading.specs.Heard.{heard}
use Rattle.reading.specs.Grammar.{expression_tokens, operator_terminal, symbol}
use Rattle.reading.specs.Rule.{expression, operator, the_symbol}
use Rattle.reading.specs.Reads.{ExpressionRead, ApplicationRead, Fails, applied}
use Rattle.reading.proofs.Aheads.{Bad}
use Rattle.reading.proofs.Applications.{application, second_fails, number_read, variable_read, bracket_read, bracket_fails, bad_mark, bad_word, bad_depth, bad_start, by_outcome, less_room}
use Rattle.reading.proofs.Carried.{passed_in, fails_in, fault_in, found_in, takes_in, turned_in}
use Rattle.reading.proofs.Sequences.{fails_then, fails_first}
use Rattle.reading.proofs.Tables.{heard-length}
use Rattle.reading.proofs.Terminals.{numeral_bound}
use Rattle.reading.proofs.reader.Reader.+application_expression.Goals as goal

pub expression-returns-in_err-lexed-clause-read : goal.expression-returns-in_err-lexed-clause-read
expression-returns-in_err-lexed-clause-read t c = λ text names ps f has a.
    let failed : Fails text names (expression c.args.room ∷ []) ps f c.in_err-lexed.field-0.0 = fault_in has.0 names ps f a (expression c.args.room ∷ []) _ c.in_err-lexed.ensures.next in
    search rules

pub expression-returns-then-room-eq0-clause-read : goal.expression-returns-then-room-eq0-clause-read
expression-returns-then-room-eq0-clause-read t c = λ text names ps f has a.
    let x = c.in_ok-lexed.lexed in
    let bad = subst (λ k. Bad names (expression c.args.room) (view k) TooDeep) (sym (c.in-Symbol.is ∙ ap case.Symbol c.in-Open.is)) (bad_depth names c.args.room c.if-room-eq0.true) in
    turned_in has.0 names ps f a (expression c.args.room) x.token x.start x.end TooDeep _ c.new-then-room-eq0.ensures c.in_ok-lexed.ensures.next c.in_ok-lexed.ensures.inside.2 bad

pub expression-returns-in-Numeral-clause-read : goal.expression-returns-in-Numeral-clause-read
expression-returns-in-Numeral-clause-read t c = λ text names ps f has a.
    let r = c.args.self.now in
    let x = c.in_ok-lexed.lexed in
    let n = c.in-Numeral.value in
    let l = lex.numeral c.in-Numeral.digits.now n in
    let h = ap (λ k. token (view k) x.start x.end) (sym c.in-Numeral.is) ∙ c.in_ok-lexed.ensures.next in
    let short = c.in_ok-lexed.ensures.inside.2 in
    let few : r.nodes.now.used + 1 < 2 ^ 64 = omega (arith, r.behind.1, r.cursor.within, r.cursor.short) in
    let g = found_in has.0 names ps f a l x.start x.end h refl short in
    number_read text names c.args.room ps f _ _ _ _ _ n (takes_in has.0 names ps f a (expression c.args.room) l x.start x.end h refl short (λ K. refl)) (numeral_bound text r.cursor.at ps g.0 f c.in-Numeral.digits.now n x.start x.end a g.1) (c.push.ensures.laid few)

pub expression-returns-in-Some-clause-read : goal.expression-returns-in-Some-clause-read
expression-returns-in-Some-clause-read t c = λ text names ps f has a.
    let r = c.args.self.now in
    let x = c.in_ok-lexed.lexed in
    let v = c.in-Some.variable in
    let w = c.in-Name.word.now in
    let l = lex.name w in
    let h = ap (λ k. token (view k) x.start x.end) (sym c.in-Name.is) ∙ c.in_ok-lexed.ensures.next in
    let few : r.nodes.now.used + 1 < 2 ^ 64 = omega (arith, r.behind.1, r.cursor.within, r.cursor.short) in
    let named = subst (λ n. get_or n v [] ≡ w) has.1 c.in-Some.ensures.1 in
    let declared = subst (λ n. among w n ≡ true) has.1 c.in-Some.ensures.2 in
    let small = subst (λ n. v < length n) has.1 (omega (arith, c.in-Some.ensures.0, heard-length r.names.now)) in
    variable_read text names c.args.room ps f _ _ _ _ _ v w (takes_in has.0 names ps f a (expression c.args.room) l x.start x.end h refl c.in_ok-lexed.ensures.inside.2 (λ K. cond-true _ _ _ declared)) named small (c.push-in-Name.ensures.laid few)

pub expression-returns-in_default-find-clause-read : goal.expression-returns-in_default-find-clause-read
expression-returns-in_default-find-clause-read t c = λ text names ps f has a.
    let x = c.in_ok-lexed.lexed in
    let w = c.in-Name.word.now in
    let unnamed : among w (heard c.args.self.now.names.now) ≡ false = search rules in
    let bad = subst (λ k. Bad names (expression c.args.room) (view k) Undeclared) (sym c.in-Name.is) (bad_word names c.args.room w (ap (among w) (sym has.1) ∙ unnamed)) in
    turned_in has.0 names ps f a (expression c.args.room) x.token x.start x.end Undeclared _ c.new.ensures c.in_ok-lexed.ensures.next c.in_ok-lexed.ensures.inside.2 bad

pub expression-returns-else-room-eq0-clause-read : goal.expression-returns-else-room-eq0-clause-read
expression-returns-else-room-eq0-clause-read t c = λ text names ps f has a.
    let r = c.args.self.now in
    let x = c.in_ok-lexed.lexed in
    let less = c.args.room - 1 in
    let l = lex.symbol Open in
    let h = ap (λ k. token (view k) x.start x.end) (sym (c.in-Symbol.is ∙ ap case.Symbol c.in-Open.is)) ∙ c.in_ok-lexed.ensures.next in
    let g = found_in has.0 names ps f a l x.start x.end h refl c.in_ok-lexed.ensures.inside.2 in
    let s = c.application.new.self in
    subst (λ n. MatchResult c.application.result (λ _. ExpressionRead text names n (expression n ∷ []) ps f r.nodes.now.cells.now r.nodes.now.used s.nodes.now.cells.now s.cursor.at s.nodes.now.used) (λ e. Fails text names (expression n ∷ []) ps f e)) (sym (less_room c.args.room c.if-room-eq0.false))
    (by_outcome c.application.result _ _ _ _ (λ _ d. bracket_read text names less ps g.0 f x.start x.end g.1 d) (λ e d. bracket_fails text names less ps g.0 f x.start x.end g.1 e d) (c.application.ensures.read text names g.0 f has g.2))

pub expression-returns-in_default-clause-read : goal.expression-returns-in_default-clause-read
expression-returns-in_default-clause-read t c = λ text names ps f has a.
    let x = c.in_ok-lexed.lexed in
    let bad = bad_start names c.args.room x.token c.in_default.not-Numeral c.in_default.not-Name c.in_default.not-Symbol in
    turned_in has.0 names ps f a (expression c.args.room) x.token x.start x.end Unexpected _ c.new-in_default.ensures c.in_ok-lexed.ensures.next c.in_ok-lexed.ensures.inside.2 bad

pub expression-returns-in_default-symbol-clause-read : goal.expression-returns-in_default-symbol-clause-read
expression-returns-in_default-symbol-clause-read t c = λ text names ps f has a.
    let x = c.in_ok-lexed.lexed in
    let bad = subst (λ k. Bad names (expression c.args.room) (view k) Unexpected) (sym c.in-Symbol.is) (bad_mark names c.args.room c.in-Symbol.symbol c.in_default-symbol.not-Open) in
    turned_in has.0 names ps f a (expression c.args.room) x.token x.start x.end Unexpected _ c.new-in_default-symbol.ensures c.in_ok-lexed.ensures.next c.in_ok-lexed.ensures.inside.2 bad

pub application-returns-in_err-operator-clause-read : goal.application-returns-in_err-operator-clause-read
application-returns-in_err-operator-clause-read t c = λ text names ps f has a.
    let x = expression c.args.room in
    let q = c.in_err-operator.field-0.0 in
    let l = c.in_ok-expression.ensures.read text names ps f has a in
    let same = ap (λ t. t.now) c.in_ok-expression.ensures.kept.0 ∙ has.0 in
    let failed : Fails text names (applied c.args.room) ps f q = fails_then text names (x ∷ []) (operator ∷ x ∷ the_symbol Close ∷ []) ps f (expression_tokens names l.tree) _ q l.passed
    (fails_first text names (operator ∷ []) (x ∷ the_symbol Close ∷ []) l.passed.rest f q (fails_in same names l.passed.rest f l.passed.ahead (operator ∷ []) (c.in_err-operator.ensures.read names l.passed.rest f))) in
    search rules

pub application-returns-in_err-expression-2-clause-read : goal.application-returns-in_err-expression-2-clause-read
application-returns-in_err-expression-2-clause-read t c = λ text names ps f has a.
    let x = expression c.args.room in
    let q = c.in_err-expression-2.field-0.0 in
    let k = c.in_ok-expression.ensures.kept in
    let same = ap (λ t. t.now) k.0 ∙ has.0 in
    let l = c.in_ok-expression.ensures.read text names ps f has a in
    let by = passed_in same names l.passed.rest f l.passed.ahead (operator ∷ []) (λ rest. operator_terminal c.in_ok-operator.operator ∷ rest) (c.in_ok-operator.ensures.read names l.passed.rest f) in
    let same2 = ap (λ t. t.now) c.in_ok-operator.ensures.same ∙ same in
    let named2 = ap (λ n. heard n.now) k.1 ∙ has.1 in
    let failed : Fails text names (applied c.args.room) ps f q = second_fails text names c.args.room ps f c.in_ok-operator.operator q l by
    (fails_first text names (x ∷ []) (the_symbol Close ∷ []) by.rest f q (c.in_err-expression-2.ensures.read text names by.rest f (same2, named2) by.ahead)) in
    search rules

pub application-returns-in_err-take-clause-read : goal.application-returns-in_err-take-clause-read
application-returns-in_err-take-clause-read t c = λ text names ps f has a.
    let x = expression c.args.room in
    let q = c.in_err-take.field-0.0 in
    let k = c.in_ok-expression.ensures.kept in
    let same = ap (λ t. t.now) k.0 ∙ has.0 in
    let l = c.in_ok-expression.ensures.read text names ps f has a in
    let by = passed_in same names l.passed.rest f l.passed.ahead (operator ∷ []) (λ rest. operator_terminal c.in_ok-operator.operator ∷ rest) (c.in_ok-operator.ensures.read names l.passed.rest f) in
    let same2 = ap (λ t. t.now) c.in_ok-operator.ensures.same ∙ same in
    let named2 = ap (λ n. heard n.now) k.1 ∙ has.1 in
    let r = c.in_ok-expression-2.ensures.read text names by.rest f (same2, named2) by.ahead in
    let same3 = ap (λ t. t.now) c.in_ok-expression-2.ensures.kept.0 ∙ same2 in
    let failed : Fails text names (applied c.args.room) ps f q = second_fails text names c.args.room ps f c.in_ok-operator.operator q l by
    (fails_then text names (x ∷ []) (the_symbol Close ∷ []) by.rest f (expression_tokens names r.tree) _ q r.passed
    (fails_in same3 names r.passed.rest f r.passed.ahead (the_symbol Close ∷ []) (c.in_err-take.ensures.read names r.passed.rest f))) in
    search rules

pub application-returns-clause-read : goal.application-returns-clause-read
application-returns-clause-read t c = λ text names ps f has a.
    let x = expression c.args.room in
    let old = c.args.self.now.nodes.now in
    let few : old.used + 1 < 2 ^ 64 = omega (arith, c.args.self.now.behind.1, c.args.self.now.cursor.within, c.args.self.now.cursor.short) in
    let counted : c.leave-place.new.self.used ≡ old.used + 1 = omega (arith, c.leave-place.ensures.count) in
    let n1 = c.expression.new.self.nodes.now in
    let a1 = c.expression.new.self.cursor.at in
    let l = subst (λ u. ExpressionRead text names c.args.room (x ∷ []) ps f old.cells.now u n1.cells.now a1 n1.used) counted
    (subst (λ m. ExpressionRead text names c.args.room (x ∷ []) ps f m.now c.leave-place.new.self.used n1.cells.now a1 n1.used) c.leave-place.ensures.same (c.in_ok-expression.ensures.read text names ps f has a)) in
    let k = c.in_ok-expression.ensures.kept in
    let same = ap (λ t. t.now) k.0 ∙ has.0 in
    let by = passed_in same names l.passed.rest f l.passed.ahead (operator ∷ []) (λ rest. operator_terminal c.in_ok-operator.operator ∷ rest) (c.in_ok-operator.ensures.read names l.passed.rest f) in
    let same2 = ap (λ t. t.now) c.in_ok-operator.ensures.same ∙ same in
    let named2 = ap (λ n. heard n.now) k.1 ∙ has.1 in
    let r = c.in_ok-expression-2.ensures.read text names by.rest f (same2, named2) by.ahead in
    let same3 = ap (λ t. t.now) c.in_ok-expression-2.ensures.kept.0 ∙ same2 in
    let e = passed_in same3 names r.passed.rest f r.passed.ahead (the_symbol Close ∷ []) (λ rest. symbol Close ∷ rest) (c.in_ok-take.ensures.read names r.passed.rest f) in
    let written = c.set.ensures.written ∙ ap (λ i. overlay c.expression-2.new.self.nodes.now.cells.now i (Apply c.in_ok-operator.operator ∷ [])) c.leave-place.ensures.told in
    subst (λ u. ApplicationRead text names c.args.room ps f old.cells.now old.used c.set.new.self.cells.now c.take.new.self.at u) (sym c.set.ensures.count)
    (application text names c.args.room ps f c.in_ok-operator.operator l by r e written)
