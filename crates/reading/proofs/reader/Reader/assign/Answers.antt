use Rattle.std.proofs.Common.{rules, ◌+◌, ◌^◌, ◌<◌, [], ◌∷◌, length, ap, ◌∙◌, subst, arith}
use Rattle.letters.specs.declared.symbols.Symbol.TheVariants.{Assign, Semicolon}
use Rattle.lists.specs.Overlay.{Laid}
use Rattle.reading.specs.Grammar.{symbol}
use Rattle.reading.specs.Rule.{assigned, the_symbol}
use Rattle.reading.specs.Reads.{Fails}
use Rattle.reading.specs.Assigns.{assigned_tokens, assigning}
use Rattle.reading.proofs.Assigns.{assign_written, assign_legal, assign_nested, assign_emits}
use Rattle.reading.proofs.Carried.{passed_in, fails_in, laid_behind}
use Rattle.reading.proofs.Sequences.{passed_then, fails_then, fails_first}
use Rattle.reading.proofs.Tables.{heard-length}
use Rattle.reading.proofs.reader.Reader.assign.Goals as goal

pub returns-in_err-row-clause-read : goal.returns-in_err-row-clause-read
returns-in_err-row-clause-read c = λ text names room ps f has a.
    let q = c.in_err-row.field-0.0 in
    let o = passed_in has.0 names ps f a (the_symbol Assign ∷ []) (λ rest. symbol Assign ∷ rest) (c.in_ok-take.ensures.read names ps f) in
    let same = ap (λ t. t.now) c.in_ok-take.ensures.same ∙ has.0 in
    let failed : Fails text names (the_symbol Assign ∷ assigned ∷ the_symbol Semicolon ∷ []) ps f q = fails_then text names (the_symbol Assign ∷ []) (assigned ∷ the_symbol Semicolon ∷ []) ps f (λ rest. symbol Assign ∷ rest) _ q o
    (fails_first text names (assigned ∷ []) (the_symbol Semicolon ∷ []) o.rest f q (c.in_err-row.ensures.read text names o.rest f (same, has.1) o.ahead)) in
    search rules

pub returns-in_err-take-2-clause-read : goal.returns-in_err-take-2-clause-read
returns-in_err-take-2-clause-read c = λ text names room ps f has a.
    let q = c.in_err-take-2.field-0.0 in
    let o = passed_in has.0 names ps f a (the_symbol Assign ∷ []) (λ rest. symbol Assign ∷ rest) (c.in_ok-take.ensures.read names ps f) in
    let same = ap (λ t. t.now) c.in_ok-take.ensures.same ∙ has.0 in
    let e = c.in_ok-row.ensures.read text names o.rest f (same, has.1) o.ahead in
    let same2 = ap (λ t. t.now) c.in_ok-row.ensures.kept.0 ∙ same in
    let failed : Fails text names (the_symbol Assign ∷ assigned ∷ the_symbol Semicolon ∷ []) ps f q = fails_then text names (the_symbol Assign ∷ []) (assigned ∷ the_symbol Semicolon ∷ []) ps f (λ rest. symbol Assign ∷ rest) _ q o
    (fails_then text names (assigned ∷ []) (the_symbol Semicolon ∷ []) o.rest f (assigned_tokens e.released names e.tree) _ q e.passed
    (fails_in same2 names e.passed.rest f e.passed.ahead (the_symbol Semicolon ∷ []) (c.in_err-take-2.ensures.read names e.passed.rest f))) in
    search rules

pub returns-clause-read : goal.returns-clause-read
returns-clause-read c = λ text names room ps f has a.
    let r = c.args.self.now in
    let v = c.args.variable in
    let row = c.in_ok-row.ensures.rowless in
    let few : c.take_assigned.new.self.rows.now.used + 1 < 2 ^ 64 = omega (arith, row.1, r.behind.0, r.cursor.within, r.cursor.short) in
    let o = passed_in has.0 names ps f a (the_symbol Assign ∷ []) (λ rest. symbol Assign ∷ rest) (c.in_ok-take.ensures.read names ps f) in
    let same = ap (λ t. t.now) c.in_ok-take.ensures.same ∙ has.0 in
    let e = c.in_ok-row.ensures.read text names o.rest f (same, has.1) o.ahead in
    let same2 = ap (λ t. t.now) c.in_ok-row.ensures.kept.0 ∙ same in
    let s = passed_in same2 names e.passed.rest f e.passed.ahead (the_symbol Semicolon ∷ []) (λ rest. symbol Semicolon ∷ rest) (c.in_ok-take-2.ensures.read names e.passed.rest f) in
    let laid = subst (λ x. Laid r.rows.now.cells.now r.rows.now.used (x ∷ []) c.push.new.self.cells.now c.push.new.self.used) e.row_is (laid_behind row.0 row.1 (c.push.ensures.laid few)) in
    let small = subst (λ n. v < length n) has.1 (omega (arith, c.requires, heard-length r.names.now)) in
    record {
      tree = assigning e.released v e.tree;
      tokens = λ rest. symbol Assign ∷ assigned_tokens e.released names e.tree (symbol Semicolon ∷ rest);
      passed =
          passed_then text names (the_symbol Assign ∷ []) (assigned ∷ the_symbol Semicolon ∷ []) ps f (λ rest. symbol Assign ∷ rest) (λ rest. assigned_tokens e.released names e.tree (symbol Semicolon ∷ rest)) _ _ o
          (passed_then text names (assigned ∷ []) (the_symbol Semicolon ∷ []) o.rest f (assigned_tokens e.released names e.tree) (λ rest. symbol Semicolon ∷ rest) _ _ e.passed s);
      written = λ rest. assign_written e.released names v e.tree (symbol Semicolon ∷ rest);
      legal = assign_legal e.released _ v e.tree small e.legal;
      nested = assign_nested e.released v e.tree room;
      emits = assign_emits e.released v e.tree laid e.laid;
    }
