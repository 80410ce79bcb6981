-- What is decoded from rows and nodes is legal, and they are its form (`read_form`).
--
-- `Holds` is what is kept from the last row to the first: the rows and nodes so far are those of the statements decoded, in front of those
-- that the open ifs and whiles are known to have.
use Rattle.std.proofs.Common.{◌≡◌, ℕ, suc, ◌+◌, ◌<◌, ◌≤◌, ◌&&◌, eqb, ltb, leb, List, [], ◌∷◌, length, drop, sym, refl, ap, ◌∙◌, subst, arith}
use Rattle.std.proofs.lemmas.Bool.{ltb-true, leb-true, eqb-true, and_parts}
use Rattle.std.proofs.lemmas.List.{drop-drop, drop_all}
use Rattle.syntax.specs.declared.form.Node.{Node}
use Rattle.syntax.specs.declared.form.Row.{Row}
use Rattle.syntax.specs.declared.form.Row.TheVariants.{Skip, Assign, Release, Write, Stop, If, Else, EndIf, While, EndWhile}
use Rattle.syntax.specs.Trees.{Expression, size, Statement, Statements, none, then, skip, assign, release, write, stop, branch, while, nesting_of, nesting_in, LegalExpression, LegalStatement, LegalStatements}
use Rattle.syntax.specs.Form.{TreeRow, skips, assigns, releases, writes, stops, branches, leaves, closes, repeats, goes_back, row_after_in, tree_rows_in, nodes_onto, node_after_row, as_row, rows_from, nodes_from, tree_rows, form_rows, form_nodes}
use Rattle.syntax.specs.Decoder.{Parsed, when, expression_of, Frame, in_else, in_then, in_body, stack, State, state, value_at, row_expression, before_then, before_else, before_body, decode_row, decode_rows, closed, finish, statements_of}
use Rattle.syntax.proofs.Prefix.{of_map, Of, when_of, cond_of, bind_of, Reads, read_is}
use Rattle.syntax.proofs.Complete.{drop_nodes}

-- rows and nodes are the form of a sound list of statements
pub record FormOf (k : ℕ) (rows : List Row) (nodes : List Node) (p : Statements) : Type 0 where
  pub rows_are : rows ≡ form_rows p
  pub nodes_are : nodes ≡ form_nodes p
  pub legal : LegalStatements k p
  pub room : nesting_in p ≤ 20

-- the rows behind the block
abbrev tails : List Frame → List TreeRow
tails [] = []
tails (in_else n rest ∷ gs) = closes ∷ tree_rows_in (suc n) rest (tails gs)
tails (in_then m n B rest ∷ gs) = leaves n ∷ tree_rows_in (suc m) B (closes ∷ tree_rows_in (suc n) rest (tails gs))
tails (in_body w m rest ∷ gs) = goes_back w ∷ tree_rows_in (suc m) rest (tails gs)

module _ (k : ℕ) where
  -- a list within so many ifs and whiles
  pub record Fine (l : Statements) (depth : ℕ) : Type 0 where
    pub legal : LegalStatements k l
    pub room : depth + nesting_in l ≤ 20

  -- the block ends at row e, and what the frames hold is sound and in place
  abbrev Framed : ℕ → List Frame → Type 0
  Framed e [] = Unit {0}
  Framed e (in_else n rest ∷ gs) = (e ≡ n) × (length gs < 20) × Fine rest (length gs) × Framed (row_after_in (suc n) rest) gs
  Framed e (in_then m n B rest ∷ gs) = (e ≡ m) × (row_after_in (suc m) B ≡ n) × Fine B (suc (length gs)) × (length gs < 20) × Fine rest (length gs) × Framed (row_after_in (suc n) rest) gs
  Framed e (in_body w m rest ∷ gs) = (e ≡ m) × (length gs < 20) × Fine rest (length gs) × Framed (row_after_in (suc m) rest) gs

  module _ (nodes : List Node) where
    -- an expression stands from a to next
    pub record Stood (next : ℕ) (e : Expression) (a : ℕ) : Type 0 where
      pub legal : LegalExpression k e
      pub ends : a + size e ≡ next
      pub rest : drop a nodes ≡ nodes_onto e (drop next nodes)

    value_of : (next i : ℕ) → Of (value_at k nodes next i) (λ e. Stood next e i)
    value_of next i =
        bind_of (expression_of k 20 (drop i nodes)) _ (Reads k 20 (drop i nodes)) _ (read_is k 20 (drop i nodes)) (λ p r.
        when_of (eqb (i + size p.expression) next) _ _ (λ t. stands p r (eqb-true _ _ t)))
      where
        stands : (p : Parsed) → Reads k 20 (drop i nodes) p → i + size p.expression ≡ next → Stood next p.expression i
        stands p r e =
            let behind : p.rest ≡ drop next nodes = sym (drop_nodes p.expression p.rest) ∙ ap (drop (size p.expression)) (sym r.nodes) ∙ drop-drop (size p.expression) i nodes ∙ ap (λ x. drop x nodes) e in
            record {
              legal = record { ranged = r.ranged; shallow = r.shallow };
              ends = e;
              rest = r.nodes ∙ ap (nodes_onto p.expression) behind;
            }

    -- what is read from rows from row b on
    pub record Holds (b : ℕ) (rows : List Row) (s : State) : Type 0 where
      pub same : rows ≡ rows_from s.next (tree_rows_in b s.held.block (tails s.held.frames))
      pub laid : drop s.next nodes ≡ nodes_from (tree_rows_in b s.held.block (tails s.held.frames))
      pub fine : Fine s.held.block (length s.held.frames)
      pub framed : Framed (row_after_in b s.held.block) s.held.frames

    module _ (b : ℕ) (rows : List Row) (next : ℕ) (l : Statements) (gs : List Frame) (h : Holds (suc b) rows (state next (stack l gs))) where
      abbrev fs : List TreeRow
      fs = tree_rows_in (suc b) l (tails gs)

      with_exp : (f : TreeRow) (e : Expression) (a : ℕ) → node_after_row a f ≡ a + size e → Stood next e a → as_row a f ∷ rows ≡ rows_from a (f ∷ fs)
      with_exp f e a z t = ap (λ x. as_row a f ∷ x) (h.same ∙ ap (λ x. rows_from x fs) (sym (z ∙ t.ends)))

      held_nodes : (e : Expression) (a : ℕ) → Stood next e a → drop a nodes ≡ nodes_onto e (nodes_from fs)
      held_nodes e a t = t.rest ∙ ap (nodes_onto e) h.laid

      -- one statement more, of one row
      fine_more : (x : Statement) → LegalStatement k x → nesting_of x ≡ 0 → Fine (then x l) (length gs)
      fine_more x s z = record { legal = (s, h.fine.legal); room = omega (arith, h.fine.room) }

      bare : (f : TreeRow) → node_after_row next f ≡ next → as_row next f ∷ rows ≡ rows_from next (f ∷ fs)
      bare f z = ap (λ x. as_row next f ∷ x) (h.same ∙ ap (λ x. rows_from x fs) (sym z))

      -- an if whose arms and rows are known
      forked : (e : Expression) (B rest : Statements) (m n : ℕ) (hs : List Frame) → row_after_in (suc b) l ≡ m → row_after_in (suc m) B ≡ n
          → branches e m ∷ tree_rows_in (suc b) l (leaves n ∷ tree_rows_in (suc m) B (closes ∷ tree_rows_in (suc n) rest (tails hs))) ≡ tree_rows_in b (then (branch e l B) rest) (tails hs)
      forked e B rest m n hs p q =
          ap (λ y. branches e m ∷ tree_rows_in (suc b) l (leaves y ∷ tree_rows_in (suc m) B (closes ∷ tree_rows_in (suc y) rest (tails hs)))) (sym q)
          ∙ ap (λ x. branches e x ∷ tree_rows_in (suc b) l (leaves (row_after_in (suc x) B) ∷ tree_rows_in (suc x) B (closes ∷ tree_rows_in (suc (row_after_in (suc x) B)) rest (tails hs)))) (sym p)

      looped : (e : Expression) (rest : Statements) (m w : ℕ) (hs : List Frame) → row_after_in (suc b) l ≡ m → w ≡ b
          → repeats e m ∷ tree_rows_in (suc b) l (goes_back w ∷ tree_rows_in (suc m) rest (tails hs)) ≡ tree_rows_in b (then (while e l) rest) (tails hs)
      looped e rest m w hs p q =
          ap (λ y. repeats e m ∷ tree_rows_in (suc b) l (goes_back y ∷ tree_rows_in (suc m) rest (tails hs))) q
          ∙ ap (λ x. repeats e x ∷ tree_rows_in (suc b) l (goes_back b ∷ tree_rows_in (suc x) rest (tails hs))) (sym p)

    then_of : (b : ℕ) (rows : List Row) (next : ℕ) (l : Statements) (gs : List Frame) (h : Holds (suc b) rows (state next (stack l gs))) (i m : ℕ) (e : Expression) → Stood next e i
        → Of (before_then e m l gs) (λ s. Holds b (If i m ∷ rows) (state i s))
    then_of b rows next l [] h i m e t = tt
    then_of b rows next l (in_else n rest ∷ gs) h i m e t = tt
    then_of b rows next l (in_then j n B rest ∷ gs) h i m e t = when_of (eqb m j) _ _ (λ q.
        let p = h.framed in
        let mj : m ≡ j = eqb-true m j q in
        let f = forked b rows next l (in_then j n B rest ∷ gs) h e B rest j n gs p.0 p.1 in
        record {
          same = ap (λ x. If i x ∷ rows) mj ∙ with_exp b rows next l (in_then j n B rest ∷ gs) h (branches e j) e i refl t ∙ ap (rows_from i) f;
          laid = held_nodes b rows next l (in_then j n B rest ∷ gs) h e i t ∙ ap nodes_from f;
          fine = record { legal = ((t.legal, h.fine.legal, p.2.legal), p.4.legal); room = omega (arith, h.fine.room, p.2.room, p.4.room) };
          framed = subst (λ x. Framed (row_after_in (suc x) rest) gs) (sym p.1 ∙ ap (λ x. row_after_in (suc x) B) (sym p.0)) p.5;
        })
    then_of b rows next l (in_body w n rest ∷ gs) h i m e t = tt

    body_of : (b : ℕ) (rows : List Row) (next : ℕ) (l : Statements) (gs : List Frame) (h : Holds (suc b) rows (state next (stack l gs))) (i m : ℕ) (e : Expression) → Stood next e i
        → Of (before_body e b m l gs) (λ s. Holds b (While i m ∷ rows) (state i s))
    body_of b rows next l [] h i m e t = tt
    body_of b rows next l (in_else n rest ∷ gs) h i m e t = tt
    body_of b rows next l (in_then j n B rest ∷ gs) h i m e t = tt
    body_of b rows next l (in_body w n rest ∷ gs) h i m e t = when_of (eqb w b && eqb m n) _ _ (λ q.
        let p = h.framed in
        let both = and_parts (eqb w b) (eqb m n) q in
        let mn : m ≡ n = eqb-true m n both.1 in
        let f = looped b rows next l (in_body w n rest ∷ gs) h e rest n w gs p.0 (eqb-true w b both.0) in
        record {
          same = ap (λ x. While i x ∷ rows) mn ∙ with_exp b rows next l (in_body w n rest ∷ gs) h (repeats e n) e i refl t ∙ ap (rows_from i) f;
          laid = held_nodes b rows next l (in_body w n rest ∷ gs) h e i t ∙ ap nodes_from f;
          fine = record { legal = ((t.legal, h.fine.legal), p.2.legal); room = omega (arith, h.fine.room, p.2.room) };
          framed = subst (λ x. Framed (row_after_in (suc x) rest) gs) (sym p.0) p.3;
        })

    else_of : (b : ℕ) (rows : List Row) (next : ℕ) (l : Statements) (gs : List Frame) (h : Holds (suc b) rows (state next (stack l gs))) (m : ℕ)
        → Of (before_else b m l gs) (λ s. Holds b (Else m ∷ rows) (state next s))
    else_of b rows next l [] h m = tt
    else_of b rows next l (in_else n rest ∷ gs) h m = when_of (eqb m n) _ _ (λ q.
        let p = h.framed in
        let mn : m ≡ n = eqb-true m n q in
        record {
          same = ap (λ x. Else x ∷ rows) mn ∙ bare b rows next l (in_else n rest ∷ gs) h (leaves n) refl;
          laid = h.laid;
          fine = record { legal = tt; room = omega (arith, p.1) };
          framed = (refl, p.0, h.fine, p.1, p.2, p.3);
        })
    else_of b rows next l (in_then j n B rest ∷ gs) h m = tt
    else_of b rows next l (in_body w n rest ∷ gs) h m = tt

    push_of : (b : ℕ) (r : Row) (rows : List Row) (next : ℕ) (l : Statements) (gs : List Frame) → Holds (suc b) rows (state next (stack l gs)) → Of (decode_row k nodes b r (state next (stack l gs))) (Holds b (r ∷ rows))
    push_of b Skip rows next l gs h = record { same = bare b rows next l gs h skips refl; laid = h.laid; fine = fine_more b rows next l gs h skip tt refl; framed = h.framed }
    push_of b (Assign v i) rows next l gs h =
        bind_of (row_expression k nodes next (Assign v i)) _ (λ e. (v < k) × Stood next e i) _ (cond_of (ltb v k) _ _ (λ q. of_map (value_at k nodes next i) _ _ (value_of next i) (λ e t. (ltb-true v k q, t)))) (λ e t. record {
          same = with_exp b rows next l gs h (assigns v e) e i refl t.1;
          laid = held_nodes b rows next l gs h e i t.1;
          fine = fine_more b rows next l gs h (assign v e) (t.0, t.1.legal) refl;
          framed = h.framed;
        })
    push_of b (Release v i) rows next l gs h =
        bind_of (row_expression k nodes next (Release v i)) _ (λ e. (v < k) × Stood next e i) _ (cond_of (ltb v k) _ _ (λ q. of_map (value_at k nodes next i) _ _ (value_of next i) (λ e t. (ltb-true v k q, t)))) (λ e t. record {
          same = with_exp b rows next l gs h (releases v e) e i refl t.1;
          laid = held_nodes b rows next l gs h e i t.1;
          fine = fine_more b rows next l gs h (release v e) (t.0, t.1.legal) refl;
          framed = h.framed;
        })
    push_of b (Write v i) rows next l gs h =
        bind_of (row_expression k nodes next (Write v i)) _ (λ e. (v ≤ 2147483647) × Stood next e i) _ (cond_of (leb v 2147483647) _ _ (λ q. of_map (value_at k nodes next i) _ _ (value_of next i) (λ e t. (leb-true v 2147483647 q, t)))) (λ e t. record {
          same = with_exp b rows next l gs h (writes v e) e i refl t.1;
          laid = held_nodes b rows next l gs h e i t.1;
          fine = fine_more b rows next l gs h (write v e) (t.0, t.1.legal) refl;
          framed = h.framed;
        })
    push_of b (Stop n) rows next l gs h =
        bind_of (row_expression k nodes next (Stop n)) _ (λ _. n ≤ 2147483647) _ (when_of (leb n 2147483647) _ _ (λ q. leb-true n 2147483647 q)) (λ e t. record {
          same = bare b rows next l gs h (stops n) refl;
          laid = h.laid;
          fine = fine_more b rows next l gs h (stop n) t refl;
          framed = h.framed;
        })
    push_of b (If i m) rows next l gs h =
        bind_of (value_at k nodes next i) _ (λ e. Stood next e i) _ (value_of next i) (λ e t. bind_of (before_then e m l gs) _ _ _ (then_of b rows next l gs h i m e t) (λ s u. u))
    push_of b (Else m) rows next l gs h = bind_of (before_else b m l gs) _ _ _ (else_of b rows next l gs h m) (λ s u. u)
    push_of b EndIf rows next l gs h = bind_of (when (ltb (length gs) 20) (stack none (in_else b l ∷ gs))) _ (λ s. Holds b (EndIf ∷ rows) (state next s)) _ (when_of (ltb (length gs) 20) _ _ (λ q.
        let shallow = ltb-true (length gs) 20 q in
        record { same = bare b rows next l gs h closes refl; laid = h.laid; fine = record { legal = tt; room = omega arith }; framed = (refl, shallow, h.fine, h.framed) })) (λ s u. u)
    push_of b (While i m) rows next l gs h =
        bind_of (value_at k nodes next i) _ (λ e. Stood next e i) _ (value_of next i) (λ e t. bind_of (before_body e b m l gs) _ _ _ (body_of b rows next l gs h i m e t) (λ s u. u))
    push_of b (EndWhile w) rows next l gs h = bind_of (when (ltb (length gs) 20) (stack none (in_body w b l ∷ gs))) _ (λ s. Holds b (EndWhile w ∷ rows) (state next s)) _ (when_of (ltb (length gs) 20) _ _ (λ q.
        let shallow = ltb-true (length gs) 20 q in
        record { same = bare b rows next l gs h (goes_back w) refl; laid = h.laid; fine = record { legal = tt; room = omega arith }; framed = (refl, shallow, h.fine, h.framed) })) (λ s u. u)

    -- what is read has these rows and nodes
    pub decoded : (b : ℕ) (rows : List Row) → Of (decode_rows k nodes b rows) (Holds b rows)
    decoded b [] = record { same = refl; laid = drop_all (length nodes) nodes (omega arith); fine = record { legal = tt; room = omega arith }; framed = tt }
    decoded b (r ∷ rows) = bind_of (decode_rows k nodes (suc b) rows) _ (Holds (suc b) rows) _ (decoded (suc b) rows) (λ s h. push_of b r rows s.next s.held.block s.held.frames h)

    finish_of : (rows : List Row) (next : ℕ) (l : Statements) (gs : List Frame) → Holds 0 rows (state next (stack l gs)) → Of (closed next l gs) (λ p. FormOf k rows nodes p)
    finish_of rows next l [] h = when_of (eqb next 0) _ _ (λ q.
        let z = eqb-true next 0 q in
        record { rows_are = h.same ∙ ap (λ x. rows_from x (tree_rows l)) z; nodes_are = ap (λ x. drop x nodes) (sym z) ∙ h.laid; legal = h.fine.legal; room = omega (arith, h.fine.room) })
    finish_of rows next l (g ∷ gs) h = tt

    pub read_form : (rows : List Row) → Of (statements_of k rows nodes) (FormOf k rows nodes)
    unfolding statements_of
    read_form rows = bind_of (decode_rows k nodes 0 rows) finish (Holds 0 rows) _ (decoded 0 rows) (λ s h. finish_of rows s.next s.held.block s.held.frames h)
