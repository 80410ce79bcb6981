-- The node at a place of a held program, and the expression that begins there.
use Rattle.std.proofs.Common.{◌≡◌, ℕ, zero, suc, ◌+◌, ◌<◌, List, [], ◌∷◌, length, get_or, drop, sym, refl, ap, ◌∙◌, subst, arith, length-drop}
use Rattle.std.proofs.lemmas.List.{drop_more, drop-drop}
use Rattle.values.specs.declared.Operator.{Operator}
use Rattle.lists.specs.declared.Places.{Places}
use Rattle.letters.specs.declared.symbols.Symbol.TheVariants as mark
use Rattle.syntax.specs.declared.form.Node.{Node}
use Rattle.syntax.specs.declared.form.Node.TheVariants.{Numeral, Variable, Apply}
use Rattle.syntax.specs.declared.form.Declaration.{Declaration}
use Rattle.syntax.specs.declared.held.Program.{Program}
use Rattle.syntax.specs.Names.{spelled, spellings}
use Rattle.syntax.specs.Trees.{Expression, number, variable, apply, size, InRange}
use Rattle.syntax.specs.Form.{nodes_onto}
use Rattle.syntax.specs.Held.{Held}
use Rattle.syntax.proofs.Complete.{drop_nodes, length_nodes}
use Rattle.syntax.proofs.HeldRows.{held_program}
use Rattle.reading.specs.Grammar.{name, numeral, symbol, operator_terminal}
use Rattle.spelling.specs.Buffers.{Put}
use Rattle.spelling.specs.Parts.{token_bytes, expression_bytes, names_held, ExpressionAt, Writes, EndsAt}
use Rattle.spelling.proofs.Putting.{put_more, put_as}

-- the name of a declared variable
pub name_at : (ds : List Declaration) (v : ℕ) (d : Declaration) → v < length ds → spelled (get_or ds v d).name ≡ get_or (spellings ds) v []
name_at [] v d lt = absurd (omega arith)
name_at (x ∷ ds) zero d lt = refl
name_at (x ∷ ds) (suc v) d lt = name_at ds v d (omega arith)

-- the first node tells the expression
is_number : (n : ℕ) (l : List Node) (e : Expression) (rest : List Node) → Numeral n ∷ l ≡ nodes_onto e rest → e ≡ number n
is_number n l (number m) rest h = cc
is_number n l (variable v) rest h = cc
is_number n l (apply o a b) rest h = cc

is_variable : (v : ℕ) (l : List Node) (e : Expression) (rest : List Node) → Variable v ∷ l ≡ nodes_onto e rest → e ≡ variable v
is_variable v l (number m) rest h = cc
is_variable v l (variable w) rest h = cc
is_variable v l (apply o a b) rest h = cc

pub record Parts (o : Operator) (l : List Node) (e : Expression) (rest : List Node) : Type 0 where
  pub left : Expression
  pub right : Expression
  pub is : e ≡ apply o left right
  pub nodes : l ≡ nodes_onto left (nodes_onto right rest)

is_apply : (o : Operator) (l : List Node) (e : Expression) (rest : List Node) → Apply o ∷ l ≡ nodes_onto e rest → Parts o l e rest
is_apply o l (number m) rest h = let z : ◌≡◌ {A = ℕ} 0 1 = cc in absurd (omega arith)
is_apply o l (variable v) rest h = let z : ◌≡◌ {A = ℕ} 0 1 = cc in absurd (omega arith)
is_apply o l (apply p a b) rest h = record { left = a; right = b; is = cc; nodes = cc }

some_nodes : (e : Expression) → 0 < size e
some_nodes (number n) = omega arith
some_nodes (variable v) = omega arith
some_nodes (apply o a b) = omega arith

module _ (p : Program) where
  pub begins_within : (i : ℕ) → ExpressionAt p i → i < length p.nodes.now
  begins_within i s =
      omega (arith, some_nodes s.expression, length_nodes s.expression s.rest, sym (length-drop i p.nodes.now) ∙ ap length s.is)

  onward : (i q : ℕ) (e : Expression) (l : List Node) → drop i p.nodes.now ≡ nodes_onto e l → q ≡ i + size e → drop q p.nodes.now ≡ l
  onward i q e l h b = ap (λ x. drop x p.nodes.now) b ∙ sym (drop-drop (size e) i p.nodes.now) ∙ ap (drop (size e)) h ∙ drop_nodes e l

  module _ (at : ℕ) (lt : at < length p.nodes.now) where
    from : (x : Node) → get_or p.nodes.now at (Numeral 0) ≡ x → x ∷ drop (at + 1) p.nodes.now ≡ drop at p.nodes.now
    from x e = sym (drop_more p.nodes.now at (Numeral 0) lt ∙ ap (λ y. y ∷ drop (at + 1) p.nodes.now) e)

    -- a numeral
    pub numeral_writes : (n : ℕ) → get_or p.nodes.now at (Numeral 0) ≡ Numeral n → {a b : Places ℕ} → Put a b (token_bytes (numeral n)) → Writes p at (expression_bytes (names_held p)) a b
    numeral_writes n g w e rest h = put_as (ap (expression_bytes (names_held p)) (sym (is_number n _ e rest (from (Numeral n) g ∙ h)))) w

    pub numeral_ends : (n : ℕ) → get_or p.nodes.now at (Numeral 0) ≡ Numeral n → EndsAt p at (at + 1)
    numeral_ends n g e rest h = ap (λ x. at + size x) (sym (is_number n _ e rest (from (Numeral n) g ∙ h)))

    -- a variable
    pub variable_fits : (v : ℕ) → get_or p.nodes.now at (Numeral 0) ≡ Variable v → ExpressionAt p at → v < length p.declarations.now
    variable_fits v g s = subst (InRange (length p.declarations.now)) (is_variable v _ s.expression s.rest (from (Variable v) g ∙ s.is)) s.ranged

    pub variable_writes : (v : ℕ) → get_or p.nodes.now at (Numeral 0) ≡ Variable v → {a b : Places ℕ}
        → Put a b (token_bytes (name (get_or (names_held p) v []))) → Writes p at (expression_bytes (names_held p)) a b
    variable_writes v g w e rest h = put_as (ap (expression_bytes (names_held p)) (sym (is_variable v _ e rest (from (Variable v) g ∙ h)))) w

    pub variable_ends : (v : ℕ) → get_or p.nodes.now at (Numeral 0) ≡ Variable v → EndsAt p at (at + 1)
    variable_ends v g e rest h = ap (λ x. at + size x) (sym (is_variable v _ e rest (from (Variable v) g ∙ h)))

    -- an operator with its two parts
    module _ (o : Operator) (g : get_or p.nodes.now at (Numeral 0) ≡ Apply o) where
      parts : (e : Expression) (rest : List Node) → drop at p.nodes.now ≡ nodes_onto e rest → Parts o (drop (at + 1) p.nodes.now) e rest
      parts e rest h = is_apply o _ e rest (from (Apply o) g ∙ h)

      pub left_stands : ExpressionAt p at → ExpressionAt p (at + 1)
      left_stands s =
          let t = parts s.expression s.rest s.is in
          record { expression = t.left; rest = nodes_onto t.right s.rest; is = t.nodes; ranged = (subst (InRange (length p.declarations.now)) t.is s.ranged).0 }

      pub right_stands : ExpressionAt p at → (middle : ℕ) → EndsAt p (at + 1) middle → (at < middle) × ExpressionAt p middle
      right_stands s middle ends =
          let t = parts s.expression s.rest s.is in
          let b = ends t.left _ t.nodes in (
            omega (arith, b),
            record { expression = t.right; rest = s.rest; is = onward (at + 1) middle t.left _ t.nodes b; ranged = (subst (InRange (length p.declarations.now)) t.is s.ranged).1 },
          )

      pub apply_ends : (middle stop : ℕ) → EndsAt p (at + 1) middle → EndsAt p middle stop → EndsAt p at stop
      apply_ends middle stop first second e rest h =
          let t = parts e rest h in
          let b = first t.left _ t.nodes in
          let c = second t.right rest (onward (at + 1) middle t.left _ t.nodes b) in
          let z = ap size t.is in
          omega (arith, b, c, z)

      pub apply_writes : (middle : ℕ) → EndsAt p (at + 1) middle → {a b c d f g : Places ℕ}
          → Put a b (token_bytes (symbol mark.Open))
          → Writes p (at + 1) (expression_bytes (names_held p)) b c
          → Put c d (token_bytes (operator_terminal o))
          → Writes p middle (expression_bytes (names_held p)) d f
          → Put f g (token_bytes (symbol mark.Close))
          → Writes p at (expression_bytes (names_held p)) a g
      apply_writes middle ends opened left sign right closed e rest h =
          let t = parts e rest h in
          let b = ends t.left _ t.nodes in
          let l = left t.left _ t.nodes in
          let r = right t.right rest (onward (at + 1) middle t.left _ t.nodes b) in
          put_as (ap (expression_bytes (names_held p)) (sym t.is)) (put_more opened (put_more l (put_more sign (put_more r closed))))

-- what is known of every held program
pub held : (p : Program) → Held p
held = held_program
