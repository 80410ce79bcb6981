-- A row taken in front, in the code and in the decoder.
--
-- `Prepended` is shown for each kind of row, and `Sofar` is the invariant of the loop over the rows.
use Rattle.std.proofs.Common.{◌≡◌, ℕ, zero, suc, ◌+◌, ◌≤◌, Bool, true, false, cond, ◌&&◌, eqb, ◌⊎◌, List, [], ◌∷◌, length, drop, is_some, Some, None, Option, ◌++◌, sym, refl, ap, ◌∙◌, inl, inr, add-zero, arith, length-append, length-drop, append_assoc}
use Rattle.std.proofs.Math.Seq.{drop-append_seam}
use Rattle.std.proofs.lemmas.Bool.{false≢true, ne_eqb, and_left}
use Rattle.std.proofs.lemmas.List.{drop_all}
use Rattle.syntax.specs.declared.form.Node.{Node}
use Rattle.syntax.specs.declared.form.Row.{Row}
use Rattle.syntax.specs.declared.form.Row.TheVariants.{Skip, Assign, Release, Write, Stop}
use Rattle.syntax.specs.declared.rows.Open.{Open}
use Rattle.syntax.specs.Trees.{Expression, Statement, Statements, none, then, skip, assign, release, write, stop}
use Rattle.syntax.specs.Decoder.{bind, Frame, stack, state, row_expression, first_node, prepend, decode_row, decode_rows, closed, finish, statements_of}
use Rattle.syntax.specs.OpenBlocks.{shape, opens_of, Stacked, Prepended}

pub count : (gs : List Frame) → length (opens_of gs) ≡ length gs
count [] = refl
count (g ∷ gs) = omega (arith, length-append (opens_of gs) (shape g ∷ []), count gs)

pub last_is : (xs ys : List Open) (x y : Open) → xs ++ x ∷ [] ≡ ys ++ y ∷ [] → (xs ≡ ys) × (x ≡ y)
last_is [] [] x y h = (refl, cc)
last_is [] (z ∷ ys) x y h = absurd (omega (arith, ap length h, length-append ys (y ∷ [])))
last_is (z ∷ xs) [] x y h = absurd (omega (arith, ap length h, length-append xs (x ∷ [])))
last_is (z ∷ xs) (w ∷ ys) x y h = let q = last_is xs ys x y cc in (cc, q.1)

module _ (b : ℕ) (r : Row) (e : Expression) (l : Statements) where
  -- a row that is a statement
  pub plain_prepended : (gs : List Frame) (opens : List Open)
      → (r ≡ Skip) ⊎ (((v : ℕ) × (i : ℕ) × (r ≡ Assign v i)) ⊎ (((v : ℕ) × (i : ℕ) × (r ≡ Release v i)) ⊎ (((v : ℕ) × (i : ℕ) × (r ≡ Write v i)) ⊎ ((n : ℕ) × (r ≡ Stop n)))))
      → Stacked opens gs → Prepended b r e l gs opens
  plain_prepended gs opens h s = elim h [
    | inl p ↦ alone skip (ap (λ x. prepend b x e l gs) p)
    | inr (inl p) ↦ alone (assign p.0 e) (ap (λ x. prepend b x e l gs) p.2)
    | inr (inr (inl p)) ↦ alone (release p.0 e) (ap (λ x. prepend b x e l gs) p.2)
    | inr (inr (inr (inl p))) ↦ alone (write p.0 e) (ap (λ x. prepend b x e l gs) p.2)
    | inr (inr (inr (inr p))) ↦ alone (stop p.0) (ap (λ x. prepend b x e l gs) p.1)
  ]
    where
      alone : (x : Statement) → prepend b r e l gs ≡ Some (stack (then x l) gs) → Prepended b r e l gs opens
      alone x p = record { block = then x l; frames = gs; gives = p; stacked = s }

-- the last of the rows that are left, and those behind it
pub record LastLeft (rows all left : List Row) (r : Row) : Type 0 where
  pub one_less : length all ≡ suc (length left)
  pub front : left ++ drop (length left) rows ≡ rows
  pub here : drop (length left) rows ≡ r ∷ drop (suc (length left)) rows

pub last_left : (rows all left : List Row) (r : Row) → all ≡ left ++ r ∷ [] → all ++ drop (length all) rows ≡ rows → LastLeft rows all left r
last_left rows all left r p h =
    let n : length all ≡ suc (length left) = omega (arith, ap length p, length-append left (r ∷ [])) in
    let behind = drop (suc (length left)) rows in
    let whole : left ++ (r ∷ behind) ≡ rows = sym (append_assoc left (r ∷ []) behind) ∙ ap (λ x. x ++ behind) (sym p) ∙ ap (λ m. all ++ drop m rows) (sym n) ∙ h in
    let here : drop (length left) rows ≡ r ∷ behind = sym (ap (drop (length left)) whole) ∙ drop-append_seam left (r ∷ behind) in
    record { one_less = n; front = ap (λ x. left ++ x) here ∙ whole; here = here }

-- a row that does not stand
module _ (k : ℕ) (nodes : List Node) where
  abbrev some_is : {A : Type 0} (o : Option A) → is_some o ≡ true → (x : A) × (o ≡ Some x)
  some_is None h = absurd (false≢true h)
  some_is (Some x) h = (x, refl)

  none_is : {A : Type 0} (o : Option A) → is_some o ≡ false → o ≡ None
  none_is None h = refl
  none_is (Some x) h = absurd (false≢true (sym h))

  -- what was read from row i on, and what the code keeps of it
  pub record Sofar (rows : List Row) (i : ℕ) (opens : List Open) (next : ℕ) : Type 0 where
    pub block : Statements
    pub frames : List Frame
    pub reads : decode_rows k nodes i (drop i rows) ≡ Some (state next (stack block frames))
    pub stacked : Stacked opens frames

  pub start : (rows : List Row) (opens : List Open) → opens ≡ [] → Sofar rows (length rows) opens (length nodes)
  start rows opens e = record {
    block = none;
    frames = [];
    reads = ap (decode_rows k nodes (length rows)) (drop_all (length rows) rows (omega arith));
    stacked = record { are = e; few = omega arith };
  }

  module _ (rows : List Row) (i : ℕ) (opens : List Open) (next : ℕ) (n : ℕ) (so : Sofar rows n opens next) (ni : n ≡ suc i) (r : Row) (here : drop i rows ≡ r ∷ drop (suc i) rows) where
    reached : decode_rows k nodes i (drop i rows) ≡ decode_row k nodes i r (state next (stack so.block so.frames))
    reached =
        ap (decode_rows k nodes i) here
        ∙ ap (λ x. bind x (decode_row k nodes i r)) (ap (λ m. decode_rows k nodes m (drop m rows)) (sym ni) ∙ so.reads)

    -- a refusal of a row is one of all
    earlier : (j : ℕ) (xs : List Row) (b : ℕ) → decode_rows k nodes (b + j) (drop j xs) ≡ None → j ≤ length xs → decode_rows k nodes b xs ≡ None
    earlier zero xs b h l = ap (λ n. decode_rows k nodes n xs) (sym (add-zero b)) ∙ h
    earlier (suc j) [] b h l = absurd (omega arith)
    earlier (suc j) (x ∷ xs) b h l =
        ap (λ y. bind y (decode_row k nodes b x)) (earlier j xs (suc b) (ap (λ n. decode_rows k nodes n (drop j xs)) (let e : suc b + j ≡ b + suc j = omega arith in e) ∙ h) (omega arith))

    refused : decode_rows k nodes i (drop i rows) ≡ None → statements_of k rows nodes ≡ None
    unfolding statements_of
    refused h = ap (λ x. bind x finish) (earlier i rows 0 (ap (λ n. decode_rows k nodes n (drop i rows)) (let e : 0 + i ≡ i = omega arith in e) ∙ h) (omega (arith, ap length here, length-drop i rows)))

    pub no_row : false ≡ is_some (row_expression k nodes next r) → statements_of k rows nodes ≡ None
    no_row h = refused (reached ∙ ap (λ x. bind x (λ e. bind (prepend i r e so.block so.frames) (λ t. Some (state (first_node next r) t)))) (none_is _ (sym h)))

    module _ (yes : true ≡ is_some (row_expression k nodes next r)) where
      abbrev pub expression : Expression
      expression = (some_is (row_expression k nodes next r) (sym yes)).0

      turns : decode_rows k nodes i (drop i rows) ≡ bind (prepend i r expression so.block so.frames) (λ t. Some (state (first_node next r) t))
      turns = reached ∙ ap (λ x. bind x (λ e. bind (prepend i r e so.block so.frames) (λ t. Some (state (first_node next r) t)))) (some_is (row_expression k nodes next r) (sym yes)).1

      pub no_turn : prepend i r expression so.block so.frames ≡ None → statements_of k rows nodes ≡ None
      no_turn h = refused (turns ∙ ap (λ x. bind x (λ t. Some (state (first_node next r) t))) h)

      pub one_more : (ys : List Open) → Prepended i r expression so.block so.frames ys → Sofar rows i ys (first_node next r)
      one_more ys p = record {
        block = p.block;
        frames = p.frames;
        reads = turns ∙ ap (λ x. bind x (λ t. Some (state (first_node next r) t))) p.gives;
        stacked = p.stacked;
      }

  -- at the first row
  pub ends : (rows : List Row) (opens : List Open) (n next : ℕ) → Sofar rows n opens next → n ≡ 0 → is_some (statements_of k rows nodes) ≡ (eqb (length opens) 0 && eqb next 0)
  unfolding statements_of
  ends rows opens n next so z =
      ap (λ x. is_some (bind x finish)) (ap (λ m. decode_rows k nodes m (drop m rows)) (sym z) ∙ so.reads) ∙ by so.frames
      ∙ ap (λ n. eqb n 0 && eqb next 0) (sym (ap length so.stacked.are ∙ count so.frames))
    where
      told : (b : Bool) (l : Statements) → is_some (cond b (Some l) None) ≡ b
      told true l = refl
      told false l = refl

      by : (gs : List Frame) → is_some (closed next so.block gs) ≡ (eqb (length gs) 0 && eqb next 0)
      by [] = told (eqb next 0) so.block
      by (g ∷ gs) = let f : eqb (suc (length gs)) 0 ≡ false = ne_eqb (suc (length gs)) 0 (λ e. omega arith) in sym (and_left (eqb (suc (length gs)) 0) (eqb next 0) f)
