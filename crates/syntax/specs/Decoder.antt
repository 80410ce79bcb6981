-- From lists back to a script.
--
-- Rows are read from the last to the first, so that what stands behind a row is known when the row is met: no row is looked for ahead. The
-- state is the place of the first node that is used so far, the statements behind the present place up to the end of the list that it
-- stands in, and what is known of each `if` and `while` around it. A row fits if its numbers are in range, its expression ends right where
-- the nodes used so far begin, and its target is the row that was met. In the end nothing may be open, and every node must be used.
--
-- Example: for the rows `While 0 2`, `Assign 0 3`, `EndWhile 0` and the nodes of Form.antt, the last row opens a body that ends in row 2 and
-- goes back to row 0, the assignment is put into it, its nodes being 3 to 5, and the first row closes it: nodes 0 to 2, the end in row 2.
use Rattle.std.specs.Prelude.{◌≡◌, ℕ, zero, suc, ◌+◌, ◌≤◌, Bool, cond, ◌&&◌, List, [], ◌∷◌, length, drop, Some, None, Option, ◌==◌, nat_le, nat_lt}
use Rattle.syntax.specs.declared.form.Node.{Node}
use Rattle.syntax.specs.declared.form.Node.TheVariants.{Numeral, Variable, Apply}
use Rattle.syntax.specs.declared.form.Row.{Row}
use Rattle.syntax.specs.declared.form.Row.TheVariants.{Skip, Assign, Release, Write, Stop, If, Else, EndIf, While, EndWhile}
use Rattle.syntax.specs.Trees.{Expression, number, variable, apply, size, Statements, none, then, skip, assign, release, write, stop, branch, while}

-- an expression read off the front of nodes, and the nodes behind it
pub record Parsed : Type 0 where
  pub expression : Expression
  pub rest : List Node

abbrev pub parsed : Expression → List Node → Parsed
parsed e l = record { expression = e; rest = l }

-- the next step, if there is something to take
abbrev pub bind : {A B : Type 0} → Option A → (A → Option B) → Option B
bind None f = None
bind (Some x) f = f x

-- something, if a test holds
abbrev pub when : {A : Type 0} → Bool → A → Option A
when b x = cond b (Some x) None

-- the expression at the front of nodes, at most d deep, over k variables
abbrev pub expression_of : ℕ → ℕ → List Node → Option Parsed
expression_of k d [] = None
expression_of k d (Numeral n ∷ l) = when (nat_le n 2147483647) (parsed (number n) l)
expression_of k d (Variable v ∷ l) = when (nat_lt v k) (parsed (variable v) l)
expression_of k zero (Apply o ∷ l) = None
expression_of k (suc d) (Apply o ∷ l) = bind (expression_of k d l) (λ a. bind (expression_of k d a.rest) (λ b. Some (parsed (apply o a.expression b.expression) b.rest)))

-- an expression stands in the nodes from `at` to q
pub record Spans (k d : ℕ) (nodes : List Node) (at q : ℕ) : Type 0 where
  pub expression : Expression
  pub reads : expression_of k d (drop at nodes) ≡ Some (parsed expression (drop q nodes))
  pub behind : q ≡ at + size expression
  pub within : q ≤ length nodes

-- An `if` or a `while` that is open at a place, as far as the rows behind the place tell.
pub data Frame : Type 0 where
  -- in the second arm of an `if`: the row of its end, and the statements behind it
  in_else : ℕ → Statements → Frame
  -- in the first arm of an `if`: the rows of its `else` and its end, the second arm, and the statements behind it
  in_then : ℕ → ℕ → Statements → Statements → Frame
  -- in the body of a `while`: the row that its end goes back to, the row of its end, and the statements behind it
  in_body : ℕ → ℕ → Statements → Frame

-- the statements behind a place in its own list, and what is open there, the innermost first
pub record Stack : Type 0 where
  pub block : Statements
  pub frames : List Frame

abbrev pub stack : Statements → List Frame → Stack
stack b fs = record { block = b; frames = fs }

-- and the place of the first node that is used so far
pub record State : Type 0 where
  pub next : ℕ
  pub held : Stack

abbrev pub state : ℕ → Stack → State
state n s = record { next = n; held = s }

module _ (k : ℕ) (nodes : List Node) where
  -- the expression that stands from i up to next
  abbrev pub value_at : ℕ → ℕ → Option Expression
  value_at next i = bind (expression_of k 20 (drop i nodes)) (λ p. when (i + size p.expression == next) p.expression)

  -- a row's expression, if its own numbers are in range and the expression stands right before `next`; a row without one has `number 0` for it
  abbrev pub row_expression : ℕ → Row → Option Expression
  row_expression next Skip = Some (number 0)
  row_expression next (Assign v i) = cond (nat_lt v k) (value_at next i) None
  row_expression next (Release v i) = cond (nat_lt v k) (value_at next i) None
  row_expression next (Write t i) = cond (nat_le t 2147483647) (value_at next i) None
  row_expression next (Stop n) = when (nat_le n 2147483647) (number 0)
  row_expression next (If i m) = value_at next i
  row_expression next (Else m) = Some (number 0)
  row_expression next EndIf = Some (number 0)
  row_expression next (While i m) = value_at next i
  row_expression next (EndWhile m) = Some (number 0)

-- the place of the first node of a row and of those behind it
abbrev pub first_node : ℕ → Row → ℕ
first_node next Skip = next
first_node next (Assign v i) = i
first_node next (Release v i) = i
first_node next (Write t i) = i
first_node next (Stop n) = next
first_node next (If i m) = i
first_node next (Else m) = next
first_node next EndIf = next
first_node next (While i m) = i
first_node next (EndWhile m) = next

-- an `if` in front of its first arm A, whose `else` it says to be row m
abbrev pub before_then : Expression → ℕ → Statements → List Frame → Option Stack
before_then e m A [] = None
before_then e m A (in_else n rest ∷ fs) = None
before_then e m A (in_then l n B rest ∷ fs) = when (m == l) (stack (then (branch e A B) rest) fs)
before_then e m A (in_body w n rest ∷ fs) = None

-- an `else` in row b, in front of the second arm B, whose end it says to be row m
abbrev pub before_else : ℕ → ℕ → Statements → List Frame → Option Stack
before_else b m B [] = None
before_else b m B (in_else n rest ∷ fs) = when (m == n) (stack none (in_then b n B rest ∷ fs))
before_else b m B (in_then l n C rest ∷ fs) = None
before_else b m B (in_body w n rest ∷ fs) = None

-- a `while` in row b, in front of its body A, whose end it says to be row m
abbrev pub before_body : Expression → ℕ → ℕ → Statements → List Frame → Option Stack
before_body e b m A [] = None
before_body e b m A (in_else n rest ∷ fs) = None
before_body e b m A (in_then l n C rest ∷ fs) = None
before_body e b m A (in_body w n rest ∷ fs) = when (w == b && m == n) (stack (then (while e A) rest) fs)

-- row b, with its expression, in front of what stands behind it
abbrev pub prepend : ℕ → Row → Expression → Statements → List Frame → Option Stack
prepend b Skip e l fs = Some (stack (then skip l) fs)
prepend b (Assign v i) e l fs = Some (stack (then (assign v e) l) fs)
prepend b (Release v i) e l fs = Some (stack (then (release v e) l) fs)
prepend b (Write t i) e l fs = Some (stack (then (write t e) l) fs)
prepend b (Stop n) e l fs = Some (stack (then (stop n) l) fs)
prepend b (If i m) e l fs = before_then e m l fs
prepend b (Else m) e l fs = before_else b m l fs
prepend b EndIf e l fs = when (nat_lt (length fs) 20) (stack none (in_else b l ∷ fs))
prepend b (While i m) e l fs = before_body e b m l fs
prepend b (EndWhile w) e l fs = when (nat_lt (length fs) 20) (stack none (in_body w b l ∷ fs))

module _ (k : ℕ) (nodes : List Node) where
  abbrev pub decode_row : ℕ → Row → State → Option State
  decode_row b r s = bind (row_expression k nodes s.next r) (λ e. bind (prepend b r e s.held.block s.held.frames) (λ t. Some (state (first_node s.next r) t)))

  -- the rows from row b on
  abbrev pub decode_rows : ℕ → List Row → Option State
  decode_rows b [] = Some (state (length nodes) (stack none []))
  decode_rows b (r ∷ rs) = bind (decode_rows (suc b) rs) (decode_row b r)

-- at the first row nothing is open, and every node is used
abbrev pub closed : ℕ → Statements → List Frame → Option Statements
closed next l [] = when (next == 0) l
closed next l (f ∷ fs) = None

abbrev pub finish : State → Option Statements
finish s = closed s.next s.held.block s.held.frames

-- the statements that rows and nodes are the form of
unfoldable pub statements_of : ℕ → List Row → List Node → Option Statements
statements_of k rows nodes = bind (decode_rows k nodes 0 rows) finish
