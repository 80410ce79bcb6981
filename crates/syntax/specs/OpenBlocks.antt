-- What the code keeps of the ifs and whiles that are open, beside what the decoder keeps.
--
-- The decoder's frames hold statements; the code keeps only the row numbers, in a stack of at most 20, the innermost open one last.
--
-- Example: inside the body of a `while` in row 0 whose end is row 2, and nothing around it, the decoder has the one frame
-- `in_body 0 2 none`, and the code has the one item `Body 0 2`.
use Rattle.std.specs.Prelude.{◌≡◌, ℕ, ◌≤◌, List, [], ◌∷◌, ◌++◌, length, Some}
use Rattle.syntax.specs.declared.form.Row.{Row}
use Rattle.syntax.specs.declared.rows.Open.{Open}
use Rattle.syntax.specs.declared.rows.Open.TheVariants.{Otherwise, Then, Body}
use Rattle.syntax.specs.Trees.{Expression, Statements}
use Rattle.syntax.specs.Decoder.{Frame, in_else, in_then, in_body, stack, prepend}

-- what the code keeps of a frame
abbrev pub shape : Frame → Open
shape (in_else n rest) = Otherwise n
shape (in_then m n B rest) = Then m
shape (in_body w m rest) = Body w m

-- the open blocks of the frames, the innermost last
abbrev pub opens_of : List Frame → List Open
opens_of [] = []
opens_of (g ∷ gs) = opens_of gs ++ shape g ∷ []

-- a stack holds the open blocks of the frames
pub record Stacked (opens : List Open) (gs : List Frame) : Type 0 where
  pub are : opens ≡ opens_of gs
  pub few : length gs ≤ 20

-- the decoder takes row b in front, and the code keeps what is open then
pub record Prepended (b : ℕ) (r : Row) (e : Expression) (l : Statements) (gs : List Frame) (opens : List Open) : Type 0 where
  pub block : Statements
  pub frames : List Frame
  pub gives : prepend b r e l gs ≡ Some (stack block frames)
  pub stacked : Stacked opens frames
