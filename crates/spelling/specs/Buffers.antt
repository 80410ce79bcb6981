-- Bytes written into a buffer that may be too short, and what `spell` leaves in one.
--
-- `Appended xs i us ys j` says: where the first i bytes of xs were used, us is laid over it from there on, as far as it fits, which gives ys, and
-- j bytes are used then. The count goes on past the end of the buffer, and stops at the largest number of 64 bits. `Put before after us` says
-- the same of a buffer that keeps its own count, and that it stays the same buffer.
--
-- `Spelled s before r after` says: r is the answer, and `after` the buffer, of spelling s into the buffer `before`. A spelling above 1048576 bytes
-- is refused as too long, and else one that is longer than the buffer is refused for want of room; both leave zeros only. Any other is
-- written from the front, with zeros behind it, and the answer is its length.
--
-- Example: the script that declares `p` of level 0 and has no statements is spelled `var p : 0 ;` and a line feed. A buffer of 14 bytes then
-- holds these 12 bytes and two zeros, and a buffer of 11 bytes is left with zeros.
use Rattle.std.specs.Prelude.{◌≡◌, ℕ, ◌+◌, ◌-◌, ◌<◌, ◌≤◌, min, ◌⊎◌, List, ◌++◌, length, replicate, Ok, Err, Result}
use Rattle.refusals.specs.declared.Reason.{Reason}
use Rattle.refusals.specs.declared.Reason.TheVariants.{NoRoom, TextTooLong}
use Rattle.refusals.specs.declared.Refusal.{Refusal}
use Rattle.lists.specs.declared.Places.{Places}
use Rattle.lists.specs.Overlay.{overlay}
use Rattle.syntax.specs.Scripts.{Script}
use Rattle.spelling.specs.Spelling.{spelling}

pub record Appended (xs : List ℕ) (i : ℕ) (us : List ℕ) (ys : List ℕ) (j : ℕ) : Type 0 where
  pub gives : ys ≡ overlay xs i us
  pub behind : j ≡ min (i + length us) 18446744073709551615

-- length and count are numbers of 64 bits, as they are in each buffer of a run
abbrev pub Counted : Places ℕ → Type 0
Counted a = (length a.cells.now ≤ 18446744073709551615) × (a.used ≤ 18446744073709551615)

-- us is written at the next places of a buffer, which stays the same one
pub record Put (before after : Places ℕ) (us : List ℕ) : Type 0 where
  pub same : after.cells.ghost_name ≡ before.cells.ghost_name
  pub appended : Counted before → Appended before.cells.now before.used us after.cells.now after.used

-- what fits: the text, and zeros behind it
pub record Fitted (text before : List ℕ) (n : ℕ) (after : List ℕ) : Type 0 where
  pub not_too_long : length text ≤ 1048576
  pub room : length text ≤ length before
  pub count : n ≡ length text
  pub holds : after ≡ text ++ replicate (length before - length text) 0

-- why a text of so many bytes is refused for a buffer of so many bytes
abbrev pub Unfit : ℕ → ℕ → Reason → Type 0
Unfit long room reason =
    ((1048576 < long) × (reason ≡ TextTooLong))
    ⊎ ((long ≤ 1048576) × (room < long) × (reason ≡ NoRoom))

-- what does not fit: a refusal, and zeros
pub record Turned (text before : List ℕ) (e : Refusal) (after : List ℕ) : Type 0 where
  pub why : Unfit (length text) (length before) e.reason
  pub place : e.place ≡ 0
  pub holds : after ≡ replicate (length before) 0

abbrev pub Spelled : Script → List ℕ → Result ℕ Refusal → List ℕ → Type 0
Spelled s before (Ok n) after = Fitted (spelling s) before n after
Spelled s before (Err e) after = Turned (spelling s) before e after
