-- A spelling is made of its tokens, so it is a text of its script.
use Rattle.std.proofs.Common.{◌≡◌, ℕ, ◌+◌, true, List, [], ◌∷◌, ◌++◌, length, refl, ap, ◌∙◌, ap₂, append-nil}
use Rattle.letters.specs.Classes.{is_blank, every}
use Rattle.letters.specs.Texts.{Piece, Begins, MadeOf, finished}
use Rattle.reading.specs.Grammar.{Terminal, terminals, script_tokens}
use Rattle.spelling.specs.Spelling.{terminal_bytes, separator, layout, ReadsBack}
use Rattle.spelling.proofs.Lexemes.{lexeme_of, seen_again, written, ended, blank-behind}
use Rattle.spelling.proofs.Writable.{AllWritable, script_writable}

-- a text that is made of tokens
pub record Read (at : ℕ) (text : List ℕ) (ts : List Terminal) : Type 0 where
  pub pieces : List Piece
  pub made : MadeOf at text pieces finished
  pub tokens : terminals pieces ≡ ts

-- blanks, and then tokens in the standard layout
pub read : (at : ℕ) (blanks : List ℕ) (ts : List Terminal) → every is_blank blanks ≡ true → AllWritable ts → Read at (blanks ++ layout ts) ts
read at blanks [] b w = record { pieces = []; made = ap (every is_blank) (append-nil blanks) ∙ b; tokens = refl }
read at blanks (t ∷ ts) b w =
    let start : ℕ = at + length blanks in
    let stop : ℕ = start + length (terminal_bytes t) in
    let p : Piece = record { token = lexeme_of t; start = start; stop = stop } in
    let behind = separator t ∷ layout ts in
    let more = read stop (separator t ∷ []) ts (rw (blank-behind t) refl) w.1 in
    let begins : Begins at (blanks ++ layout (t ∷ ts)) p behind = record {
      blanks = blanks;
      bytes = terminal_bytes t;
      together = refl;
      only_blanks = b;
      spells = written t w.0;
      longest = ended t;
      from = refl;
      to = refl;
    } in
    record { pieces = p ∷ more.pieces; made = (behind, begins, more.made); tokens = ap₂ (λ x xs. x ∷ xs) (seen_again t) more.tokens }

pub reads_back : ReadsBack
reads_back s w short =
    let r = read 0 [] (script_tokens s) refl (script_writable s w) in
    record { short = short; pieces = r.pieces; made = r.made; tokens = r.tokens; well_formed = w }
