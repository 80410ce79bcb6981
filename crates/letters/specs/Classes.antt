-- Classes of bytes.
--
-- A letter is one of A to Z and a to z, or `_`; a digit one of 0 to 9; a blank a space, tab, CR or LF; a symbol's byte one of
-- : ; ( ) + - * / = < |. Every other byte, from NUL up to 255, is a stranger. A word runs on over letters and digits.
--
-- Example: `x` is a letter, `7` a digit, `;` a symbol's byte, and `#` and byte 200 are strangers.
use Rattle.std.specs.Prelude.{ℕ, Bool, true, false, cond, ◌&&◌, ◌||◌, List, [], ◌∷◌, ◌==◌, nat_le}
use Rattle.letters.specs.declared.classes.Class.{Class}
use Rattle.letters.specs.declared.classes.Class.TheVariants.{Stranger, Letter, Digit, Blank, Symbol}

abbrev pub is_digit : ℕ → Bool
is_digit c = nat_le 48 c && nat_le c 57

abbrev pub is_letter : ℕ → Bool
is_letter c = (nat_le 97 c && nat_le c 122) || ((nat_le 65 c && nat_le c 90) || c == 95)

abbrev pub is_word : ℕ → Bool
is_word c = is_letter c || is_digit c

abbrev pub is_blank : ℕ → Bool
is_blank c = c == 32 || (c == 9 || (c == 13 || c == 10))

abbrev pub is_symbol : ℕ → Bool
is_symbol c =
    (c == 58) || (c == 59 || (c == 40 || (c == 41 || (c == 43 || (c == 45 || (c == 42 || (c == 47 || (c == 61 || (c == 60 || c == 124)))))))))

abbrev pub class_of : ℕ → Class
class_of c = cond (is_letter c) Letter (cond (is_digit c) Digit (cond (is_blank c) Blank (cond (is_symbol c) Symbol Stranger)))

-- every byte of a text is of a kind
abbrev pub every : (ℕ → Bool) → List ℕ → Bool
every f [] = true
every f (c ∷ cs) = f c && every f cs

-- the first byte of a text is of a kind
abbrev pub begins : (ℕ → Bool) → List ℕ → Bool
begins f [] = false
begins f (c ∷ cs) = f c
