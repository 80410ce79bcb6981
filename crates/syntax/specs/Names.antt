-- Legal names, and lists of declarations.
--
-- A name has 1 to 15 bytes, which are letters, digits or `_`. The first is no digit, and the name is no keyword. It is kept in 15 bytes
-- with its length; the bytes behind the name are zeros, so that one name is kept in one way only. A level is at most 2147483647.
-- A script declares at most 256 variables, no two of one name.
--
-- Example: `x1` is kept as the length 2 and the bytes 120, 49 and thirteen zeros. `1x`, `while` and the empty name are not legal.
use Rattle.std.specs.Prelude.{ℕ, zero, suc, Bool, true, false, not, ◌&&◌, List, [], ◌∷◌, length, map, take, replicate, is_some, ◌==◌, nat_le, nat_lt, slice_index}
use Rattle.std.specs.List.{list_all, list_any}
use Rattle.std.specs.Str.{bytes_eq}
use Rattle.letters.specs.Classes.{is_digit, is_word}
use Rattle.letters.specs.Keywords.{keyword_of}
use Rattle.syntax.specs.declared.form.Name.{Name}
use Rattle.syntax.specs.declared.form.Declaration.{Declaration}

-- so many letters and digits, and then zeros
abbrev pub padded : ℕ → List ℕ → Bool
padded zero [] = true
padded zero (b ∷ bs) = b == 0 && padded zero bs
padded (suc n) [] = false
padded (suc n) (b ∷ bs) = is_word b && padded n bs

-- what a name is spelled
abbrev pub spelled : Name → List ℕ
spelled n = take n.length n.bytes

abbrev pub legal_name : Name → Bool
legal_name n = length n.bytes == 15 && (nat_lt 0 n.length && (padded n.length n.bytes && (not (is_digit (slice_index n.bytes 0)) && not (is_some (keyword_of (spelled n))))))

abbrev pub legal_declaration : Declaration → Bool
legal_declaration d = legal_name d.name && nat_le d.level 2147483647

abbrev pub all_legal : List Declaration → Bool
all_legal = list_all legal_declaration

abbrev pub spellings : List Declaration → List (List ℕ)
spellings = map (λ d. spelled d.name)

-- whether a word is one of several
abbrev pub among : List ℕ → List (List ℕ) → Bool
among w = list_any (bytes_eq w)

abbrev pub distinct : List (List ℕ) → Bool
distinct [] = true
distinct (w ∷ ws) = not (among w ws) && distinct ws

-- the declarations of a script
abbrev pub well_declared : List Declaration → Bool
well_declared ds = nat_le (length ds) 256 && (all_legal ds && distinct (spellings ds))

-- what stands in a list of declarations behind those that are used: the empty name, of level 0
abbrev pub blank_declaration : Declaration
blank_declaration = record { name = record { length = 0; bytes = replicate 15 0 }; level = 0 }
