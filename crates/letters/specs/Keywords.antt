-- The keywords, as they are written. They are lower case, so `If` is no keyword.
use Rattle.std.specs.Prelude.{◌≡◌, ℕ, cond, List, [], ◌∷◌, Some, None, codes, Option}
use Rattle.std.specs.Str.{bytes_eq}
use Rattle.letters.specs.declared.keywords.Keyword.{Keyword}
use Rattle.letters.specs.declared.keywords.Keyword.TheVariants.{Var, Skip, If, Then, Else, End, While, Do, Write, Stop, Declassify, Max}

abbrev pub keywords : List (List ℕ × Keyword)
keywords = (codes "var", Var) ∷ (codes "skip", Skip) ∷ (codes "if", If) ∷ (codes "then", Then) ∷ (codes "else", Else) ∷ (codes "end", End) ∷ (codes "while", While) ∷ (codes "do", Do) ∷ (codes "write", Write) ∷ (codes "stop", Stop) ∷ (codes "declassify", Declassify) ∷ (codes "max", Max) ∷ []

-- what stands beside a word in a table
abbrev pub lookup : {A : Type 0} → List ℕ → List (List ℕ × A) → Option A
lookup w [] = None
lookup w (e ∷ es) = cond (bytes_eq w e.0) (Some e.1) (lookup w es)

-- the keyword that bytes spell
abbrev pub keyword_of : List ℕ → Option Keyword
keyword_of w = lookup w keywords

-- and how a keyword is written
abbrev pub keyword_bytes : Keyword → List ℕ
keyword_bytes Var = codes "var"
keyword_bytes Skip = codes "skip"
keyword_bytes If = codes "if"
keyword_bytes Then = codes "then"
keyword_bytes Else = codes "else"
keyword_bytes End = codes "end"
keyword_bytes While = codes "while"
keyword_bytes Do = codes "do"
keyword_bytes Write = codes "write"
keyword_bytes Stop = codes "stop"
keyword_bytes Declassify = codes "declassify"
keyword_bytes Max = codes "max"

-- a keyword as it is written is that keyword
abbrev pub KeywordsWritten : Type 0
KeywordsWritten = (k : Keyword) → keyword_of (keyword_bytes k) ≡ Some k
