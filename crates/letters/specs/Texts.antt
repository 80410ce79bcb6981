-- What it is for a text to be made of tokens, in terms of the bytes alone.
--
-- A text is made of tokens where blanks, a token's bytes, blanks, a token's bytes and so on, and blanks at the end, put together are
-- the text, and no token could have been longer: the byte behind a word is no letter or digit, the byte behind a numeral no digit, and
-- the byte behind `:` no `=`. Nothing here says how tokens are found. That a text is made of tokens in one way at most, that nothing
-- longer would have been a token, and that a fault is told in one way, is stated at the end.
--
-- Example: `p :=7` is the name `p`, a blank, `:=` and the numeral 7. It is not `p`, a blank, `:`, `=`, `7`, since `:` could have been
-- longer.
use Rattle.std.specs.Prelude.{◌≡◌, ℕ, ◌+◌, ◌<◌, ◌≤◌, Bool, true, false, not, ◌&&◌, ◌⊎◌, List, [], ◌∷◌, ◌++◌, map, length, take, Some, None, ◌==◌}
use Rattle.refusals.specs.declared.Reason.{Reason}
use Rattle.refusals.specs.declared.Reason.TheVariants.{StrayByte, Malformed, Unexpected, Undeclared, BadDeclaration, TooDeep, NoRoom, TextTooLong, NotACode, Reserved, TooLarge, BankTooSmall, NotAForm, NoSuchVariable, MoreToDo, NoSuchLine, TooShort}
use Rattle.letters.specs.declared.symbols.Symbol.{Symbol}
use Rattle.letters.specs.declared.symbols.Symbol.TheVariants.{Assign, Colon, Semicolon, Open, Close, Plus, Minus, Times, Over, Equals, Less, Bar}
use Rattle.letters.specs.declared.tokens.Lexed.{Lexed}
use Rattle.letters.specs.Classes.{is_letter, is_digit, is_word, is_blank, is_symbol, every, begins}
use Rattle.letters.specs.Keywords.{keyword_of}
use Rattle.letters.specs.Numerals.{numeral_of}
use Rattle.letters.specs.Symbols.{symbol_bytes}
use Rattle.letters.specs.Tokens.{Lexeme, end, name, numeral, keyword, symbol, broken, view}

-- letters and digits, a letter first
pub record Word (w : List ℕ) : Type 0 where
  pub letter_first : begins is_letter w ≡ true
  pub all_word : every is_word w ≡ true

-- a name: a word of at most 15 bytes that is no keyword
pub record Name (w : List ℕ) : Type 0 where
  pub word : Word w
  pub short : length w ≤ 15
  pub no_keyword : keyword_of w ≡ None

-- the bytes spell the token
abbrev pub Spells : Lexeme → List ℕ → Type 0
Spells end w = ⊥
Spells (name v) w = (v ≡ w) × Name w
Spells (numeral ds n) w = (ds ≡ w) × (numeral_of w ≡ Some n)
Spells (keyword k) w = keyword_of w ≡ Some k
Spells (symbol s) w = w ≡ symbol_bytes s
Spells (broken r) w = ⊥

-- a symbol that one more byte would make another symbol
abbrev pub widens : Symbol → ℕ → Bool
widens Assign c = false
widens Colon c = c == 61
widens Semicolon c = false
widens Open c = false
widens Close c = false
widens Plus c = false
widens Minus c = false
widens Times c = false
widens Over c = false
widens Equals c = false
widens Less c = false
widens Bar c = false

-- the byte would belong to the token if it stood right behind it
abbrev pub takes_in : Lexeme → ℕ → Bool
takes_in end c = false
takes_in (name w) c = is_word c
takes_in (numeral ds n) c = is_digit c
takes_in (keyword k) c = is_word c
takes_in (symbol s) c = widens s c
takes_in (broken r) c = false

-- a token with its places
pub record Piece : Type 0 where
  pub token : Lexeme
  pub start : ℕ
  pub stop : ℕ

-- the text, whose first byte has the place `at`, begins with blanks and then this token, and then comes the rest
pub record Begins (at : ℕ) (text : List ℕ) (p : Piece) (rest : List ℕ) : Type 0 where
  pub blanks : List ℕ
  pub bytes : List ℕ
  pub together : text ≡ blanks ++ (bytes ++ rest)
  pub only_blanks : every is_blank blanks ≡ true
  pub spells : Spells p.token bytes
  pub longest : begins (takes_in p.token) rest ≡ false
  pub from : p.start ≡ at + length blanks
  pub to : p.stop ≡ p.start + length bytes

-- a fault: a byte that begins no token, or a word or a run of digits against its rule
pub record Overlong (text : List ℕ) : Type 0 where
  pub bytes : List ℕ
  pub rest : List ℕ
  pub together : text ≡ bytes ++ rest
  pub word : Word bytes
  pub no_keyword : keyword_of bytes ≡ None
  pub long : 15 < length bytes
  pub longest : begins is_word rest ≡ false

pub record NoNumeral (text : List ℕ) : Type 0 where
  pub bytes : List ℕ
  pub rest : List ℕ
  pub together : text ≡ bytes ++ rest
  pub digit_first : begins is_digit bytes ≡ true
  pub digits : every is_digit bytes ≡ true
  pub no_numeral : numeral_of bytes ≡ None
  pub longest : begins is_digit rest ≡ false

abbrev pub is_stranger : ℕ → Bool
is_stranger c = not (is_word c) && (not (is_blank c) && not (is_symbol c))

abbrev pub Fault : Reason → List ℕ → Type 0
Fault StrayByte text = begins is_stranger text ≡ true
Fault Malformed text = Overlong text ⊎ NoNumeral text
Fault Unexpected text = ⊥
Fault Undeclared text = ⊥
Fault BadDeclaration text = ⊥
Fault TooDeep text = ⊥
Fault NoRoom text = ⊥
Fault TextTooLong text = ⊥
Fault NotACode text = ⊥
Fault Reserved text = ⊥
Fault TooLarge text = ⊥
Fault BankTooSmall text = ⊥
Fault NotAForm text = ⊥
Fault NoSuchVariable text = ⊥
Fault MoreToDo text = ⊥
Fault NoSuchLine text = ⊥
Fault TooShort text = ⊥

-- how a text ends: blanks, or a fault at a place
pub data Ending : Type 0 where
  finished : Ending
  faulty : Reason → ℕ → Ending

pub record Turned (at : ℕ) (text : List ℕ) (r : Reason) (place : ℕ) : Type 0 where
  pub blanks : List ℕ
  pub rest : List ℕ
  pub together : text ≡ blanks ++ rest
  pub only_blanks : every is_blank blanks ≡ true
  pub fault : Fault r rest
  pub from : place ≡ at + length blanks

abbrev pub Ends : ℕ → List ℕ → Ending → Type 0
Ends at text finished = every is_blank text ≡ true
Ends at text (faulty r place) = Turned at text r place

-- the text is made of these tokens, and then ends so
abbrev pub MadeOf : ℕ → List ℕ → List Piece → Ending → Type 0
MadeOf at text [] f = Ends at text f
MadeOf at text (p ∷ ps) f = (rest : List ℕ) × Begins at text p rest × MadeOf p.stop rest ps f

-- a text is made of tokens, or has its first fault, in one way
abbrev pub OneWay : Type 0
OneWay = (at : ℕ) (text : List ℕ) (ps qs : List Piece) (f g : Ending) → MadeOf at text ps f → MadeOf at text qs g → (ps ≡ qs) × (f ≡ g)

-- nothing longer would have been a token
abbrev pub NoneLonger : Type 0
NoneLonger = (l m : Lexeme) (w rest : List ℕ) (k : ℕ) → Spells l w → begins (takes_in l) rest ≡ false → length w < k → k ≤ length (w ++ rest) → Spells m (take k (w ++ rest)) → ⊥

-- the pieces of the code's tokens
abbrev pub piece_of : Lexed → Piece
piece_of x = record { token = view x.token; start = x.start; stop = x.end }

abbrev pub pieces : List Lexed → List Piece
pieces = map piece_of
