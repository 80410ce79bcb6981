-- The symbols: the one that a byte alone is, and how each is written. `:=` is the only one of two bytes.
use Rattle.std.specs.Prelude.{ℕ, cond, List, Some, None, codes, Option, ◌==◌}
use Rattle.letters.specs.declared.symbols.Symbol.{Symbol}
use Rattle.letters.specs.declared.symbols.Symbol.TheVariants.{Assign, Colon, Semicolon, Open, Close, Plus, Minus, Times, Over, Equals, Less, Bar}

-- the symbol that a byte alone is: : ; ( ) + - * / = < |
abbrev pub symbol_of : ℕ → Option Symbol
symbol_of c =
    cond (c == 58) (Some Colon) (cond (c == 59) (Some Semicolon) (cond (c == 40) (Some Open) (cond (c == 41) (Some Close)
    (cond (c == 43) (Some Plus) (cond (c == 45) (Some Minus) (cond (c == 42) (Some Times) (cond (c == 47) (Some Over)
    (cond (c == 61) (Some Equals) (cond (c == 60) (Some Less) (cond (c == 124) (Some Bar) None))))))))))

-- how a symbol is written
abbrev pub symbol_bytes : Symbol → List ℕ
symbol_bytes Assign = codes ":="
symbol_bytes Colon = codes ":"
symbol_bytes Semicolon = codes ";"
symbol_bytes Open = codes "("
symbol_bytes Close = codes ")"
symbol_bytes Plus = codes "+"
symbol_bytes Minus = codes "-"
symbol_bytes Times = codes "*"
symbol_bytes Over = codes "/"
symbol_bytes Equals = codes "="
symbol_bytes Less = codes "<"
symbol_bytes Bar = codes "|"
