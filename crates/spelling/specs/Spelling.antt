-- The spelling of a script: its text in the standard layout.
--
-- Each token is followed by one separator: a line feed behind `;`, `then`, `else` and `do`, and a space behind any other token. A name is
-- written as its bytes, a numeral in decimal digits, a keyword and a symbol as the language has them. `ReadsBack` says that the spelling
-- of a script is a text of that script.
--
-- Example: the script that declares `p` of level 0 and writes `p` to level 0 is spelled in two lines, `var p : 0 ;` and `write 0 p ;`, each
-- with a line feed behind it.
use Rattle.std.specs.Prelude.{ℕ, ◌≤◌, List, [], ◌∷◌, ◌++◌, length, decimal}
use Rattle.letters.specs.declared.keywords.Keyword.{Keyword}
use Rattle.letters.specs.declared.keywords.Keyword.TheVariants as word
use Rattle.letters.specs.declared.symbols.Symbol.{Symbol}
use Rattle.letters.specs.declared.symbols.Symbol.TheVariants as mark
use Rattle.letters.specs.Keywords.{keyword_bytes}
use Rattle.letters.specs.Symbols.{symbol_bytes}
use Rattle.syntax.specs.Scripts.{Script, WellFormed}
use Rattle.reading.specs.Grammar.{Terminal, name, numeral, keyword, symbol, nothing, script_tokens, TextOf}

-- how a token is written
abbrev pub terminal_bytes : Terminal → List ℕ
terminal_bytes (name w) = w
terminal_bytes (numeral n) = decimal n
terminal_bytes (keyword k) = keyword_bytes k
terminal_bytes (symbol s) = symbol_bytes s
terminal_bytes nothing = []

-- what stands behind it: a line feed, byte 10, behind `then`, `else`, `do` and `;`, and else a space, byte 32
abbrev pub keyword_separator : Keyword → ℕ
keyword_separator word.Var = 32
keyword_separator word.Skip = 32
keyword_separator word.If = 32
keyword_separator word.Then = 10
keyword_separator word.Else = 10
keyword_separator word.End = 32
keyword_separator word.While = 32
keyword_separator word.Do = 10
keyword_separator word.Write = 32
keyword_separator word.Stop = 32
keyword_separator word.Declassify = 32
keyword_separator word.Max = 32

abbrev pub symbol_separator : Symbol → ℕ
symbol_separator mark.Assign = 32
symbol_separator mark.Colon = 32
symbol_separator mark.Semicolon = 10
symbol_separator mark.Open = 32
symbol_separator mark.Close = 32
symbol_separator mark.Plus = 32
symbol_separator mark.Minus = 32
symbol_separator mark.Times = 32
symbol_separator mark.Over = 32
symbol_separator mark.Equals = 32
symbol_separator mark.Less = 32
symbol_separator mark.Bar = 32

abbrev pub separator : Terminal → ℕ
separator (name w) = 32
separator (numeral n) = 32
separator (keyword k) = keyword_separator k
separator (symbol s) = symbol_separator s
separator nothing = 32

-- tokens, each with its separator
abbrev pub layout : List Terminal → List ℕ
layout [] = []
layout (t ∷ ts) = terminal_bytes t ++ (separator t ∷ layout ts)

abbrev pub spelling : Script → List ℕ
spelling s = layout (script_tokens s)

-- a well-formed script, if its spelling is not too long for a text, is what the spelling is the text of
abbrev pub ReadsBack : Type 0
ReadsBack = (s : Script) → WellFormed s → length (spelling s) ≤ 1048576 → TextOf (spelling s) s
