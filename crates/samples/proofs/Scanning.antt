-- The tokens of a text, computed from left to right, and that the text is made of them. So a text is shown to be the text of a script, or to be
-- refused, by computing its tokens.
use Rattle.std.proofs.Common.{◌≡◌, ℕ, zero, suc, ◌<◌, ◌≤◌, T, leb, List, [], ◌∷◌, length, refl, ap, ◌∙◌, subst, ap₂, arith, lit≤, length-append}
use Rattle.refusals.specs.declared.Refusal.{Refusal}
use Rattle.letters.specs.Tokens.{Lexeme, end, name, numeral, keyword, symbol, broken, Next, token, refused}
use Rattle.letters.specs.Texts.{Piece, Begins, Ending, finished, faulty, MadeOf}
use Rattle.letters.proofs.Unique.{behind, summary, spelled_some, one_way}
use Rattle.letters.proofs.Looks.{Look, look}
use Rattle.syntax.specs.Scripts.{Script, WellFormed}
use Rattle.reading.specs.Grammar.{terminals, script_tokens, TextOf}
use Rattle.reading.specs.Rule as rule
use Rattle.reading.specs.Scripts.{Judged}

abbrev pub piece : Lexeme → ℕ → ℕ → Piece
piece l s e = record { token = l; start = s; stop = e }

-- what was seen first, and then what is told of the rest
module _ {A : Type 0} (one : Piece → A → A) (stops : Ending → A) (more : ℕ → List ℕ → A) (text : List ℕ) where
  abbrev pub onward : Next → A
  onward (token end s e) = stops finished
  onward (token (name v) s e) = one (piece (name v) s e) (more e (behind text))
  onward (token (numeral ds n) s e) = one (piece (numeral ds n) s e) (more e (behind text))
  onward (token (keyword k) s e) = one (piece (keyword k) s e) (more e (behind text))
  onward (token (symbol x) s e) = one (piece (symbol x) s e) (more e (behind text))
  onward (token (broken r) s e) = stops finished
  onward (refused r place) = stops (faulty r place)

-- the tokens of a text of at most n bytes, and how it ends
abbrev pub tokens_by : ℕ → ℕ → List ℕ → List Piece
tokens_by zero at text = []
tokens_by (suc n) at text = onward (λ p ps. p ∷ ps) (λ f. []) (tokens_by n) text (summary at text)

abbrev pub ending_by : ℕ → ℕ → List ℕ → Ending
ending_by zero at text = finished
ending_by (suc n) at text = onward (λ p f. f) (λ f. f) (ending_by n) text (summary at text)

shorter : (at : ℕ) (text : List ℕ) (p : Piece) (rest : List ℕ) → Begins at text p rest → length rest < length text
shorter at text p rest b = omega (arith, spelled_some p.token b.bytes b.spells, simp length-append at (ap length b.together))

made_by : (n at : ℕ) (text : List ℕ) → length text ≤ suc n → ((at : ℕ) (text : List ℕ) → length text ≤ n → MadeOf at text (tokens_by n at text) (ending_by n at text)) →
    (x : Next) → Look at text x → MadeOf at text (onward (λ p ps. p ∷ ps) (λ f. []) (tokens_by n) text x) (onward (λ p f. f) (λ f. f) (ending_by n) text x)
made_by n at text h less (token end s e) l = l
made_by n at text h less (token (name v) s e) l = (behind text, l, less e (behind text) (omega (arith, shorter at text (piece (name v) s e) (behind text) l)))
made_by n at text h less (token (numeral ds m) s e) l = (behind text, l, less e (behind text) (omega (arith, shorter at text (piece (numeral ds m) s e) (behind text) l)))
made_by n at text h less (token (keyword k) s e) l = (behind text, l, less e (behind text) (omega (arith, shorter at text (piece (keyword k) s e) (behind text) l)))
made_by n at text h less (token (symbol x) s e) l = (behind text, l, less e (behind text) (omega (arith, shorter at text (piece (symbol x) s e) (behind text) l)))
made_by n at text h less (token (broken r) s e) l = absurd l
made_by n at text h less (refused r place) l = l

made_within : (n at : ℕ) (text : List ℕ) → length text ≤ n → MadeOf at text (tokens_by n at text) (ending_by n at text)
made_within zero at [] h = refl
made_within zero at (c ∷ cs) h = absurd (omega arith)
made_within (suc n) at text h = made_by n at text h (made_within n) (summary at text) (look at text)

abbrev pub tokens : List ℕ → List Piece
tokens text = tokens_by (length text) 0 text

abbrev pub ending : List ℕ → Ending
ending text = ending_by (length text) 0 text

made : (text : List ℕ) → MadeOf 0 text (tokens text) (ending text)
made text = made_within (length text) 0 text (omega arith)

pub text_of : {text : List ℕ} {s : Script} → T (leb (length text) 1048576) → ending text ≡ finished → terminals (tokens text) ≡ script_tokens s → WellFormed s → TextOf text s
text_of {text} {s} short ends same well = record {
  short = lit≤ short;
  pieces = tokens text;
  made = subst (MadeOf 0 text (tokens text)) ends (made text);
  tokens = same;
  well_formed = well;
}

-- the rule judges the tokens of a text, which are its only ones
pub judged : (text : List ℕ) (e : Refusal) → rule.judge (length text) (tokens text) (ending text) [] rule.whole ≡ rule.refused e.reason e.place → Judged text e
judged text e j ps f m =
    let same = one_way 0 text ps (tokens text) f (ending text) m (made text) in
    ap₂ (λ qs g. rule.judge (length text) qs g [] rule.whole) same.0 same.1 ∙ j
