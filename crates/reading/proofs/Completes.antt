-- Tokens that are not refused can be completed to a script.
use Rattle.std.proofs.Common.{◌≡◌, ℕ, zero, suc, Bool, true, false, cond, ◌||◌, eqb, leb, ◌⊎◌, List, [], ◌∷◌, ◌++◌, length, is_some, Some, sym, refl, ap, subst, inl, inr, eq-eqb}
use Rattle.refusals.specs.declared.Reason.{Reason}
use Rattle.letters.specs.declared.keywords.Keyword.{Keyword}
use Rattle.letters.specs.declared.keywords.Keyword.TheVariants as word
use Rattle.letters.specs.declared.symbols.Symbol.{Symbol}
use Rattle.letters.specs.declared.symbols.Symbol.TheVariants as mark
use Rattle.letters.specs.Keywords.{keyword_of, keyword_bytes}
use Rattle.letters.specs.Symbols.{symbol_bytes}
use Rattle.letters.specs.Tokens as lex
use Rattle.letters.specs.Texts.{Piece, Ending, finished}
use Rattle.syntax.specs.Names.{among}
use Rattle.reading.specs.Grammar.{Terminal, name, numeral, keyword, symbol, nothing, terminal}
use Rattle.reading.specs.Rule.{Expected, declarations, new_name, statements, expression, assigned, operator, a_numeral, the_keyword, the_symbol, Verdict, onward, turned, step, deeper, judge, accepted, refused, resolve, whole, keyword_number, symbol_number, terminal_operator}
use Rattle.reading.specs.Scripts.{AreTokens, Completable, FrontsComplete}

-- what may stand behind a list of statements
abbrev closes : List Expected → Type 0
closes [] = Unit {0}
closes (declarations ∷ K) = ⊥
closes (new_name ∷ K) = ⊥
closes (statements room ∷ K) = ⊥
closes (expression room ∷ K) = ⊥
closes (assigned ∷ K) = ⊥
closes (operator ∷ K) = ⊥
closes (a_numeral ∷ K) = ⊥
closes (the_keyword k ∷ K) = (k ≡ word.Else) ⊎ (k ≡ word.End)
closes (the_symbol s ∷ K) = ⊥

-- what can be expected, but for a new name
abbrev stands : List Expected → Type 0
stands [] = Unit {0}
stands (declarations ∷ K) = K ≡ (statements 20 ∷ [])
stands (new_name ∷ K) = ⊥
stands (statements room ∷ K) = closes K × stands K
stands (expression room ∷ K) = stands K
stands (assigned ∷ K) = stands K
stands (operator ∷ K) = stands K
stands (a_numeral ∷ K) = stands K
stands (the_keyword k ∷ K) = stands K
stands (the_symbol s ∷ K) = stands K

abbrev Stands : List Expected → Type 0
Stands K = stands K ⊎ ((K' : List Expected) × (K ≡ new_name ∷ K') × stands K')

abbrev Fine : Verdict → Type 0
Fine (onward names K) = Stands K
Fine (turned r) = Unit {0}

fine_cond : (b : Bool) (v w : Verdict) → Fine v → Fine w → Fine (cond b v w)
fine_cond true v w x y = x
fine_cond false v w x y = y

fine_deeper : (room : ℕ) (f : ℕ → Verdict) → ((n : ℕ) → Fine (f n)) → Fine (deeper room f)
fine_deeper zero f h = tt
fine_deeper (suc n) f h = h n

module _ (names : List (List ℕ)) where
  fine_expression : (K : List Expected) → stands K → (room : ℕ) (t : Terminal) → Fine (step names (expression room ∷ K) t)
  fine_expression K s room (name w) = fine_cond (among w names) _ _ (inl s) tt
  fine_expression K s room (numeral n) = inl s
  fine_expression K s room (keyword k) = tt
  fine_expression K s room (symbol m) = fine_cond (eqb (symbol_number m) 3) _ _ (fine_deeper room _ (λ n. inl s)) tt
  fine_expression K s room nothing = tt

  fine_assigned : (K : List Expected) → stands K → (t : Terminal) → Fine (step names (assigned ∷ K) t)
  fine_assigned K s (name w) = fine_expression K s 20 (name w)
  fine_assigned K s (numeral n) = inl s
  fine_assigned K s (keyword k) = fine_cond (eqb (keyword_number k) 10) _ _ (inl s) tt
  fine_assigned K s (symbol m) = fine_expression K s 20 (symbol m)
  fine_assigned K s nothing = tt

  fine_new : (K : List Expected) → stands K → (t : Terminal) → Fine (step names (new_name ∷ K) t)
  fine_new K s (name w) = fine_cond (among w names || leb 256 (length names)) _ _ tt (inl s)
  fine_new K s (numeral n) = tt
  fine_new K s (keyword k) = tt
  fine_new K s (symbol m) = tt
  fine_new K s nothing = tt

  fine_numeral : (K : List Expected) → stands K → (t : Terminal) → Fine (step names (a_numeral ∷ K) t)
  fine_numeral K s (name w) = tt
  fine_numeral K s (numeral n) = inl s
  fine_numeral K s (keyword k) = tt
  fine_numeral K s (symbol m) = tt
  fine_numeral K s nothing = tt

  fine_keyword : (K : List Expected) → stands K → (l : Keyword) (t : Terminal) → Fine (step names (the_keyword l ∷ K) t)
  fine_keyword K s l (name w) = tt
  fine_keyword K s l (numeral n) = tt
  fine_keyword K s l (keyword k) = fine_cond (eqb (keyword_number k) (keyword_number l)) _ _ (inl s) tt
  fine_keyword K s l (symbol m) = tt
  fine_keyword K s l nothing = tt

  fine_symbol : (K : List Expected) → stands K → (l : Symbol) (t : Terminal) → Fine (step names (the_symbol l ∷ K) t)
  fine_symbol K s l (name w) = tt
  fine_symbol K s l (numeral n) = tt
  fine_symbol K s l (keyword k) = tt
  fine_symbol K s l (symbol m) = fine_cond (eqb (symbol_number m) (symbol_number l)) _ _ (inl s) tt
  fine_symbol K s l nothing = tt

  fine_statements : (K : List Expected) → closes K → stands K → (room : ℕ) (t : Terminal) → Fine (step names K t) → Fine (step names (statements room ∷ K) t)
  fine_statements K c s room (name w) h = fine_cond (among w names) _ _ (inl (c, s)) tt
  fine_statements K c s room (numeral n) h = h
  fine_statements K c s room (keyword word.Var) h = h
  fine_statements K c s room (keyword word.Skip) h = inl (c, s)
  fine_statements K c s room (keyword word.If) h = fine_deeper room _ (λ n. inl (inl refl, (inr refl, (c, s))))
  fine_statements K c s room (keyword word.Then) h = h
  fine_statements K c s room (keyword word.Else) h = h
  fine_statements K c s room (keyword word.End) h = h
  fine_statements K c s room (keyword word.While) h = fine_deeper room _ (λ n. inl (inr refl, (c, s)))
  fine_statements K c s room (keyword word.Do) h = h
  fine_statements K c s room (keyword word.Write) h = inl (c, s)
  fine_statements K c s room (keyword word.Stop) h = inl (c, s)
  fine_statements K c s room (keyword word.Declassify) h = h
  fine_statements K c s room (keyword word.Max) h = h
  fine_statements K c s room (symbol m) h = h
  fine_statements K c s room nothing h = h

  fine_declarations : (K : List Expected) → K ≡ (statements 20 ∷ []) → (t : Terminal) → Fine (step names K t) → Fine (step names (declarations ∷ K) t)
  fine_declarations K e (name w) h = h
  fine_declarations K e (numeral n) h = h
  fine_declarations K e (keyword k) h =
      fine_cond (eqb (keyword_number k) 0) _ _ (inr (the_symbol mark.Colon ∷ a_numeral ∷ the_symbol mark.Semicolon ∷ declarations ∷ K, refl, e)) h
  fine_declarations K e (symbol m) h = h
  fine_declarations K e nothing h = h

  fine_step : (K : List Expected) → stands K → (t : Terminal) → Fine (step names K t)
  fine_step [] s t = tt
  fine_step (declarations ∷ K) s t = fine_declarations K s t (fine_step K (subst stands (sym s) (tt, tt)) t)
  fine_step (new_name ∷ K) s t = absurd s
  fine_step (statements room ∷ K) s t = fine_statements K s.0 s.1 room t (fine_step K s.1 t)
  fine_step (expression room ∷ K) s t = fine_expression K s room t
  fine_step (assigned ∷ K) s t = fine_assigned K s t
  fine_step (operator ∷ K) s t = fine_cond (is_some (terminal_operator t)) _ _ (inl s) tt
  fine_step (a_numeral ∷ K) s t = fine_numeral K s t
  fine_step (the_keyword l ∷ K) s t = fine_keyword K s l t
  fine_step (the_symbol l ∷ K) s t = fine_symbol K s l t

  fine_next : (K : List Expected) → Stands K → (t : Terminal) → Fine (step names K t)
  fine_next K (inl s) t = fine_step K s t
  fine_next K (inr (K', e, s)) t = subst (λ x. Fine (step names x t)) (sym e) (fine_new K' s t)

-- the tokens that complete it: `0` for an expression, `+` for an operator, and nothing for a list
abbrev given : lex.Lexeme → Piece
given t = record { token = t; start = 0; stop = 0 }

abbrev zero_digit : Piece
zero_digit = given (lex.numeral (48 ∷ []) 0)

abbrev fill : List Expected → List Piece
fill [] = []
fill (declarations ∷ K) = fill K
fill (new_name ∷ K) = fill K
fill (statements room ∷ K) = fill K
fill (expression room ∷ K) = zero_digit ∷ fill K
fill (assigned ∷ K) = zero_digit ∷ fill K
fill (operator ∷ K) = given (lex.symbol mark.Plus) ∷ fill K
fill (a_numeral ∷ K) = zero_digit ∷ fill K
fill (the_keyword k ∷ K) = given (lex.keyword k) ∷ fill K
fill (the_symbol s ∷ K) = given (lex.symbol s) ∷ fill K

keyword_spelled : (k : Keyword) → keyword_of (keyword_bytes k) ≡ Some k
keyword_spelled word.Var = refl
keyword_spelled word.Skip = refl
keyword_spelled word.If = refl
keyword_spelled word.Then = refl
keyword_spelled word.Else = refl
keyword_spelled word.End = refl
keyword_spelled word.While = refl
keyword_spelled word.Do = refl
keyword_spelled word.Write = refl
keyword_spelled word.Stop = refl
keyword_spelled word.Declassify = refl
keyword_spelled word.Max = refl

fill-tokens : (K : List Expected) → AreTokens (fill K)
fill-tokens [] = tt
fill-tokens (declarations ∷ K) = fill-tokens K
fill-tokens (new_name ∷ K) = fill-tokens K
fill-tokens (statements room ∷ K) = fill-tokens K
fill-tokens (expression room ∷ K) = ((48 ∷ [], (refl, refl)), fill-tokens K)
fill-tokens (assigned ∷ K) = ((48 ∷ [], (refl, refl)), fill-tokens K)
fill-tokens (operator ∷ K) = ((symbol_bytes mark.Plus, refl), fill-tokens K)
fill-tokens (a_numeral ∷ K) = ((48 ∷ [], (refl, refl)), fill-tokens K)
fill-tokens (the_keyword k ∷ K) = ((keyword_bytes k, keyword_spelled k), fill-tokens K)
fill-tokens (the_symbol s ∷ K) = ((symbol_bytes s, refl), fill-tokens K)

module _ (long : ℕ) (names : List (List ℕ)) where
  abbrev Filled : List Expected → List Expected → Type 0
  Filled K L = judge long (fill K) finished names L ≡ accepted

  behind_list : (room : ℕ) (K : List Expected) → closes K → Filled K K → Filled K (statements room ∷ K)
  behind_list room [] c h = refl
  behind_list room (declarations ∷ K) c h = absurd c
  behind_list room (new_name ∷ K) c h = absurd c
  behind_list room (statements r ∷ K) c h = absurd c
  behind_list room (expression r ∷ K) c h = absurd c
  behind_list room (assigned ∷ K) c h = absurd c
  behind_list room (operator ∷ K) c h = absurd c
  behind_list room (a_numeral ∷ K) c h = absurd c
  behind_list room (the_keyword k ∷ K) (inl e) h =
      subst (λ x. Filled (the_keyword x ∷ K) (the_keyword x ∷ K) → Filled (the_keyword x ∷ K) (statements room ∷ the_keyword x ∷ K)) (sym e) (λ g. g) h
  behind_list room (the_keyword k ∷ K) (inr e) h =
      subst (λ x. Filled (the_keyword x ∷ K) (the_keyword x ∷ K) → Filled (the_keyword x ∷ K) (statements room ∷ the_keyword x ∷ K)) (sym e) (λ g. g) h
  behind_list room (the_symbol s ∷ K) c h = absurd c

  filled : (K : List Expected) → stands K → Filled K K
  filled [] s = refl
  filled (declarations ∷ K) s = subst (λ x. Filled x (declarations ∷ x)) (sym s) refl
  filled (new_name ∷ K) s = absurd s
  filled (statements room ∷ K) s = behind_list room K s.0 (filled K s.1)
  filled (expression room ∷ K) s = filled K s
  filled (assigned ∷ K) s = filled K s
  filled (operator ∷ K) s = filled K s
  filled (a_numeral ∷ K) s = filled K s
  filled (the_keyword k ∷ K) s = rw (eq-eqb (keyword_number k) (keyword_number k) refl) (filled K s)
  filled (the_symbol m ∷ K) s = rw (eq-eqb (symbol_number m) (symbol_number m) refl) (filled K s)

module _ (long : ℕ) (p : Piece) (front : List Piece) where
  by_verdict : (v : Verdict) → Fine v → ((names : List (List ℕ)) (K : List Expected) → Stands K → Completable long front names K) →
      ((r : Reason) × (place : ℕ) × ((rest : List Piece) (f : Ending) → resolve v p.start (judge long (front ++ rest) f) ≡ refused r place))
      ⊎ (((names : List (List ℕ)) × (K : List Expected) × ((rest : List Piece) (f : Ending) → resolve v p.start (judge long (front ++ rest) f) ≡ judge long rest f names (new_name ∷ K)))
      ⊎ ((rest : List Piece) × AreTokens rest × (resolve v p.start (judge long (front ++ rest) finished) ≡ accepted)))
  by_verdict (onward names K) s more = more names K s
  by_verdict (turned r) s more = inl (r, p.start, λ rest f. refl)

complete : (long : ℕ) (front : List Piece) (names : List (List ℕ)) (K : List Expected) → Stands K → Completable long front names K
complete long [] names K (inl s) = inr (inr (fill K, fill-tokens K, filled long names K s))
complete long [] names K (inr (K', e, s)) = inr (inl (names, K', λ rest f. ap (judge long rest f names) e))
complete long (p ∷ ps) names K s = by_verdict long p ps (step names K (terminal p.token)) (fine_next names K s (terminal p.token)) (complete long ps)

pub fronts_complete : FrontsComplete
fronts_complete long front = complete long front [] whole (inl refl)
