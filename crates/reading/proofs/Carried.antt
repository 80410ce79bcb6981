-- What a cursor or a reader has told of the text that it holds, carried to that text under another name.
use Rattle.std.proofs.Common.{◌≡◌, ℕ, ◌≤◌, false, List, [], ◌∷◌, length, sym, ap, ◌∙◌, subst, ap₂, Result, MatchResult}
use Rattle.refusals.specs.declared.Reason.{Reason}
use Rattle.refusals.specs.declared.Refusal.{Refusal}
use Rattle.letters.specs.declared.tokens.Token.{Token}
use Rattle.letters.specs.Tokens.{Lexeme, view, Next, token, is_end, next_at}
use Rattle.letters.specs.Tokens as lex
use Rattle.letters.specs.Texts.{Piece, Ending}
use Rattle.lists.specs.Overlay.{Laid}
use Rattle.reading.specs.declared.reader.Reader.{Reader}
use Rattle.reading.specs.Grammar.{Terminal, numeral, terminal}
use Rattle.reading.specs.Heard.{heard}
use Rattle.reading.specs.Rule.{Expected, a_numeral, onward, step, refused}
use Rattle.reading.specs.Reads.{Ahead, Passed, Fails}
use Rattle.reading.specs.Readers.{Has, Kept}
use Rattle.reading.proofs.Aheads.{Bad, Found, found, fails_fault, fails_token, passes_token}

-- a reader that was kept has the same text and the same names
pub has_kept : (r s : Reader) {text : List ℕ} {names : List (List ℕ)} → Kept r s → Has r text names → Has s text names
has_kept r s k h = (ap (λ t. t.now) k.0 ∙ h.0, ap (λ n. heard n.now) k.1 ∙ h.1)

pub kept_more : (r s t : Reader) → Kept r s → Kept s t → Kept r t
kept_more r s t h k = (k.0 ∙ h.0, k.1 ∙ h.1, k.2 ∙ h.2, k.3 ∙ h.3, k.4 ∙ h.4, k.5 ∙ h.5, k.6 ∙ h.6, k.7 ∙ h.7)

pub next_in : {text' text : List ℕ} {n : Next} (at : ℕ) → text' ≡ text → n ≡ next_at text' at → n ≡ next_at text at
next_in {n = n} at same h = subst (λ t. n ≡ next_at t at) same h

pub short_in : {text' text : List ℕ} {e : ℕ} → text' ≡ text → e ≤ length text' → e ≤ length text
short_in {e = e} same h = subst (λ t. e ≤ length t) same h

module _ {text' text : List ℕ} (same : text' ≡ text) (names : List (List ℕ)) (ps : List Piece) (f : Ending) {at : ℕ} (a : Ahead text at ps f) where
  -- what a part was read as, or why it is refused
  pub passed_in : (X : List Expected) (tokens : List Terminal → List Terminal) {to : ℕ} → (Ahead text' at ps f → Passed text' names X tokens ps f to) → Passed text names X tokens ps f to
  passed_in X tokens {to} h = subst (λ t. Ahead t at ps f → Passed t names X tokens ps f to) same h a

  pub fails_in : (X : List Expected) {e : Refusal} → (Ahead text' at ps f → Fails text' names X ps f e) → Fails text names X ps f e
  fails_in X {e} h = subst (λ t. Ahead t at ps f → Fails t names X ps f e) same h a

  -- what one look finds
  pub fault_in : (X : List Expected) (e : Refusal) → lex.refused e.reason e.place ≡ next_at text' at → Fails text names X ps f e
  fault_in X e h K = fails_fault text at ps f a names e.reason e.place (next_in _ same h) _

  pub found_in : (l : Lexeme) (s e : ℕ) → token l s e ≡ next_at text' at → is_end l ≡ false → e ≤ length text' → Found text l s e ps f
  found_in l s e h more short = found text at ps f l s e a (next_in _ same h) more (short_in same short)

  pub takes_in : (x : Expected) (l : Lexeme) (s e : ℕ) → token l s e ≡ next_at text' at → is_end l ≡ false → e ≤ length text' → ((K : List Expected) → step names (x ∷ K) (terminal l) ≡ onward names K) → Passed text names (x ∷ []) (λ rest. terminal l ∷ rest) ps f e
  takes_in x l s e h more short goes = passes_token text at ps f a names x l s e (next_in _ same h) more (short_in same short) goes

  pub turned_in : (x : Expected) (t : Token) (s e : ℕ) (r : Reason) (q : Refusal) → (q.reason ≡ r) × (q.place ≡ s) → token (view t) s e ≡ next_at text' at → e ≤ length text' → Bad names x (view t) r → Fails text names (x ∷ []) ps f q
  turned_in x t s e r q is h short bad K =
      fails_token text at ps f a names x t s e r (next_in _ same h) (short_in same short) bad K ∙ ap₂ refused (sym is.0) (sym is.1)

  -- the value of a numeral with it
  pub numeral_in : {n to : ℕ} → (Ahead text' at ps f → Passed text' names (a_numeral ∷ []) (λ rest. numeral n ∷ rest) ps f to × (n ≤ 2147483647)) → Passed text names (a_numeral ∷ []) (λ rest. numeral n ∷ rest) ps f to × (n ≤ 2147483647)
  numeral_in {n} {to} h = subst (λ t. Ahead t at ps f → Passed t names (a_numeral ∷ []) (λ rest. numeral n ∷ rest) ps f to × (n ≤ 2147483647)) same h a

  -- and what the last of several parts was read as
  pub taken_in : {A : Type 0} (r : Result A Refusal) (X : List Expected) (tokens : List Terminal → List Terminal) (to : ℕ) → (Ahead text' at ps f → MatchResult r (λ _. Passed text' names X tokens ps f to) (λ e. Fails text' names X ps f e)) → MatchResult r (λ _. Passed text names X tokens ps f to) (λ e. Fails text names X ps f e)
  taken_in r X tokens to h = subst (λ t. Ahead t at ps f → MatchResult r (λ _. Passed t names X tokens ps f to) (λ e. Fails t names X ps f e)) same h a

-- a row that is laid behind rows that were not touched
pub laid_behind : {A : Type 0} {xs xs' ys us : List A} {i i' j : ℕ} → xs' ≡ xs → i' ≡ i → Laid xs' i' us ys j → Laid xs i us ys j
laid_behind {xs = xs} {ys = ys} {us = us} {i' = i'} {j = j} e k l = subst (λ n. Laid xs n us ys j) k (subst (λ x. Laid x i' us ys j) e l)
