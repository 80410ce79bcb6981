-- What one look at a text gives, from a place on.
use Rattle.std.proofs.Common.{◌≡◌, ℕ, ◌+◌, ◌<◌, ◌≤◌, min, true, List, [], ◌++◌, length, take, drop, sym, refl, ap, ◌∙◌, subst, ⊎_elim, append-nil, arith, length-drop, take-append-drop, length-take, drop-drop}
use Rattle.std.specs.List.{prefix_len}
use Rattle.std.proofs.lemmas.List.Sums.{prefix_len-le-length}
use Rattle.std.proofs.lemmas.List.{drop_all}
use Rattle.std.proofs.lemmas.Bool.{true≢false, cases_lt}
use Rattle.refusals.specs.declared.Reason.{Reason}
use Rattle.letters.specs.declared.tokens.Token.{Token}
use Rattle.letters.specs.declared.tokens.Token.TheVariants as case
use Rattle.letters.specs.Classes.{is_blank, every}
use Rattle.letters.specs.Tokens.{Lexeme, end, name, numeral, keyword, symbol, broken, lexeme, Next, token, refused, placed, start_of, next_from, next_at, Inside, view}
use Rattle.letters.specs.Texts.{Fault, Begins, Turned}
use Rattle.letters.proofs.Parts.{Fits, Parts, Cut, cut, short}
use Rattle.letters.proofs.Spans.{span_every, span_stops}
use Rattle.letters.proofs.Unique.{bare, summary, behind, fault_some}

-- the first token from a place on is the first one of the rest
look_from : (text : List ℕ) (at s : ℕ) → next_from text (at + s) ≡ placed (lexeme (drop s (drop at text))).0 (at + s) (lexeme (drop s (drop at text))).1
look_from text at s = let P : List ℕ → Next = λ x. placed (lexeme x).0 (at + s) (lexeme x).1 in ap P (sym (drop-drop s at text))

pub look_rest : (text : List ℕ) (at : ℕ) → at ≤ length text → next_at text at ≡ summary at (drop at text)
look_rest text at h =
    let s = prefix_len is_blank (drop at text) in
    let e : start_of text at ≡ at + s = omega arith in
    ap (next_from text) e ∙ look_from text at s

-- a text and what it begins with
pub bare_cut : (text : List ℕ) → Cut (bare text) (lexeme (bare text))
bare_cut text = cut (bare text) (span_stops is_blank text)

together : (text : List ℕ) → text ≡ take (prefix_len is_blank text) text ++ (take (lexeme (bare text)).1 (bare text) ++ behind text)
together text =
    sym (take-append-drop (prefix_len is_blank text) text)
    ∙ ap (λ x. take (prefix_len is_blank text) text ++ x) (sym (take-append-drop (lexeme (bare text)).1 (bare text)))

blanks_long : (text : List ℕ) → length (take (prefix_len is_blank text) text) ≡ prefix_len is_blank text
blanks_long text = length-take (prefix_len is_blank text) text ∙ omega (arith, prefix_len-le-length is_blank text)

-- what a look says of the text
abbrev pub Look : ℕ → List ℕ → Next → Type 0
Look at text (token end s e) = every is_blank text ≡ true
Look at text (token (name v) s e) = Begins at text (record { token = name v; start = s; stop = e }) (behind text)
Look at text (token (numeral ds n) s e) = Begins at text (record { token = numeral ds n; start = s; stop = e }) (behind text)
Look at text (token (keyword k) s e) = Begins at text (record { token = keyword k; start = s; stop = e }) (behind text)
Look at text (token (symbol x) s e) = Begins at text (record { token = symbol x; start = s; stop = e }) (behind text)
Look at text (token (broken r) s e) = ⊥
Look at text (refused r place) = Turned at text r place

module _ (at : ℕ) (text : List ℕ) where
  begins_with : (l : Lexeme) → Fits l (take (lexeme (bare text)).1 (bare text)) (behind text) →
      Begins at text (record { token = l; start = at + prefix_len is_blank text; stop = at + prefix_len is_blank text + (lexeme (bare text)).1 }) (behind text)
  begins_with l f = record {
    blanks = take (prefix_len is_blank text) text;
    bytes = take (lexeme (bare text)).1 (bare text);
    together = together text;
    only_blanks = span_every is_blank text;
    spells = f.spells;
    longest = f.longest;
    from = ap (λ n. at + n) (sym (blanks_long text));
    to = ap (λ n. at + prefix_len is_blank text + n) (sym (length-take (lexeme (bare text)).1 (bare text) ∙ omega (arith, short (bare text))));
  }

  ends_with : take (lexeme (bare text)).1 (bare text) ++ behind text ≡ [] → every is_blank text ≡ true
  ends_with e =
      let none : bare text ≡ [] = sym (take-append-drop (lexeme (bare text)).1 (bare text)) ∙ e in
      let all : take (prefix_len is_blank text) text ≡ text = sym (append-nil (take (prefix_len is_blank text) text)) ∙ ap (λ x. take (prefix_len is_blank text) text ++ x) (sym none) ∙ take-append-drop (prefix_len is_blank text) text in
      ap (every is_blank) (sym all) ∙ span_every is_blank text

  turns_with : (r : Reason) → Fault r (take (lexeme (bare text)).1 (bare text) ++ behind text) → Turned at text r (at + prefix_len is_blank text)
  turns_with r f = record {
    blanks = take (prefix_len is_blank text) text;
    rest = bare text;
    together = sym (take-append-drop (prefix_len is_blank text) text);
    only_blanks = span_every is_blank text;
    fault = subst (Fault r) (take-append-drop (lexeme (bare text)).1 (bare text)) f;
    from = ap (λ n. at + n) (sym (blanks_long text));
  }

  by_parts : (l : Lexeme) → Parts l (take (lexeme (bare text)).1 (bare text)) (behind text) → Look at text (placed l (at + prefix_len is_blank text) (lexeme (bare text)).1)
  by_parts end p = ends_with p
  by_parts (name v) p = begins_with (name v) p
  by_parts (numeral ds n) p = begins_with (numeral ds n) p
  by_parts (keyword k) p = begins_with (keyword k) p
  by_parts (symbol s) p = begins_with (symbol s) p
  by_parts (broken r) p = turns_with r p

  pub look : Look at text (summary at text)
  look = by_parts (lexeme (bare text)).0 (bare_cut text)

-- where it lies
module _ (full : List ℕ) (at : ℕ) (h : at ≤ length full) where
  text : List ℕ
  text = drop at full

  start_within : at + prefix_len is_blank text + length (bare text) ≡ length full
  unfolding text
  start_within = omega (arith, prefix_len-le-length is_blank text, length-drop (prefix_len is_blank text) text, length-drop at full)

  inside_token : (l : Lexeme) → Fits l (take (lexeme (bare text)).1 (bare text)) (behind text) → Inside full at (token l (at + prefix_len is_blank text) (at + prefix_len is_blank text + (lexeme (bare text)).1))
  inside_token l f =
      (omega arith, omega arith, omega (arith, start_within, short (bare text)), λ _. omega (arith, f.some, length-take (lexeme (bare text)).1 (bare text)))

  inside_parts : (l : Lexeme) → Parts l (take (lexeme (bare text)).1 (bare text)) (behind text) → Inside full at (placed l (at + prefix_len is_blank text) (lexeme (bare text)).1)
  inside_parts end p = (omega arith, omega arith, omega (arith, start_within, short (bare text)), λ e. absurd (true≢false e))
  inside_parts (name v) p = inside_token (name v) p
  inside_parts (numeral ds n) p = inside_token (numeral ds n) p
  inside_parts (keyword k) p = inside_token (keyword k) p
  inside_parts (symbol s) p = inside_token (symbol s) p
  inside_parts (broken r) p =
      (omega arith, omega (arith, start_within, fault_some r (bare text) (subst (Fault r) (take-append-drop (lexeme (bare text)).1 (bare text)) p)))

  inside-summary : Inside full at (summary at text)
  inside-summary = inside_parts (lexeme (bare text)).0 (bare_cut text)

  pub inside_look : Inside full at (next_at full at)
  unfolding text
  inside_look = subst (Inside full at) (sym (look_rest full at h)) inside-summary

-- a place behind the text counts as its end
drop_clamped : (text : List ℕ) (at : ℕ) → drop at text ≡ drop (min at (length text)) text
drop_clamped text at =
    ⊎_elim
    (λ (lt : at < length text). ap (λ n. drop n text) (omega arith))
    (λ (le : length text ≤ at). drop_all at text le ∙ sym (drop_all (min at (length text)) text (omega arith)))
    (cases_lt at (length text))

pub look_clamped : (text : List ℕ) (at : ℕ) → next_at text at ≡ next_at text (min at (length text))
look_clamped text at =
    let e : prefix_len is_blank (drop at text) ≡ prefix_len is_blank (drop (min at (length text)) text) = ap (prefix_len is_blank) (drop_clamped text at) in
    ap (next_from text) (omega arith)

inside_clamped : (text : List ℕ) (at : ℕ) (n : Next) → Inside text (min at (length text)) n → Inside text at n
inside_clamped text at (token l s e) h = (omega arith, h.1, h.2, h.3)
inside_clamped text at (refused r p) h = (omega arith, h.1)

pub inside : (text : List ℕ) (at : ℕ) → Inside text at (next_at text at)
inside text at = inside_clamped text at (next_at text at) (subst (Inside text (min at (length text))) (sym (look_clamped text at)) (inside_look text (min at (length text)) (omega arith)))

-- what the code has found
placed-view : (t : Token) (s n : ℕ) → placed (view t) s n ≡ token (view t) s (s + n)
placed-view case.End s n = refl
placed-view (case.Name r) s n = refl
placed-view (case.Numeral r v) s n = refl
placed-view (case.Keyword k) s n = refl
placed-view (case.Symbol x) s n = refl

module _ (full : List ℕ) (at from start : ℕ) (clamps : from ≡ min at (length full)) (starts : start ≡ from + prefix_len is_blank (drop from full)) where
  starts_at : next_at full at ≡ next_from full start
  starts_at =
      let e : start_of full from ≡ start = omega arith in
      look_clamped full at ∙ ap (next_at full) (sym clamps) ∙ ap (next_from full) e

  pub gives_token : (t : Token) (stop : ℕ) → (lexeme (drop start full)).0 ≡ view t → stop ≡ start + (lexeme (drop start full)).1 → token (view t) start stop ≡ next_at full at
  gives_token t stop e b =
      sym (starts_at ∙ ap (λ l. placed l start (lexeme (drop start full)).1) e ∙ placed-view t start (lexeme (drop start full)).1 ∙ ap (token (view t) start) (sym b))

  pub gives_refusal : (r : Reason) → (lexeme (drop start full)).0 ≡ broken r → refused r start ≡ next_at full at
  gives_refusal r e = sym (starts_at ∙ ap (λ l. placed l start (lexeme (drop start full)).1) e)
