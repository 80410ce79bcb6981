-- What one look at the text says of the tokens ahead, and what the left-to-right rule makes of it.
use Rattle.std.proofs.Common.{◌≡◌, ℕ, ◌+◌, ◌≤◌, true, false, List, [], ◌∷◌, length, drop, sym, refl, ap, ◌∙◌, subst, ap₂, arith, length-drop}
use Rattle.std.proofs.lemmas.Bool.{true≢false}
use Rattle.refusals.specs.declared.Reason.{Reason}
use Rattle.refusals.specs.declared.Reason.TheVariants.{Unexpected}
use Rattle.letters.specs.declared.tokens.Token.{Token}
use Rattle.letters.specs.declared.tokens.Token.TheVariants as case
use Rattle.letters.specs.Tokens.{Lexeme, view, Next, token, is_end, next_at, Inside}
use Rattle.letters.specs.Tokens as lex
use Rattle.letters.specs.Texts.{Piece, Ending, finished, faulty, MadeOf}
use Rattle.letters.proofs.Looks.{look_rest}
use Rattle.letters.proofs.Going.{rest_is}
use Rattle.letters.proofs.Unique.{summary, begun_summary, ended-summary, turned_summary, no_end, same_token, token_refused, same_refusal}
use Rattle.reading.specs.Grammar.{terminal, terminals}
use Rattle.reading.specs.Rule.{Expected, Verdict, onward, turned, step, at_end, judge, refused, resolve}
use Rattle.reading.specs.Reads.{Ahead, Passed}

-- what a look finds is what stands ahead
abbrev pub Found : List ℕ → Lexeme → ℕ → ℕ → List Piece → Ending → Type 0
Found text l s e ps f = (rest : List Piece) × (ps ≡ record { token = l; start = s; stop = e } ∷ rest) × Ahead text e rest f

same_piece : (p : Piece) (l : Lexeme) (s e : ℕ) → l ≡ p.token → s ≡ p.start → e ≡ p.stop → p ≡ record { token = l; start = s; stop = e }
same_piece p l s e a b c =
    let R : Lexeme → ℕ → ℕ → Piece = λ x y z. record { token = x; start = y; stop = z } in
    sym (ap (λ x. R x s e) a ∙ ap (λ y. R p.token y e) b ∙ ap (R p.token p.start) c)

look : (text : List ℕ) (at : ℕ) (n : Next) (ps : List Piece) (f : Ending) → Ahead text at ps f → n ≡ next_at text at → n ≡ summary at (drop at text)
look text at n ps f a e = e ∙ look_rest text at a.within

end_apart : (l : Lexeme) (k s e : ℕ) (n : Next) → is_end l ≡ false → token l s e ≡ n → n ≡ token lex.end k k → ⊥
end_apart l k s e n more h g = true≢false (sym (ap is_end (same_token l lex.end s e k k (h ∙ g)).0) ∙ more)

-- a token
pub found : (text : List ℕ) (at : ℕ) (ps : List Piece) (f : Ending) (l : Lexeme) (s e : ℕ) → Ahead text at ps f → token l s e ≡ next_at text at → is_end l ≡ false → e ≤ length text → Found text l s e ps f
found text at [] finished l s e a h more short =
    let k = at + length (drop at text) in
    absurd (end_apart l k s e _ more (look text at _ [] finished a h) (ended-summary at (drop at text) a.made))
found text at [] (faulty r p) l s e a h more short =
    absurd (token_refused l s e p r (look text at _ [] (faulty r p) a h ∙ turned_summary at (drop at text) r p a.made))
found text at (p ∷ ps) f l s e a h more short =
    let m = a.made in
    let t = same_token l p.token s e p.start p.stop (look text at _ (p ∷ ps) f a h ∙ begun_summary at (drop at text) p m.0 m.1) in
    let r : m.0 ≡ drop p.stop text = rest_is text at p m.0 m.1 in (
      ps,
      ap (λ q. q ∷ ps) (same_piece p l s e t.0 t.1 t.2),
      record { within = short; made = subst (λ n. MadeOf n (drop n text) ps f) (sym t.2) (subst (λ x. MadeOf p.stop x ps f) r m.2) },
    )

-- the end of the text
pub found_end : (text : List ℕ) (at : ℕ) (ps : List Piece) (f : Ending) (s e : ℕ) → Ahead text at ps f → token lex.end s e ≡ next_at text at → (ps ≡ []) × (f ≡ finished) × (s ≡ length text)
found_end text at [] finished s e a h =
    let k = at + length (drop at text) in
    let t = same_token lex.end lex.end s e k k (look text at _ [] finished a h ∙ ended-summary at (drop at text) a.made) in
    (refl, refl, t.1 ∙ omega (arith, length-drop at text, a.within))
found_end text at [] (faulty r p) s e a h =
    absurd (token_refused lex.end s e p r (look text at _ [] (faulty r p) a h ∙ turned_summary at (drop at text) r p a.made))
found_end text at (p ∷ ps) f s e a h =
    let m = a.made in
    let t = same_token lex.end p.token s e p.start p.stop (look text at _ (p ∷ ps) f a h ∙ begun_summary at (drop at text) p m.0 m.1) in
    absurd (true≢false (ap is_end t.0 ∙ no_end p.token m.1.bytes m.1.spells))

-- a fault
pub found_fault : (text : List ℕ) (at : ℕ) (ps : List Piece) (f : Ending) (r : Reason) (p : ℕ) → Ahead text at ps f → lex.refused r p ≡ next_at text at → (ps ≡ []) × (f ≡ faulty r p)
found_fault text at [] finished r p a h =
    let k = at + length (drop at text) in
    absurd (token_refused lex.end k k p r (sym (look text at _ [] finished a h ∙ ended-summary at (drop at text) a.made)))
found_fault text at [] (faulty q o) r p a h =
    let t = same_refusal r q p o (look text at _ [] (faulty q o) a h ∙ turned_summary at (drop at text) q o a.made) in
    (refl, ap₂ faulty (sym t.0) (sym t.1))
found_fault text at (q ∷ ps) f r p a h =
    let m = a.made in
    absurd (token_refused q.token q.start q.stop p r (sym (look text at _ (q ∷ ps) f a h ∙ begun_summary at (drop at text) q m.0 m.1)))

-- a token that is not allowed where x is expected
pub record Bad (names : List (List ℕ)) (x : Expected) (l : Lexeme) (r : Reason) : Type 0 where
  pub turns : (K : List Expected) → step names (x ∷ K) (terminal l) ≡ turned r
  pub ends : is_end l ≡ true → (r ≡ Unexpected) × ((long : ℕ) (K : List Expected) → at_end long (x ∷ K) ≡ refused Unexpected long)

resolved : (long : ℕ) (p : Piece) (ps : List Piece) (f : Ending) (names : List (List ℕ)) (K : List Expected) (v : Verdict) → step names K (terminal p.token) ≡ v → judge long (p ∷ ps) f names K ≡ resolve v p.start (judge long ps f)
resolved long p ps f names K v e = ap (λ v. resolve v p.start (judge long ps f)) e

module _ (text : List ℕ) (at : ℕ) (ps : List Piece) (f : Ending) (a : Ahead text at ps f) (names : List (List ℕ)) where
  -- a fault is refused whatever is expected
  pub fails_fault : (r : Reason) (p : ℕ) → lex.refused r p ≡ next_at text at → (K : List Expected) → judge (length text) ps f names K ≡ refused r p
  fails_fault r p h K =
      let g = found_fault text at ps f r p a h in
      ap₂ (λ qs e. judge (length text) qs e names K) g.0 g.1

  fails_end : (x : Expected) (s e : ℕ) → token lex.end s e ≡ next_at text at → ((long : ℕ) (K : List Expected) → at_end long (x ∷ K) ≡ refused Unexpected long) → (K : List Expected) → judge (length text) ps f names (x ∷ K) ≡ refused Unexpected s
  fails_end x s e h ends K =
      let g = found_end text at ps f s e a h in
      ap₂ (λ qs e. judge (length text) qs e names (x ∷ K)) g.0 g.1 ∙ ends (length text) K ∙ ap (refused Unexpected) (sym g.2)

  fails_there : (x : Expected) (l : Lexeme) (s e : ℕ) (r : Reason) → token l s e ≡ next_at text at → is_end l ≡ false → e ≤ length text → ((K : List Expected) → step names (x ∷ K) (terminal l) ≡ turned r) → (K : List Expected) → judge (length text) ps f names (x ∷ K) ≡ refused r s
  fails_there x l s e r h more short turns K =
      let g = found text at ps f l s e a h more short in
      ap (λ qs. judge (length text) qs f names (x ∷ K)) g.1 ∙ resolved (length text) (record { token = l; start = s; stop = e }) g.0 f names (x ∷ K) (turned r) (turns K)

  -- a token that is not allowed
  pub fails_token : (x : Expected) (t : Token) (s e : ℕ) (r : Reason) → token (view t) s e ≡ next_at text at → e ≤ length text → Bad names x (view t) r → (K : List Expected) → judge (length text) ps f names (x ∷ K) ≡ refused r s
  fails_token x case.End s e r h short bad K = fails_end x s e h (bad.ends refl).1 K ∙ ap (λ q. refused q s) (sym (bad.ends refl).0)
  fails_token x (case.Name w) s e r h short bad K = fails_there x _ s e r h refl short bad.turns K
  fails_token x (case.Numeral w n) s e r h short bad K = fails_there x _ s e r h refl short bad.turns K
  fails_token x (case.Keyword k) s e r h short bad K = fails_there x _ s e r h refl short bad.turns K
  fails_token x (case.Symbol y) s e r h short bad K = fails_there x _ s e r h refl short bad.turns K

  -- a token that is what is expected, and nothing else is expected for it
  pub passes_token : (x : Expected) (l : Lexeme) (s e : ℕ) → token l s e ≡ next_at text at → is_end l ≡ false → e ≤ length text → ((K : List Expected) → step names (x ∷ K) (terminal l) ≡ onward names K) → Passed text names (x ∷ []) (λ rest. terminal l ∷ rest) ps f e
  passes_token x l s e h more short goes =
      let g = found text at ps f l s e a h more short in
      record {
        rest = g.0;
        ahead = g.2;
        reads = ap terminals g.1;
        passes = λ K. ap (λ qs. judge (length text) qs f names (x ∷ K)) g.1 ∙ resolved (length text) (record { token = l; start = s; stop = e }) g.0 f names (x ∷ K) (onward names K) (goes K);
      }
