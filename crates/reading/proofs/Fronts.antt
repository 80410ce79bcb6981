-- What the tokens read so far decide, and where a refusal points.
use Rattle.std.proofs.Common.{◌≡◌, ℕ, ◌+◌, ◌≤◌, ◌⊎◌, List, [], ◌∷◌, ◌++◌, length, refl, ap, inl, inr, arith, length-append}
use Rattle.refusals.specs.declared.Reason.{Reason}
use Rattle.letters.specs.Texts.{Piece, Ending, finished, faulty, MadeOf}
use Rattle.letters.proofs.Going.{made}
use Rattle.reading.specs.Grammar.{terminal}
use Rattle.reading.specs.Rule.{Expected, declarations, new_name, statements, expression, assigned, operator, a_numeral, the_keyword, the_symbol, Verdict, onward, turned, step, at_end, judge, Judgement, accepted, refused, resolve, whole}
use Rattle.reading.specs.Scripts.{Decided, FrontsDecide, PlacesWithin}

module _ (long : ℕ) (p : Piece) (front : List Piece) where
  by_verdict : (v : Verdict) → ((names : List (List ℕ)) (K : List Expected) → Decided long front names K) →
      ((r : Reason) × (place : ℕ) × ((rest : List Piece) (f : Ending) → resolve v p.start (judge long (front ++ rest) f) ≡ refused r place))
      ⊎ ((names : List (List ℕ)) × (K : List Expected) × ((rest : List Piece) (f : Ending) → resolve v p.start (judge long (front ++ rest) f) ≡ judge long rest f names K))
  by_verdict (onward names K) more = more names K
  by_verdict (turned r) more = inl (r, p.start, λ rest f. refl)

pub fronts_decide : FrontsDecide
fronts_decide long [] names K = inr (names, K, λ rest f. refl)
fronts_decide long (p ∷ ps) names K = by_verdict long p ps (step names K (terminal p.token)) (fronts_decide long ps)

-- the place of a refusal
accepted_apart : (r : Reason) (p : ℕ) → accepted ≡ refused r p → ⊥
accepted_apart r p h = let z : ◌≡◌ {A = ℕ} 0 1 = cc in omega arith

same_place : (r q : Reason) (p o : ℕ) → refused r p ≡ refused q o → p ≡ o
same_place r q p o h = cc

at_end_place : (long : ℕ) (K : List Expected) (r : Reason) (place : ℕ) → at_end long K ≡ refused r place → place ≤ long
at_end_place long [] r place h = absurd (accepted_apart r place h)
at_end_place long (declarations ∷ K) r place h = at_end_place long K r place h
at_end_place long (new_name ∷ K) r place h = omega (arith, same_place _ _ _ _ h)
at_end_place long (statements room ∷ K) r place h = at_end_place long K r place h
at_end_place long (expression room ∷ K) r place h = omega (arith, same_place _ _ _ _ h)
at_end_place long (assigned ∷ K) r place h = omega (arith, same_place _ _ _ _ h)
at_end_place long (operator ∷ K) r place h = omega (arith, same_place _ _ _ _ h)
at_end_place long (a_numeral ∷ K) r place h = omega (arith, same_place _ _ _ _ h)
at_end_place long (the_keyword k ∷ K) r place h = omega (arith, same_place _ _ _ _ h)
at_end_place long (the_symbol s ∷ K) r place h = omega (arith, same_place _ _ _ _ h)

resolved_place : (v : Verdict) (start : ℕ) (next : List (List ℕ) → List Expected → Judgement) (long : ℕ) (r : Reason) (place : ℕ) → start ≤ long → ((names : List (List ℕ)) (K : List Expected) → next names K ≡ refused r place → place ≤ long) → resolve v start next ≡ refused r place → place ≤ long
resolved_place (onward names K) start next long r place h more e = more names K e
resolved_place (turned q) start next long r place h more e = omega (arith, same_place _ _ _ _ e)

place_within : (long at : ℕ) (text : List ℕ) (ps : List Piece) (f : Ending) → MadeOf at text ps f → at + length text ≡ long → (names : List (List ℕ)) (K : List Expected) (r : Reason) (place : ℕ) → judge long ps f names K ≡ refused r place → place ≤ long
place_within long at text [] finished m e names K r place h = at_end_place long K r place h
place_within long at text [] (faulty q o) m e names K r place h =
    omega (arith, same_place _ _ _ _ h, m.from, simp length-append at (ap length m.together))
place_within long at text (p ∷ ps) f m e names K r place h =
    let b = m.1 in
    let t : length text ≡ length b.blanks + (length b.bytes + length m.0) = simp length-append at (ap length b.together) in
    let s : p.start ≤ long = omega (arith, b.from, t) in
    let n : p.stop + length m.0 ≡ long = omega (arith, b.from, b.to, t) in
    resolved_place (step names K (terminal p.token)) p.start (judge long ps f) long r place s
    (λ names' K' e'. place_within long p.stop m.0 ps f m.2 n names' K' r place e') h

pub places_within : PlacesWithin
places_within text e j =
    let m = made 0 text in
    place_within (length text) 0 text m.tokens m.ending m.made (omega arith) [] whole e.reason e.place (j m.tokens m.ending m.made)
