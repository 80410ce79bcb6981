-- Laws of `Put`: nothing, one byte, one run behind another, and the same bytes under another name.
use Rattle.std.proofs.Common.{◌≡◌, ℕ, ◌+◌, min, List, [], ◌∷◌, ◌++◌, refl, ◌∙◌, arith}
use Rattle.lists.specs.declared.Places.{Places}
use Rattle.lists.specs.Overlay.{overlay}
use Rattle.spelling.specs.Buffers.{Counted, Put}
use Rattle.spelling.proofs.Appending.{appended_none, appended_one, appended_more, appended_as, same_length}

pub put_none : (a : Places ℕ) → Put a a []
put_none a = record { same = refl; appended = λ h. appended_none a.cells.now a.used h.1 }

pub put_one : {a b : Places ℕ} {x : ℕ} → b.cells.ghost_name ≡ a.cells.ghost_name → b.cells.now ≡ overlay a.cells.now a.used (x ∷ [])
    → b.used ≡ min (a.used + 1) 18446744073709551615 → Put a b (x ∷ [])
put_one same e c = record { same = same; appended = λ h. appended_one e c }

still_counted : {a b : Places ℕ} {us : List ℕ} → Put a b us → Counted a → Counted b
still_counted p h = let w = p.appended h in (omega (arith, same_length w), omega (arith, w.behind))

pub put_more : {a b c : Places ℕ} {us vs : List ℕ} → Put a b us → Put b c vs → Put a c (us ++ vs)
put_more p q = record { same = q.same ∙ p.same; appended = λ h. appended_more h.0 (p.appended h) (q.appended (still_counted p h)) }

pub put_as : {a b : Places ℕ} {us vs : List ℕ} → us ≡ vs → Put a b us → Put a b vs
put_as e p = record { same = p.same; appended = λ h. appended_as e (p.appended h) }
