-- One part of a script behind another.
use Rattle.std.proofs.Common.{ℕ, List, ◌++◌, length, ap, ◌∙◌, append_assoc}
use Rattle.refusals.specs.declared.Refusal.{Refusal}
use Rattle.letters.specs.Texts.{Piece, Ending}
use Rattle.reading.specs.Grammar.{Terminal}
use Rattle.reading.specs.Rule.{Expected, judge}
use Rattle.reading.specs.Reads.{Passed, Fails}

module _ (text : List ℕ) (names : List (List ℕ)) (X Y : List Expected) (ps : List Piece) (f : Ending) where
  pub passed_then : (t u : List Terminal → List Terminal) (at to : ℕ) (p : Passed text names X t ps f at) → Passed text names Y u p.rest f to → Passed text names (X ++ Y) (λ rest. t (u rest)) ps f to
  passed_then t u at to p q = record {
    rest = q.rest;
    ahead = q.ahead;
    reads = p.reads ∙ ap t q.reads;
    passes = λ K. ap (judge (length text) ps f names) (append_assoc X Y K) ∙ p.passes (Y ++ K) ∙ q.passes K;
  }

  pub fails_then : (t : List Terminal → List Terminal) (at : ℕ) (e : Refusal) (p : Passed text names X t ps f at) → Fails text names Y p.rest f e → Fails text names (X ++ Y) ps f e
  fails_then t at e p h K = ap (judge (length text) ps f names) (append_assoc X Y K) ∙ p.passes (Y ++ K) ∙ h K

  pub fails_first : (e : Refusal) → Fails text names X ps f e → Fails text names (X ++ Y) ps f e
  fails_first e h K = ap (judge (length text) ps f names) (append_assoc X Y K) ∙ h (Y ++ K)
