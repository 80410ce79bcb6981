-- The rows of a statement, laid out from a base, hold the statement (Placed).
use Rattle.std.proofs.Common.{◌≡◌, ℕ, suc, List, [], ◌∷◌, ◌++◌, sym, refl, ap, ◌∙◌, subst}
use Rattle.meaning.proofs.NamedCode.{Code, cnil, cskip, cassign, crelease, cwrite, cstop, cseq, cif, cwhile, rnone, rend, Laid, laid-at, withholds, inside, lay, after}
use Rattle.meaning.proofs.Placed.{Placed}
use Rattle.meaning.proofs.Programs.{at}

module _ {R : Type 0} where
  -- the rows from row b on begin with the list
  abbrev pub Has : (ℕ → Laid R) → ℕ → List (Laid R) → Type 0
  Has rows b [] = Unit {0}
  Has rows b (r ∷ l) = (rows b ≡ r) × Has rows (suc b) l

  abbrev ahead : ℕ → List (Laid R) → ℕ
  ahead b [] = b
  ahead b (r ∷ l) = ahead (suc b) l

  ahead-append : (b : ℕ) (l m : List (Laid R)) → ahead b (l ++ m) ≡ ahead (ahead b l) m
  ahead-append b [] m = refl
  ahead-append b (r ∷ l) m = ahead-append (suc b) l m

  has_append : (rows : ℕ → Laid R) (b : ℕ) (l m : List (Laid R)) → Has rows b (l ++ m) → Has rows b l × Has rows (ahead b l) m
  has_append rows b [] m h = (tt, h)
  has_append rows b (r ∷ l) m h = let k = has_append rows (suc b) l m h.1 in ((h.0, k.0), k.1)

  ahead-lay : (D b : ℕ) (s : Code R) → ahead b (lay D b s) ≡ after b s
  ahead-lay D b cnil = refl
  ahead-lay D b cskip = refl
  ahead-lay D b (cassign r e) = refl
  ahead-lay D b (crelease r e) = refl
  ahead-lay D b (cwrite t e) = refl
  ahead-lay D b (cstop n) = refl
  ahead-lay D b (cseq A B) = ahead-append b (lay D b A) _ ∙ ap (λ x. ahead x (lay D (after b A) B)) (ahead-lay D b A) ∙ ahead-lay D (after b A) B
  ahead-lay D b (cif x e A B) =
      let m = after (suc b) A in
      ahead-append (suc b) (lay (inside x D) (suc b) A) _ ∙ ap (λ y. ahead (suc y) (lay (inside x D) (suc m) B ++ (laid-at D rend ∷ []))) (ahead-lay (inside x D) (suc b) A)
      ∙ ahead-append (suc m) (lay (inside x D) (suc m) B) _ ∙ ap suc (ahead-lay (inside x D) (suc m) B)
  ahead-lay D b (cwhile e A) = ahead-append (suc b) (lay (suc D) (suc b) A) _ ∙ ap suc (ahead-lay (suc D) (suc b) A)

  -- behind a statement's rows
  split : (rows : ℕ → Laid R) (D b : ℕ) (s : Code R) (m : List (Laid R)) → Has rows b (lay D b s ++ m) → Has rows b (lay D b s) × Has rows (after b s) m
  split rows D b s m h = let k = has_append rows b (lay D b s) m h in (k.0, subst (λ x. Has rows x m) (ahead-lay D b s) k.1)

  pub placed : (rows : ℕ → Laid R) (D b : ℕ) (s : Code R) → Has rows b (lay D b s) → Placed (λ i. (rows i).row) b s
  placed rows D b cnil h = tt
  placed rows D b cskip h = ap (λ x. x.row) h.0
  placed rows D b (cassign r e) h = ap (λ x. x.row) h.0
  placed rows D b (crelease r e) h = ap (λ x. x.row) h.0
  placed rows D b (cwrite t e) h = ap (λ x. x.row) h.0
  placed rows D b (cstop n) h = ap (λ x. x.row) h.0
  placed rows D b (cseq A B) h = let k = split rows D b A (lay D (after b A) B) h in (placed rows D b A k.0, placed rows D (after b A) B k.1)
  placed rows D b (cif x e A B) h =
      let k = split rows (inside x D) (suc b) A _ h.1 in
      let j = split rows (inside x D) (suc (after (suc b) A)) B _ k.1.1 in
      record {
        head = ap (λ y. y.row) h.0;
        first = placed rows (inside x D) (suc b) A k.0;
        between = ap (λ y. y.row) k.1.0;
        second = placed rows (inside x D) (suc (after (suc b) A)) B j.0;
        foot = ap (λ y. y.row) j.1.0;
      }
  placed rows D b (cwhile e A) h =
      let k = split rows (suc D) (suc b) A _ h.1 in
      record { head = ap (λ x. x.row) h.0; body = placed rows (suc D) (suc b) A k.0; foot = ap (λ x. x.row) k.1.0 }

  -- the places of releases and tests
  abbrev pub Noted : (ℕ → Laid R) → ℕ → ℕ → Code R → Type 0
  Noted rows D b cnil = Unit {0}
  Noted rows D b cskip = Unit {0}
  Noted rows D b (cassign r e) = Unit {0}
  Noted rows D b (crelease r e) = (rows b).depth ≡ D
  Noted rows D b (cwrite t e) = Unit {0}
  Noted rows D b (cstop n) = Unit {0}
  Noted rows D b (cseq A B) = Noted rows D b A × Noted rows D (after b A) B
  Noted rows D b (cif x e A B) = ((rows b).test ≡ withholds x) × Noted rows (inside x D) (suc b) A × Noted rows (inside x D) (suc (after (suc b) A)) B
  Noted rows D b (cwhile e A) = Noted rows (suc D) (suc b) A

  pub noted : (rows : ℕ → Laid R) (D b : ℕ) (s : Code R) → Has rows b (lay D b s) → Noted rows D b s
  noted rows D b cnil h = tt
  noted rows D b cskip h = tt
  noted rows D b (cassign r e) h = tt
  noted rows D b (crelease r e) h = ap (λ x. x.depth) h.0
  noted rows D b (cwrite t e) h = tt
  noted rows D b (cstop n) h = tt
  noted rows D b (cseq A B) h = let k = split rows D b A (lay D (after b A) B) h in (noted rows D b A k.0, noted rows D (after b A) B k.1)
  noted rows D b (cif x e A B) h =
      let k = split rows (inside x D) (suc b) A _ h.1 in
      let j = split rows (inside x D) (suc (after (suc b) A)) B _ k.1.1 in
      (ap (λ y. y.test) h.0, noted rows (inside x D) (suc b) A k.0, noted rows (inside x D) (suc (after (suc b) A)) B j.0)
  noted rows D b (cwhile e A) h = let k = split rows (suc D) (suc b) A _ h.1 in noted rows (suc D) (suc b) A k.0

  shift : (rows : ℕ → Laid R) (b : ℕ) (l : List (Laid R)) → Has (λ n. rows (suc n)) b l → Has rows (suc b) l
  shift rows b [] h = tt
  shift rows b (r ∷ l) h = (h.0, shift rows (suc b) l h.1)

  pub has_at : (l : List (Laid R)) → Has (at l) 0 l
  has_at [] = tt
  has_at (r ∷ l) = (refl, shift (at (r ∷ l)) 0 l (has_at l))

  ahead_suc : (b : ℕ) (l : List (Laid R)) → ahead (suc b) l ≡ suc (ahead b l)
  ahead_suc b [] = refl
  ahead_suc b (r ∷ l) = ahead_suc (suc b) l

  -- no row behind the last
  at_ahead : (l : List (Laid R)) → at l (ahead 0 l) ≡ laid-at 0 rnone
  at_ahead [] = refl
  at_ahead (r ∷ l) = ap (at (r ∷ l)) (ahead_suc 0 l) ∙ at_ahead l

  pub at_end_lem : (s : Code R) → (at (lay 0 0 s) (after 0 s)).row ≡ rnone
  at_end_lem s = ap (λ x. x.row) (ap (at (lay 0 0 s)) (sym (ahead-lay 0 0 s)) ∙ at_ahead (lay 0 0 s))
