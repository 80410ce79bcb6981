-- Code stands in rows, from a row on.
use Rattle.std.proofs.Common.{◌≡◌, ℕ, suc}
use Rattle.meaning.proofs.NamedCode.{Code, cnil, cskip, cassign, crelease, cwrite, cstop, cseq, cif, cwhile, Row, rskip, rassign, rrelease, rwrite, rstop, rif, relse, rend, rwhile, rback, after}

-- the statement stands in the rows from row b on: what the proofs use in place of look-ups in lists
abbrev pub Placed : {R : Type 0} → (ℕ → Row R) → ℕ → Code R → Type 0
Placed rows b cnil = Unit {0}
Placed rows b cskip = rows b ≡ rskip
Placed rows b (cassign r e) = rows b ≡ rassign r e
Placed rows b (crelease r e) = rows b ≡ rrelease r e
Placed rows b (cwrite t e) = rows b ≡ rwrite t e
Placed rows b (cstop n) = rows b ≡ rstop n
Placed rows b (cseq A B) = Placed rows b A × Placed rows (after b A) B
Placed rows b (cif x e A B) = record {
  head : rows b ≡ rif e (after (suc b) A);
  first : Placed rows (suc b) A;
  between : rows (after (suc b) A) ≡ relse (after (suc (after (suc b) A)) B);
  second : Placed rows (suc (after (suc b) A)) B;
  foot : rows (after (suc (after (suc b) A)) B) ≡ rend;
}
Placed rows b (cwhile e A) = record {
  head : rows b ≡ rwhile e (after (suc b) A);
  body : Placed rows (suc b) A;
  foot : rows (after (suc b) A) ≡ rback b;
}
