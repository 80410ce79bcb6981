-- The rows of a whole rewritten script, and of the script as bought, by named registers.
use Rattle.std.proofs.Common.{ℕ, zero, suc, max, List, [], ◌∷◌, length}
use Rattle.meaning.proofs.NamedCode.{Interpretation, Value, num, Reg, own, level, Code, cnil, cskip, cassign, crelease, cwrite, cseq, cif, cwhile, bought, Row, rnone, Laid, laid-at, lay}
use Rattle.meaning.proofs.NamedRules.{Script, nil, skip, assign, release, write, seq, if, while, own_exp, rewrite}

-- the row with number n; a row past the last is no row left
abbrev pub at : {R : Type 0} → List (Laid R) → ℕ → Laid R
at [] n = laid-at 0 rnone
at (r ∷ rs) zero = r
at (r ∷ rs) (suc n) = at rs n

-- the element with number n, or another where there is none
abbrev pub level_at_lem : {A : Type 0} → A → List A → ℕ → A
level_at_lem d [] n = d
level_at_lem d (v ∷ vs) zero = v
level_at_lem d (v ∷ vs) (suc n) = level_at_lem d vs n

-- `_sK := level of K`, from K on
abbrev pub named_first_rows : ℕ → List Value → Code Reg
named_first_rows K [] = cnil
named_first_rows K (l ∷ ls) = cseq (cassign (level K) (num l)) (named_first_rows (suc K) ls)

-- the deepest nesting
abbrev pub nesting : Script → ℕ
nesting nil = 0
nesting skip = 0
nesting (assign K e) = 0
nesting (release K e) = 0
nesting (write t e) = 0
nesting (seq A B) = max (nesting A) (nesting B)
nesting (if e A B) = suc (max (nesting A) (nesting B))
nesting (while e A) = suc (nesting A)

module _ (F : Interpretation) where
  -- the rewritten rows, with their places
  abbrev pub laid : List Value → Script → ℕ → Laid Reg
  laid ls S = at (lay 0 0 (cseq (named_first_rows 0 ls) (rewrite F (length ls) 0 S)))

  abbrev pub program : List Value → Script → ℕ → Row Reg
  program ls S p = (laid ls S p).row

  -- the script as bought, as code
  abbrev pub plain : Script → Code Reg
  plain nil = cnil
  plain skip = cskip
  plain (assign K e) = cassign (own K) (own_exp F e)
  plain (release K e) = crelease (own K) (own_exp F e)
  plain (write t e) = cwrite t (own_exp F e)
  plain (seq A B) = cseq (plain A) (plain B)
  plain (if e A B) = cif bought (own_exp F e) (plain A) (plain B)
  plain (while e A) = cwhile (own_exp F e) (plain A)

  abbrev pub named_plain_rows : Script → ℕ → Row Reg
  named_plain_rows S p = (at (lay 0 0 (plain S)) p).row
