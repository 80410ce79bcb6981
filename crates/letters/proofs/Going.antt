-- Tokens read one after the other.
use Rattle.std.proofs.Common.{◌≡◌, ℕ, zero, suc, ◌+◌, ◌<◌, ◌≤◌, false, List, [], ◌∷◌, ◌++◌, length, drop, sym, refl, ap, ◌∙◌, subst, append_assoc, append-nil, arith, length-append, drop-drop}
use lib.Seq.{drop-append_seam}
use Rattle.refusals.specs.declared.Reason.{Reason}
use Rattle.letters.specs.declared.tokens.Token.{Token}
use Rattle.letters.specs.declared.tokens.Token.TheVariants as case
use Rattle.letters.specs.declared.tokens.Lexed.{Lexed}
use Rattle.letters.specs.Tokens.{end, name, numeral, keyword, symbol, broken, view, Next, token, refused, is_end, next_at}
use Rattle.letters.specs.Texts.{Piece, Begins, Ending, finished, faulty, MadeOf, piece_of, pieces}
use Rattle.letters.proofs.Looks.{Look, look, look_rest}
use Rattle.letters.proofs.Unique.{behind, summary, spelled_some}

-- what is read up to a place: whatever the rest is made of, the whole is made of that behind these tokens
pub record Goes (text : List ℕ) (at : ℕ) (ps : List Piece) : Type 0 where
  pub within : at ≤ length text
  pub onward : (qs : List Piece) (f : Ending) → MadeOf at (drop at text) qs f → MadeOf 0 text (ps ++ qs) f

pub goes_none : (text : List ℕ) → Goes text 0 []
goes_none text = record { within = omega arith; onward = λ qs f m. m }

looked : (text : List ℕ) (at : ℕ) (n : Next) → at ≤ length text → n ≡ next_at text at → Look at (drop at text) n
looked text at n h e = subst (Look at (drop at text)) (sym (e ∙ look_rest text at h)) (look at (drop at text))

-- the rest behind a token is the rest of the text from its end on
pub rest_is : (text : List ℕ) (at : ℕ) (p : Piece) (rest : List ℕ) → Begins at (drop at text) p rest → rest ≡ drop p.stop text
rest_is text at p rest b =
    let k = length b.blanks in
    let n = length b.bytes in
    sym (drop-append_seam b.bytes rest)
    ∙ ap (drop n) (sym (drop-append_seam b.blanks (b.bytes ++ rest)) ∙ ap (drop k) (sym b.together))
    ∙ ap (drop n) (drop-drop k at text)
    ∙ drop-drop n (at + k) text
    ∙ ap (λ m. drop m text) (omega (arith, b.from, b.to))

begun : (text : List ℕ) (at : ℕ) (x : Lexed) (t : Token) → x.token ≡ t → is_end (view t) ≡ false → Look at (drop at text) (token (view t) x.start x.end) → Begins at (drop at text) (record { token = view t; start = x.start; stop = x.end }) (behind (drop at text))
begun text at x case.End e more l = absurd (let z : ◌≡◌ {A = ℕ} 0 1 = cc in omega arith)
begun text at x (case.Name r) e more l = l
begun text at x (case.Numeral r v) e more l = l
begun text at x (case.Keyword k) e more l = l
begun text at x (case.Symbol s) e more l = l

pub goes_more : (text : List ℕ) (at : ℕ) (ps : List Piece) (x : Lexed) → Goes text at ps → token (view x.token) x.start x.end ≡ next_at text at → x.end ≤ length text → is_end (view x.token) ≡ false → Goes text x.end (ps ++ (piece_of x ∷ []))
goes_more text at ps x g e short more =
    let b = begun text at x x.token refl more (looked text at _ g.within e) in
    let rest = behind (drop at text) in
    let r : rest ≡ drop x.end text = rest_is text at (piece_of x) rest b in
    record {
      within = short;
      onward = λ qs f m.
          subst (λ l. MadeOf 0 text l f) (sym (append_assoc ps (piece_of x ∷ []) qs))
          (g.onward (piece_of x ∷ qs) f (rest, b, subst (λ l. MadeOf x.end l qs f) (sym r) m));
    }

pub goes_end : (text : List ℕ) (at s e : ℕ) (ps : List Piece) (t : Token) → Goes text at ps → t ≡ case.End → token (view t) s e ≡ next_at text at → MadeOf 0 text ps finished
goes_end text at s e ps t g is h =
    let l : Look at (drop at text) (token (view case.End) s e) = looked text at _ g.within (ap (λ x. token (view x) s e) (sym is) ∙ h) in
    subst (λ x. MadeOf 0 text x finished) (append-nil ps) (g.onward [] finished l)

pub goes_fault : (text : List ℕ) (at : ℕ) (ps : List Piece) (r : Reason) (place : ℕ) → Goes text at ps → refused r place ≡ next_at text at → MadeOf 0 text ps (faulty r place)
goes_fault text at ps r place g h =
    subst (λ x. MadeOf 0 text x (faulty r place)) (append-nil ps) (g.onward [] (faulty r place) (looked text at (refused r place) g.within h))

pub pieces_push : (xs : List Lexed) (x : Lexed) → pieces (xs ++ (x ∷ [])) ≡ pieces xs ++ (piece_of x ∷ [])
pieces_push [] x = refl
pieces_push (y ∷ ys) x = ap (λ l. piece_of y ∷ l) (pieces_push ys x)

pub no_end : (t : Token) → (t ≡ case.End → ⊥) → is_end (view t) ≡ false
no_end case.End h = absurd (h refl)
no_end (case.Name r) h = refl
no_end (case.Numeral r v) h = refl
no_end (case.Keyword k) h = refl
no_end (case.Symbol s) h = refl

-- every text is made of tokens up to its end or to its first fault
shorter : (at : ℕ) (text : List ℕ) (p : Piece) (rest : List ℕ) → Begins at text p rest → length rest < length text
shorter at text p rest b =
    omega (arith, spelled_some p.token b.bytes b.spells, simp length-append at (ap length b.together))

pub record Made (at : ℕ) (text : List ℕ) : Type 0 where
  pub tokens : List Piece
  pub ending : Ending
  pub made : MadeOf at text tokens ending

module _ (n : ℕ) (less : (at : ℕ) (text : List ℕ) → length text ≤ n → Made at text) where
  made_more : (at : ℕ) (text : List ℕ) → length text ≤ suc n → (p : Piece) → Begins at text p (behind text) → Made at text
  made_more at text h p b =
      let m = less p.stop (behind text) (omega (arith, shorter at text p (behind text) b)) in
      record { tokens = p ∷ m.tokens; ending = m.ending; made = (behind text, b, m.made) }

  made_by : (at : ℕ) (text : List ℕ) → length text ≤ suc n → (x : Next) → Look at text x → Made at text
  made_by at text h (token end s e) l = record { tokens = []; ending = finished; made = l }
  made_by at text h (token (name v) s e) l = made_more at text h (record { token = name v; start = s; stop = e }) l
  made_by at text h (token (numeral ds m) s e) l = made_more at text h (record { token = numeral ds m; start = s; stop = e }) l
  made_by at text h (token (keyword k) s e) l = made_more at text h (record { token = keyword k; start = s; stop = e }) l
  made_by at text h (token (symbol x) s e) l = made_more at text h (record { token = symbol x; start = s; stop = e }) l
  made_by at text h (token (broken r) s e) l = absurd l
  made_by at text h (refused r place) l = record { tokens = []; ending = faulty r place; made = l }

made_within : (n at : ℕ) (text : List ℕ) → length text ≤ n → Made at text
made_within zero at [] h = record { tokens = []; ending = finished; made = refl }
made_within zero at (c ∷ cs) h = absurd (omega arith)
made_within (suc n) at text h = made_by n (made_within n) at text h (summary at text) (look at text)

pub made : (at : ℕ) (text : List ℕ) → Made at text
made at text = made_within (length text) at text (omega arith)
