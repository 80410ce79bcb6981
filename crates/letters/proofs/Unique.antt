-- A text is made of tokens in one way, and no token could have been longer.
use Rattle.std.proofs.Common.{◌≡◌, ℕ, suc, ◌+◌, ◌-◌, ◌<◌, Bool, true, false, cond, ◌&&◌, ◌||◌, eqb, leb, ◌⊎◌, List, [], ◌∷◌, ◌++◌, length, get_or, take, drop, Some, None, sym, refl, ap, ◌∙◌, subst, ap₂, inl, inr, ⊎_elim, append-nil, add-zero, arith, length-append, eq-eqb, le-leb}
use borrow.Author.Tests.{lt-leb}
use lib.Seq.{take-append_seam, drop-append_seam, take-append-add}
use Rattle.std.specs.List.{prefix_len}
use Rattle.std.specs.Str.{bytes_eq}
use Rattle.std.proofs.lemmas.Slice.Eq.{bytes_eq-Decides}
use Rattle.std.proofs.lemmas.Bool.{cond-true, cond-false, cases_Bool, and_parts, true≢false}
use Rattle.refusals.specs.declared.Reason.{Reason}
use Rattle.refusals.specs.declared.Reason.TheVariants.{StrayByte, Malformed, Unexpected, Undeclared, BadDeclaration, TooDeep, NoRoom, TextTooLong, NotACode, Reserved, TooLarge, BankTooSmall, NotAForm, NoSuchVariable, MoreToDo, NoSuchLine, TooShort}
use Rattle.letters.specs.declared.keywords.Keyword.{Keyword}
use Rattle.letters.specs.declared.symbols.Symbol.{Symbol}
use Rattle.letters.specs.declared.symbols.Symbol.TheVariants.{Assign, Colon, Semicolon, Open, Close, Plus, Minus, Times, Over, Equals, Less, Bar}
use Rattle.letters.specs.Classes.{is_letter, is_digit, is_word, is_blank, is_symbol, every, begins}
use Rattle.letters.specs.Keywords.{keywords, lookup, keyword_of}
use Rattle.letters.specs.Numerals.{numeral_of, well_formed_digits, value_from}
use Rattle.letters.specs.Symbols.{symbol_bytes}
use Rattle.letters.specs.Tokens.{Lexeme, end, name, numeral, keyword, symbol, broken, named, word_lexeme, counted, digits_lexeme, marked, lexeme, Next, token, refused, placed, is_end}
use Rattle.letters.specs.Texts.{Word, Spells, takes_in, widens, Fault, Overlong, NoNumeral, is_stranger, Piece, Begins, Turned, Ending, finished, faulty, Ends, MadeOf, OneWay, NoneLonger}
use Rattle.letters.proofs.Fronts.{front_word, front_digits, front_mark}
use Rattle.letters.proofs.Marks.{none_of, letter_no_blank, digit_no_blank, digit_no_letter, stranger_parts}
use Rattle.letters.proofs.Spans.{span_is, begins_some, and_true}

-- every keyword is a word
abbrev wordy : List ℕ → Bool
wordy w = begins is_letter w && every is_word w

abbrev AllWordy : {A : Type 0} → List (List ℕ × A) → Type 0
AllWordy [] = Unit {0}
AllWordy (e ∷ es) = (wordy e.0 ≡ true) × AllWordy es

lookup-wordy : {A : Type 0} (w : List ℕ) (es : List (List ℕ × A)) (x : A) → AllWordy es → lookup w es ≡ Some x → wordy w ≡ true
lookup-wordy w [] x h e = let z : ◌≡◌ {A = ℕ} 0 1 = cc in absurd (omega arith)
lookup-wordy w (t ∷ es) x h e =
    ⊎_elim
    (λ s. ap wordy ((bytes_eq-Decides w t.0).0 s) ∙ h.0)
    (λ s. lookup-wordy w es x h.1 (sym (cond-false _ _ _ s) ∙ e))
    (cases_Bool (bytes_eq w t.0))

keywords-wordy : AllWordy keywords
keywords-wordy = (refl, (refl, (refl, (refl, (refl, (refl, (refl, (refl, (refl, (refl, (refl, (refl, tt))))))))))))

keyword_word : (w : List ℕ) (k : Keyword) → keyword_of w ≡ Some k → Word w
keyword_word w k e =
    let p = and_parts (begins is_letter w) (every is_word w) (lookup-wordy w keywords k keywords-wordy e) in
    record { letter_first = p.0; all_word = p.1 }

-- a numeral has digits only
well_digits : (w : List ℕ) → well_formed_digits w ≡ true → (begins is_digit w ≡ true) × (every is_digit w ≡ true)
well_digits [] e = absurd (true≢false (sym e))
well_digits (c ∷ []) e = (e, and_true (is_digit c) true e refl)
well_digits (c ∷ d ∷ cs) e =
    let all = (and_parts (leb 49 c) (every is_digit (c ∷ d ∷ cs)) e).1 in
    ((and_parts (is_digit c) (every is_digit (d ∷ cs)) all).0, all)

some_of : (b : Bool) (v n : ℕ) → cond b (Some v) None ≡ Some n → b ≡ true
some_of true v n e = refl
some_of false v n e = let z : ◌≡◌ {A = ℕ} 0 1 = cc in absurd (omega arith)

numeral_digits : (w : List ℕ) (n : ℕ) → numeral_of w ≡ Some n → (begins is_digit w ≡ true) × (every is_digit w ≡ true)
numeral_digits w n e = well_digits w (and_parts (well_formed_digits w) (leb (value_from 0 w) 2147483647) (some_of _ (value_from 0 w) n e)).0

-- the token that bytes spell is the one that is found
found_word : (w rest : List ℕ) → Word w → begins is_word rest ≡ false → lexeme (w ++ rest) ≡ (word_lexeme w, length w)
found_word [] rest h stop = absurd (true≢false (sym h.letter_first))
found_word (c ∷ cs) rest h stop =
    let w = c ∷ cs in
    let P : ℕ → Lexeme × ℕ = λ n. (word_lexeme (take n (w ++ rest)), n) in
    let Q : List ℕ → Lexeme × ℕ = λ x. (word_lexeme x, length w) in
    front_word (w ++ rest) (omega arith) h.letter_first ∙ ap P (span_is is_word w rest h.all_word stop) ∙ ap Q (take-append_seam w rest)

found_digits : (w rest : List ℕ) → begins is_digit w ≡ true → every is_digit w ≡ true → begins is_digit rest ≡ false → lexeme (w ++ rest) ≡ (digits_lexeme w, length w)
found_digits [] rest h all stop = absurd (true≢false (sym h))
found_digits (c ∷ cs) rest h all stop =
    let w = c ∷ cs in
    let P : ℕ → Lexeme × ℕ = λ n. (digits_lexeme (take n (w ++ rest)), n) in
    let Q : List ℕ → Lexeme × ℕ = λ x. (digits_lexeme x, length w) in
    front_digits (w ++ rest) (omega arith) (digit_no_letter c h) h ∙ ap P (span_is is_digit w rest all stop) ∙ ap Q (take-append_seam w rest)

found_colon : (rest : List ℕ) → begins (λ c. eqb c 61) rest ≡ false → lexeme (58 ∷ rest) ≡ (symbol Colon, 1)
found_colon [] h = refl
found_colon (c ∷ cs) h = cond-false _ _ _ h

found_symbol : (s : Symbol) (rest : List ℕ) → begins (widens s) rest ≡ false → lexeme (symbol_bytes s ++ rest) ≡ (symbol s, length (symbol_bytes s))
found_symbol Assign rest h = refl
found_symbol Colon rest h = found_colon rest h
found_symbol Semicolon rest h = refl
found_symbol Open rest h = refl
found_symbol Close rest h = refl
found_symbol Plus rest h = refl
found_symbol Minus rest h = refl
found_symbol Times rest h = refl
found_symbol Over rest h = refl
found_symbol Equals rest h = refl
found_symbol Less rest h = refl
found_symbol Bar rest h = refl

pub found : (l : Lexeme) (w rest : List ℕ) → Spells l w → begins (takes_in l) rest ≡ false → lexeme (w ++ rest) ≡ (l, length w)
found end w rest h stop = absurd h
found (name v) w rest h stop =
    let n = h.1 in
    let P : Lexeme → Lexeme × ℕ = λ l. (l, length w) in
    found_word w rest n.word stop ∙ ap P (ap (λ k. named k w) n.no_keyword ∙ cond-true _ _ _ (le-leb (length w) 15 n.short) ∙ ap name (sym h.0))
found (numeral ds n) w rest h stop =
    let d = numeral_digits w n h.1 in
    let P : Lexeme → Lexeme × ℕ = λ l. (l, length w) in
    found_digits w rest d.0 d.1 stop ∙ ap P (ap (λ k. counted k w) h.1 ∙ ap (λ x. numeral x n) (sym h.0))
found (keyword k) w rest h stop =
    let P : Lexeme → Lexeme × ℕ = λ l. (l, length w) in
    found_word w rest (keyword_word w k h) stop ∙ ap P (ap (λ x. named x w) h)
found (symbol s) w rest h stop = subst (λ x. lexeme (x ++ rest) ≡ (symbol s, length x)) (sym h) (found_symbol s rest stop)
found (broken r) w rest h stop = absurd h

-- a fault is found too
found_stranger : (bs : List ℕ) → begins is_stranger bs ≡ true → (lexeme bs).0 ≡ broken StrayByte
found_stranger [] h = absurd (true≢false (sym h))
found_stranger (c ∷ cs) h =
    let p = stranger_parts (is_letter c) (is_digit c) (is_blank c) (is_symbol c) h in
    let no : get_or (c ∷ cs) 0 0 ≡ 58 → ⊥ = λ e. true≢false (sym (ap is_symbol e) ∙ p.3) in
    ap (λ x. x.0) (front_mark (c ∷ cs) (omega arith) p.0 p.1 (λ e _ _. no e) ∙ ap marked (none_of c p.3))

pub found_fault : (r : Reason) (bs : List ℕ) → Fault r bs → (lexeme bs).0 ≡ broken r
found_fault StrayByte bs h = found_stranger bs h
found_fault Malformed bs h =
    ⊎_elim
    (λ (o : Overlong bs).
    ap (λ x. (lexeme x).0) o.together ∙ ap (λ x. x.0) (found_word o.bytes o.rest o.word o.longest)
    ∙ ap (λ k. named k o.bytes) o.no_keyword ∙ cond-false _ _ _ (lt-leb (length o.bytes) 15 o.long))
    (λ (o : NoNumeral bs).
    ap (λ x. (lexeme x).0) o.together ∙ ap (λ x. x.0) (found_digits o.bytes o.rest o.digit_first o.digits o.longest)
    ∙ ap (λ k. counted k o.bytes) o.no_numeral)
    h
found_fault Unexpected bs h = absurd h
found_fault Undeclared bs h = absurd h
found_fault BadDeclaration bs h = absurd h
found_fault TooDeep bs h = absurd h
found_fault NoRoom bs h = absurd h
found_fault TextTooLong bs h = absurd h
found_fault NotACode bs h = absurd h
found_fault Reserved bs h = absurd h
found_fault TooLarge bs h = absurd h
found_fault BankTooSmall bs h = absurd h
found_fault NotAForm bs h = absurd h
found_fault NoSuchVariable bs h = absurd h
found_fault MoreToDo bs h = absurd h
found_fault NoSuchLine bs h = absurd h
found_fault TooShort bs h = absurd h

-- what stands first is no blank
letter_begins : (w rest : List ℕ) → begins is_letter w ≡ true → begins is_blank (w ++ rest) ≡ false
letter_begins [] rest h = absurd (true≢false (sym h))
letter_begins (c ∷ cs) rest h = letter_no_blank c h

digit_begins : (w rest : List ℕ) → begins is_digit w ≡ true → begins is_blank (w ++ rest) ≡ false
digit_begins [] rest h = absurd (true≢false (sym h))
digit_begins (c ∷ cs) rest h = digit_no_blank c h

symbol_begins : (s : Symbol) (rest : List ℕ) → begins is_blank (symbol_bytes s ++ rest) ≡ false
symbol_begins Assign rest = refl
symbol_begins Colon rest = refl
symbol_begins Semicolon rest = refl
symbol_begins Open rest = refl
symbol_begins Close rest = refl
symbol_begins Plus rest = refl
symbol_begins Minus rest = refl
symbol_begins Times rest = refl
symbol_begins Over rest = refl
symbol_begins Equals rest = refl
symbol_begins Less rest = refl
symbol_begins Bar rest = refl

spelled-begins : (l : Lexeme) (w rest : List ℕ) → Spells l w → begins is_blank (w ++ rest) ≡ false
spelled-begins end w rest h = absurd h
spelled-begins (name v) w rest h = letter_begins w rest h.1.word.letter_first
spelled-begins (numeral ds n) w rest h = digit_begins w rest (numeral_digits w n h.1).0
spelled-begins (keyword k) w rest h = letter_begins w rest (keyword_word w k h).letter_first
spelled-begins (symbol s) w rest h = subst (λ x. begins is_blank (x ++ rest) ≡ false) (sym h) (symbol_begins s rest)
spelled-begins (broken r) w rest h = absurd h

stranger_begins : (bs : List ℕ) → begins is_stranger bs ≡ true → begins is_blank bs ≡ false
stranger_begins [] h = refl
stranger_begins (c ∷ cs) h = (stranger_parts (is_letter c) (is_digit c) (is_blank c) (is_symbol c) h).2

fault_begins : (r : Reason) (bs : List ℕ) → Fault r bs → begins is_blank bs ≡ false
fault_begins StrayByte bs h = stranger_begins bs h
fault_begins Malformed bs h =
    ⊎_elim
    (λ (o : Overlong bs). ap (begins is_blank) o.together ∙ letter_begins o.bytes o.rest o.word.letter_first)
    (λ (o : NoNumeral bs). ap (begins is_blank) o.together ∙ digit_begins o.bytes o.rest o.digit_first)
    h
fault_begins Unexpected bs h = absurd h
fault_begins Undeclared bs h = absurd h
fault_begins BadDeclaration bs h = absurd h
fault_begins TooDeep bs h = absurd h
fault_begins NoRoom bs h = absurd h
fault_begins TextTooLong bs h = absurd h
fault_begins NotACode bs h = absurd h
fault_begins Reserved bs h = absurd h
fault_begins TooLarge bs h = absurd h
fault_begins BankTooSmall bs h = absurd h
fault_begins NotAForm bs h = absurd h
fault_begins NoSuchVariable bs h = absurd h
fault_begins MoreToDo bs h = absurd h
fault_begins NoSuchLine bs h = absurd h
fault_begins TooShort bs h = absurd h

-- a text without the blanks in front, and what is found there
abbrev pub bare : List ℕ → List ℕ
bare text = drop (prefix_len is_blank text) text

abbrev pub summary : ℕ → List ℕ → Next
summary at text = placed (lexeme (bare text)).0 (at + prefix_len is_blank text) (lexeme (bare text)).1

-- what is left behind the first token
abbrev pub behind : List ℕ → List ℕ
behind text = drop (lexeme (bare text)).1 (bare text)

count_blanks : (text blanks bs : List ℕ) → text ≡ blanks ++ bs → every is_blank blanks ≡ true → begins is_blank bs ≡ false → prefix_len is_blank text ≡ length blanks
count_blanks text blanks bs e all stop = ap (prefix_len is_blank) e ∙ span_is is_blank blanks bs all stop

pub bare_is : (text blanks bs : List ℕ) → text ≡ blanks ++ bs → every is_blank blanks ≡ true → begins is_blank bs ≡ false → bare text ≡ bs
bare_is text blanks bs e all stop = ap₂ (λ n t. drop n t) (count_blanks text blanks bs e all stop) e ∙ drop-append_seam blanks bs

placed_token : (l : Lexeme) (w : List ℕ) (s n : ℕ) → Spells l w → placed l s n ≡ token l s (s + n)
placed_token end w s n h = absurd h
placed_token (name v) w s n h = refl
placed_token (numeral ds m) w s n h = refl
placed_token (keyword k) w s n h = refl
placed_token (symbol x) w s n h = refl
placed_token (broken r) w s n h = absurd h

pub no_end : (l : Lexeme) (w : List ℕ) → Spells l w → is_end l ≡ false
no_end end w h = absurd h
no_end (name v) w h = refl
no_end (numeral ds m) w h = refl
no_end (keyword k) w h = refl
no_end (symbol x) w h = refl
no_end (broken r) w h = absurd h

module _ (at : ℕ) (text : List ℕ) where
  begun_bare : (p : Piece) (rest : List ℕ) (b : Begins at text p rest) → bare text ≡ b.bytes ++ rest
  begun_bare p rest b = bare_is text b.blanks (b.bytes ++ rest) b.together b.only_blanks (spelled-begins p.token b.bytes rest b.spells)

  begun_lexeme : (p : Piece) (rest : List ℕ) (b : Begins at text p rest) → lexeme (bare text) ≡ (p.token, length b.bytes)
  begun_lexeme p rest b = ap lexeme (begun_bare p rest b) ∙ found p.token b.bytes rest b.spells b.longest

  pub begun_summary : (p : Piece) (rest : List ℕ) → Begins at text p rest → summary at text ≡ token p.token p.start p.stop
  begun_summary p rest b =
      let n = count_blanks text b.blanks (b.bytes ++ rest) b.together b.only_blanks (spelled-begins p.token b.bytes rest b.spells) in
      let s : at + prefix_len is_blank text ≡ p.start = ap (λ k. at + k) n ∙ sym b.from in
      let P : Lexeme × ℕ → Next = λ x. placed x.0 (at + prefix_len is_blank text) x.1 in
      ap P (begun_lexeme p rest b)
      ∙ ap (λ k. placed p.token k (length b.bytes)) s
      ∙ placed_token p.token b.bytes p.start (length b.bytes) b.spells
      ∙ ap (token p.token p.start) (sym b.to)

  begun_rest : (p : Piece) (rest : List ℕ) → Begins at text p rest → behind text ≡ rest
  begun_rest p rest b =
      ap₂ (λ n t. drop n t) (ap (λ x. x.1) (begun_lexeme p rest b)) (begun_bare p rest b) ∙ drop-append_seam b.bytes rest

  pub ended-summary : every is_blank text ≡ true → summary at text ≡ token end (at + length text) (at + length text)
  ended-summary all =
      let whole : text ≡ text ++ [] = sym (append-nil text) in
      let e : bare text ≡ [] = bare_is text text [] whole all refl in
      let n : prefix_len is_blank text ≡ length text = count_blanks text text [] whole all refl in
      let P : Lexeme × ℕ → Next = λ x. placed x.0 (at + prefix_len is_blank text) x.1 in
      ap P (ap lexeme e) ∙ ap (token end (at + prefix_len is_blank text)) (add-zero (at + prefix_len is_blank text)) ∙ ap (λ k. token end (at + k) (at + k)) n

  pub turned_summary : (r : Reason) (place : ℕ) → Turned at text r place → summary at text ≡ refused r place
  turned_summary r place t =
      let stop = fault_begins r t.rest t.fault in
      let e : bare text ≡ t.rest = bare_is text t.blanks t.rest t.together t.only_blanks stop in
      let n = count_blanks text t.blanks t.rest t.together t.only_blanks stop in
      ap (λ l. placed l (at + prefix_len is_blank text) (lexeme (bare text)).1) (ap (λ x. (lexeme x).0) e ∙ found_fault r t.rest t.fault)
      ∙ ap (refused r) (ap (λ k. at + k) n ∙ sym t.from)

-- two looks at one text
pub token_refused : (l : Lexeme) (s e p : ℕ) (r : Reason) → token l s e ≡ refused r p → ⊥
token_refused l s e p r h = let z : ◌≡◌ {A = ℕ} 0 1 = cc in omega arith

pub same_token : (l m : Lexeme) (s e t f : ℕ) → token l s e ≡ token m t f → (l ≡ m) × (s ≡ t) × (e ≡ f)
same_token l m s e t f h = (cc, cc, cc)

pub same_refusal : (r q : Reason) (p o : ℕ) → refused r p ≡ refused q o → (r ≡ q) × (p ≡ o)
same_refusal r q p o h = (cc, cc)

same_ending : (at : ℕ) (text : List ℕ) (f g : Ending) → Ends at text f → Ends at text g → f ≡ g
same_ending at text finished finished a b = refl
same_ending at text finished (faulty r p) a b =
    absurd (token_refused end (at + length text) (at + length text) p r (sym (ended-summary at text a) ∙ turned_summary at text r p b))
same_ending at text (faulty r p) finished a b =
    absurd (token_refused end (at + length text) (at + length text) p r (sym (ended-summary at text b) ∙ turned_summary at text r p a))
same_ending at text (faulty r p) (faulty q o) a b =
    let e = same_refusal r q p o (sym (turned_summary at text r p a) ∙ turned_summary at text q o b) in
    ap₂ faulty e.0 e.1

-- a text that has ended begins with no token
clash : (at : ℕ) (text : List ℕ) (f : Ending) (p : Piece) (rest : List ℕ) → Ends at text f → Begins at text p rest → ⊥
clash at text finished p rest a b =
    let s = same_token end p.token (at + length text) (at + length text) p.start p.stop (sym (ended-summary at text a) ∙ begun_summary at text p rest b) in
    true≢false (ap is_end s.0 ∙ no_end p.token b.bytes b.spells)
clash at text (faulty r o) p rest a b =
    token_refused p.token p.start p.stop o r (sym (begun_summary at text p rest b) ∙ turned_summary at text r o a)

same_piece : (p q : Piece) → p.token ≡ q.token → p.start ≡ q.start → p.stop ≡ q.stop → p ≡ q
same_piece p q a b c =
    let R : Lexeme → ℕ → ℕ → Piece = λ l s e. record { token = l; start = s; stop = e } in
    ap (λ l. R l p.start p.stop) a ∙ ap (λ s. R q.token s p.stop) b ∙ ap (R q.token q.start) c

pub one_way : OneWay
one_way at text [] [] f g a b = (refl, same_ending at text f g a b)
one_way at text [] (q ∷ qs) f g a b = absurd (clash at text f q b.0 a b.1)
one_way at text (p ∷ ps) [] f g a b = absurd (clash at text g p a.0 b a.1)
one_way at text (p ∷ ps) (q ∷ qs) f g a b =
    let s = same_token p.token q.token p.start p.stop q.start q.stop (sym (begun_summary at text p a.0 a.1) ∙ begun_summary at text q b.0 b.1) in
    let e : p ≡ q = same_piece p q s.0 s.1 s.2 in
    let r : a.0 ≡ b.0 = sym (begun_rest at text p a.0 a.1) ∙ begun_rest at text q b.0 b.1 in
    let m : MadeOf q.stop b.0 ps f = subst (λ x. MadeOf q.stop x ps f) r (subst (λ n. MadeOf n a.0 ps f) s.2 a.2) in
    let more = one_way q.stop b.0 ps qs f g m b.2 in
    (ap₂ (λ x y. x ∷ y) e more.0, more.1)

-- what a token's bytes are
abbrev Made : List ℕ → Type 0
Made w = Word w ⊎ (((begins is_digit w ≡ true) × (every is_digit w ≡ true)) ⊎ ((s : Symbol) × (w ≡ symbol_bytes s)))

made : (l : Lexeme) (w : List ℕ) → Spells l w → Made w
made end w h = absurd h
made (name v) w h = inl h.1.word
made (numeral ds n) w h = inr (inl (numeral_digits w n h.1))
made (keyword k) w h = inl (keyword_word w k h)
made (symbol s) w h = inr (inr (s, h))
made (broken r) w h = absurd h

-- the byte behind is not taken in
abbrev Closed : List ℕ → ℕ → Type 0
Closed w c = (begins is_letter w ≡ true → is_word c ≡ false) × (begins is_digit w ≡ true → is_digit c ≡ false) × (w ≡ 58 ∷ [] → c ≡ 61 → ⊥)

no_letter : (s : Symbol) → begins is_letter (symbol_bytes s) ≡ false
no_letter Assign = refl
no_letter Colon = refl
no_letter Semicolon = refl
no_letter Open = refl
no_letter Close = refl
no_letter Plus = refl
no_letter Minus = refl
no_letter Times = refl
no_letter Over = refl
no_letter Equals = refl
no_letter Less = refl
no_letter Bar = refl

no_digit : (s : Symbol) → begins is_digit (symbol_bytes s) ≡ false
no_digit Assign = refl
no_digit Colon = refl
no_digit Semicolon = refl
no_digit Open = refl
no_digit Close = refl
no_digit Plus = refl
no_digit Minus = refl
no_digit Times = refl
no_digit Over = refl
no_digit Equals = refl
no_digit Less = refl
no_digit Bar = refl

symbol_some : (s : Symbol) → 0 < length (symbol_bytes s)
symbol_some Assign = omega arith
symbol_some Colon = omega arith
symbol_some Semicolon = omega arith
symbol_some Open = omega arith
symbol_some Close = omega arith
symbol_some Plus = omega arith
symbol_some Minus = omega arith
symbol_some Times = omega arith
symbol_some Over = omega arith
symbol_some Equals = omega arith
symbol_some Less = omega arith
symbol_some Bar = omega arith

-- what stands first in a longer front stands first in the shorter one
begins-more : (f : ℕ → Bool) (w more : List ℕ) → 0 < length w → begins f (w ++ more) ≡ begins f w
begins-more f [] more h = absurd (omega arith)
begins-more f (c ∷ cs) more h = refl

every-behind : (f : ℕ → Bool) (w : List ℕ) (c : ℕ) (more : List ℕ) → every f (w ++ (c ∷ more)) ≡ true → f c ≡ true
every-behind f [] c more h = (and_parts (f c) (every f more) h).0
every-behind f (x ∷ xs) c more h = every-behind f xs c more (and_parts (f x) (every f (xs ++ (c ∷ more))) h).1

-- `:=` is the only symbol of two bytes
two_bytes : (s : Symbol) → 1 < length (symbol_bytes s) → symbol_bytes s ≡ 58 ∷ 61 ∷ []
two_bytes Assign h = refl
two_bytes Colon h = absurd (omega arith)
two_bytes Semicolon h = absurd (omega arith)
two_bytes Open h = absurd (omega arith)
two_bytes Close h = absurd (omega arith)
two_bytes Plus h = absurd (omega arith)
two_bytes Minus h = absurd (omega arith)
two_bytes Times h = absurd (omega arith)
two_bytes Over h = absurd (omega arith)
two_bytes Equals h = absurd (omega arith)
two_bytes Less h = absurd (omega arith)
two_bytes Bar h = absurd (omega arith)

assign_parts : (w : List ℕ) (c : ℕ) (more : List ℕ) → 0 < length w → w ++ (c ∷ more) ≡ 58 ∷ 61 ∷ [] → (w ≡ 58 ∷ []) × (c ≡ 61)
assign_parts [] c more h e = absurd (omega arith)
assign_parts (x ∷ []) c more h e = let a : x ≡ 58 = cc in (ap (λ y. y ∷ []) a, cc)
assign_parts (x ∷ y ∷ ys) c more h e = absurd (omega (arith, simp length-append at (ap length e)))

never_longer : (w : List ℕ) (c : ℕ) (more : List ℕ) → 0 < length w → Closed w c → Made w → Made (w ++ (c ∷ more)) → ⊥
never_longer w c more some shut m v =
    let first = λ (f : ℕ → Bool). begins-more f w (c ∷ more) some in
    ⊎_elim
    (λ (word : Word (w ++ (c ∷ more))). true≢false (sym (every-behind is_word w c more word.all_word) ∙ shut.0 (sym (first is_letter) ∙ word.letter_first)))
    (⊎_elim
    (λ (d : (begins is_digit (w ++ (c ∷ more)) ≡ true) × (every is_digit (w ++ (c ∷ more)) ≡ true)). true≢false (sym (every-behind is_digit w c more d.1) ∙ shut.1 (sym (first is_digit) ∙ d.0)))
    (λ (s : (s : Symbol) × (w ++ (c ∷ more) ≡ symbol_bytes s)).
    let long : 1 < length (symbol_bytes s.0) = omega (arith, simp length-append at (ap length s.1)) in
    let p = assign_parts w c more some (s.1 ∙ two_bytes s.0 long) in
    shut.2 p.0 p.1))
    v

other_byte : (k : ℕ) (ks : List ℕ) → (k ≡ 58 → ⊥) → k ∷ ks ≡ 58 ∷ [] → ⊥
other_byte k ks h e = let a : k ≡ 58 = cc in h a

symbol_closed : (s : Symbol) (c : ℕ) → widens s c ≡ false → symbol_bytes s ≡ 58 ∷ [] → c ≡ 61 → ⊥
symbol_closed Assign c h e x = absurd (omega (arith, ap length e))
symbol_closed Colon c h e x = true≢false (sym (eq-eqb c 61 x) ∙ h)
symbol_closed Semicolon c h e x = other_byte 59 [] (λ y. omega arith) e
symbol_closed Open c h e x = other_byte 40 [] (λ y. omega arith) e
symbol_closed Close c h e x = other_byte 41 [] (λ y. omega arith) e
symbol_closed Plus c h e x = other_byte 43 [] (λ y. omega arith) e
symbol_closed Minus c h e x = other_byte 45 [] (λ y. omega arith) e
symbol_closed Times c h e x = other_byte 42 [] (λ y. omega arith) e
symbol_closed Over c h e x = other_byte 47 [] (λ y. omega arith) e
symbol_closed Equals c h e x = other_byte 61 [] (λ y. omega arith) e
symbol_closed Less c h e x = other_byte 60 [] (λ y. omega arith) e
symbol_closed Bar c h e x = other_byte 124 [] (λ y. omega arith) e

no_word_no_digit : (l d : Bool) → (l || d) ≡ false → d ≡ false
no_word_no_digit true d h = absurd (true≢false h)
no_word_no_digit false d h = h

word_closed : (w : List ℕ) (c : ℕ) → Word w → is_word c ≡ false → Closed w c
word_closed w c h stop =
    (λ _. stop, λ _. no_word_no_digit (is_letter c) (is_digit c) stop, λ e _. true≢false (sym h.letter_first ∙ ap (begins is_letter) e))

begins_apart : (w : List ℕ) → begins is_digit w ≡ true → begins is_letter w ≡ true → ⊥
begins_apart [] d l = true≢false (sym d)
begins_apart (c ∷ cs) d l = true≢false (sym l ∙ digit_no_letter c d)

closed : (l : Lexeme) (w : List ℕ) (c : ℕ) → Spells l w → takes_in l c ≡ false → Closed w c
closed end w c h stop = absurd h
closed (name v) w c h stop = word_closed w c h.1.word stop
closed (numeral ds n) w c h stop =
    let d = (numeral_digits w n h.1).0 in
    (λ l. absurd (begins_apart w d l), λ _. stop, λ e _. true≢false (sym d ∙ ap (begins is_digit) e))
closed (keyword k) w c h stop = word_closed w c (keyword_word w k h) stop
closed (symbol s) w c h stop =
    (λ l. absurd (true≢false (sym l ∙ ap (begins is_letter) h ∙ no_letter s)), λ d. absurd (true≢false (sym d ∙ ap (begins is_digit) h ∙ no_digit s)), λ e x. symbol_closed s c stop (sym h ∙ e) x)
closed (broken r) w c h stop = absurd h

pub spelled_some : (l : Lexeme) (w : List ℕ) → Spells l w → 0 < length w
spelled_some end w h = absurd h
spelled_some (name v) w h = begins_some is_letter w h.1.word.letter_first
spelled_some (numeral ds n) w h = begins_some is_digit w (numeral_digits w n h.1).0
spelled_some (keyword k) w h = begins_some is_letter w (keyword_word w k h).letter_first
spelled_some (symbol s) w h = subst (λ x. 0 < length x) (sym h) (symbol_some s)
spelled_some (broken r) w h = absurd h

longer_front : (w : List ℕ) (c : ℕ) (cs : List ℕ) (k : ℕ) → length w < k → take k (w ++ (c ∷ cs)) ≡ w ++ (c ∷ take (k - length w - 1) cs)
longer_front w c cs k h =
    let n : k ≡ length w + suc (k - length w - 1) = omega arith in
    ap (λ m. take m (w ++ (c ∷ cs))) n ∙ take-append-add w (c ∷ cs) (suc (k - length w - 1))

pub none_longer : NoneLonger
none_longer l m w [] k h stop lt le v = absurd (omega (arith, length-append w []))
none_longer l m w (c ∷ cs) k h stop lt le v =
    let e = longer_front w c cs k lt in
    never_longer w c (take (k - length w - 1) cs) (spelled_some l w h) (closed l w c h stop) (made l w h) (subst Made e (made m (take k (w ++ (c ∷ cs))) v))

-- a fault has a byte
pub fault_some : (r : Reason) (bs : List ℕ) → Fault r bs → 0 < length bs
fault_some StrayByte bs h = begins_some is_stranger bs h
fault_some Malformed bs h =
    ⊎_elim
    (λ (o : Overlong bs). omega (arith, begins_some is_letter o.bytes o.word.letter_first, simp length-append at (ap length o.together)))
    (λ (o : NoNumeral bs). omega (arith, begins_some is_digit o.bytes o.digit_first, simp length-append at (ap length o.together)))
    h
fault_some Unexpected bs h = absurd h
fault_some Undeclared bs h = absurd h
fault_some BadDeclaration bs h = absurd h
fault_some TooDeep bs h = absurd h
fault_some NoRoom bs h = absurd h
fault_some TextTooLong bs h = absurd h
fault_some NotACode bs h = absurd h
fault_some Reserved bs h = absurd h
fault_some TooLarge bs h = absurd h
fault_some BankTooSmall bs h = absurd h
fault_some NotAForm bs h = absurd h
fault_some NoSuchVariable bs h = absurd h
fault_some MoreToDo bs h = absurd h
fault_some NoSuchLine bs h = absurd h
fault_some TooShort bs h = absurd h
