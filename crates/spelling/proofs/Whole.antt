-- What a buffer holds once a whole program was written into it.
use Rattle.std.proofs.Common.{◌≡◌, ℕ, ◌-◌, ◌≤◌, List, ◌++◌, length, take, replicate, sym, ap, ◌∙◌, subst, inl, inr, ⊎_elim, arith, take_at}
use Rattle.refusals.specs.declared.Reason.{Reason}
use Rattle.refusals.specs.declared.Refusal.{Refusal}
use Rattle.lists.specs.declared.Places.{Places}
use Rattle.lists.specs.Overlay.{Laid}
use Rattle.lists.proofs.Laws.{blank-behind}
use Rattle.syntax.specs.declared.held.Program.{Program}
use Rattle.syntax.specs.Names.{spellings}
use Rattle.syntax.specs.Held.{script_held, tree_rows_held, Held}
use Rattle.reading.specs.Grammar.{TextOf}
use Rattle.spelling.specs.Spelling.{spelling}
use Rattle.spelling.specs.Buffers.{Appended, Put, Fitted, Unfit, Turned}
use Rattle.spelling.specs.Parts.{declarations_bytes, rows_bytes, names_held}
use Rattle.spelling.proofs.Appending.{same_length}
use Rattle.spelling.proofs.Putting.{put_more, put_as}
use Rattle.spelling.proofs.Appends.{spelling_parts}
use Rattle.spelling.proofs.ReadsBack.{reads_back}

-- declarations and rows, written from the front of a buffer, make the spelling
pub whole : (p : Program) → Held p → {a b c : Places ℕ} {x z : List ℕ} → length x ≤ 18446744073709551615 → x ≡ a.cells.now → a.used ≡ 0 → z ≡ c.cells.now
    → Put a b (declarations_bytes p.declarations.now) → Put b c (rows_bytes (names_held p) (tree_rows_held p)) → Appended x 0 (spelling (script_held p)) z c.used
whole p held {a} {b} {c} long before start after first second =
    let parts = ap (λ ds. declarations_bytes ds ++ rows_bytes (spellings ds) (tree_rows_held p)) held.is_form.declarations_are in
    let all : Put a c (spelling (script_held p)) = put_as (parts ∙ sym (spelling_parts (script_held p))) (put_more first second) in
    rw (before, after, sym start) (all.appended (omega (arith, ap length before), omega (arith, start)))

module _ {x z t : List ℕ} {n : ℕ} (w : Appended x 0 t z n) where
  zeros : {after : List ℕ} → after ≡ replicate (length z - 0) 0 → after ≡ replicate (length x) 0
  zeros e = let long : length z - 0 ≡ length x = omega (arith, same_length w) in e ∙ ap (λ k. replicate k 0) long

  unfit : (r : Reason) → Unfit n (length z) r → Unfit (length t) (length x) r
  unfit r h = ⊎_elim
      (λ l. inl (omega (arith, w.behind, l.0), l.1))
      (λ s. inr (omega (arith, w.behind, s.0), omega (arith, w.behind, same_length w, s.0, s.1), s.2))
      h

  pub turned : {after : List ℕ} {e : Refusal} {r : Reason} → Unfit n (length z) r → e.reason ≡ r → e.place ≡ 0 → after ≡ replicate (length z - 0) 0 → Turned t x e after
  turned h reason place all = record { why = subst (Unfit (length t) (length x)) (sym reason) (unfit _ h); place = place; holds = zeros all }

  pub fitted : {after : List ℕ} → (n ≤ 1048576) × (n ≤ length z) → after ≡ take n z ++ replicate (length z - n) 0 → Fitted t x n after
  fitted h e =
      let laid : Laid x 0 t z n = record { gives = w.gives; behind = omega (arith, w.behind, h.0) } in
      record {
        not_too_long = omega (arith, w.behind, h.0);
        room = omega (arith, w.behind, same_length w, h.0, h.1);
        count = omega (arith, w.behind, h.0);
        holds = e ∙ blank-behind 0 laid (omega (arith, same_length w, h.1));
      }

-- and what fits reads back
pub text_back : (p : Program) → Held p → {x after : List ℕ} {n : ℕ} → Fitted (spelling (script_held p)) x n after → TextOf (take n after) (script_held p)
text_back p held {x} {after} {n} f =
    let s = script_held p in
    let same : take n after ≡ spelling s = ap (take n) f.holds ∙ take_at (spelling s) (replicate (length x - length (spelling s)) 0) n (sym f.count) in
    subst (λ l. TextOf l s) (sym same) (reads_back s held.well_formed f.not_too_long)
