-- A rewritten script is a script again (`stands`): its names by GeneratedNames.antt, its statements by RewrittenStatements.antt.
use Rattle.std.proofs.Common.{◌≡◌, ℕ, suc, ◌+◌, ◌≤◌, true, ◌&&◌, leb, List, [], ◌∷◌, length, sym, refl, subst, arith}
use Rattle.std.proofs.lemmas.Bool.{and_parts, leb-true}
use Rattle.syntax.specs.declared.form.Declaration.{Declaration}
use Rattle.syntax.specs.Names.{legal_name, legal_declaration, all_legal, spellings, distinct}
use Rattle.syntax.specs.Trees.{number, nesting_in, LegalStatements}
use Rattle.syntax.specs.Scripts.{WellFormed}
use Rattle.syntax.proofs.Forms.{reads}
use Rattle.meaning.specs.Families.{joiner}
use Rattle.meaning.specs.Rules.{level_register, rewritten_in}
use Rattle.meaning.specs.Rewriting.{variables, levels_of, first_rows, rewritten}
use Rattle.meaning.specs.WellFormedness.{RewrittenScripts}
use Rattle.meaning.proofs.GeneratedNames.{well_declared_lem, length-extended, enterable-extended}
use Rattle.meaning.proofs.PlaceCounts.{aligned, tests_are_ifs}
use Rattle.meaning.proofs.Openings.{opens_rewritten, opens_bought}
use Rattle.meaning.proofs.RewrittenStatements.{Stands, all, stands_none, stands_then, stands_assign, stands-join, stands_in, ready_number}

-- the first rows: an assignment of its level for each variable
stands-first : (v H n k : ℕ) (ds : List Declaration) → all_legal ds ≡ true → k + length ds ≤ v → Stands (all v H) n (first_rows v k (levels_of ds))
stands-first v H n k [] h b = stands_none (all v H) n
stands-first v H n k (d ∷ ds) h b =
    let p = and_parts (legal_declaration d) (all_legal ds) h in
    let small = leb-true d.level 2147483647 (and_parts (legal_name d.name) _ p.0).1 in
    stands_then (all v H) n _ _
    (stands_assign (all v H) n (level_register v k) (number d.level) (omega arith) (ready_number (all v H) 19 d.level small))
    (stands-first v H n (suc k) ds p.1 (omega arith))

pub stands : RewrittenScripts
stands G laws s w r = record {
  well_formed = formed;
  count = count;
  few = omega (arith, count, few, low);
  nested = omega (arith, body.nested, low);
  shallow = body.shallow;
  aligned = aligned G s;
  tests_are_ifs = tests_are_ifs G laws s w r;
  own_enterable = enterable-extended ds v n r.names;
  held = reads (rewritten G s) _ _ _ formed (record { declarations_are = refl; rows_are = refl; nodes_are = refl });
  opens = opens_rewritten G laws s r;
  opens_bought = opens_bought G s r;
}
  where
    ds : List Declaration
    ds = s.declarations

    v : ℕ
    v = length s.declarations

    n : ℕ
    n = nesting_in s.statements

    few : v ≤ 64
    few = r.few

    low : n ≤ 16
    low = r.nested

    count : variables (rewritten G s) ≡ v + v + v + n
    count = length-extended ds v n

    own : all_legal ds ≡ true
    own = (and_parts (all_legal ds) (distinct (spellings ds)) (and_parts (leb (length ds) 256) (all_legal ds && distinct (spellings ds)) w.names).1).0

    body : Stands (all v n) (suc n) (rewritten G s).statements
    body =
        stands-join (all v n) (suc n) (first_rows v 0 (levels_of ds)) (rewritten_in v (joiner G) 0 s.statements)
        (stands-first v n (suc n) 0 ds own (omega arith))
        (stands_in v n (joiner G) 0 s.statements w.legal r.shallow (omega arith))

    formed : WellFormed (rewritten G s)
    formed = record {
      names = well_declared_lem ds v n w.names r.names few few low;
      legal = subst (λ k. LegalStatements k (rewritten G s).statements) (sym count) body.legal;
      room = omega (arith, body.nested);
    }
