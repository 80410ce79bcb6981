-- The scripts of the samples keep the limits of the language, and can be rewritten for the ladder.
use Rattle.std.proofs.Common.{◌≡◌, ℕ, true, T, ltb, leb, refl, lit<, lit≤}
use Rattle.syntax.specs.Trees.{number, variable, LegalExpression, nesting_in}
use Rattle.syntax.specs.Scripts.{Script, WellFormed}
use Rattle.meaning.specs.Families.{ladder}
use Rattle.meaning.specs.Rewriting.{Rewritable, variables, deepest_in, none_reserved, levels_of, all_codes, never_stops_in, writes_codes_in}
use Rattle.samples.specs.Scripts.{empty, writing, releasing, branching, looping, replacing, choosing, marking, releasing_inside, guessing, counting, nesting, writing_up, writing_high, writing_greatest}

a_variable : {k v : ℕ} → T (ltb v k) → LegalExpression k (variable v)
a_variable h = record { ranged = lit< h; shallow = lit≤ tt }

a_number : {k n : ℕ} → T (leb n 2147483647) → LegalExpression k (number n)
a_number h = record { ranged = lit≤ h; shallow = lit≤ tt }

pub empty_formed : WellFormed empty
empty_formed = record { names = refl; legal = tt; room = lit≤ tt }

pub writing_formed : WellFormed writing
writing_formed = record { names = refl; legal = ((lit≤ tt, a_variable tt), tt); room = lit≤ tt }

pub releasing_formed : WellFormed releasing
releasing_formed = record { names = refl; legal = ((lit< tt, a_variable tt), ((lit≤ tt, a_variable tt), tt)); room = lit≤ tt }

pub branching_formed : WellFormed branching
branching_formed = record { names = refl; legal = ((a_variable tt, ((lit≤ tt, a_number tt), tt), (tt, tt)), tt); room = lit≤ tt }

pub looping_formed : WellFormed looping
looping_formed = record {
  names = refl;
  legal = ((a_variable tt, ((lit< tt, record { ranged = (lit< tt, lit≤ tt); shallow = lit≤ tt }), tt)), tt);
  room = lit≤ tt;
}

pub replacing_formed : WellFormed replacing
replacing_formed = record {
  names = refl;
  legal = ((lit< tt, a_variable tt), ((lit< tt, a_variable tt), ((lit≤ tt, a_variable tt), tt)));
  room = lit≤ tt;
}

pub choosing_formed : WellFormed choosing
choosing_formed = record {
  names = refl;
  legal = ((a_variable tt, ((lit< tt, a_number tt), tt), (tt, tt)), ((lit≤ tt, a_variable tt), tt));
  room = lit≤ tt;
}

pub marking_formed : WellFormed marking
marking_formed = record {
  names = refl;
  legal = ((a_variable tt, ((lit< tt, a_number tt), tt), (tt, tt)), ((lit< tt, a_variable tt), ((lit≤ tt, a_variable tt), tt)));
  room = lit≤ tt;
}

pub releasing_inside_formed : WellFormed releasing_inside
releasing_inside_formed = record {
  names = refl;
  legal = ((a_variable tt, ((lit< tt, a_variable tt), tt), (tt, tt)), ((lit≤ tt, a_variable tt), tt));
  room = lit≤ tt;
}

pub guessing_formed : WellFormed guessing
guessing_formed = record {
  names = refl;
  legal = ((lit< tt, a_variable tt), ((lit< tt, a_variable tt), ((lit≤ tt, a_variable tt), tt)));
  room = lit≤ tt;
}

pub counting_formed : WellFormed counting
counting_formed = record {
  names = refl;
  legal = ((a_variable tt, ((lit≤ tt, a_variable tt), ((lit< tt, record { ranged = (lit< tt, lit≤ tt); shallow = lit≤ tt }), tt))), tt);
  room = lit≤ tt;
}

pub nesting_formed : WellFormed nesting
nesting_formed = record {
  names = refl;
  legal = (
    (
      a_variable tt,
      ((lit< tt, record { ranged = (lit< tt, lit< tt); shallow = lit≤ tt }), tt),
      ((a_variable tt, ((lit< tt, record { ranged = (lit< tt, lit≤ tt); shallow = lit≤ tt }), tt)), tt),
    ),
    ((lit≤ tt, a_variable tt), tt),
  );
  room = lit≤ tt;
}

pub writing_up_formed : WellFormed writing_up
writing_up_formed = record { names = refl; legal = ((lit≤ tt, a_number tt), tt); room = lit≤ tt }

pub writing_high_formed : WellFormed writing_high
writing_high_formed = record { names = refl; legal = ((lit≤ tt, a_number tt), tt); room = lit≤ tt }

pub writing_greatest_formed : WellFormed writing_greatest
writing_greatest_formed = record { names = refl; legal = ((lit≤ tt, a_number tt), tt); room = lit≤ tt }

-- for the ladder: what is to be computed of a script
rewritable : (s : Script) → T (leb (variables s) 64) → T (leb (nesting_in s.statements) 16) → T (leb (deepest_in s.statements) 16) → none_reserved s.declarations ≡ true
    → all_codes ladder (levels_of s.declarations) ≡ true → never_stops_in s.statements ≡ true → writes_codes_in ladder s.statements ≡ true → Rewritable ladder s
rewritable s few nested shallow names declared unstopped written = record {
  few = lit≤ few;
  nested = lit≤ nested;
  shallow = lit≤ shallow;
  names = names;
  declared = declared;
  unstopped = unstopped;
  written = written;
}

pub empty_rewritable : Rewritable ladder empty
empty_rewritable = rewritable empty tt tt tt refl refl refl refl

pub releasing_rewritable : Rewritable ladder releasing
releasing_rewritable = rewritable releasing tt tt tt refl refl refl refl

pub branching_rewritable : Rewritable ladder branching
branching_rewritable = rewritable branching tt tt tt refl refl refl refl

pub looping_rewritable : Rewritable ladder looping
looping_rewritable = rewritable looping tt tt tt refl refl refl refl

pub replacing_rewritable : Rewritable ladder replacing
replacing_rewritable = rewritable replacing tt tt tt refl refl refl refl

pub choosing_rewritable : Rewritable ladder choosing
choosing_rewritable = rewritable choosing tt tt tt refl refl refl refl

pub marking_rewritable : Rewritable ladder marking
marking_rewritable = rewritable marking tt tt tt refl refl refl refl

pub releasing_inside_rewritable : Rewritable ladder releasing_inside
releasing_inside_rewritable = rewritable releasing_inside tt tt tt refl refl refl refl

pub guessing_rewritable : Rewritable ladder guessing
guessing_rewritable = rewritable guessing tt tt tt refl refl refl refl

pub counting_rewritable : Rewritable ladder counting
counting_rewritable = rewritable counting tt tt tt refl refl refl refl

pub nesting_rewritable : Rewritable ladder nesting
nesting_rewritable = rewritable nesting tt tt tt refl refl refl refl
