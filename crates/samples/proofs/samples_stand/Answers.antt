-- The table: each sample is computed.
use Rattle.std.proofs.Common.{refl}
use Rattle.std.specs.Fmt.{digits}
use Rattle.std.specs.Int.{int_wrap}
use Rattle.banks.specs.Cleared.{cleared}
use Rattle.meaning.specs.Machine.{register, line_of}
use Rattle.samples.proofs.Scanning.{text_of, judged}
use Rattle.samples.proofs.Scripts as script
use Rattle.samples.proofs.samples_stand.Goals as goal

pub returns : goal.returns
unfolding digits int_wrap cleared register line_of
returns c = record {
  empty_text = record { text_of = text_of tt refl refl script.empty_formed; spelled = refl };
  writing_text = record { text_of = text_of tt refl refl script.writing_formed; spelled = refl };
  releasing_text = record { text_of = text_of tt refl refl script.releasing_formed; spelled = refl };
  branching_text = record { text_of = text_of tt refl refl script.branching_formed; spelled = refl };
  looping_text = record { text_of = text_of tt refl refl script.looping_formed; spelled = refl };
  replacing_text = record { text_of = text_of tt refl refl script.replacing_formed; spelled = refl };
  choosing_text = record { text_of = text_of tt refl refl script.choosing_formed; spelled = refl };
  marking_text = record { text_of = text_of tt refl refl script.marking_formed; spelled = refl };
  releasing_inside_text = record { text_of = text_of tt refl refl script.releasing_inside_formed; spelled = refl };
  guessing_text = record { text_of = text_of tt refl refl script.guessing_formed; spelled = refl };
  counting_text = record { text_of = text_of tt refl refl script.counting_formed; spelled = refl };
  nesting_text = record { text_of = text_of tt refl refl script.nesting_formed; spelled = refl };
  writing_up_text = record { text_of = text_of tt refl refl script.writing_up_formed; spelled = refl };
  writing_high_text = record { text_of = text_of tt refl refl script.writing_high_formed; spelled = refl };
  greatest_text = record { text_of = text_of tt refl refl script.writing_greatest_formed; spelled = refl };
  greatest_token = refl;
  too_great = judged _ _ refl;
  leading_zeros = judged _ _ refl;
  numbers = refl;
  drops_fraction = refl;
  by_zero = refl;
  least_over = refl;
  rewritten_writing = refl;
  rewritten_choosing = refl;
  rewritten_nesting = refl;
  empty_run = (script.empty_rewritable, (refl, refl));
  releasing_run = (script.releasing_rewritable, (refl, refl));
  budget_enough = (script.releasing_rewritable, (refl, refl));
  budget_spent = (script.releasing_rewritable, (refl, refl));
  sheet_full = (script.releasing_rewritable, (refl, refl));
  releasing_bare = (refl, refl);
  branching_zero = (script.branching_rewritable, (refl, refl));
  branching_one = (script.branching_rewritable, (refl, refl));
  looping_three = (script.looping_rewritable, (refl, refl));
  looping_zero = (script.looping_rewritable, (refl, refl));
  counting_two = (script.counting_rewritable, (refl, refl));
  nesting_zero = (script.nesting_rewritable, (refl, refl));
  nesting_one = (script.nesting_rewritable, (refl, refl));
  writing_up_low = (refl, refl);
  writing_up_high = (refl, refl);
  replacing_run = (script.replacing_rewritable, (refl, refl));
  choosing_zero = (script.choosing_rewritable, (refl, refl));
  choosing_one = (script.choosing_rewritable, (refl, refl));
  marking_zero = (script.marking_rewritable, (refl, refl));
  marking_one = (script.marking_rewritable, (refl, refl));
  releasing_inside_zero = (script.releasing_inside_rewritable, (refl, refl));
  releasing_inside_one = (script.releasing_inside_rewritable, (refl, refl));
  guessing_right = (script.guessing_rewritable, (refl, refl));
  guessing_wrong = (script.guessing_rewritable, (refl, refl));
  reader_no_code = refl;
  reader_first = refl;
  bank_enough = refl;
  bank_too_small = refl;
  writes_no_code = refl;
  branching_rows = refl;
  branching_places = refl;
  as_many_places = refl;
}
