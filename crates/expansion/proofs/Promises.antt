-- All that is promised of the expansion. Assumes nothing.
use mathlib.Core.Path.{refl}
use Rattle.expansion.specs.Promise.{Promised}
use Rattle.expansion.proofs.RowLaws.{rows_correct, rows_bounded, rows_few}
use Rattle.expansion.proofs.Multiples.{multiples_correct}
use Rattle.expansion.proofs.Period.{period_correct}
use Rattle.expansion.proofs.ConfigurationLaws.{regular_correct, fine_correct}
use Rattle.expansion.proofs.Searches.{searches_correct}
use Rattle.expansion.proofs.Answers.{number, tested_by_name, answer_correct}

pub promised : Promised
promised =
    record {
      rows = rows_correct;
      bounded = rows_bounded;
      multiples = multiples_correct;
      few = rows_few;
      period = period_correct;
      configuration_is = λ n i t. (refl, refl, refl);
      regular = regular_correct;
      fine = fine_correct;
      searches = searches_correct;
      answers = answer_correct;
      refusals = number;
      refused_by_name = tested_by_name;
    }
