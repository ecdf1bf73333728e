-- What `new_year_rhodes` answers.
use Rattle.std.specs.Prelude.{cond, ℕ}
use Rattle.molad.specs.Years.{out_of_new_years}
use Rattle.newyear.specs.Answers.{no_new_year, new_year_on}
use Rattle.newyear.specs.declared.NewYearAnswer.{NewYearAnswer}
use Rattle.rhodes.specs.Rhodes.{rhodes_delay, rhodes_new_year, rhodes_molad_day, rhodes_molad_time}

-- Refusal 1: the year lies outside 1..10,000.
unfoldable pub rhodes_answer : ℕ → NewYearAnswer
rhodes_answer h = cond (out_of_new_years h) (no_new_year 1) (new_year_on (rhodes_new_year h) (rhodes_molad_day h) (rhodes_molad_time h) (rhodes_delay h))
