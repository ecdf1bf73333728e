-- What `new_year_rhodes` promises, in Rhodes' own steps and in the counted New Year, and that its contract leaves one answer.
use mathlib.Core.Path.{◌≡◌, ◌∙◌}
use Prim.Native.Nat.{ℕ}
use Rattle.laws.proofs.One.{one_result}
use Rattle.molad.specs.Molad.{molad_day, molad_time}
use Rattle.newyear.specs.NewYear.{new_year}
use Rattle.newyear.specs.Answers.{new_year_answer}
use Rattle.newyear.specs.declared.NewYearAnswer.{NewYearAnswer}
use Rattle.newyear.specs.Promises.{PromisedNewYear}
use Rattle.newyear.proofs.Answers.{on_promised, because, new_year_promised}
use Rattle.rhodes.specs.Rhodes.{rhodes_delay, rhodes_new_year, rhodes_molad_day, rhodes_molad_time}
use Rattle.rhodes.specs.Answers.{rhodes_answer}
use Rattle.rhodes.proofs.Same.{same_route, same_answer}

pub new_year_rhodes_promised : (h : ℕ) → PromisedNewYear h (rhodes_new_year h) (rhodes_molad_day h) (rhodes_molad_time h) (rhodes_answer h)
unfolding rhodes_answer
new_year_rhodes_promised h =
    on_promised h (rhodes_new_year h) (rhodes_molad_day h) (rhodes_molad_time h) (rhodes_delay h)
    (λ y. let s = same_route h y.0 y.1 in rw (s.0.0, s.0.1, s.1.0, s.1.1) (because h))

pub new_year_rhodes_counted : (h : ℕ) → PromisedNewYear h (new_year h) (molad_day h 1) (molad_time h 1) (rhodes_answer h)
new_year_rhodes_counted h = rw (same_answer h) (new_year_promised h)

-- One answer.
pub new_year_rhodes_one : (h : ℕ) (r s : NewYearAnswer) → r ≡ rhodes_answer h → s ≡ rhodes_answer h → r ≡ s
new_year_rhodes_one h = one_result (rhodes_answer h)

-- What `new_year_rhodes` may return is what `new_year` may return.
pub same_results : (h : ℕ) (r s : NewYearAnswer) → r ≡ rhodes_answer h → s ≡ new_year_answer h → r ≡ s
same_results h r s p q = one_result (new_year_answer h) r s (p ∙ same_answer h) q
