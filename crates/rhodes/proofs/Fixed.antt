-- Her route answers with these numbers.
use mathlib.Core.Path.{refl, ◌∙◌}
use native.Mathlib.Omega.{arith}
use Rattle.molad.specs.Years.{leap}
use Rattle.molad.specs.Molad.{molad_after}
use Rattle.newyear.proofs.Quick.{quick, quick_delay}
use Rattle.newyear.proofs.Fixed.{answer_quick}
use Rattle.rhodes.specs.Answers.{rhodes_answer}
use Rattle.rhodes.specs.Fixed.{WordsFixed}
use Rattle.rhodes.proofs.Same.{same_answer}

pub words_fixed : WordsFixed
unfolding quick quick_delay molad_after leap rhodes_answer
words_fixed =
    record {
      ends = (same_answer 1 ∙ answer_quick 1 (omega arith), same_answer 10000 ∙ answer_quick 10000 (omega arith));
      years = (same_answer 5762 ∙ answer_quick 5762 (omega arith), same_answer 3 ∙ answer_quick 3 (omega arith));
      outside = (refl, refl);
    }
