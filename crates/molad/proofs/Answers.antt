-- What `molad` promises, and that its contract leaves one answer.
use mathlib.Core.Path.{◌≡◌, refl, sym}
use mathlib.Core.Bool.{Bool, true, false, not, ◌&&◌, and-false, false≢true}
use Prim.Native.Nat.{ℕ}
use native.Mathlib.Omega.{arith}
use borrow.Author.Tests.{eqb-true, eq-eqb}
use lib.Dec.{eqb}
use Rattle.laws.specs.Promise.{Smallest}
use Rattle.laws.proofs.One.{one_result}
use Rattle.laws.proofs.Tests.{and_left}
use Rattle.laws.proofs.Promises.{Catches, ranged, either, asks, answered, smallest}
use Rattle.molad.specs.Years.{leap, last_year}
use Rattle.molad.specs.Molad.{IsMonth, no_month, molad_day, molad_time}
use Rattle.molad.specs.Answers.{no_molad, molad_answer}
use Rattle.molad.specs.Promises.{PromisedMolad}
use Rattle.molad.specs.declared.MoladAnswer.{MoladAnswer}

-- Code 6 in a common year is caught, and so a code that is no month of the year.
adar_one : (isLeap : Bool) (code : ℕ) → Catches (eqb code 6 && not isLeap) (code ≡ 6 → isLeap ≡ true)
adar_one true code = record { passes = λ _ _. refl; catches = λ e. absurd (false≢true (simp and-false at e)) }
adar_one false code =
    record {
      passes = λ e q. absurd (false≢true (sym (rw (eq-eqb code 6 q) at e)));
      catches = λ e m. false≢true (m (eqb-true code 6 (and_left _ _ e)));
    }

pub months_caught : (isLeap : Bool) (code : ℕ) → Catches (no_month isLeap code) (IsMonth isLeap code)
unfolding no_month
months_caught isLeap code = either (ranged 1 13 code) (adar_one isLeap code)

pub molad_promised : (h code : ℕ) → PromisedMolad h code (molad_answer h code)
unfolding molad_answer molad_day molad_time
molad_promised h code =
    asks (no_molad 1) (ranged 1 last_year h) (omega arith) refl (refl, (refl, refl)) (λ _.
    asks (no_molad 2) (months_caught (leap h) code) (omega arith) refl (refl, (refl, refl)) (λ _.
    answered refl ((refl, (refl, refl)), omega arith)))

pub molad_smallest : (h code : ℕ) → Smallest (molad_promised h code)
molad_smallest h code = smallest (molad_promised h code) (omega arith, (omega arith, tt))

-- One answer.
pub molad_one : (h code : ℕ) (r s : MoladAnswer) → r ≡ molad_answer h code → s ≡ molad_answer h code → r ≡ s
molad_one h code = one_result (molad_answer h code)
