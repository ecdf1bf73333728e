-- The contract of `asked` leaves one result.
use mathlib.Core.Path.{◌≡◌, sym, ◌∙◌, ap}
use Prim.Native.Nat.{ℕ}
use native.Mathlib.Omega.{arith}
use Rattle.std.proofs.Common.{Result, Ok, Err}
use Rattle.refusals.proofs.Named.{one_refusal}
use Rattle.refusals.specs.declared.Refusal.{Refusal}
use Rattle.newyear_code.specs.declared.span.Span.{Span}
use Rattle.newyear_code.proofs.Answers.{year_span_one}
use Rattle.rest_table.proofs.Answers.{wing_one}
use Rattle.rest_table.specs.declared.wings.Wing.{Wing}
use Rattle.rest_code.specs.Asked.{IsAsked}

pub asked_one : (wing h : ℕ) (r s : Result (Wing × Span) Refusal) → IsAsked wing h r → IsAsked wing h s → r ≡ s
asked_one wing h (Ok a) (Ok b) p q =
    let w = wing_one a.0 b.0 (p.1.0 ∙ sym q.1.0) in
    let t = year_span_one h a.1 b.1 p.1.1 q.1.1 in
    λ i. Ok (w i, t i)
asked_one wing h (Ok a) (Err b) p q = absurd (omega (arith, p.0, q.0))
asked_one wing h (Err a) (Ok b) p q = absurd (omega (arith, p.0, q.0))
asked_one wing h (Err a) (Err b) p q = ap Err (one_refusal a b (p.1 ∙ sym q.1))
