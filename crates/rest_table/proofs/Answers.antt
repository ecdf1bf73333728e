-- The contract of each way to a wing leaves one result.
use Rattle.std.proofs.Common.{arith, ◌≡◌, refl, sym, ◌∙◌, ap, ℕ, Result, Ok, Err}
use lib.ListN.{length}
use Rattle.laws.proofs.Tests.{clash}
use Rattle.refusals.specs.declared.Refusal.{Refusal}
use Rattle.rest.specs.Wings.{out_of_wings, table_of}
use Rattle.rest_table.specs.Wing.{number_of, Names}
use Rattle.rest_table.proofs.Numbered.{known_wing}
use Rattle.rest_table.specs.declared.wings.Wing.{Wing}
use Rattle.rest_table.specs.declared.wings.Wing.TheVariants.{Hall, Guest}

-- A number names one wing.
pub wing_one : (a b : Wing) → number_of a ≡ number_of b → a ≡ b
wing_one Hall Hall e = refl
wing_one Hall Guest e = absurd (omega (arith, e))
wing_one Guest Hall e = absurd (omega (arith, e))
wing_one Guest Guest e = refl

-- Of `try_from`.
pub try_from_one : (number : ℕ) (r s : Result Wing Refusal) → Names number r → Names number s → r ≡ s
try_from_one number (Ok a) (Ok b) p q = ap Ok (wing_one a b (p ∙ sym q))
try_from_one number (Ok a) (Err why) p q = absurd (clash (out_of_wings number) q.1 (known_wing a number p))
try_from_one number (Err why) (Ok b) p q = absurd (clash (out_of_wings number) p.1 (known_wing b number q))
try_from_one number (Err why) (Err other) p q = ap Err (p.0 ∙ sym q.0)

differ : (a b : Wing) → table_of (number_of a) ≡ table_of (number_of b) → a ≡ b
unfolding table_of
differ Hall Hall e = refl
differ Hall Guest e = absurd (omega (arith, ap length e))
differ Guest Hall e = absurd (omega (arith, ap length e))
differ Guest Guest e = refl

-- Of `of`: the two tables differ.
pub of_one : (number : ℕ) (a b : Wing) → table_of (number_of a) ≡ table_of number → table_of (number_of b) ≡ table_of number → a ≡ b
of_one number a b p q = differ a b (p ∙ sym q)
