-- What refuses a list before its buffer is looked at makes the answer, and leaves the buffer as it was.
use mathlib.Core.Path.{◌≡◌, refl}
use mathlib.Core.Bool.{Bool, true, false, cond}
use mathlib.Core.List.{List}
use Prim.Native.Nat.{ℕ}
use native.Mathlib.Omega.{arith}
use Rattle.molad.specs.Years.{out_of_years}
use Rattle.lists.specs.Lists.{no_list}
use Rattle.lists.specs.declared.ListAnswer.{ListAnswer}
use Rattle.rest.specs.Wings.{out_of_wings}
use Rattle.rest.specs.Steps.{list_refusal}

-- By what the wing's and the year's test say.
abbrev number : Bool → Bool → ℕ
number wing year = cond wing 15 (cond year 1 0)

abbrev chosen : {A : Type 0} → Bool → Bool → (ℕ → A) → A → A
chosen wing year f rest = cond wing (f 15) (cond year (f 1) rest)

refuses : {A : Type 0} (wing year : Bool) (f : ℕ → A) (rest : A) → ¬ (number wing year ≡ 0) → f (number wing year) ≡ chosen wing year f rest
refuses true year f rest n = refl
refuses false true f rest n = refl
refuses false false f rest n = absurd (n refl)

lets_pass : (wing year : Bool) → number wing year ≡ 0 → (wing ≡ false) × (year ≡ false)
lets_pass true year e = absurd (omega arith)
lets_pass false true e = absurd (omega arith)
lets_pass false false e = (refl, refl)

module _ (wing h : ℕ) where
  pub list_refused :
      (n : ℕ) (r rest : ListAnswer) (buffer after : List ℕ) → n ≡ list_refusal wing h → ¬ (n ≡ 0) → r ≡ no_list n →
      (r ≡ chosen (out_of_wings wing) (out_of_years h) no_list rest) × (buffer ≡ chosen (out_of_wings wing) (out_of_years h) (λ _. buffer) after)
  unfolding list_refusal
  list_refused n r rest buffer after e z a =
      let some = rw e at z in
      (rw (a, e) (refuses (out_of_wings wing) (out_of_years h) no_list rest some), refuses (out_of_wings wing) (out_of_years h) (λ _. buffer) after some)

  -- Where nothing does, wing and year are good.
  pub list_passed : (n : ℕ) → n ≡ list_refusal wing h → n ≡ 0 → (out_of_wings wing ≡ false) × (out_of_years h ≡ false)
  unfolding list_refusal
  list_passed n e z = lets_pass (out_of_wings wing) (out_of_years h) (rw e at z)
