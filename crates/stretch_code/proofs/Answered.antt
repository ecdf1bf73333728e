-- What the run for a day says of it; and that a stretch that is answered has at most three days.
use Rattle.std.proofs.Common.{arith, ◌≡◌, Bool, true, refl, List, cond, ℕ, ◌+◌, ◌-◌, ◌≤◌, ◌<◌}
use mathlib.Core.Logic.{by_cases}
use native.Mathlib.Decide.{dec_le}
use lib.Dec.{ltb}
use Rattle.days.specs.Range.{last_day, InRange}
use Rattle.days.specs.Weekday.{weekday}
use Rattle.newyear.specs.Kinds.{IsLength}
use Rattle.newyear.specs.NewYear.{new_year, year_length, year_of, InYear}
use Rattle.newyear.proofs.Lengths.{length_in}
use Rattle.newyear.proofs.YearOf.{held}
use Rattle.rest.specs.Check.{passes}
use Rattle.rest.specs.Steps.{rest_at}
use Rattle.rest.specs.Wings.{table_of}
use Rattle.rest.proofs.Passed.{tables_pass}
use Rattle.stretch.specs.Steps.{first_for, past_for}
use Rattle.stretch.specs.Answers.{no_stretch, stretch_on, stretch_answer}
use Rattle.stretch.proofs.Answers.{stretch_told}
use Rattle.stretch.proofs.Answered.{worked_out}

-- In the year that holds the day, whose New Year is day n, and which has l days.
module _ (wing j n l : ℕ) (i : InRange j) (b : n ≡ new_year (year_of j)) (d : l ≡ year_length (year_of j)) where
  abbrev rest : ℕ → ℕ → Bool
  rest w = rest_at (table_of wing) w l

  in_year : InYear j (year_of j)
  in_year = held j i.0 i.1

  pub measured : IsLength l
  measured = rw d (length_in (year_of j) in_year.low (omega (arith, in_year.high)))

  pub inside : (n ≤ j) × (j < n + l)
  unfolding year_length
  inside = omega (arith, b, d, in_year.from, in_year.before)

  pub answered :
      (w first past : ℕ) → w ≡ weekday n →
      first ≡ first_for (rest w) l (j - n) →
      past ≡ past_for (rest w) (rest (w + l)) l (j - n) →
      stretch_answer (table_of wing) j ≡ cond (ltb last_day (n + first)) (no_stretch 9) (stretch_on j (n + first) (n + past))
  answered w first past e f p =
      let h = year_of j in
      let k = inside in
      let x : new_year h + (j - new_year h) ≡ j = omega (arith, b) in
      let y : j - new_year h < year_length h = omega (arith, b, d) in
      rw (f, p, e, b, d)
      (rw x at (worked_out (record { table = table_of wing; year = h; ok = tables_pass wing; low = in_year.low; high = in_year.high }) (j - new_year h) y))

pub short : (table : List ℕ) (j : ℕ) → passes table ≡ true → (stretch_answer table j).length ≤ 3
short table j ok =
    let t = stretch_told table ok j in
    let n = (stretch_answer table j).refusal in
    by_cases (dec_le 1 n)
    (λ l. let z = t.besides n ((t.refused n l).0 refl) in omega (arith, z.1.0))
    (λ l. let e : n ≡ 0 = omega arith in (t.values (t.done.0 e)).1.0.1)
