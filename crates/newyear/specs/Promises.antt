-- What an answer about a New Year promises, and one about a year's kind.
use Rattle.std.specs.Prelude.{◌≡◌, [], ◌∷◌, ◌⊎◌, ℕ, ◌+◌, ◌-◌, ◌/◌, ◌%◌, ◌≤◌, ◌<◌, get_or}
use Rattle.laws.specs.Promise.{◌else◌, Promised}
use Rattle.molad.specs.Years.{InYears, InNewYears, leap}
use Rattle.delays.specs.Promises.{Explained}
use Rattle.newyear.specs.NewYear.{new_year}
use Rattle.newyear.specs.Kinds.{kind_code, kinds}
use Rattle.newyear.specs.Answers.{kind_answer}
use Rattle.newyear.specs.declared.NewYearAnswer.{NewYearAnswer}
use Rattle.newyear.specs.declared.KindAnswer.{KindAnswer}

-- What the New Year of year h promises, by either route: its day j; the molad's day and time t; and how many days lie
-- between, and why.
abbrev pub PromisedNewYear : ℕ → ℕ → ℕ → ℕ → NewYearAnswer → Type 0
PromisedNewYear h j moladJ t =
    Promised (λ (r : NewYearAnswer). r.refusal) (InNewYears h else 1 ∷ [])
    (λ r.
    ((r.day ≡ j) × (r.weekday ≡ (j + 1) % 7 + 1))
    × (((r.molad_day ≡ moladJ) × ((r.molad_hour ≡ t / 1080) × (r.molad_part ≡ t % 1080)))
    × ((moladJ + r.delay ≡ j) × Explained ((moladJ + 1) % 7 + 1) t (leap h) (leap (h - 1)) r.delay r.cause)))
    (λ n r.
    (r.day ≡ 0)
    × ((r.weekday ≡ 0)
    × ((r.molad_day ≡ 0) × ((r.molad_hour ≡ 0) × ((r.molad_part ≡ 0) × ((r.delay ≡ 0) × (r.cause ≡ 0)))))))

-- What the kind of year h promises: New Year's weekday, the year's length, and which of the fourteen these are.
abbrev pub PromisedKind : ℕ → KindAnswer → Type 0
PromisedKind h =
    Promised (λ (r : KindAnswer). r.refusal) (InYears h else 1 ∷ [])
    (λ r.
    ((r.weekday ≡ (new_year h + 1) % 7 + 1) × (r.length ≡ new_year (h + 1) - new_year h))
    × (((1 ≤ r.kind) × (r.kind ≤ 14)) × (get_or kinds (r.kind - 1) 0 ≡ kind_code r.weekday r.length)))
    (λ n r. (r.kind ≡ 0) × ((r.weekday ≡ 0) × (r.length ≡ 0)))

-- One kind comes before another: by New Year's weekday, from Sunday on, and then by the year's length.
abbrev pub KindBefore : KindAnswer → KindAnswer → Type 0
KindBefore r s = (r.weekday < s.weekday) ⊎ ((r.weekday ≡ s.weekday) × (r.length < s.length))

-- Some year among the first 27 is of kind n.
pub record KindOccurs (n : ℕ) : Type 0 where
  pub year : ℕ
  pub early : year ≤ 27
  pub done : (kind_answer year).refusal ≡ 0
  pub told : (kind_answer year).kind ≡ n

-- Both years are answered, and with one kind.
pub record OneKind (g h : ℕ) : Type 0 where
  pub first : (kind_answer g).refusal ≡ 0
  pub second : (kind_answer h).refusal ≡ 0
  pub same : (kind_answer g).kind ≡ (kind_answer h).kind
