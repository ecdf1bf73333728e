-- What a caller of `charge_start` is told, by the runs of rest days and by hours. Day j begins with hour 24 × j. Charging from
-- hour s until the stretch begins, with hour 24 × first, takes 24 × first - s hours.
use Rattle.std.specs.Prelude.{◌≡◌, List, [], ◌∷◌, ◌↔◌, ℕ, ◌+◌, ◌*◌, ◌-◌, ◌≤◌, ◌<◌}
use Rattle.laws.specs.Promise.{◌else◌, Promised}
use Rattle.laws.specs.Search.{Run}
use Rattle.days.specs.Range.{last_day, InRange}
use Rattle.rest.specs.Table.{rest_day}
use Rattle.rest.specs.Wings.{IsWing, table_of}
use Rattle.charger.specs.declared.Figures.{Figures}
use Rattle.charger.specs.declared.ChargeAnswer.{ChargeAnswer}

-- Each figure lies within its range.
pub record GoodFigures (x : Figures) : Type 0 where
  pub draw : (1 ≤ x.draw) × (x.draw ≤ 1000000)
  pub capacity : (1 ≤ x.capacity) × (x.capacity ≤ 1000000)
  pub rate : (1 ≤ x.rate) × (x.rate ≤ 1000000)
  pub charge : x.charge ≤ x.capacity

-- A stretch begins after day j.
pub record StretchAfter (table : List ℕ) (j : ℕ) : Type 0 where
  pub first : ℕ
  pub days : ℕ
  pub a_stretch : Run (rest_day table) first days
  pub later : j < first

-- The chosen stretch: none that begins after day j begins sooner.
pub record Chosen (table : List ℕ) (j first days : ℕ) : Type 0 where
  pub a_stretch : Run (rest_day table) first days
  pub later : j < first
  pub next : (f c : ℕ) → Run (rest_day table) f c → j < f → first ≤ f

-- Charging for the stretch may begin with hour s: not before day j begins, nor before the end of a stretch ahead of the
-- chosen one; and what it brings until the stretch begins, with the charge that the bank has, is enough. The capacity is not
-- asked here: a need above it is refused before, and a bank that is full sooner holds the need.
pub record Serves (table : List ℕ) (j : ℕ) (x : Figures) (first days s : ℕ) : Type 0 where
  pub not_before_day : 24 * j ≤ s
  pub not_before_end : (f c : ℕ) → Run (rest_day table) f c → f < first → 24 * (f + c) ≤ s
  pub by_start : s ≤ 24 * first
  pub enough : x.draw * days ≤ x.charge + x.rate * (24 * first - s)

-- The bank has room for what the chosen stretch needs.
pub record Suffices (table : List ℕ) (j : ℕ) (x : Figures) : Type 0 where
  pub first : ℕ
  pub days : ℕ
  pub the_chosen : Chosen table j first days
  pub within : x.draw * days ≤ x.capacity

-- There is an hour with which charging for the chosen stretch may begin.
pub record SomeHour (table : List ℕ) (j : ℕ) (x : Figures) : Type 0 where
  pub first : ℕ
  pub days : ℕ
  pub start : ℕ
  pub the_chosen : Chosen table j first days
  pub serves : Serves table j x first days start

-- What is told where all that is asked is met.
pub record ChargeTold (table : List ℕ) (j : ℕ) (x : Figures) (r : ChargeAnswer) : Type 0 where
  pub the_chosen : Chosen table j r.first r.length
  pub one_to_three : (1 ≤ r.length) × (r.length ≤ 3)
  pub serves : Serves table j x r.first r.length r.start
  -- Charging from `start` for `hours` is done by the stretch's start and brings the charge to the need; fewer hours do not.
  pub done_by : r.start + r.hours ≡ 24 * r.first
  pub reaches : x.draw * r.length ≤ x.charge + x.rate * r.hours
  pub no_fewer : (n : ℕ) → x.draw * r.length ≤ x.charge + x.rate * n → r.hours ≤ n
  -- One hour later is too late, where any hours are needed; and no later hour serves.
  pub too_late : 1 ≤ r.hours → x.charge + x.rate * (24 * r.first - (r.start + 1)) < x.draw * r.length
  pub latest : (s : ℕ) → Serves table j x r.first r.length s → s ≤ r.start

-- A refused answer has zeros besides its number.
abbrev pub Zeros : ChargeAnswer → Type 0
Zeros r = (r.start ≡ 0) × ((r.hours ≡ 0) × ((r.first ≡ 0) × (r.length ≡ 0)))

-- What `charge_start` promises.
abbrev pub PromisedCharge : ℕ → ℕ → Figures → ChargeAnswer → Type 0
PromisedCharge wing j x =
    let table = table_of wing in
    Promised (λ (r : ChargeAnswer). r.refusal)
    (IsWing wing else 15 ∷ InRange j else 4 ∷ GoodFigures x else 12
    ∷ StretchAfter table j else 9 ∷ Suffices table j x else 13 ∷ SomeHour table j x else 14 ∷ [])
    (ChargeTold table j x)
    (λ n r. Zeros r)

-- That leaves one answer.
abbrev pub OneAnswer : ℕ → ℕ → Figures → Type 0
OneAnswer wing j x = (r s : ChargeAnswer) → PromisedCharge wing j x r → PromisedCharge wing j x s → r ≡ s

-- Where the answer is refused with 14 no hour serves.
abbrev pub NoHour : ℕ → ℕ → Figures → ChargeAnswer → Type 0
NoHour wing j x r = r.refusal ≡ 14 → (first days s : ℕ) → Chosen (table_of wing) j first days → ¬ Serves (table_of wing) j x first days s

-- No stretch begins after a day exactly on the last five days of the range.
abbrev pub LastFive : Type 0
LastFive = (wing j : ℕ) → IsWing wing → StretchAfter (table_of wing) j ↔ (j ≤ last_day - 5)
