-- What `fasts` promises; and that each contract leaves one answer.
use mathlib.Core.Path.{◌≡◌, refl, sym, ◌∙◌}
use mathlib.Core.Bool.{Bool, true}
use mathlib.Core.List.{List}
use Prim.Native.Nat.{ℕ, zero, suc, ◌/◌, ◌<◌}
use native.Mathlib.Omega.{arith}
use lib.ListN.{get_or, take}
use Rattle.laws.specs.Promise.{Smallest}
use Rattle.laws.specs.Buffer.{Lent}
use Rattle.laws.specs.Runs.{elem}
use Rattle.laws.proofs.One.{one_result}
use Rattle.laws.proofs.Stores.{list_written}
use Rattle.laws.proofs.Promises.{smallest}
use Rattle.days.specs.Weekday.{weekday}
use Rattle.molad.specs.Years.{InYears}
use Rattle.newyear.specs.NewYear.{InYear}
use Rattle.newyear.proofs.YearOf.{year_is}
use Rattle.hebrew.specs.Dates.{date_of}
use Rattle.hebrew.specs.Rows.{row}
use Rattle.lists.specs.Lists.{days_of}
use Rattle.lists.specs.declared.ListAnswer.{ListAnswer}
use Rattle.lists.proofs.Lists.{list_promised, list_lent, days_hold}
use Rattle.fasts.specs.Fasts.{fast_table, fast_day, fast_days}
use Rattle.fasts.specs.Ahead.{FastOn, fast_ahead}
use Rattle.fasts.specs.Steps.{may_fast}
use Rattle.fasts.specs.Answers.{fasts_answer, fasts_buffer}
use Rattle.fasts.specs.Promises.{fast_months, on, FastsOf, PromisedFasts}
use Rattle.fasts.specs.declared.Ahead.{Ahead}
use Rattle.fasts.proofs.Kept.{tevet_no_saturday, kept_own, kept_sunday, kept_thursday, kept_date, fast_dated, fast_month}
use Rattle.fasts.proofs.Found.{five_rise, in_its_year}
use Rattle.fasts.proofs.Neighbours.{of_its_month}

pub fasts_promised : (h : ℕ) (buffer : List ℕ) → PromisedFasts h buffer (fasts_answer h buffer)
unfolding days_of
fasts_promised h buffer = list_promised h buffer (fast_days fast_table h) 5

-- Where year and room are both bad, the smaller number is given.
pub fasts_smallest : (h : ℕ) (buffer : List ℕ) → Smallest (fasts_promised h buffer)
fasts_smallest h buffer = smallest (fasts_promised h buffer) (omega arith, (omega arith, tt))

pub fasts_lent : (h : ℕ) (buffer : List ℕ) → Lent (fasts_answer h buffer).refusal (fast_days fast_table h) buffer (fasts_buffer h buffer)
fasts_lent h buffer = list_lent h buffer (fast_days fast_table h) 5

module _ (h : ℕ) (y : InYears h) where
  abbrev list : List ℕ
  list = fast_days fast_table h

  -- What holds of the fast of each row holds of each entry, with its month.
  in_list : (P : ℕ → ℕ → Type 0) → ((r : ℕ) → elem r fast_table ≡ true → P (r / 100) (fast_day h r)) → (i : ℕ) → i < 5 → P (get_or fast_months i 0) (get_or list i 0)
  unfolding days_of
  in_list P all zero l = all (row 1 3) refl
  in_list P all (suc zero) l = all (row 4 10) refl
  in_list P all (suc (suc zero)) l = all (row 7 13) refl
  in_list P all (suc (suc (suc zero))) l = all (row 11 17) refl
  in_list P all (suc (suc (suc (suc zero)))) l = all (row 12 9) refl
  in_list P all (suc (suc (suc (suc (suc i))))) l = absurd (omega arith)

  -- A fast of the year is in the list.
  listed : (code n : ℕ) (f : FastOn code n) → InYear n h → elem n list ≡ true
  listed code n f i =
      let same : f.year ≡ h = sym (year_is n f.year (in_its_year code n f)) ∙ year_is n h i in
      let e : fast_day h f.fast ≡ n = rw (← same) f.kept in
      rw (← e) (days_hold (fast_day h) fast_table f.fast f.in_table)

  fasts_of : FastsOf h list
  unfolding days_of fast_day
  fasts_of =
      record {
        five = refl;
        rising = five_rise h y;
        tishri = (kept_own 1 (on h 1 3), λ q. let e = kept_sunday 1 (on h 1 3) refl q in (e, rw e (omega arith)));
        tevet = (kept_own 4 (on h 4 10) (tevet_no_saturday h y), tevet_no_saturday h y);
        adar = (kept_own 7 (on h 7 13), λ q. let e = kept_thursday (on h 7 13) q in (omega arith, rw e (omega arith)));
        tammuz = (kept_own 11 (on h 11 17), λ q. let e = kept_sunday 11 (on h 11 17) refl q in (e, rw e (omega arith)));
        av = (kept_own 12 (on h 12 9), λ q. let e = kept_sunday 12 (on h 12 9) refl q in (e, rw e (omega arith)));
        no_saturday = in_list (λ code n. ¬ (weekday n ≡ 7)) (λ r e. (kept_date h y r e).no_saturday);
        in_month =
            in_list (λ code n. ((date_of n).year ≡ h) × ((date_of n).month ≡ code)) (λ r e. (rw (fast_dated h y r e), fast_month h y r e));
        fasts = in_list FastOn (λ r e. record { year = h; of_years = y; fast = r; in_table = e; of_month = refl; kept = refl });
        no_other = λ code n f i. (listed code n f i, of_its_month code n f);
      }

-- What stands in the buffer when the call is done.
pub fasts_given : (h : ℕ) (buffer : List ℕ) → (fasts_answer h buffer).refusal ≡ 0 → FastsOf h (take 5 (fasts_buffer h buffer))
unfolding days_of
fasts_given h buffer z =
    let met = (fasts_promised h buffer).done.0 z in
    rw (list_written (fast_days fast_table h) buffer _ _ 5 (fasts_lent h buffer) z refl) (fasts_of h met.0)

-- One answer, and one state of the buffer.
pub fasts_one : (h : ℕ) (buffer : List ℕ) (r s : ListAnswer) → r ≡ fasts_answer h buffer → s ≡ fasts_answer h buffer → r ≡ s
fasts_one h buffer = one_result (fasts_answer h buffer)

pub fasts_buffer_one : (h : ℕ) (buffer r s : List ℕ) → r ≡ fasts_buffer h buffer → s ≡ fasts_buffer h buffer → r ≡ s
fasts_buffer_one h buffer = one_result (fasts_buffer h buffer)

pub ahead_one : (j : ℕ) (f g : Ahead) → f ≡ fast_ahead j → g ≡ fast_ahead j → f ≡ g
ahead_one j = one_result (fast_ahead j)

pub may_fast_one : (code d : ℕ) (b c : Bool) → b ≡ may_fast code d → c ≡ may_fast code d → b ≡ c
may_fast_one code d = one_result (may_fast code d)
