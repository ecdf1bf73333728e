-- The rows by year, put together, are the rows walked.
use mathlib.Core.Path.{◌≡◌, sym, ◌∙◌}
use mathlib.Core.List.{List}
use Prim.Native.Nat.{ℕ, ◌+◌, ◌*◌, ◌-◌, ◌/◌, ◌≤◌, ◌<◌}
use native.Mathlib.Omega.{arith}
use lib.ListN.{length, take, drop, length-drop}
use lib.Seq.{length-take-le}
use Rattle.laws.specs.Joined.{joined}
use Rattle.laws.proofs.Joins.{joined_alike, joined_rows}
use Rattle.laws.proofs.Promises.{ranged, let_pass}
use Rattle.layout.proofs.Numbers.{number_in_part}
use Rattle.sheet.specs.Promises.{offset_told, rows_told, rows_told_before}
use Rattle.accepted.specs.Check.{years_told, first_told, count_told, loaded_refusal}
use Rattle.loaded.specs.Rows.{rows_answer}
use Rattle.loaded.specs.Walk.{row_place, row_read}
use Rattle.loaded.specs.Promises.{row_numbers, rows_in_part, year_part, Together}
use Rattle.accepted.proofs.Accepted.{rows_inside}
use Rattle.accepted.proofs.Refusal.{accepted}
use Rattle.loaded.proofs.Answers.{rows_of_sheet}
use Rattle.loaded.proofs.Walks.{rows_handed_out}

-- The rows in a part are those that stand there.
part_rows :
    (bytes : List ℕ) (at n : ℕ) → at + 6 * n ≤ length bytes →
    rows_in_part (take (6 * n) (drop at bytes)) ≡ joined (λ k. row_numbers (row_read bytes (at + 6 * k))) n
part_rows bytes at n p =
    let part = take (6 * n) (drop at bytes) in
    let long : length part ≡ 6 * n = length-take-le (6 * n) (drop at bytes) (rw (length-drop at bytes) (omega arith)) in
    let rows : length part / 6 ≡ n = omega arith in
    rw rows (joined_alike _ _ n (λ k q. same k q))
  where
    same : (k : ℕ) → k < n → row_numbers (row_read (take (6 * n) (drop at bytes)) (6 * k)) ≡ row_numbers (row_read bytes (at + 6 * k))
    same k q =
        let length_at : at + (6 * k + 4) ≡ at + 6 * k + 4 = omega arith in
        let wing-at : at + (6 * k + 5) ≡ at + 6 * k + 5 = omega arith in
        rw (
          number_in_part bytes at (6 * n) (6 * k) 4 (omega arith) p,
          number_in_part bytes at (6 * n) (6 * k + 4) 1 (omega arith) p,
          number_in_part bytes at (6 * n) (6 * k + 5) 1 (omega arith) p,
          length_at,
          wing-at,
        )

module _ (wing : ℕ) (bytes : List ℕ) (z : loaded_refusal wing bytes ≡ 0) where
  abbrev read : ℕ → List ℕ
  read k = row_numbers (row_read bytes (row_place bytes k))

  -- Where a year's rows are told to stand.
  pub year_place : (i : ℕ) → i < years_told bytes → rows_answer wing bytes (first_told bytes + i) ≡ record { refusal = 0; offset = offset_told bytes i; length = 6 * rows_told bytes i }
  year_place i p =
      let e : first_told bytes + i - first_told bytes ≡ i = omega arith in
      let on = let_pass (ranged (first_told bytes) (first_told bytes + years_told bytes - 1) (first_told bytes + i)) (omega arith, omega arith) in
      rw (rows_of_sheet wing bytes (first_told bytes + i) z, on, e)

  -- The rows in a year's part, counted from the sheet's first row on.
  year_rows_lem : (i : ℕ) → i < years_told bytes → rows_in_part (year_part wing bytes i) ≡ joined (λ k. read (rows_told_before bytes i + k)) (rows_told bytes i)
  year_rows_lem i p =
      let fits = (accepted wing bytes z).1.1.0 in
      rw (year_place i p)
      (part_rows bytes (offset_told bytes i) (rows_told bytes i) (rows_inside bytes fits i p)
      ∙ joined_alike _ _ (rows_told bytes i) (λ k q.
      let e : offset_told bytes i + 6 * k ≡ row_place bytes (rows_told_before bytes i + k) = omega (arith, fits.offsets i p) in
      rw e))

  pub together : Together wing bytes
  unfolding rows_told_before
  together =
      let c = (accepted wing bytes z).1.1.0.rows_counted in
      joined_alike _ _ (years_told bytes) year_rows_lem
      ∙ sym (joined_rows read (rows_told bytes) (years_told bytes))
      ∙ rw (← c) (joined_alike _ _ (count_told bytes) (λ k q. rw (rows_handed_out wing bytes z k q)))
