-- The words of this crate are these numbers, worked out from New Years.
use mathlib.Core.Path.{◌≡◌, refl, sym, ap, ◌∙◌}
use mathlib.Core.List.{List, [], ◌∷◌, ◌++◌, append_assoc}
use mathlib.Core.Logic.{inl, inr}
use Prim.Native.Nat.{ℕ, ◌+◌, ◌*◌, ◌-◌, ◌≤◌}
use native.Mathlib.Omega.{arith}
use lib.ListN.{length, take}
use Rattle.laws.specs.Begun.{begun}
use Rattle.laws.specs.Joined.{joined, total}
use Rattle.laws.specs.Search.{run_start}
use Rattle.laws.proofs.Joins.{joined_split, Holds, held_part, holds_in, holds_first}
use Rattle.days.specs.Weekday.{weekday}
use Rattle.molad.specs.Years.{InYears}
use Rattle.newyear.specs.NewYear.{new_year, year_length}
use Rattle.newyear.proofs.Quick.{quick, new_year_quick}
use Rattle.hebrew.specs.Months.{month_length, days_before}
use Rattle.hebrew.specs.Dates.{month_of}
use Rattle.hebrew.specs.Steps.{year_date, tomorrow}
use Rattle.rest.specs.Wings.{IsWing, table_of}
use Rattle.rest.specs.Steps.{rest_at}
use Rattle.stretches.specs.Stretches.{stretch_rows}
use Rattle.stretches.specs.Steps.{run_before, rows_at}
use Rattle.stretches.proofs.OfKind.{entries, entries_of}
use Rattle.stretches.proofs.Fixed.{long_from, begins_from}
use Rattle.layout.specs.Layout.{little_endian, header_bytes, entry_bytes, row_bytes}
use Rattle.layout.specs.Reading.{worth, number_at}
use Rattle.sheet.specs.Sheet.{most_years, row_of, rows_in, year_rows, rows_before, sheet_size, entry_of, sheet}
use Rattle.sheet.specs.Answers.{sheet_answer, sheet_buffer, wing_sheet_buffer}
use Rattle.sheet.specs.Promises.{offset_told, rows_told, length_told, rows_told_before, stretches_told}
use Rattle.sheet.specs.Fixed.{sheet_of5775, guest_sheet, Writes, WordsFixed}
use Rattle.sheet.proofs.Answers.{sheet_promised, sheet_lent}
use Rattle.sheet.proofs.Room.{size_found}

-- A sheet of this size that begins with these bytes, in lent bytes.
writes :
    (wing h years size : ℕ) (begins : List ℕ) → IsWing wing → (1 ≤ years) × (years ≤ most_years) → InYears h × InYears (h + years - 1) →
    sheet_size wing h years ≡ size → Holds (sheet wing h years) 0 begins → Writes wing h years size begins
writes wing h years size begins w y ends s held buffer p =
    let t = sheet_promised wing h years buffer in
    let room : sheet_size wing h years ≤ length buffer = rw s p in
    let z = t.done.1 (w, (y, (ends, (room, tt)))) in
    let told = t.values (w, (y, (ends, (room, tt)))) ∙ s in
    let list = sheet wing h years in (
      λ i. record { refusal = z i; count = told i },
      held_part (wing_sheet_buffer wing h years buffer) begins 0 _
          (rw ((sheet_lent wing h years buffer).written z) (holds_in _ list _ 0 0 0 (holds_first list _) held refl)) refl,
    )

nothing : (list : List ℕ) → Holds list 0 []
nothing list = holds_first [] list

-- The rows of year h, which begins on day n, the next year on day `next`.
pub counted :
    (wing h n next rows : ℕ) → IsWing wing → InYears h → new_year h ≡ n → new_year (h + 1) ≡ next →
    entries_of (table_of wing) (weekday n) (next - n) ≡ 2 * rows → rows_in wing h ≡ rows
unfolding rows_in
counted wing h n next rows w y e f c = omega (arith, long_from wing h n next w y e f, c)

pub days : (h n next : ℕ) → new_year h ≡ n → new_year (h + 1) ≡ next → year_length h ≡ next - n
unfolding year_length
days h n next e f = rw (e, f)

-- Its first two rows, from the first four numbers of its list.
two_rows :
    (wing h a b c d : ℕ) (tail : List ℕ) → 2 ≤ rows_in wing h → stretch_rows (table_of wing) h ≡ a ∷ b ∷ c ∷ d ∷ tail →
    Holds (year_rows wing h) 0 (row_bytes wing a b ++ row_bytes wing c d)
unfolding year_rows row_of joined
two_rows wing h a b c d tail p e =
    let n : 2 + (rows_in wing h - 2) ≡ rows_in wing h = omega arith in
    let row = row_of wing (stretch_rows (table_of wing) h) in
    let first : joined row 2 ≡ row_bytes wing a b ++ row_bytes wing c d = first_two wing a b c d tail _ e in
    rw (← first, rw n at (joined_split row 2 (rows_in wing h - 2))) (holds_first (joined row 2) _)
  where
    first_two : (wing a b c d : ℕ) (tail list : List ℕ) → list ≡ a ∷ b ∷ c ∷ d ∷ tail → joined (row_of wing list) 2 ≡ row_bytes wing a b ++ row_bytes wing c d
    first_two wing a b c d tail list e = rw e

-- What stands at the front of a list, and of one that comes after another.
no_front : (l : List ℕ) → length l ≡ 0 → l ≡ []
no_front [] e = refl
no_front (x ∷ l) e = absurd (omega arith)

opens : (list part : List ℕ) (h : Holds list 0 part) → list ≡ part ++ h.after
opens list part h = h.whole ∙ rw (no_front h.before h.place)

behind : (l list part : List ℕ) → Holds list 0 part → Holds (l ++ list) 0 (l ++ part)
behind l list part h =
    record { before = []; after = h.after; place = refl; whole = ap (λ (x : List ℕ). l ++ x) (opens list part h) ∙ sym (append_assoc l part h.after) }

in_front : (list more part : List ℕ) → Holds list 0 part → Holds (list ++ more) 0 part
in_front list more part h = holds_in _ list _ 0 0 0 (holds_first list more) h refl

pub words_fixed : WordsFixed
unfolding quick table_of sheet_answer sheet_buffer rest_at year_date month_of begun days_before month_length tomorrow run_start entries rows_at run_before sheet_size rows_before total joined sheet header_bytes entry_of entry_bytes row_bytes little_endian number_at worth offset_told rows_told length_told rows_told_before stretches_told
words_fixed =
    let n1 : new_year 1 ≡ 347998 = new_year_quick 1 (omega arith) in
    let n2 : new_year 2 ≡ 348353 = new_year_quick 2 (omega arith) in
    let n5775 : new_year 5775 ≡ 2456926 = new_year_quick 5775 (omega arith) in
    let n5776 : new_year 5776 ≡ 2457280 = new_year_quick 5776 (omega arith) in
    let n5777 : new_year 5777 ≡ 2457665 = new_year_quick 5777 (omega arith) in
    let n5778 : new_year 5778 ≡ 2458018 = new_year_quick 5778 (omega arith) in
    let n9999 : new_year 9999 ≡ 3999723 = new_year_quick 9999 (omega arith) in
    let n10000 : new_year 10000 ≡ 4000076 = new_year_quick 10000 (omega arith) in
    let c1 = counted 1 1 347998 348353 56 (inl refl) (omega arith) n1 n2 refl in
    let c5775 = counted 1 5775 2456926 2457280 53 (inl refl) (omega arith) n5775 n5776 refl in
    let c9999 = counted 1 9999 3999723 4000076 57 (inl refl) (omega arith) n9999 n10000 refl in
    let g5775 = counted 2 5775 2456926 2457280 51 (inr refl) (omega arith) n5775 n5776 refl in
    let g5776 = counted 2 5776 2457280 2457665 59 (inr refl) (omega arith) n5776 n5777 refl in
    let g5777 = counted 2 5777 2457665 2458018 57 (inr refl) (omega arith) n5777 n5778 refl in
    let d5775 = days 5775 2456926 2457280 n5775 n5776 in
    let d5776 = days 5776 2457280 2457665 n5776 n5777 in
    let d5777 = days 5777 2457665 2458018 n5777 n5778 in
    let list-1 = opens _ _ (begins_from 1 5775 2456926 2457280 (inl refl) (omega arith) n5775 n5776 11 (omega arith)) in
    let list-2 = opens _ _ (begins_from 2 5775 2456926 2457280 (inr refl) (omega arith) n5775 n5776 11 (omega arith)) in
    let one = two_rows 1 5775 2456926 3 2456935 1 _ (omega (arith, c5775)) list-1 in
    let two = two_rows 2 5775 2456926 3 2456935 1 _ (omega (arith, g5775)) list-2 in
    record {
      wing_1 = writes 1 5775 1 342 sheet_of5775 (inl refl) (omega arith) (omega arith) (rw c5775) (rw (c5775, d5775) (behind (take 24 sheet_of5775) _ _ one));
      guest_wing = writes 2 5775 3 1042 guest_sheet (inr refl) (omega arith) (omega arith) (rw (g5775, g5776, g5777))
          (rw (g5775, g5776, g5777, d5775, d5776, d5777) (behind (take 40 guest_sheet) _ _ (in_front _ (year_rows 2 5777) _ (in_front _ (year_rows 2 5776) _ two))));
      index = (refl, refl, refl, refl, refl, refl, refl, refl, refl, refl, refl, refl);
      rows = refl;
      hundred = (
        writes 1 458 100 34650 [] (inl refl) (omega arith) (omega arith) (size_found 1) (nothing _),
        writes 2 163 100 34098 [] (inr refl) (omega arith) (omega arith) (size_found 2) (nothing _),
      );
      ends = (
        writes 1 1 1 360 [] (inl refl) (omega arith) (omega arith) (rw c1) (nothing _),
        writes 1 9999 1 366 [] (inl refl) (omega arith) (omega arith) (rw c9999) (nothing _),
      );
      no_wing = ((refl, refl), (refl, refl));
      no_years = ((refl, refl), (refl, refl), (refl, refl), (refl, refl));
      outside = ((refl, refl), (refl, refl), (refl, refl), (refl, refl));
      short = ((rw c5775, rw c5775), (rw (g5775, g5776, g5777), rw (g5775, g5776, g5777)));
    }
