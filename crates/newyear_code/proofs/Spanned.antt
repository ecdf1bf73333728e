-- A year's span from its New Year and the next.
use mathlib.Core.Path.{◌≡◌}
use Prim.Native.Nat.{ℕ, ◌+◌, ◌-◌, ◌≤◌, ◌<◌}
use native.Mathlib.Omega.{arith}
use Rattle.days.specs.Range.{InRange}
use Rattle.molad.specs.Years.{last_year}
use Rattle.newyear.specs.NewYear.{new_year, year_length, year_of}
use Rattle.newyear_code.specs.Spans.{IsSpan}
use Rattle.newyear_code.specs.declared.span.Span.{Span}
use Rattle.newyear.proofs.Lengths.{rises, length_in, near}
use Rattle.newyear.proofs.Rise.{rise_le}
use Rattle.newyear.proofs.YearOf.{first, held}

pub spans : (h n l : ℕ) → 1 ≤ h → h ≤ last_year → n ≡ new_year h → l ≡ new_year (h + 1) - new_year h → IsSpan h n l
unfolding year_length
spans h n l low high b d =
    let m = near h low (omega arith) in
    let r = rise_le 1 h (omega arith) low (omega arith) in
    record {
      begins = b;
      days = d;
      first = low;
      last = high;
      from = omega (arith, first);
      small = omega arith;
      measured = rw d (length_in h low (omega arith));
    }

-- A year ends where the next begins.
pub span_ends : (s : Span) → s.new_year + s.length ≡ new_year (s.year + 1)
unfolding year_length
span_ends s =
    let e = s.is_span in
    rw (e.begins, e.days) (omega (arith, rises s.year e.first (omega (arith, e.last))))

-- A day lies in the span of the year that holds it.
pub span_holds : (j : ℕ) (s : Span) → InRange j → s.year ≡ year_of j → (s.new_year ≤ j) × (j < s.new_year + s.length)
unfolding year_length
span_holds j s r y =
    let i = held j r.0 r.1 in
    let e = s.is_span in
    let b = rw y at e.begins in
    let d = rw y at e.days in
    omega arith
