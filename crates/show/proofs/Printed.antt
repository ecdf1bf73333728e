-- `{:02}` writes a number of two figures.
use Rattle.std.proofs.Common.{◌≡◌, ℕ, ◌-◌, length, append-nil, arith}
use Rattle.std.specs.Fmt.{decimal, styled_decimal, format_spec, padded_integral, char_count}
use Rattle.show.specs.Printed.{two_figures}

pub in_two_figures : (n : ℕ) → styled_decimal (format_spec 32 0 4 2 18446744073709551615) n ≡ two_figures n
unfolding padded_integral char_count
in_two_figures n =
    let short : 2 - length (decimal n) - 0 - 0 ≡ 2 - length (decimal n) = omega arith in
    rw (short, append-nil (decimal n))
