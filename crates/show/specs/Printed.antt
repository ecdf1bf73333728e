-- What is printed in place of an answer, and for a civil date, byte by byte. 48 is the figure 0.
use Rattle.std.specs.Prelude.{List, ℕ, ◌-◌, ◌++◌, length, replicate, codes}
use Rattle.std.specs.Fmt.{decimal, signed_decimal}
use Rattle.civil.specs.declared.CivilDate.{CivilDate}

abbrev pub refused : ℕ → List ℕ
refused n = codes "refused " ++ decimal n

-- A number of two figures, or of as many as it has.
abbrev pub two_figures : ℕ → List ℕ
two_figures n = replicate (2 - length (decimal n)) 48 ++ decimal n

-- The year without padding, with a minus sign below zero; month and day of two figures.
abbrev pub date : CivilDate → List ℕ
date d = signed_decimal d.year ++ (codes "-" ++ (two_figures d.month ++ (codes "-" ++ two_figures d.day)))
