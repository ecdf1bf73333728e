-- What the notice program prints for a notice, byte by byte.
use Rattle.std.specs.Prelude.{cond, eqb, List, ℕ, ◌++◌, codes}
use Rattle.std.specs.Fmt.{decimal}
use Rattle.civil.specs.declared.CivilDate.{CivilDate}
use Rattle.notice.specs.declared.NoticeAnswer.{NoticeAnswer}
use Rattle.show.specs.Printed.{two_figures, date}

-- 1 Sunday to 7 Saturday.
abbrev pub weekday_name : ℕ → List ℕ
weekday_name weekday =
    cond (eqb weekday 1) (codes "Sunday")
    (cond (eqb weekday 2) (codes "Monday")
    (cond (eqb weekday 3) (codes "Tuesday")
    (cond (eqb weekday 4) (codes "Wednesday")
    (cond (eqb weekday 5) (codes "Thursday")
    (cond (eqb weekday 6) (codes "Friday")
    (codes "Saturday"))))))

abbrev pub parts_name : ℕ → List ℕ
parts_name part = cond (eqb part 1) (codes "part") (codes "parts")

-- The weekday's name, the date, the clock as HH:MM, and the parts in words.
abbrev pub notice : NoticeAnswer → CivilDate → List ℕ
notice told shown =
    weekday_name told.weekday ++ (codes " " ++ (date shown ++ (codes " " ++ (two_figures told.hour ++ (codes ":" ++ (two_figures told.minute
    ++ (codes " and " ++ (decimal told.part ++ (codes " " ++ parts_name told.part)))))))))
