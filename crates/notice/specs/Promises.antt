-- What the notice promises. What the clock shows and when the molad is stand each as one count of parts, so that the two
-- can be compared: the evening with which Hebrew day 0 begins comes six hours before the midnight with which civil day 0
-- does.
use Rattle.std.specs.Prelude.{◌≡◌, ℕ, ◌+◌, ◌*◌, ◌/◌, ◌%◌, ◌≤◌}
use Rattle.molad.specs.Units.{time}
use Rattle.molad.specs.declared.MoladAnswer.{MoladAnswer}
use Rattle.notice.specs.declared.NoticeAnswer.{NoticeAnswer}

-- From the midnight of day 0 to the moment shown: 24 × day + hour hours, minutes of 18 parts, and parts.
abbrev pub parts_from_midnight : NoticeAnswer → ℕ
parts_from_midnight r = time (24 * r.day + r.hour) (18 * r.minute + r.part)

-- From 18:00 the evening before day 0 to a molad as it is answered.
abbrev pub parts_from_evening : MoladAnswer → ℕ
parts_from_evening m = time (24 * m.day + m.hour) m.part

-- The hour is 0 to 23, the minute 0 to 59 and the part 0 to 17.
abbrev pub OnClock : NoticeAnswer → Type 0
OnClock r = (r.hour ≤ 23) × ((r.minute ≤ 59) × (r.part ≤ 17))

-- The clock at a molad on Hebrew day j, at an hour and a part of that hour: the evening before for the hours 0 to 5,
-- else the same day, and the weekday of the day shown.
abbrev pub Shows : ℕ → ℕ → ℕ → NoticeAnswer → Type 0
Shows j hour part r =
    ((hour ≤ 5 → (r.day + 1 ≡ j) × (r.hour ≡ hour + 18)) × (6 ≤ hour → (r.day ≡ j) × (r.hour + 6 ≡ hour)))
    × ((r.weekday ≡ (r.day + 1) % 7 + 1)
    × (((r.minute ≡ part / 18) × (r.part ≡ part % 18))
    × OnClock r))
