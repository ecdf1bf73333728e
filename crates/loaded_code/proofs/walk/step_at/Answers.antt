use mathlib.Core.Path.{◌≡◌}
use Rattle.loaded.specs.Walk.{no_more, row_given, row_after}
use Rattle.loaded.specs.declared.Row.{Row}
use Rattle.loaded_code.proofs.walk.step_at.Goals as goal

-- No row has zeros alone.
zeros : (r : Row) → (r.more ≡ 0) × ((r.first ≡ 0) × ((r.length ≡ 0) × (r.wing ≡ 0))) → r ≡ no_more
zeros r e = let f : ◌≡◌ {A = Row} (record { more = r.more; first = r.first; length = r.length; wing = r.wing }) no_more = rw (e.0, e.1.0, e.1.1.0, e.1.1.1) in f

pub returns-in-Some : goal.returns-in-Some
unfolding row_given row_after
returns-in-Some c =
    let e = c.in-Some.ensures in
    rw (e.0, c.number_at.ensures.0, c.number_at-in-Some.ensures.0, c.number_at-in-Some-2.ensures.0, e.1)

pub returns-in-None : goal.returns-in-None
unfolding row_given row_after
returns-in-None c = rw (c.in-None.ensures, zeros c.default.result c.default.ensures)
