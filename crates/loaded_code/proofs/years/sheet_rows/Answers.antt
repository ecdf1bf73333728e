use native.Mathlib.Omega.{arith}
use Rattle.loaded.proofs.Answers.{within_sheet}
use Rattle.loaded_code.proofs.years.sheet_rows.Goals as goal

pub overflow_add-end : goal.overflow_add-end
overflow_add-end c =
    let inside = rw c.in-Ok.ensures at (within_sheet c.args.wing c.args.sheet.now c.args.year) in
    record { fits = omega arith }

pub slice_bounds-result-end : goal.slice_bounds-result-end
slice_bounds-result-end c = rw c.in-Ok.ensures at (within_sheet c.args.wing c.args.sheet.now c.args.year)
