-- A span that holds the day begins at its year's New Year, and has its length.
use Rattle.stretch_code.proofs.asked.stretch_in.Goals as goal

pub stretch_of-requires : goal.stretch_of-requires
stretch_of-requires c =
    let e = c.args.span.is_span in
    let y = c.requires.1 in (c.requires.0, (rw y at e.begins, rw y at e.days))
