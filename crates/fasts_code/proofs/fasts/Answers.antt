use Rattle.lists.specs.Lists.{list_answer, list_buffer}
use Rattle.lists_code.proofs.Rows.{row_passes}
use Rattle.hebrew.specs.Rows.{row_good}
use Rattle.fasts.specs.Fasts.{fast_table}
use Rattle.fasts.proofs.Kept.{table_good}
use Rattle.fasts_code.proofs.fasts.Goals as goal

pub list_days-requires : goal.list_days-requires
list_days-requires c = row_passes fast_table (row_good c.in-Ok.span.length) (table_good _ c.in-Ok.span.is_span.measured)

pub returns-in-Err : goal.returns-in-Err
unfolding list_answer list_buffer
returns-in-Err c = let n = rw c.in-Err.ensures.1 at c.number.ensures in (rw (c.in-Err.ensures.0, n, c.default.ensures.1), rw c.in-Err.ensures.0)
