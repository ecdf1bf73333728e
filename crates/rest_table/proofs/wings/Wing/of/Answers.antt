use Rattle.rest.proofs.Tables.{guest_table_lem}
use Rattle.rest_table.proofs.wings.Wing.of.Goals as goal

pub returns-else-number-eq1 : goal.returns-else-number-eq1
returns-else-number-eq1 c = rw (guest_table_lem _ c.if-number-eq1.false) (guest_table_lem 2 (λ e. absurd (cc e)))
