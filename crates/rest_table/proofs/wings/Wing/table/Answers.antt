use Rattle.std.proofs.Common.{sym}
use Rattle.rest_table.proofs.Rows.{hall_rows, guest_rows}
use Rattle.rest_table.proofs.wings.Wing.table.Goals as goal

pub returns-in-Hall : goal.returns-in-Hall
returns-in-Hall c = sym (hall_rows _ c.in-Hall.is)

pub returns-in-Guest : goal.returns-in-Guest
returns-in-Guest c = sym (guest_rows _ c.in-Guest.is)
