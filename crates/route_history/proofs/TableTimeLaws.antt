-- Elapsed time of a table is true time.
-- Assumes nothing.
use Rattle.octets.proofs.Words.{refl, map, ◌%◌, ◌^◌}
use Rattle.moments.proofs.ElapsedLaws.{true-time}
use Rattle.route_table.specs.Tables.{fresh_of}
use Rattle.route_history.specs.TableCalls.{recorded, step_of}
use Rattle.route_history.specs.TableLaws.{TrueTime}

pub table-time : TrueTime
table-time own began cs nows timely =
    true-time began (began % 2 ^ 32) (map step_of (recorded (fresh_of own (began % 2 ^ 32)).table cs)) nows refl timely
