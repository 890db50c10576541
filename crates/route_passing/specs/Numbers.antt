-- What passing on by numbers gives.
-- Assumes nothing.
use Rattle.route_table.specs.Outcomes.{Changed}
use Rattle.route_passing.specs.declared.Numbered.{Numbered}

abbrev pub numbered : Changed → Numbered
numbered c = record { refused = c.refused; table = c.table }
