-- `keep_rows`'s loop: the rows kept, with those that are left stored behind them, are all.
-- Assumes nothing.
use Rattle.route_in_place.proofs.KeepLaws.{Keeping}
use Rattle.route_in_place.proofs.changing.keep_rows.Given as goal

abbrev pub invariant-loop-place : goal.invariant-loop-place
invariant-loop-place l = Keeping l.initial.table l.table l.unit l.time l.count l.place
