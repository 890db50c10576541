-- `rows_on`'s loop: the rows that are on the page, with those that are left, are all.
-- Assumes nothing.
use Rattle.route_pages.proofs.WalkLaws.{OnPage}
use Rattle.route_pages.proofs.rows.rows_on.Given as goal

abbrev pub invariant-loop-place : goal.invariant-loop-place
invariant-loop-place l = OnPage l.s l.behind l.time l.place l.skip l.count l.page
