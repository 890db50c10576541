-- `first_with`: the first of the pairs with the rows from the place on.
-- Assumes nothing.
use Rattle.octets.proofs.Words.{◌≡◌, drop}
use Rattle.site_sheet.specs.Seen.{known_in, clashing, known_unit, found_pair, soonest_with}
use Rattle.site_sheet.specs.Verdicts.{pairs_with}
use Rattle.site_sheet.proofs.judging.Linked.first_with.Given as goal

abbrev pub invariant-loop-place : goal.invariant-loop-place
invariant-loop-place l =
    found_pair l.best ≡ soonest_with (pairs_with clashing known_unit l.one (drop l.place (known_in l.self.sheet.bytes.now l.self.masks))) (found_pair l.initial.best)
