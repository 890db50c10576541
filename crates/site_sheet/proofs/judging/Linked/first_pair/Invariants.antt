-- `first_pair`: the first of the pairs that the rows from the place on begin.
-- Assumes nothing.
use Rattle.octets.proofs.Words.{◌≡◌, drop}
use Rattle.site_sheet.specs.Seen.{known_in, clashing, known_unit, found_pair}
use Rattle.site_sheet.specs.Verdicts.{gather, pairs_with, soonest}
use Rattle.site_sheet.proofs.judging.Linked.first_pair.Given as goal

abbrev pub invariant-loop-place : goal.invariant-loop-place
invariant-loop-place l =
    let rows = known_in l.self.sheet.bytes.now l.self.masks in
    found_pair l.best ≡ soonest (gather (λ g. pairs_with clashing known_unit g rows) (drop l.place rows))
