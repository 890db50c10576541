-- `Candidate::at`: an entry in a part of the bytes is that in all of them.
-- Assumes nothing.
use Rattle.octets.proofs.Words.{ap, ◌∙◌, ◌+◌, ◌*◌, ◌-◌, arith}
use Rattle.route_merges.specs.Offering.{offer_of}
use Rattle.route_merges.proofs.CandidateLaws.{entry-part}
use Rattle.route_merges.proofs.candidate.Candidate.at.Goals as goal

pub returns : goal.returns
returns c =
    let a = c.args in
    let start = 10 * a.position in
    c.from_entry-2.ensures ∙ ap (offer_of _ _ _) (c.of-2.ensures ∙ entry-part a.part.now a.position (start + 10 - start) (omega arith))
