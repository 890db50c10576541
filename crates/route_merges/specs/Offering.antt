-- Needs no belief, laws carry it to the candidates: what the code sees of one entry of an update.
-- Assumes nothing.
use Rattle.std.specs.Prelude.{ℕ, cond, Option, Some, None}
use Rattle.frame_traffic.specs.declared.entry.Entry.{Entry}
use Rattle.route_merges.specs.declared.candidate.Candidate.{Candidate}
use Rattle.route_merges.specs.Candidates.{offered, passed_over_of}

-- the candidate that it is, none where it is passed over
abbrev pub offer_of : ℕ → ℕ → ℕ → Entry → Option Candidate
offer_of own origin quality e = cond (passed_over_of own origin e) None (Some (offered quality e))
