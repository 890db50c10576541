-- What an update offers: its origin as a neighbour, then each of its entries one hop further away.
-- Assumes nothing.
use Rattle.std.specs.Prelude.{ℕ, ◌+◌, ◌/◌, Bool, ◌||◌, cond, List, [], ◌∷◌, eqb, ltb}
use Rattle.frame_traffic.specs.declared.entry.Entry.{Entry}
use Rattle.route_merges.specs.declared.candidate.Candidate.{Candidate}

-- the origin itself: one hop away, with the quality that its frame was heard with
abbrev pub neighbour : ℕ → ℕ → Candidate
neighbour origin quality = record { destination = origin; hops = 1; quality = quality }

-- an entry: one hop more, and the mean of both qualities, rounded down
abbrev pub offered : ℕ → Entry → Candidate
offered quality e = record { destination = e.destination; hops = e.hops + 1; quality = (e.quality + quality) / 2 }

-- entries for this unit, for the origin, or by this unit are passed over
abbrev pub passed_over_of : ℕ → ℕ → Entry → Bool
passed_over_of own origin e = eqb e.destination own || eqb e.destination origin || eqb e.next_hop own

abbrev pub offers : ℕ → ℕ → ℕ → List Entry → List Candidate
offers own origin quality [] = []
offers own origin quality (e ∷ es) =
    cond (passed_over_of own origin e) (offers own origin quality es) (offered quality e ∷ offers own origin quality es)

-- all of them, in order
abbrev pub candidates : ℕ → ℕ → ℕ → List Entry → List Candidate
candidates own origin quality es = neighbour origin quality ∷ offers own origin quality es

-- a candidate is bad with more than 16 hops or a quality under 40; an entry that is unreachable, 255, comes to 256 hops
abbrev pub bad : Candidate → Bool
bad c = ltb 16 c.hops || ltb c.quality 40
