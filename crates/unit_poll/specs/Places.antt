-- Needs no belief, laws carry it to the list of others: what the code sees of a poll's 24 places, with no order required.
-- Assumes nothing.
use Rattle.std.specs.Prelude.{ℕ, Bool, not, ◌&&◌, ◌||◌, cond, List, [], ◌∷◌, eqb, ltb}
use Rattle.unit_poll.specs.declared.voter.Voter.{Voter}
use Rattle.octets.specs.Places.{ok_before, ok_places_by}
use Rattle.unit_poll.specs.Voters.{unit_of, voter_rule}

abbrev pub is_none : Voter → Bool
is_none v = eqb v.unit 0 && eqb v.priority 0

-- a place may stand before one of the unit `after`, 0 for none
abbrev pub ok_voter : ℕ → Voter → ℕ → Bool
ok_voter own v after = ok_before unit_of is_none (voter_rule own) v after

-- each place may stand before the next
abbrev pub ok_places : ℕ → List Voter → Bool
ok_places own vs = ok_places_by unit_of is_none (voter_rule own) vs

-- the places when a message is sifted in: it passes the lower ones and takes the place of the next. That is the end where it was empty or the same unit's,
-- else what stood there goes on; once it is at its end, every place stays
abbrev pub sifted : Bool → Voter → List Voter → List Voter
sifted done w [] = []
sifted done w (v ∷ vs) =
    let passes = done || ltb 0 v.unit && ltb v.unit w.unit in
    let last = eqb v.unit 0 || eqb v.unit w.unit in
    cond passes v w ∷ sifted (done || not passes && last) (cond passes w v) vs
