-- Two frames that were heard in one slot, and the one to follow: a readable beacon of our network over any other, then the lower hop, then the higher quality,
-- then the first.
-- Assumes nothing.
use Rattle.std.specs.Prelude.{ℕ, Bool, not, ◌&&◌, ◌||◌, cond, List, [], ◌∷◌, eqb, ltb}
use Rattle.octets.specs.Answers.{Reason, reason, first}
use Rattle.octets.specs.Parts.{Lent, part_of}
use Rattle.frame_beacons.specs.EitherBeacons.{either_in, refusal_for}
use Rattle.unit_choice.specs.Outcomes.{Rank}
use Rattle.unit_choice.specs.Outcomes.{Chosen}

-- a frame that was heard, and how well
pub record Heard : Type 0 where
  pub frame : List ℕ
  pub quality : ℕ

abbrev pub heard : List ℕ → ℕ → Heard
heard frame quality = record { frame = frame; quality = quality }

-- ---- the order
-- what of a frame counts for a unit of a network: the number that refuses it, its hop, and how well it was heard
unfoldable pub rank_of : ℕ → Heard → Rank
rank_of network h =
    record { refused = refusal_for network h.frame; hop = (either_in h.frame).hop; quality = h.quality }

-- it is a beacon of ours, which nothing refuses
abbrev pub ours : Rank → Bool
ours r = eqb r.refused 0

-- one ranks above another
abbrev pub ranks_above : Rank → Rank → Bool
ranks_above a b =
    ours a && (not (ours b) || ltb a.hop b.hop || (eqb a.hop b.hop && ltb b.quality a.quality))

-- ---- the choice
-- where neither will do, the first's own number
abbrev pub unfollowed_reasons : Rank → Rank → List Reason
unfollowed_reasons a b =
    reason (not (ours a || ours b)) a.refused ∷ []

-- the first, unless the second ranks above it
abbrev pub which : Rank → Rank → ℕ
which a b = cond (ranks_above b a) 1 0

unfoldable pub chosen_of : ℕ → Heard → Heard → Chosen
chosen_of network a b =
    let one = rank_of network a in
    let other = rank_of network b in
    record { refused = first (unfollowed_reasons one other); which = which one other }

-- the chosen one of two slices, where it lies and what it holds; where neither will do, nothing, at the first's start
unfoldable pub handed_back : ℕ → Lent → ℕ → Lent → ℕ → Lent
handed_back network a qualityOfA b qualityOfB =
    let chosen = chosen_of network (heard a.bytes qualityOfA) (heard b.bytes qualityOfB) in
    cond (eqb chosen.refused 0) (cond (eqb chosen.which 1) b a) (part_of a 0 0)
