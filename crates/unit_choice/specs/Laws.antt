-- What holds of every choice between two frames, as statements.
-- Assumes nothing.
use Rattle.std.specs.Prelude.{◌≡◌, ℕ, ◌≤◌, true, false, ◌||◌, cond, eqb}
use Rattle.octets.specs.Parts.{Lent}
use Rattle.frame_beacons.specs.EitherBeacons.{either_refusal, either_in, refusal_for}
use Rattle.unit_choice.specs.Outcomes.{Rank}
use Rattle.unit_choice.specs.Choices.{Heard, heard, rank_of, ours, ranks_above, chosen_of, handed_back}

-- ---- the order
-- nothing ranks above itself, and what ranks above one that ranks above a third ranks above the third
abbrev pub NeverAboveItself : Type 0
NeverAboveItself = (a : Rank) → ranks_above a a ≡ false

abbrev pub AboveGoesOn : Type 0
AboveGoesOn = (a b c : Rank) → ranks_above a b ≡ true → ranks_above b c ≡ true → ranks_above a c ≡ true

-- of two that are not equal in rank every third is below the one or above the other, so that to rank equal goes on too
abbrev pub EqualGoesOn : Type 0
EqualGoesOn = (a b c : Rank) → ranks_above a c ≡ true → (ranks_above a b || ranks_above b c) ≡ true

-- ---- the choice
-- the one of the two that is followed
abbrev pub followed : ℕ → Heard → Heard → Heard
followed network a b = cond (eqb (chosen_of network a b).which 1) b a

-- a beacon that can be read, of either kind, and of this network
pub record Ours (network : ℕ) (h : Heard) : Type 0 where
  pub readable : either_refusal h.frame ≡ 0
  pub sent : (either_in h.frame).network ≡ network

-- what is followed can be read, and is ours
abbrev pub FollowsOurs : Type 0
FollowsOurs = (network : ℕ) (a b : Heard) → (chosen_of network a b).refused ≡ 0 → Ours network (followed network a b)

-- neither of the two is better
abbrev pub NoneBetter : Type 0
NoneBetter =
    (network : ℕ) (a b : Heard) → let best = rank_of network (followed network a b) in
    (ranks_above (rank_of network a) best ≡ false) × (ranks_above (rank_of network b) best ≡ false)

-- it is refused exactly if neither will do, with the first's own number
pub record RefusedAs (network : ℕ) (a b : Heard) : Type 0 where
  pub either : (ours (rank_of network a) || ours (rank_of network b)) ≡ true → (chosen_of network a b).refused ≡ 0
  pub neither : (ours (rank_of network a) || ours (rank_of network b)) ≡ false → ((chosen_of network a b).refused ≡ refusal_for network a.frame) × ((chosen_of network a b).refused ≡ 0 → ⊥)

abbrev pub RefusedIfNeither : Type 0
RefusedIfNeither = (network : ℕ) (a b : Heard) → RefusedAs network a b

-- exchanged, the two lead to the same frame, unless they rank equal: then it is the first, either way
pub record ExchangedAs (network : ℕ) (a b : Heard) : Type 0 where
  pub apart : (ranks_above (rank_of network a) (rank_of network b) || ranks_above (rank_of network b) (rank_of network a)) ≡ true
      → followed network b a ≡ followed network a b
  pub equal : (ranks_above (rank_of network a) (rank_of network b) || ranks_above (rank_of network b) (rank_of network a)) ≡ false
      → (followed network a b ≡ a) × (followed network b a ≡ b)

abbrev pub Exchanged : Type 0
Exchanged = (network : ℕ) (a b : Heard) → ExchangedAs network a b

-- a frame that cannot be read never wins over a beacon of ours, whichever is the first
abbrev pub UnreadNeverWins : Type 0
UnreadNeverWins =
    (network : ℕ) (a b : Heard) → ours (rank_of network a) ≡ true → (either_refusal b.frame ≡ 0 → ⊥)
    → (followed network a b ≡ a) × (followed network b a ≡ a)

-- ---- the slice and the number
-- the number is 0 or 1, and the slice that is handed back is that one of the two, whole and where it lies
pub record HandedAs (network : ℕ) (a : Lent) (qualityOfA : ℕ) (b : Lent) (qualityOfB : ℕ) : Type 0 where
  pub which : (chosen_of network (heard a.bytes qualityOfA) (heard b.bytes qualityOfB)).which ≤ 1
  pub first : (chosen_of network (heard a.bytes qualityOfA) (heard b.bytes qualityOfB)).which ≡ 0
      → handed_back network a qualityOfA b qualityOfB ≡ a
  pub second : (chosen_of network (heard a.bytes qualityOfA) (heard b.bytes qualityOfB)).which ≡ 1
      → handed_back network a qualityOfA b qualityOfB ≡ b

abbrev pub HandsBackOne : Type 0
HandsBackOne =
    (network : ℕ) (a : Lent) (qualityOfA : ℕ) (b : Lent) (qualityOfB : ℕ)
    → (chosen_of network (heard a.bytes qualityOfA) (heard b.bytes qualityOfB)).refused ≡ 0 → HandedAs network a qualityOfA b qualityOfB
