-- Three units elect one, each from what it heard in its own order, with frames that are refused among it; computed through all bytes.
-- Assumes nothing.
use Rattle.std.specs.Prelude.{◌≡◌, List, [], ◌∷◌, ℕ, replicate}
use Rattle.frame_kinds.specs.Shape.{frame_of}
use Rattle.frame_requests.specs.Requests.{election}
use Rattle.unit_poll.specs.PollBytes.{winner_left, winner_call}
use Rattle.unit_poll.specs.Polls.{hear_refusal, winner_of}
use Rattle.poll_history.specs.Held.{Held, ended}
use Rattle.poll_history.specs.Histories.{Course, ending}

abbrev pub message : ℕ → ℕ → List ℕ
message unit priority = frame_of election (unit ∷ priority ∷ []) []

-- unit 3 hears 9 twice, and itself, which is refused
abbrev pub third : Course
third = record { own = 3; priority = 40; frames = message 9 10 ∷ message 5 70 ∷ message 3 99 ∷ message 9 70 ∷ [] }

-- unit 5 hears the others in another order, and a frame that is cut
abbrev pub fifth : Course
fifth = record { own = 5; priority = 70; frames = (0x26 ∷ 9 ∷ []) ∷ message 9 70 ∷ message 3 40 ∷ [] }

-- unit 9 would be as good with a lower address
abbrev pub ninth : Course
ninth = record { own = 9; priority = 70; frames = message 3 40 ∷ message 5 70 ∷ message 3 40 ∷ [] }

-- all name unit 5: the priority of 9 is the same, and its address is higher
abbrev pub AllNameFive : Type 0
AllNameFive =
    (winner_of (ending third) ≡ 5) × (winner_of (ending fifth) ≡ 5) × (winner_of (ending ninth) ≡ 5)
    × (hear_refusal (ending third) (message 3 99) ≡ 6) × (hear_refusal (ending fifth) (0x26 ∷ 9 ∷ []) ≡ 1)
    × (message 9 70 ≡ 0x26 ∷ 9 ∷ 0 ∷ 70 ∷ 105 ∷ [])

-- the same in the buffers of the first two, whatever these held before: own 2, priority 1, then the others, ascending, and zeros
abbrev pub held_by : Course → Held
held_by c = record { buffer = replicate 75 7; course = c }

abbrev pub BuffersNameFive : Type 0
BuffersNameFive =
    (ended (held_by third) ≡ 3 ∷ 0 ∷ 40 ∷ 5 ∷ 0 ∷ 70 ∷ 9 ∷ 0 ∷ 70 ∷ replicate 66 0)
    × (ended (held_by fifth) ≡ 5 ∷ 0 ∷ 70 ∷ 3 ∷ 0 ∷ 40 ∷ 9 ∷ 0 ∷ 70 ∷ replicate 66 0)
    × (winner_call (ended (held_by third)) 0xFFFF ≡ winner_left 0 5) × (winner_call (ended (held_by fifth)) 0xFFFF ≡ winner_left 0 5)
