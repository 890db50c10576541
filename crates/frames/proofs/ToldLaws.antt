-- What an answer says is said by no other answer.
-- Assumes nothing.
use Rattle.octets.proofs.Words.{◌≡◌, refl, cond, List, [], ◌∷◌, ℕ, eqb, get_or}
use Rattle.octets.specs.Answers.{OneToOne}
use Rattle.octets.proofs.RefusalLaws.{told_one}
use Rattle.frames.specs.declared.answers.Frame.{Frame}
use Rattle.frame_traffic.specs.Traffic.{data_from, update_from}
use Rattle.frame_requests.specs.Requests.{join_request_from, join_response_from, slot_request_from, election_from}
use Rattle.frame_beacons.specs.Beacons.{beacon_from}
use Rattle.frame_beacons.specs.ShortBeacons.{short_beacon_from}
use Rattle.frames.specs.Told.{frame_values, told}

-- the frame that has these values
abbrev frame-with : ℕ → List ℕ → Frame
frame-with t vs =
    cond (eqb t 0x11) (Frame.Data (data_from vs))
    (cond (eqb t 0x21) (Frame.JoinRequest (join_request_from vs))
    (cond (eqb t 0x22) (Frame.JoinResponse (join_response_from vs))
    (cond (eqb t 0x23) (Frame.SlotRequest (slot_request_from vs))
    (cond (eqb t 0x24) (Frame.DiscoveryRequest (record { node = get_or vs 0 0; capabilities = get_or vs 1 0; role = get_or vs 2 0; max_hops = get_or vs 3 0 }))
    (cond (eqb t 0x25) (Frame.DiscoveryResponse (record { manager = get_or vs 0 0; network = get_or vs 1 0; size = get_or vs 2 0; free = get_or vs 3 0; quality = get_or vs 4 0; uptime = get_or vs 5 0 }))
    (cond (eqb t 0x26) (Frame.Election (election_from vs))
    (cond (eqb t 0x31) (Frame.Update (update_from vs))
    (cond (eqb t 0x46) (Frame.Beacon (beacon_from vs)) (Frame.ShortBeacon (short_beacon_from vs))))))))))

pub frame-from : List ℕ → Frame
frame-from [] = frame-with 0 []
frame-from (t ∷ vs) = frame-with t vs

pub frame_back : (f : Frame) → frame-from (frame_values f) ≡ f
unfolding frame-from
frame_back (Frame.Data f) = refl
frame_back (Frame.JoinRequest f) = refl
frame_back (Frame.JoinResponse f) = refl
frame_back (Frame.SlotRequest f) = refl
frame_back (Frame.DiscoveryRequest f) = refl
frame_back (Frame.DiscoveryResponse f) = refl
frame_back (Frame.Election f) = refl
frame_back (Frame.Update f) = refl
frame_back (Frame.Beacon f) = refl
frame_back (Frame.ShortBeacon f) = refl

pub told-one : OneToOne told
told-one = told_one frame_values frame-from frame_back
