-- What each case of an answer says: document 01's number, and the values in the paper's order.
-- Assumes nothing.
use Rattle.std.specs.Prelude.{List, ◌∷◌, ℕ, Result}
use Rattle.octets.specs.Answers.{Said}
use Rattle.octets.specs.Refusals.{told_by}
use Rattle.octets.specs.declared.refusals.Refusal.{Refusal}
use Rattle.octets.specs.Told.{Wrote}
use Rattle.frames.specs.declared.answers.Frame.{Frame}
use Rattle.frame_traffic.specs.Traffic.{data_kind, data_values, update, update_values}
use Rattle.frame_requests.specs.Requests.{join_request, join_request_values, join_response, join_response_values, slot_request, slot_request_values, discovery_request, discovery_request_values, discovery_response, discovery_response_values, election, election_values}
use Rattle.frame_beacons.specs.Beacons.{beacon, beacon_values}
use Rattle.frame_beacons.specs.ShortBeacons.{short_beacon, short_beacon_values}
use Rattle.frame_kinds.specs.Shape.{Kind}
use Rattle.frame_kinds.specs.Writing.{write_as}

-- what is said of a frame by its kind and its values
abbrev pub said_of : {A : Type 0} → Frame → (Kind → List ℕ → A) → A
said_of (Frame.Data f) frame = frame data_kind (data_values f)
said_of (Frame.JoinRequest f) frame = frame join_request (join_request_values f)
said_of (Frame.JoinResponse f) frame = frame join_response (join_response_values f)
said_of (Frame.SlotRequest f) frame = frame slot_request (slot_request_values f)
said_of (Frame.DiscoveryRequest f) frame = frame discovery_request (discovery_request_values f)
said_of (Frame.DiscoveryResponse f) frame = frame discovery_response (discovery_response_values f)
said_of (Frame.Election f) frame = frame election (election_values f)
said_of (Frame.Update f) frame = frame update (update_values f)
said_of (Frame.Beacon f) frame = frame beacon (beacon_values f)
said_of (Frame.ShortBeacon f) frame = frame short_beacon (short_beacon_values f)

-- a frame: its type, then its fields
abbrev pub frame_values : Frame → List ℕ
frame_values f = said_of f (λ k vs. k.code ∷ vs)

-- a frame that was read, or a refusal by its number
abbrev pub told : Result Frame Refusal → Said
told answer = told_by frame_values answer

-- writing a frame with these bytes behind its fields
abbrev pub write_frame : Frame → List ℕ → List ℕ → Wrote
write_frame f part out = said_of f (λ k vs. write_as k vs part out)
