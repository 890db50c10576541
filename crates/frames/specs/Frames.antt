-- The ten kinds, and reading a frame of any of them.
-- Assumes nothing.
use Rattle.std.specs.Prelude.{ℕ, List, [], ◌∷◌}
use Rattle.octets.specs.Answers.{Said}
use Rattle.octets.specs.Numbers.{num}
use Rattle.frame_kinds.specs.Reading.{refusal_as, unknown_refusal, read_as, read_unknown}
use Rattle.frame_kinds.specs.Shape.{Kind, among}
use Rattle.frame_requests.specs.Requests.{join_request, join_response, slot_request, discovery_request, discovery_response, election}
use Rattle.frame_traffic.specs.Traffic.{data_kind, update}
use Rattle.frame_beacons.specs.Beacons.{beacon}
use Rattle.frame_beacons.specs.ShortBeacons.{short_beacon}

-- every kind, in the papers' order
abbrev pub kinds : List Kind
kinds = data_kind ∷ join_request ∷ join_response ∷ slot_request ∷ discovery_request ∷ discovery_response ∷ election ∷ update ∷ beacon ∷ short_beacon ∷ []

-- why bytes are refused as a frame of type t; 0 where they are not
unfoldable pub refusal_typed : ℕ → List ℕ → ℕ
refusal_typed t s = among kinds t (λ k. refusal_as k s) (unknown_refusal s)

-- reading bytes of type t: as the kind that has this type
abbrev pub read_typed : ℕ → List ℕ → Said
read_typed t s = among kinds t (λ k. read_as k s) (read_unknown s)

-- reading a frame
unfoldable pub read_frame : List ℕ → Said
read_frame s = read_typed (num 1 s 0) s
