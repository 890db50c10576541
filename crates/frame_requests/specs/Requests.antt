-- The requests and responses between a unit and the manager: document 01's table and field rules, a line each; and document 02's election message.
-- Of each kind: the values of its record in the paper's order, the record with given values where a definition needs it, and its fields. A name of the code that
-- has a `_` stands in « ».
-- Assumes nothing.
use Rattle.std.specs.Prelude.{ℕ, Bool, ◌&&◌, ◌||◌, List, [], ◌∷◌, eqb, ltb, get_or}
use Rattle.frame_kinds.specs.Fields.{byte, half, word, unit, net}
use Rattle.frame_kinds.specs.Shape.{Kind, fixed, fixed_with}
use Rattle.frame_requests.specs.declared.JoinRequest.{JoinRequest}
use Rattle.frame_requests.specs.declared.JoinResponse.{JoinResponse}
use Rattle.frame_requests.specs.declared.SlotRequest.{SlotRequest}
use Rattle.frame_requests.specs.declared.DiscoveryRequest.{DiscoveryRequest}
use Rattle.frame_requests.specs.declared.DiscoveryResponse.{DiscoveryResponse}
use Rattle.frame_requests.specs.declared.Election.{Election}

-- ---- 0x21 join request: node, capabilities, network, slots; its network may be 0, for any
abbrev pub join_request_values : JoinRequest → List ℕ
join_request_values f = f.node ∷ f.capabilities ∷ f.network ∷ f.slots ∷ []

abbrev pub join_request_from : List ℕ → JoinRequest
join_request_from vs = record { node = get_or vs 0 0; capabilities = get_or vs 1 0; network = get_or vs 2 0; slots = get_or vs 3 0 }

abbrev pub join_request : Kind
join_request = fixed 0x21 (unit ∷ byte ∷ half ∷ byte ∷ [])

-- ---- 0x22 join response: node, status, slot, superframe time, network; status 0 has a slot below 100, status 1 the slot 0xFFFF
abbrev pub join_response_values : JoinResponse → List ℕ
join_response_values f = f.node ∷ f.status ∷ f.slot ∷ f.superframe_time ∷ f.network ∷ []

abbrev pub join_response_from : List ℕ → JoinResponse
join_response_from vs = record { node = get_or vs 0 0; status = get_or vs 1 0; slot = get_or vs 2 0; superframe_time = get_or vs 3 0; network = get_or vs 4 0 }

abbrev pub slot_by_status : JoinResponse → Bool
slot_by_status f = eqb f.status 0 && ltb f.slot 100 || eqb f.status 1 && eqb f.slot 0xFFFF

abbrev pub join_response : Kind
join_response = fixed_with 0x22 (unit ∷ byte ∷ half ∷ word ∷ net ∷ []) (λ vs. slot_by_status (join_response_from vs) ∷ [])

-- ---- 0x23 slot request: node, slots, priority, reason
abbrev pub slot_request_values : SlotRequest → List ℕ
slot_request_values f = f.node ∷ f.slots ∷ f.priority ∷ f.reason ∷ []

abbrev pub slot_request_from : List ℕ → SlotRequest
slot_request_from vs = record { node = get_or vs 0 0; slots = get_or vs 1 0; priority = get_or vs 2 0; reason = get_or vs 3 0 }

abbrev pub slot_request : Kind
slot_request = fixed 0x23 (unit ∷ byte ∷ byte ∷ byte ∷ [])

-- ---- 0x24 discovery request: node, capabilities, role, max hops
abbrev pub discovery_request_values : DiscoveryRequest → List ℕ
discovery_request_values f = f.node ∷ f.capabilities ∷ f.role ∷ f.max_hops ∷ []

abbrev pub discovery_request : Kind
discovery_request = fixed 0x24 (unit ∷ byte ∷ byte ∷ byte ∷ [])

-- ---- 0x25 discovery response: manager, network, size, free, quality, uptime
abbrev pub discovery_response_values : DiscoveryResponse → List ℕ
discovery_response_values f = f.manager ∷ f.network ∷ f.size ∷ f.free ∷ f.quality ∷ f.uptime ∷ []

abbrev pub discovery_response : Kind
discovery_response = fixed 0x25 (unit ∷ net ∷ byte ∷ byte ∷ byte ∷ word ∷ [])

-- ---- 0x26 election message: node, priority
abbrev pub election_values : Election → List ℕ
election_values f = f.node ∷ f.priority ∷ []

abbrev pub election_from : List ℕ → Election
election_from vs = record { node = get_or vs 0 0; priority = get_or vs 1 0 }

abbrev pub election : Kind
election = fixed 0x26 (unit ∷ byte ∷ [])
