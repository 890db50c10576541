-- The site plan: what is computed from its numbers, where each region of its slots begins, and which numbers are refused.
-- Assumes nothing.
use Rattle.std.specs.Prelude.{ℕ, ◌+◌, ◌*◌, ◌/◌, min, max, Bool, not, ◌&&◌, ◌||◌, List, [], ◌∷◌, Result, eqb, leb}
use Rattle.octets.specs.Answers.{Said, accepted, reason, first, unless}
use Rattle.octets.specs.Refusals.{told_by}
use Rattle.octets.specs.declared.refusals.Refusal.{Refusal}
use Rattle.octets.specs.Lists.{all}
use Rattle.octets.specs.Addresses.{address, network}
use Rattle.site_plan.specs.declared.plan.Plan.{Plan}

-- ---- how many slots
-- a third, rounded up
abbrev pub third : ℕ → ℕ
third n = (n + 2) / 3

abbrev pub discovery_slots : ℕ → ℕ
discovery_slots rows = min 5 (max 2 (third rows))

-- (h+1) + M + D + discovery
abbrev pub active : Plan → ℕ
active p = (p.max_hops + 1) + p.rows + p.data_slots + discovery_slots p.rows

-- the length of a superframe with so many active slots
unfoldable pub slots_in : ℕ → ℕ
slots_in active = min 100 (third (10 * active))

abbrev pub slots : Plan → ℕ
slots p = slots_in (active p)

abbrev pub superframe_ms_of : Plan → ℕ
superframe_ms_of p = slots p * p.slot_ms

-- ---- where each region begins: beacon at 0, then control, data, discovery, sleep
abbrev pub control_slot_at : Plan → ℕ
control_slot_at p = p.max_hops + 1

abbrev pub data_slot_at : Plan → ℕ
data_slot_at p = control_slot_at p + p.rows

abbrev pub discovery_slot_at : Plan → ℕ
discovery_slot_at p = data_slot_at p + p.data_slots

abbrev pub sleep_slot_at : Plan → ℕ
sleep_slot_at p = active p

-- ---- what a plan tells
-- its active slots, the slots of a superframe and their ms, and where control, data, discovery and sleep begin; beacons begin at 0
abbrev pub plan_numbers : Plan → List ℕ
plan_numbers p = active p ∷ slots p ∷ superframe_ms_of p ∷ control_slot_at p ∷ data_slot_at p ∷ discovery_slot_at p ∷ sleep_slot_at p ∷ []

-- ---- the rules
-- the kinds of beacons that a manager may send, by their types
abbrev pub long_beacons : ℕ
long_beacons = 0x46

abbrev pub short_beacons : ℕ
short_beacons = 0x47

abbrev pub plan_rules : Plan → List Bool
plan_rules p =
    -- a network, and an address
    network p.network ∷
    address p.manager ∷
    -- h from 1 to 10
    (leb 1 p.max_hops && leb p.max_hops 10) ∷
    -- M of at least 2, the manager and one more
    leb 2 p.rows ∷
    -- a data slot for each row
    leb p.rows p.data_slots ∷
    -- at most 50 active slots
    leb (active p) 50 ∷
    -- a slot takes time, and its ms fit into two bytes
    (leb 1 p.slot_ms && leb p.slot_ms 65535) ∷
    -- the manager sends beacons of one of the two kinds
    (eqb p.beacon_type long_beacons || eqb p.beacon_type short_beacons) ∷
    -- the superframe's length fits into two bytes, where beacons say it
    (eqb p.beacon_type short_beacons || leb (superframe_ms_of p) 65535) ∷
    []

abbrev pub plan_rule : Plan → Bool
plan_rule p = all (plan_rules p)

-- ---- making one
-- the six numbers in the paper's order, then the kind of its beacons
abbrev pub plan_values : Plan → List ℕ
plan_values p = p.network ∷ p.manager ∷ p.max_hops ∷ p.rows ∷ p.data_slots ∷ p.slot_ms ∷ p.beacon_type ∷ []

-- the plan, or document 01's number
abbrev pub told_plan : Result Plan Refusal → Said
told_plan answer = told_by plan_values answer

-- a plan made from seven numbers: any broken rule is 14
unfoldable pub plan_of : ℕ → ℕ → ℕ → ℕ → ℕ → ℕ → ℕ → Said
plan_of network manager hops rows dataSlots ms beacon =
    let p : Plan =
    record { network = network; manager = manager; max_hops = hops; rows = rows; data_slots = dataSlots; slot_ms = ms; beacon_type = beacon } in
    unless (first (reason (not (plan_rule p)) 14 ∷ [])) (accepted (plan_values p))
