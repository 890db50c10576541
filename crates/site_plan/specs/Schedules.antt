-- The schedule: what a unit does in each slot of a plan, region by region.
-- Assumes nothing.
use Rattle.std.specs.Prelude.{ℕ, ◌+◌, ◌-◌, Bool, ◌&&◌, ◌||◌, cond, List, [], ◌∷◌, eqb, leb, ltb}
use Rattle.slot_sets.specs.Sets.{Slots, has}
use Rattle.site_plan.specs.declared.plan.Plan.{Plan}
use Rattle.site_plan.specs.declared.schedules.SlotKind.{SlotKind}
use Rattle.site_plan.specs.declared.schedules.SlotKind.TheVariants.{Tx, Rx, BeaconTx, BeaconRx, ControlTx, ControlRx, DiscoveryTx, DiscoveryRx, Sleep}
use Rattle.site_plan.specs.Plans.{slots, control_slot_at, data_slot_at, discovery_slot_at, sleep_slot_at}

-- ---- the kinds
abbrev pub tx : ℕ
tx = 0

abbrev pub rx : ℕ
rx = 1

abbrev pub beacon_tx : ℕ
beacon_tx = 2

abbrev pub beacon_rx : ℕ
beacon_rx = 3

abbrev pub control_tx : ℕ
control_tx = 4

abbrev pub control_rx : ℕ
control_rx = 5

abbrev pub discovery_tx : ℕ
discovery_tx = 6

abbrev pub discovery_rx : ℕ
discovery_rx = 7

abbrev pub sleep : ℕ
sleep = 8

-- the number of a kind
abbrev pub slot_number : SlotKind → ℕ
slot_number Tx = tx
slot_number Rx = rx
slot_number BeaconTx = beacon_tx
slot_number BeaconRx = beacon_rx
slot_number ControlTx = control_tx
slot_number ControlRx = control_rx
slot_number DiscoveryTx = discovery_tx
slot_number DiscoveryRx = discovery_rx
slot_number Sleep = sleep

-- whatever a unit is: in a slot of these kinds it sends, in one of those it listens
abbrev pub sends : ℕ → Bool
sends kind = eqb kind tx || eqb kind beacon_tx || eqb kind control_tx || eqb kind discovery_tx

abbrev pub listens : ℕ → Bool
listens kind = eqb kind rx || eqb kind beacon_rx || eqb kind control_rx || eqb kind discovery_rx

-- ---- the regions: beacon 0 to h, control, data, discovery, sleep
abbrev pub within : ℕ → ℕ → ℕ → Bool
within from to s = leb from s && ltb s to

abbrev pub in_beacons : Plan → ℕ → Bool
in_beacons p s = ltb s (control_slot_at p)

abbrev pub in_controls : Plan → ℕ → Bool
in_controls p s = within (control_slot_at p) (data_slot_at p) s

abbrev pub in_data : Plan → ℕ → Bool
in_data p s = within (data_slot_at p) (discovery_slot_at p) s

abbrev pub in_discovery : Plan → ℕ → Bool
in_discovery p s = within (discovery_slot_at p) (sleep_slot_at p) s

abbrev pub in_sleep : Plan → ℕ → Bool
in_sleep p s = within (sleep_slot_at p) (slots p) s

abbrev pub regions : Plan → ℕ → List Bool
regions p s = in_beacons p s ∷ in_controls p s ∷ in_data p s ∷ in_discovery p s ∷ in_sleep p s ∷ []

-- how many of them a slot is in
abbrev pub how_many : List Bool → ℕ
how_many [] = 0
how_many (b ∷ bs) = cond b 1 0 + how_many bs

-- ---- what a unit does in them, that has a row, is at a hop (the manager at 0) and holds a set of data slots
-- the slot of a row, and that of a data slot
abbrev pub control_slot : Plan → ℕ → ℕ
control_slot p row = control_slot_at p + row

abbrev pub data_slot : Plan → ℕ → ℕ
data_slot p i = data_slot_at p + i

-- beacon slot k at hop g: TX if k = g, RX if k = g-1, RX for slot 0 when g > 0, else sleep
abbrev pub beacon_slot_kind : ℕ → ℕ → ℕ
beacon_slot_kind hop k = cond (eqb k hop) beacon_tx (cond (eqb (k + 1) hop) beacon_rx (cond (eqb k 0 && ltb 0 hop) beacon_rx sleep))

-- own control and data slots are TX, the others RX
abbrev pub control_slot_kind : Plan → ℕ → ℕ → ℕ
control_slot_kind p row s = cond (eqb s (control_slot p row)) control_tx control_rx

abbrev pub data_slot_kind : Plan → Slots 64 → ℕ → ℕ
data_slot_kind p own s = cond (has own (s - data_slot_at p)) tx rx

-- discovery is TX for the manager, RX for others
abbrev pub discovery_slot_kind : ℕ → ℕ
discovery_slot_kind hop = cond (eqb hop 0) discovery_tx discovery_rx

unfoldable pub kind_of : Plan → ℕ → ℕ → Slots 64 → ℕ → ℕ
kind_of p row hop own s =
    cond (in_beacons p s) (beacon_slot_kind hop s)
    (cond (in_controls p s) (control_slot_kind p row s)
    (cond (in_data p s) (data_slot_kind p own s)
    (cond (in_discovery p s) (discovery_slot_kind hop) sleep)))
