-- What holds of every plan and of every schedule, as statements.
-- Assumes nothing.
use Rattle.std.specs.Prelude.{◌≡◌, true, false, ◌&&◌, ◌||◌, List, [], ◌∷◌, ℕ, ◌-◌, ◌<◌, ◌≤◌, eqb, get_or}
use Rattle.octets.specs.Lists.{tab}
use Rattle.slot_sets.specs.Sets.{Slots, has, disjoint}
use Rattle.site_plan.specs.declared.plan.Plan.{Plan}
use Rattle.site_plan.specs.Plans.{plan_rule, slots_in, slots, data_slot_at, sleep_slot_at}
use Rattle.site_plan.specs.Schedules.{tx, control_tx, sleep, sends, listens, in_beacons, in_controls, in_data, in_discovery, regions, how_many, control_slot, data_slot, beacon_slot_kind, control_slot_kind, data_slot_kind, discovery_slot_kind, kind_of}

-- ---- the length of a superframe
-- a table that is the definition entry by entry, for 0 to 50 active slots, gives the length for each of them
abbrev pub LengthsByTable : Type 0
LengthsByTable = (lengths : List ℕ) → lengths ≡ tab 51 slots_in → (active : ℕ) → active ≤ 50 → get_or lengths active 0 ≡ slots_in active

-- ---- plans
-- how large a plan can be, and that all its regions are among its slots
pub record Bounded (p : Plan) : Type 0 where
  pub few-rows : p.rows ≤ 21
  pub few_data_slots : p.data_slots ≤ 44
  pub few-slots : slots p ≤ 100
  pub inside : sleep_slot_at p ≤ slots p

abbrev pub RuleBounds : Type 0
RuleBounds = (p : Plan) → plan_rule p ≡ true → Bounded p

-- each slot of a plan within rule is in exactly one region
abbrev pub OneRegion : Type 0
OneRegion = (p : Plan) (s : ℕ) → plan_rule p ≡ true → s < slots p → how_many (regions p s) ≡ 1

-- ---- schedules
-- the kind of a slot is that of its region, whatever the plan, and from the sleep region on it is sleep
pub record ByRegion (p : Plan) (row hop : ℕ) (own : Slots 64) (s : ℕ) : Type 0 where
  pub beacons : in_beacons p s ≡ true → kind_of p row hop own s ≡ beacon_slot_kind hop s
  pub controls : in_controls p s ≡ true → kind_of p row hop own s ≡ control_slot_kind p row s
  pub data_slots : in_data p s ≡ true → kind_of p row hop own s ≡ data_slot_kind p own s
  pub discovery : in_discovery p s ≡ true → kind_of p row hop own s ≡ discovery_slot_kind hop
  pub behind : sleep_slot_at p ≤ s → kind_of p row hop own s ≡ sleep

abbrev pub KindsByRegion : Type 0
KindsByRegion = (p : Plan) (row hop : ℕ) (own : Slots 64) (s : ℕ) → ByRegion p row hop own s

-- in each slot a unit does one thing: it sends, listens or sleeps
abbrev pub DoesOneThing : Type 0
DoesOneThing =
    (p : Plan) (row hop : ℕ) (own : Slots 64) (s : ℕ)
    → let kind = kind_of p row hop own s in how_many (sends kind ∷ listens kind ∷ eqb kind sleep ∷ []) ≡ 1

-- a member is told the control slot of its row, and those of the data slots that it holds: it sends in each
abbrev pub SendsWhereTold : Type 0
SendsWhereTold =
    (p : Plan) (row hop : ℕ) (own : Slots 64)
    → (row < p.rows → kind_of p row hop own (control_slot p row) ≡ control_tx)
    × ((i : ℕ) → i < p.data_slots → has own i ≡ true → kind_of p row hop own (data_slot p i) ≡ tx)

-- ---- who sends
-- a schedule that sends in a unit's own slots alone: among beacons at its hop, among control slots at its row, among data slots in those
-- that it holds. No more is asked of a kind of unit
pub record SendsInOwn (p : Plan) (row hop : ℕ) (own : Slots 64) (kinds : ℕ → ℕ) : Type 0 where
  pub beacons : (s : ℕ) → in_beacons p s ≡ true → sends (kinds s) ≡ true → s ≡ hop
  pub controls : (s : ℕ) → in_controls p s ≡ true → sends (kinds s) ≡ true → s ≡ control_slot p row
  pub data_slots : (s : ℕ) → in_data p s ≡ true → sends (kinds s) ≡ true → has own (s - data_slot_at p) ≡ true

abbrev pub UnitsSendInOwn : Type 0
UnitsSendInOwn = (p : Plan) (row hop : ℕ) (own : Slots 64) → SendsInOwn p row hop own (kind_of p row hop own)

-- two units with different rows and disjoint sets, of any kind and at any hops: in no control or data slot do both send
abbrev pub OneSender : Type 0
OneSender =
    (p : Plan) (row row' hop hop' : ℕ) (own own' : Slots 64) (kinds kinds' : ℕ → ℕ)
    → SendsInOwn p row hop own kinds → SendsInOwn p row' hop' own' kinds'
    → (row ≡ row' → ⊥) → disjoint own own' ≡ true
    → (s : ℕ) → (in_controls p s || in_data p s) ≡ true → (sends (kinds s) && sends (kinds' s)) ≡ false

-- and in a beacon slot only if their hops are equal
abbrev pub OneHop : Type 0
OneHop =
    (p : Plan) (row row' hop hop' : ℕ) (own own' : Slots 64) (kinds kinds' : ℕ → ℕ)
    → SendsInOwn p row hop own kinds → SendsInOwn p row' hop' own' kinds'
    → (s : ℕ) → in_beacons p s ≡ true → sends (kinds s) ≡ true → sends (kinds' s) ≡ true → hop ≡ hop'

-- both, of two units with a schedule as document 01 says
abbrev pub OneSenderOfUnits : Type 0
OneSenderOfUnits =
    (p : Plan) (row row' hop hop' : ℕ) (own own' : Slots 64) → (row ≡ row' → ⊥) → disjoint own own' ≡ true
    → (s : ℕ) → (in_controls p s || in_data p s) ≡ true → (sends (kind_of p row hop own s) && sends (kind_of p row' hop' own' s)) ≡ false

abbrev pub OneHopOfUnits : Type 0
OneHopOfUnits =
    (p : Plan) (row row' hop hop' : ℕ) (own own' : Slots 64) (s : ℕ) → in_beacons p s ≡ true
    → sends (kind_of p row hop own s) ≡ true → sends (kind_of p row' hop' own' s) ≡ true → hop ≡ hop'
