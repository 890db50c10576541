-- Document 01's examples marked P, in its order: what the definitions compute, and what the paper says. Then those of document 02's requests. One
-- statement covers the table.
-- Assumes nothing.
use Rattle.std.specs.Prelude.{◌≡◌, Bool, true, false, ◌&&◌, cond, List, [], ◌∷◌, ◌++◌, ℕ, suc, ◌+◌, ◌-◌, ◌%◌, ◌^◌, length, get_or, ℤ, pos, negsuc}
use Rattle.octets.specs.Answers.{Said}
use Rattle.moments.specs.Moments.{age_at, in_order}
use Rattle.frame_requests.specs.Requests.{join_request, join_request_values, election}
use Rattle.frames.specs.Frames.{read_frame}
use Rattle.frame_kinds.specs.Shape.{frame_of}
use Rattle.book_image.specs.Forms.{same}
use Rattle.route_table.specs.declared.table.Table.{Table}
use Rattle.route_table.specs.Tables.{with_rows, empty_table, lookup_of}
use Rattle.route_relays.specs.Relays.{copy_of}
use Rattle.site_plan.specs.declared.plan.Plan.{Plan}
use Rattle.site_plan.specs.Plans.{active, slots, superframe_ms_of, plan_of, long_beacons, short_beacons}
use Rattle.paper.specs.Story.{story}
use Rattle.frame_beacons.specs.Beacons.{beacon}
use Rattle.frame_beacons.specs.ShortBeacons.{short_beacon}
use Rattle.unit_choice.specs.Choices.{Heard, heard, chosen_of}
use Rattle.unit_poll.specs.Polls.{fresh_poll, heard_by, winner_of}
use Rattle.unit_clock.specs.Clock.{drift, corrected}
use Rattle.c_sheet.specs.SheetCalls.{sheet_call}

pub record Example : Type 0 where
  pub computed : List ℕ
  pub paper : List ℕ

-- a call's answer as a list: the refusal number, then the values
abbrev pub listed : Said → List ℕ
listed said = said.refusal ∷ said.values

-- ---- join request of 0x0201, network 1, 4 slots
abbrev pub join_bytes : List ℕ
join_bytes = 0x21 ∷ 0x01 ∷ 0x02 ∷ 0x00 ∷ 0x01 ∷ 0x00 ∷ 0x04 ∷ 0x27 ∷ []

-- ---- the plans of network 1 with manager 0x0100 and h 3, by M, D and slot ms; where the paper names no slot ms, 655 fits 100 slots
abbrev pub plan : ℕ → ℕ → ℕ → Said
plan rows dataSlots ms = plan_of 1 0x0100 3 rows dataSlots ms long_beacons

-- A and S
abbrev pub lengths : ℕ → ℕ → ℕ → List ℕ
lengths rows dataSlots ms =
    let p : Plan = record { network = 1; manager = 0x0100; max_hops = 3; rows = rows; data_slots = dataSlots; slot_ms = ms; beacon_type = long_beacons } in
    active p ∷ slots p ∷ []

-- ---- document 02's site of eight units: h 1, 8 rows and 8 data slots, slots of 1,000 ms, by the kind of its beacons
abbrev pub eight : ℕ → Plan
eight beacon = record { network = 1; manager = 0x0100; max_hops = 1; rows = 8; data_slots = 8; slot_ms = 1000; beacon_type = beacon }

abbrev pub eight_made : ℕ → Said
eight_made beacon = plan_of 1 0x0100 1 8 8 1000 beacon

-- a short beacon of that site, which 0x0201 sends on 20 ms after it was heard
abbrev pub short_bytes : List ℕ
short_bytes = 0x47 ∷ 0x01 ∷ 0x02 ∷ 0x01 ∷ 0x00 ∷ 0x46 ∷ 0xE8 ∷ 0x03 ∷ 0x01 ∷ 0x88 ∷ 0x13 ∷ 0x00 ∷ 0x00 ∷ 0x14 ∷ 0x00 ∷ 0x01 ∷ 0x09 ∷ 0x00 ∷ 0x6E ∷ []

-- ---- document 02's two beacons in one slot
-- a short beacon of network 1 at a hop
abbrev pub short_at : ℕ → List ℕ
short_at hop = frame_of short_beacon (0x0201 ∷ 1 ∷ 70 ∷ 1000 ∷ hop ∷ 5000 ∷ 20 ∷ 10 ∷ 9 ∷ []) []

-- what choosing between two frames says to a unit of a network: the number, and which of the two
abbrev pub chosen : ℕ → Heard → Heard → List ℕ
chosen network a b = let c = chosen_of network a b in c.refused ∷ c.which ∷ []

-- ---- document 02's route that has so long left
-- unit 1 heard at 0 of unit 9, two hops away by unit 2
abbrev pub routes : Table
routes = with_rows (empty_table 1 0) 0 (record { destination = 9; next_hop = 2; hops = 2; quality = 200; time = 0; withdrawn = false } ∷ [])

-- what its lookup says at a time: the number, the next hop, the hops, and what is left
abbrev pub looked : ℕ → List ℕ
looked time = let f = lookup_of routes 9 time in f.refused ∷ f.next_hop ∷ f.hops ∷ f.left ∷ []

-- ---- document 02's relayed copy
-- data from 0x0201 to 0x0300, sequence 77, a payload of two bytes, with this ttl and this checksum
abbrev pub data_bytes : ℕ → ℕ → List ℕ
data_bytes ttl sum = 0x11 ∷ 0x01 ∷ 0x02 ∷ 0x00 ∷ 0x03 ∷ ttl ∷ 0x4D ∷ 0x00 ∷ 0x02 ∷ 0x15 ∷ 0x05 ∷ sum ∷ []

-- ---- document 02's election: unit 5 with priority 70 has heard unit 9 with this priority, and then with this one
abbrev pub winner_after : ℕ → ℕ → ℕ
winner_after first later =
    let message : ℕ → List ℕ = λ priority. frame_of election (9 ∷ priority ∷ []) [] in
    winner_of (heard_by (heard_by (fresh_poll 5 70) (message first)) (message later))

-- ---- document 02's sheets
-- a plan with h 3, 4 rows and 6 data slots; links between 1 and 2, 2 and 3, 3 and 4, so that the units are a line
abbrev pub plan_of_site : List ℕ
plan_of_site = 0x01 ∷ 0x00 ∷ 0x00 ∷ 0x01 ∷ 3 ∷ 4 ∷ 6 ∷ 0xBD ∷ 0x04 ∷ 0x46 ∷ []

abbrev pub line : List ℕ
line = 1 ∷ 0 ∷ 2 ∷ 0 ∷ 3 ∷ 0 ∷ 2 ∷ 0 ∷ 3 ∷ 0 ∷ 4 ∷ 0 ∷ []

-- a unit of a sheet with the mask of its slots, all below 8
abbrev pub proposed : ℕ → ℕ → List ℕ
proposed unit slots = unit ∷ 0 ∷ slots ∷ 0 ∷ 0 ∷ 0 ∷ 0 ∷ 0 ∷ 0 ∷ 0 ∷ []

-- what the C call leaves of the four units with these slots, written from the last to the first: the status, how many are named, and these; 9 before
abbrev pub line_checked : ℕ → ℕ → ℕ → ℕ → List ℕ
line_checked a b c d =
    let left = sheet_call plan_of_site line (proposed 4 d ++ proposed 3 c ++ proposed 2 b ++ proposed 1 a) 9 9 9 in
    left.status ∷ left.named ∷ left.lower ∷ left.higher ∷ []

-- ---- what a drift leaves
-- a number with its sign as a list: 1 below zero and else 0, then the magnitude
abbrev pub with_sign : ℤ → List ℕ
with_sign (pos n) = 0 ∷ n ∷ []
with_sign (negsuc n) = 1 ∷ suc n ∷ []

-- the drift of a unit with no offset, then the drift with the offset that its step gives
abbrev pub leaves : ℕ → ℕ → List ℕ
leaves local original =
    with_sign (drift local 0 original 0) ++ with_sign (drift local (corrected local 0 original 0) original 0)

-- ---- times that pass their top
-- whether a step of so many ms from a time on is forward: 1, or 0
abbrev pub forward : ℕ → ℕ → ℕ
forward last step = cond (in_order last ((last + step) % 2 ^ 32)) 1 0

-- the table, with what the calls of the story say
abbrev pub examples_with : List (List ℕ) → List Example
examples_with told =
    record { computed = listed (read_frame join_bytes); paper = 0 ∷ 0x21 ∷ 0x0201 ∷ 0 ∷ 1 ∷ 4 ∷ [] } ∷
    record {
      computed = frame_of join_request (join_request_values (record { node = 0x0201; capabilities = 0; network = 1; slots = 4 })) [];
      paper = join_bytes;
    } ∷
    record { computed = lengths 4 6 1213; paper = 16 ∷ 54 ∷ [] } ∷
    record { computed = listed (plan 4 6 1213); paper = 0 ∷ 1 ∷ 0x0100 ∷ 3 ∷ 4 ∷ 6 ∷ 1213 ∷ 0x46 ∷ [] } ∷
    record { computed = listed (plan 4 6 1214); paper = 14 ∷ [] } ∷
    record { computed = lengths 20 21 655; paper = 50 ∷ 100 ∷ [] } ∷
    record { computed = listed (plan 20 21 655); paper = 0 ∷ 1 ∷ 0x0100 ∷ 3 ∷ 20 ∷ 21 ∷ 655 ∷ 0x46 ∷ [] } ∷
    record { computed = listed (plan 20 22 655); paper = 14 ∷ [] } ∷
    record { computed = get_or told 0 []; paper = 0 ∷ 5 ∷ 9 ∷ 10 ∷ 11 ∷ [] } ∷
    record { computed = get_or told 1 []; paper = 0 ∷ 6 ∷ 12 ∷ [] } ∷
    record { computed = get_or told 2 []; paper = 0 ∷ 7 ∷ 13 ∷ [] } ∷
    record { computed = get_or told 3 []; paper = 12 ∷ [] } ∷
    record { computed = get_or told 5 []; paper = 0 ∷ 6 ∷ 9 ∷ 10 ∷ 12 ∷ [] } ∷
    record { computed = get_or told 6 []; paper = 0 ∷ 5 ∷ 11 ∷ [] } ∷
    record { computed = leaves 100 0; paper = 0 ∷ 100 ∷ 0 ∷ 50 ∷ [] } ∷
    record { computed = leaves 0 51; paper = 1 ∷ 51 ∷ 1 ∷ 26 ∷ [] } ∷
    record { computed = leaves 101 0; paper = 0 ∷ 101 ∷ 0 ∷ 0 ∷ [] } ∷
    record { computed = leaves 50 (2 ^ 32 - 50); paper = 0 ∷ 100 ∷ 0 ∷ 50 ∷ [] } ∷
    record { computed = leaves (2 ^ 31) 0; paper = 1 ∷ 2 ^ 31 ∷ 0 ∷ 0 ∷ [] } ∷
    record { computed = forward (2 ^ 32 - 1) 0 ∷ forward (2 ^ 32 - 1) (2 ^ 31 - 1) ∷ forward (2 ^ 32 - 1) (2 ^ 31) ∷ []; paper = 1 ∷ 1 ∷ 0 ∷ [] } ∷
    record { computed = age_at 299999 (2 ^ 32 - 1) ∷ []; paper = 300000 ∷ [] } ∷
    record { computed = slots (eight long_beacons) ∷ superframe_ms_of (eight long_beacons) ∷ []; paper = 70 ∷ 70000 ∷ [] } ∷
    record { computed = listed (eight_made long_beacons); paper = 14 ∷ [] } ∷
    record { computed = listed (eight_made short_beacons); paper = 0 ∷ 1 ∷ 0x0100 ∷ 1 ∷ 8 ∷ 8 ∷ 1000 ∷ 0x47 ∷ [] } ∷
    record { computed = long_beacons ∷ short_beacons ∷ []; paper = beacon.code ∷ short_beacon.code ∷ [] } ∷
    record { computed = length short_bytes ∷ []; paper = 19 ∷ [] } ∷
    record {
      computed = frame_of short_beacon (0x0201 ∷ 1 ∷ 70 ∷ 1000 ∷ 1 ∷ 5000 ∷ 20 ∷ 1 ∷ 9 ∷ []) [];
      paper = short_bytes;
    } ∷
    -- a beacon of ours over any other frame, then the lower hop, then the higher quality, then the first
    record { computed = chosen 1 (heard join_bytes 255) (heard (short_at 10) 0); paper = 0 ∷ 1 ∷ [] } ∷
    record { computed = chosen 1 (heard (short_at 2) 255) (heard (short_at 1) 0); paper = 0 ∷ 1 ∷ [] } ∷
    record { computed = chosen 1 (heard (short_at 1) 60) (heard (short_at 1) 61); paper = 0 ∷ 1 ∷ [] } ∷
    record { computed = chosen 1 (heard (short_at 1) 60) (heard (short_at 1) 60); paper = 0 ∷ 0 ∷ [] } ∷
    -- where neither will do, the first's own number
    record { computed = chosen 2 (heard (short_at 1) 60) (heard join_bytes 60); paper = 15 ∷ 0 ∷ [] } ∷
    record { computed = chosen 2 (heard join_bytes 60) (heard (short_at 1) 60); paper = 2 ∷ 0 ∷ [] } ∷
    -- 5 bytes; the highest priority wins, then the lowest address, and a later message replaces an earlier one
    record { computed = frame_of election (0x0201 ∷ 70 ∷ []) []; paper = 0x26 ∷ 0x01 ∷ 0x02 ∷ 0x46 ∷ 0x63 ∷ [] } ∷
    record { computed = winner_after 71 71 ∷ winner_after 70 70 ∷ winner_after 71 69 ∷ winner_after 69 71 ∷ []; paper = 9 ∷ 5 ∷ 5 ∷ 9 ∷ [] } ∷
    -- of a copy with ttl 7 for 8 the checksum differs by the XOR of the two, 0x0F
    record { computed = copy_of (data_bytes 8 0x46); paper = data_bytes 7 0x49 } ∷
    -- at age 0 a route has 300,000 ms left, at 299,999 one, at 300,000 none and is still answered; then it is 11
    record { computed = looked 0; paper = 0 ∷ 2 ∷ 2 ∷ 300000 ∷ [] } ∷
    record { computed = looked 299999; paper = 0 ∷ 2 ∷ 2 ∷ 1 ∷ [] } ∷
    record { computed = looked 300000; paper = 0 ∷ 2 ∷ 2 ∷ 0 ∷ [] } ∷
    record { computed = looked 300001; paper = 11 ∷ 0 ∷ 0 ∷ 0 ∷ [] } ∷
    -- the ends of a line of four may share a slot, units with a common neighbour and linked ones may not
    record { computed = line_checked 1 2 4 1; paper = 0 ∷ 0 ∷ 0 ∷ 0 ∷ [] } ∷
    record { computed = line_checked 1 2 1 2; paper = 0 ∷ 2 ∷ 1 ∷ 3 ∷ [] } ∷
    record { computed = line_checked 1 2 4 4; paper = 0 ∷ 2 ∷ 3 ∷ 4 ∷ [] } ∷
    -- units first: one with no slot before a pair, one with slot 6 of 6, one with five
    record { computed = line_checked 1 1 0 0; paper = 0 ∷ 1 ∷ 3 ∷ 0 ∷ [] } ∷
    record { computed = line_checked 1 64 4 31; paper = 0 ∷ 1 ∷ 2 ∷ 0 ∷ [] } ∷
    -- a link to a unit that is not on the sheet is 14, and an address out of range 4 before it
    record {
      computed =
          (sheet_call plan_of_site line (proposed 1 1 ++ proposed 2 2 ++ proposed 3 4) 9 9 9).status
          ∷ (sheet_call plan_of_site line (proposed 0 1) 9 9 9).status
          ∷ (sheet_call plan_of_site line (proposed 0 1 ++ 0 ∷ []) 9 9 9).status
          ∷ [];
      paper = 14 ∷ 4 ∷ 14 ∷ [];
    } ∷
    []

abbrev pub all_same : List Example → Bool
all_same [] = true
all_same (e ∷ es) = same e.computed e.paper && all_same es

-- the definitions give every example
abbrev pub AsInThePaper : Type 0
AsInThePaper = all_same (examples_with story) ≡ true
