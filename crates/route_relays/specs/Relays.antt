-- Relaying a data frame: handed back where it is for this unit, else passed on with its ttl one less.
-- Assumes nothing.
use Rattle.std.specs.Prelude.{ℕ, ◌-◌, Bool, false, not, ◌&&◌, ◌||◌, cond, List, [], ◌∷◌, eqb, leb, ltb, length}
use Rattle.std.proofs.lemmas.List.Edits.{sets}
use Rattle.octets.specs.Answers.{Reason, reason, refusing, first}
use Rattle.octets.specs.Parts.{Lent, part_of}
use Rattle.moments.specs.Moments.{in_order}
use Rattle.frame_kinds.specs.Reading.{refusal_as}
use Rattle.frame_kinds.specs.Shape.{values_in, part_in, part_lent, frame_of}
use Rattle.frame_traffic.specs.declared.data_frame.DataHeader.{DataHeader}
use Rattle.frame_traffic.specs.Traffic.{data_kind, data_values, data_from}
use Rattle.route_table.specs.Outcomes.{Found}
use Rattle.route_table.specs.declared.table.Table.{Table}
use Rattle.route_table.specs.Tables.{within_rule, lookup_of}
use Rattle.route_bytes.specs.StoredTables.{on_table}
use Rattle.route_relays.specs.Outcomes.{Relayed}

-- the fields of a data frame
abbrev pub data_in : List ℕ → DataHeader
data_in s = data_from (values_in data_kind s)

-- it is for the unit `own`
abbrev pub is_for : ℕ → List ℕ → Bool
is_for own s = eqb (data_in s).destination own

-- it is for this unit
abbrev pub for_us : Table → List ℕ → Bool
for_us t s = is_for t.own s

-- passed on: the same with its ttl one less
abbrev pub passed_on : DataHeader → DataHeader
passed_on f = record { source = f.source; destination = f.destination; ttl = f.ttl - 1; sequence = f.sequence; count = f.count }

abbrev pub copy_of : List ℕ → List ℕ
copy_of s = frame_of data_kind (data_values (passed_on (data_in s))) (part_in data_kind s)

-- a route will not do: there is none, or it has less time left than the caller names, where 0 names none
abbrev pub is_too_short : Found → ℕ → Bool
is_too_short found least = not (eqb found.refused 0) || ltb found.left least

-- why a frame is not relayed by a table within rule of the unit `own`, with this last accepted time, which answers `found` to a lookup of its destination, on
-- a route with at least so much time left: 1 2 1 3 4 6 8, and, where it is not for this unit, 10 11 5; a lookup that comes so far is refused with 11 alone
abbrev pub unrelayed_reasons : ℕ → ℕ → Found → List ℕ → ℕ → ℕ → ℕ → List Reason
unrelayed_reasons own last found s time least room =
    let other = not (is_for own s) in
    refusing (refusal_as data_kind s) ∷
    reason (eqb (data_in s).source own) 6 ∷
    reason (not (in_order last time)) 8 ∷
    reason (other && leb (data_in s).ttl 1) 10 ∷
    reason (other && is_too_short found least) 11 ∷
    reason (other && ltb room (length (copy_of s))) 5 ∷
    []

-- 14, then these, of the table's own unit, time and lookup
abbrev pub relay_reasons : Table → List ℕ → ℕ → ℕ → ℕ → List Reason
relay_reasons t s time least room =
    reason (not (within_rule t)) 14 ∷ unrelayed_reasons t.own t.time (lookup_of t (data_in s).destination time) s time least room

unfoldable pub relay_refusal : Table → List ℕ → ℕ → ℕ → ℕ → ℕ
relay_refusal t s time least room = first (relay_reasons t s time least room)

-- what relaying answers, and what the buffer then holds
pub record Relaying : Type 0 where
  pub answer : Relayed
  pub held : List ℕ

abbrev pub relayed : Relayed → List ℕ → Relaying
relayed answer held = record { answer = answer; held = held }

-- the answer where nothing is written: a payload of this length for this unit, unless a number refuses it
abbrev pub unwritten : ℕ → ℕ → Relayed
unwritten number count = record { refused = number; ours = eqb number 0; next_hop = 0; size = cond (eqb number 0) count 0; left = 0 }

-- the answer where the copy is written: the next hop, the copy's length, and for how long the route lasts
abbrev pub passed_to : Found → List ℕ → Relayed
passed_to found s = record { refused = 0; ours = false; next_hop = found.next_hop; size = length (copy_of s); left = found.left }

-- unless a number refuses it: for this unit the length of the payload, and nothing is written; else the next hop, and the copy's bytes
abbrev pub relayed_or : ℕ → Bool → Found → List ℕ → List ℕ → Relaying
relayed_or number ours found s out =
    cond (eqb number 0 && not ours)
    (relayed (passed_to found s) (sets out 0 (copy_of s)))
    (relayed (unwritten number (data_in s).count) out)

unfoldable pub relay_of : Table → List ℕ → ℕ → ℕ → List ℕ → Relaying
relay_of t s time least out = relayed_or (relay_refusal t s time least (length out)) (for_us t s) (lookup_of t (data_in s).destination time) s out

-- the same by a table within rule of which only this is known
unfoldable pub relay_by : ℕ → ℕ → Found → List ℕ → ℕ → ℕ → List ℕ → Relaying
relay_by own last found s time least out = relayed_or (first (unrelayed_reasons own last found s time least (length out))) (is_for own s) found s out

-- relaying by the table that bytes hold, 14 where they hold none
unfoldable pub relay_in : List ℕ → List ℕ → ℕ → ℕ → List ℕ → Relaying
relay_in table s time least out = on_table table (λ t. relay_of t s time least out) (relayed (unwritten 14 0) out)

-- the payload of a frame that is relayed to this unit, as its part of the frame, whatever time is left; of any other nothing, at its start
unfoldable pub handed_back : Table → Lent → ℕ → Lent
handed_back t s time = cond (eqb (relay_refusal t s.bytes time 0 0) 0 && for_us t s.bytes) (part_lent data_kind s) (part_of s 0 0)
