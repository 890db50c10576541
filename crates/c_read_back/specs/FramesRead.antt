-- What a unit writes, others read: each frame that an accepted call leaves in a buffer is accepted by the reader of frames, and read as exactly what
-- was meant. `TakenAsRead` of `frames` carries each of these on to the calls that take one kind of frame. Here the calls are those on values; `CallsRead`
-- says the same of the calls from C.
-- Assumes nothing.
use Rattle.std.specs.Prelude.{◌≡◌, true, false, not, List, [], ◌∷◌, map, ◌⊎◌, ℕ, zero, suc, ◌+◌, ◌*◌, ◌-◌, ◌/◌, ◌≤◌, ◌<◌, eqb, ltb, length, get_or, take, drop}
use Rattle.octets.specs.Answers.{Said, accepted, reason, first}
use Rattle.octets.specs.Layouts.{Bytes}
use Rattle.moments.specs.Moments.{in_order}
use Rattle.frame_kinds.specs.Reading.{refusal_as}
use Rattle.frame_kinds.specs.Shape.{part_in}
use Rattle.frame_requests.specs.Requests.{join_response_from}
use Rattle.frame_traffic.specs.declared.data_frame.DataHeader.{DataHeader}
use Rattle.frame_traffic.specs.Traffic.{data_kind, data_values, update, entries_of, entry_values}
use Rattle.frame_beacons.specs.declared.beacon.Beacon.{Beacon}
use Rattle.frame_beacons.specs.declared.short.ShortBeacon.{ShortBeacon}
use Rattle.frame_beacons.specs.Beacons.{beacon_values}
use Rattle.frame_beacons.specs.ShortBeacons.{short_beacon_values}
use Rattle.frames.specs.Frames.{read_frame}
use Rattle.frame_entries.specs.Walks.{walk_of}
use Rattle.route_table.specs.declared.row.Row.{Row}
use Rattle.route_table.specs.declared.table.Table.{Table}
use Rattle.route_table.specs.Rows.{none, standing}
use Rattle.route_table.specs.Tables.{rows_of, within_rule}
use Rattle.route_merges.specs.Candidates.{candidates}
use Rattle.route_merges.specs.Learning.{learned, learn_all}
use Rattle.route_merges.specs.Merges.{update_in, merge_refusal, merged_rows}
use Rattle.route_forwards.specs.Forwards.{forward_of}
use Rattle.route_pages.specs.Pages.{entry_for, on_page, page_of}
use Rattle.route_relays.specs.Relays.{relay_of}
use Rattle.route_bytes.specs.TableTrips.{Sized}
use Rattle.book.specs.Books.{Contents, live_at}
use Rattle.book_joins.specs.Joins.{join_in, join_of, ask_in, ask_of}
use Rattle.book_joins.specs.Responses.{told_in}
use Rattle.book_history.specs.BookLaws.{slots_at}

-- ---- responses
-- so many frames of 13 bytes, one after the other
abbrev pub frames_in : ℕ → List ℕ → List (List ℕ)
frames_in zero s = []
frames_in (suc n) s = take 13 s ∷ frames_in n (drop 13 s)

-- the answer to a unit, so many bytes at the start of a buffer: the unit is a live member of the book that the call leaves, and the bytes are one frame
-- for each slot that this book has for it, its control slot first; each is read as an accepted join response to this unit: 0x22, unit, status 0, slot,
-- superframe time, network
pub record Responded (unit time : ℕ) (book : Contents) (written : ℕ) (out : List ℕ) : Type 0 where
  pub member : live_at book unit time ≡ true
  pub slots : List ℕ
  pub held : slots ≡ slots_at book unit time
  pub sized : written ≡ 13 * length slots
  pub read :
      map read_frame (frames_in (length slots) out) ≡ map (λ slot. accepted (0x22 ∷ unit ∷ 0 ∷ slot ∷ time ∷ book.plan.network ∷ [])) slots

-- an accepted join, and an accepted slot request
abbrev pub ResponsesRead : Type 0
ResponsesRead =
    (b : Contents) (s : List ℕ) (time : ℕ) (out : List ℕ) → b.plan.network < 0x10000 → time < 0x100000000
    → let joined = join_of b s time out in
    let asked = ask_of b s time out in
    (joined.refused ≡ 0 → Responded (join_in s).node time joined.book joined.written joined.held)
    × (asked.refused ≡ 0 → Responded (ask_in s).node time asked.book asked.written asked.held)

-- the slot that a response says, whose fields stand behind its type
abbrev pub slot_said : Said → ℕ
slot_said said = (join_response_from (drop 1 said.values)).slot

-- the slots that so many response frames in a buffer tell, as the reader of frames reads each
abbrev pub slots_read : ℕ → List ℕ → List ℕ
slots_read n out = map slot_said (map read_frame (frames_in n out))

-- so what an answer tells its unit, cut out of its bytes (`told_in`), is what the reader reads in it
abbrev pub ToldAsRead : Type 0
ToldAsRead =
    (b : Contents) (s : List ℕ) (time : ℕ) (out : List ℕ) → b.plan.network < 0x10000 → time < 0x100000000
    → let joined = join_of b s time out in
    let asked = ask_of b s time out in
    (joined.refused ≡ 0 → slots_read (joined.written / 13) joined.held ≡ told_in (joined.written / 13) joined.held)
    × (asked.refused ≡ 0 → slots_read (asked.written / 13) asked.held ≡ told_in (asked.written / 13) asked.held)

-- ---- copies
-- a data frame as it came in, and the copy of it: both are read, alike but for the ttl, which was at least 2 and is one less, and have the same payload
pub record Copied (s copy : List ℕ) : Type 0 where
  pub frame : DataHeader
  pub received : read_frame s ≡ accepted (0x11 ∷ data_values frame)
  pub lives : 2 ≤ frame.ttl
  pub sent :
      read_frame copy ≡ accepted (0x11 ∷ frame.source ∷ frame.destination ∷ (frame.ttl - 1) ∷ frame.sequence ∷ frame.count ∷ [])
  pub payload : part_in data_kind copy ≡ part_in data_kind s

-- where relaying passes a frame on, as many bytes as it says at the start of the buffer are the copy
abbrev pub CopiesRead : Type 0
CopiesRead =
    (t : Table) (s : List ℕ) (time least : ℕ) (out : List ℕ) → Bytes s
    → let relayed = relay_of t s time least out in
    let answer = relayed.answer in answer.refused ≡ 0 → answer.ours ≡ false → Copied s (take answer.size relayed.held)

-- ---- beacons
-- a beacon as it came in, and the copy of it: both are read, alike but for the source, which is this unit, the hop, one more, and the delay, to which the
-- given one is added
pub record Forwarded (own delay : ℕ) (s copy : List ℕ) : Type 0 where
  pub beacon : Beacon
  pub received : read_frame s ≡ accepted (0x46 ∷ beacon_values beacon)
  pub sent :
      read_frame copy
      ≡ accepted
      (0x46 ∷ beacon.destination ∷ own ∷ beacon.size ∷ beacon.network ∷ beacon.superframe_number ∷ beacon.superframe_ms ∷
      beacon.total_slots ∷
      beacon.slot_ms ∷
      beacon.original_source ∷
      (beacon.hop + 1) ∷
      beacon.original_time ∷
      (beacon.delay + delay) ∷
      beacon.max_hops ∷
      beacon.sequence ∷
      [])

-- the same of a short one
pub record ShortForwarded (own delay : ℕ) (s copy : List ℕ) : Type 0 where
  pub beacon : ShortBeacon
  pub received : read_frame s ≡ accepted (0x47 ∷ short_beacon_values beacon)
  pub sent :
      read_frame copy
      ≡ accepted
      (0x47 ∷ own ∷ beacon.network ∷ beacon.total_slots ∷ beacon.slot_ms ∷ (beacon.hop + 1) ∷ beacon.original_time ∷ (beacon.delay + delay) ∷
      beacon.max_hops ∷
      beacon.sequence ∷
      [])

-- where forwarding is accepted, the bytes that it says were written are the copy, of the kind that came in
abbrev pub ForwardsRead : Type 0
ForwardsRead =
    (t : Table) (network manager : ℕ) (s : List ℕ) (delay time : ℕ) (out : List ℕ) → Bytes s
    → let f = forward_of t network manager s delay time out in
    f.answer.refused ≡ 0 → let copy = take f.answer.written f.held in Forwarded t.own delay s copy ⊎ ShortForwarded t.own delay s copy

-- ---- pages
-- a routing update from this unit at this time, with one entry for each of these rows, in order; and so it is walked
pub record Paged (own time : ℕ) (rows : List Row) (frame : List ℕ) : Type 0 where
  pub header : read_frame frame ≡ accepted (0x31 ∷ own ∷ length rows ∷ time ∷ [])
  pub entries : entries_of (length rows) (part_in update frame) ≡ map (entry_for time) rows
  pub walked : (i : ℕ) → i < length rows → walk_of frame i ≡ accepted ((i + 1) ∷ entry_values (entry_for time (get_or rows i none)))
  pub ended : walk_of frame (length rows) ≡ accepted (0 ∷ [])

-- where a page is accepted, the bytes that it says were written are such an update, with the page's rows: up to 24 of those that are not gone
abbrev pub PagesRead : Type 0
PagesRead =
    (t : Table) (p time : ℕ) (out : List ℕ) (size : ℕ) → Sized t → time < 0x100000000 → (page_of t p time out).said ≡ accepted (size ∷ [])
    → Paged t.own time (on_page (standing time (rows_of t)) p) (take size (page_of t p time out).held)

-- what another unit takes from such an update: merging refuses it only for the table that it is merged into, for being that unit's own, for the time or
-- for the quality that it was heard with; and learns from it this unit as a neighbour, then what the entry for each of these rows offers
pub record Offered (own time : ℕ) (rows : List Row) (frame : List ℕ) : Type 0 where
  pub taken : refusal_as update frame ≡ 0
  pub origin : (update_in frame).origin ≡ own
  pub made : (update_in frame).time ≡ time
  pub entries : entries_of (update_in frame).count (part_in update frame) ≡ map (entry_for time) rows
  pub refusals :
      (other : Table) (quality at : ℕ)
      → merge_refusal other frame quality at
      ≡ first
      (reason (not (within_rule other)) 14 ∷
      reason (eqb own other.own) 6 ∷
      reason (not (in_order other.time at)) 8 ∷
      reason (ltb quality 40) 9 ∷
      [])
  pub learnt :
      (other : Table) (quality at : ℕ)
      → merged_rows other frame quality at
      ≡ learn_all own at (candidates other.own own quality (map (entry_for time) rows)) (learned (standing at (rows_of other)) 0)

-- bytes that are read as a page offer its rows, however they came
abbrev pub PagesOffer : Type 0
PagesOffer = (own time : ℕ) (rows : List Row) (frame : List ℕ) → Paged own time rows frame → Offered own time rows frame
