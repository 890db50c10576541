-- Each call once, with its bytes: there are accepted calls of every sort that the theorems speak of.
-- Assumes nothing.
use Rattle.std.specs.Prelude.{◌≡◌, false, List, [], ◌∷◌, ◌++◌, ℕ, replicate}
use Rattle.octets.specs.Calls.{write_left}
use Rattle.frame_kinds.specs.Shape.{frame_of}
use Rattle.frame_beacons.specs.Beacons.{beacon}
use Rattle.frame_beacons.specs.ShortBeacons.{short_beacon}
use Rattle.route_table.specs.declared.table.Table.{Table}
use Rattle.route_table.specs.Tables.{with_rows, empty_table}
use Rattle.route_bytes.specs.TableBytes.{table_bytes}
use Rattle.book.specs.Books.{Contents, fresh_book}
use Rattle.book_bytes.specs.BookBytes.{bytes_of_book}
use Rattle.c_frames.specs.FrameCalls.{read_left, read_call, write_call}
use Rattle.route_forwards.specs.Forwards.{forward_call}
use Rattle.c_routes.specs.RelayCalls.{relay_left, relay_call}
use Rattle.route_merges.specs.StoredMerges.{merge_left, merge_call}
use Rattle.c_routes.specs.UpdateCalls.{page_call}
use Rattle.c_requests.specs.RequestCalls.{RequestLeft, join_call, slot_request_call}

-- ---- reading and writing
-- from unit 5 to unit 9, ttl 2, sequence 4, one byte
abbrev pub message : List ℕ
message = 0x11 ∷ 5 ∷ 0 ∷ 9 ∷ 0 ∷ 2 ∷ 4 ∷ 0 ∷ 1 ∷ 7 ∷ 0x1D ∷ []

abbrev pub ReadOnce : Type 0
ReadOnce =
    (read_call message (replicate 8 77) 0 0 ≡ read_left 0 (0x11 ∷ 5 ∷ 9 ∷ 2 ∷ 4 ∷ 1 ∷ 77 ∷ 77 ∷ []) 9 1)
    × (write_call (0x11 ∷ 5 ∷ 9 ∷ 2 ∷ 4 ∷ 1 ∷ 77 ∷ 77 ∷ []) (7 ∷ []) (replicate 12 0) 0 ≡ write_left 0 (message ++ (0 ∷ [])) 11)

-- ---- a table
-- unit 1 has one row: unit 9 through unit 2, two hops away
abbrev pub table : Table
table = with_rows (empty_table 1 0) 0 (record { destination = 9; next_hop = 2; hops = 2; quality = 200; time = 0; withdrawn = false } ∷ [])

-- the message goes on to unit 2 with ttl 1, on a route that has 299,995 ms left, as the caller asks; with one ms more it is 11
abbrev pub RelayedOnce : Type 0
RelayedOnce =
    (relay_call (table_bytes table) message 5 299995 (replicate 12 0) 0 0 0 0
    ≡ relay_left 0 (0x11 ∷ 5 ∷ 0 ∷ 9 ∷ 0 ∷ 1 ∷ 4 ∷ 0 ∷ 1 ∷ 7 ∷ 0x1E ∷ 0 ∷ []) 2 0 11 299995)
    × (relay_call (table_bytes table) message 5 299996 (replicate 12 0) 0 0 0 0 ≡ relay_left 11 (replicate 12 0) 0 0 0 0)

-- a message of two bytes from unit 5 to unit 1 is for this unit: they stand at place 9 of the frame, and nothing is written, whatever room there is and
-- whatever time is named
abbrev pub message_for_us : List ℕ
message_for_us = 0x11 ∷ 5 ∷ 0 ∷ 1 ∷ 0 ∷ 1 ∷ 4 ∷ 0 ∷ 2 ∷ 7 ∷ 8 ∷ 0x1D ∷ []

abbrev pub DeliveredOnce : Type 0
DeliveredOnce = relay_call (table_bytes table) message_for_us 5 300001 (77 ∷ []) 77 77 77 77 ≡ relay_left 0 (77 ∷ []) 0 9 2 0

-- a beacon of unit 9 that unit 2 sent at hop 1, with a delay of 10, goes on from unit 1 at hop 2, with a delay of 15
abbrev pub beacon_from : ℕ → ℕ → ℕ → List ℕ
beacon_from source hop delay = frame_of beacon (0xFFFF ∷ source ∷ 27 ∷ 1 ∷ 8 ∷ 200 ∷ 2 ∷ 100 ∷ 9 ∷ hop ∷ 0 ∷ delay ∷ 3 ∷ 6 ∷ []) []

abbrev pub ForwardedOnce : Type 0
ForwardedOnce =
    let r = forward_call (table_bytes table) 1 9 (beacon_from 2 1 10) 5 5 (replicate 34 0) 0 in
    (r.status ≡ 0) × (r.written ≡ 34) × (r.out ≡ beacon_from 1 2 15)

-- and a short one of which unit 9 is the manager
abbrev pub short_from : ℕ → ℕ → ℕ → List ℕ
short_from source hop delay = frame_of short_beacon (source ∷ 1 ∷ 2 ∷ 100 ∷ hop ∷ 0 ∷ delay ∷ 3 ∷ 6 ∷ []) []

abbrev pub ShortForwardedOnce : Type 0
ShortForwardedOnce =
    let r = forward_call (table_bytes table) 1 9 (short_from 2 1 10) 5 5 (replicate 19 0) 0 in
    (r.status ≡ 0) × (r.written ≡ 19) × (r.out ≡ short_from 1 2 15)

-- the page of that row at time 5
abbrev pub its_page : List ℕ
its_page = 0x31 ∷ 1 ∷ 0 ∷ 1 ∷ 5 ∷ 0 ∷ 0 ∷ 0 ∷ 9 ∷ 0 ∷ 2 ∷ 200 ∷ 2 ∷ 0 ∷ 0 ∷ 0 ∷ 0 ∷ 0 ∷ 0xF5 ∷ []

abbrev pub PagedOnce : Type 0
PagedOnce = page_call (table_bytes table) 0 5 (replicate 19 0) 0 ≡ write_left 0 its_page 19

-- unit 3 hears it at time 6, with a quality of 100: it then has unit 1 as a neighbour, and unit 9 through it, three hops away, for which
-- one row was compared
abbrev pub MergedOnce : Type 0
MergedOnce =
    merge_call (table_bytes (empty_table 3 0)) its_page 100 6 77 77
    ≡ merge_left 0
    (table_bytes
    (with_rows (empty_table 3 0) 6
    (record { destination = 1; next_hop = 1; hops = 1; quality = 100; time = 6; withdrawn = false } ∷
    record { destination = 9; next_hop = 1; hops = 3; quality = 150; time = 6; withdrawn = false } ∷
    []))) 0 1

-- ---- a book
-- network 1, manager 1, one hop, two rows, three data slots of 100 ms
abbrev pub book : Contents
book = fresh_book (record { network = 1; manager = 1; max_hops = 1; rows = 2; data_slots = 3; slot_ms = 100; beacon_type = 0x46 }) 0

-- unit 2 asks to join, for one slot, and is told of its control slot, 3, and of its data slot, 5
abbrev pub joined : RequestLeft
joined = join_call (bytes_of_book book) (0x21 ∷ 2 ∷ 0 ∷ 0 ∷ 1 ∷ 0 ∷ 1 ∷ 0x23 ∷ []) 7 (replicate 26 0) 0

abbrev pub JoinedOnce : Type 0
JoinedOnce =
    (joined.status ≡ 0) × (joined.written ≡ 26)
    × (joined.out
    ≡ (0x22 ∷ 2 ∷ 0 ∷ 0 ∷ 3 ∷ 0 ∷ 7 ∷ 0 ∷ 0 ∷ 0 ∷ 1 ∷ 0 ∷ 0x25 ∷ [])
    ++ (0x22 ∷ 2 ∷ 0 ∷ 0 ∷ 5 ∷ 0 ∷ 7 ∷ 0 ∷ 0 ∷ 0 ∷ 1 ∷ 0 ∷ 0x23 ∷ []))

-- it then asks for three data slots, of which it can have two, and is told of its control slot and of both
abbrev pub AskedOnce : Type 0
AskedOnce =
    let r = slot_request_call joined.book (0x23 ∷ 2 ∷ 0 ∷ 3 ∷ 0 ∷ 0 ∷ 0x22 ∷ []) 8 (replicate 39 0) 0 in
    (r.status ≡ 0) × (r.written ≡ 39) × (r.out
    ≡ (0x22 ∷ 2 ∷ 0 ∷ 0 ∷ 3 ∷ 0 ∷ 8 ∷ 0 ∷ 0 ∷ 0 ∷ 1 ∷ 0 ∷ 0x2A ∷ [])
    ++ ((0x22 ∷ 2 ∷ 0 ∷ 0 ∷ 5 ∷ 0 ∷ 8 ∷ 0 ∷ 0 ∷ 0 ∷ 1 ∷ 0 ∷ 0x2C ∷ [])
    ++ (0x22 ∷ 2 ∷ 0 ∷ 0 ∷ 6 ∷ 0 ∷ 8 ∷ 0 ∷ 0 ∷ 0 ∷ 1 ∷ 0 ∷ 0x2F ∷ [])))
