-- What the calls from C leave in the caller's buffer is read as what was meant: `braidlark_join`, `_slot_request`, `_relay`, `_forward` and `_page`, where
-- their status is 0. All that is asked of the caller is that bytes are bytes and that a time has 32 bits, which C's types give.
-- Assumes nothing.
use Rattle.std.specs.Prelude.{◌≡◌, List, ◌∷◌, ◌⊎◌, ℕ, ◌<◌, take, drop}
use Rattle.octets.specs.Answers.{accepted}
use Rattle.octets.specs.Layouts.{Bytes}
use Rattle.frame_kinds.specs.Shape.{place_of, part_in}
use Rattle.frame_traffic.specs.declared.data_frame.DataHeader.{DataHeader}
use Rattle.frame_traffic.specs.Traffic.{data_kind, data_values}
use Rattle.frames.specs.Frames.{read_frame}
use Rattle.route_table.specs.Rows.{standing}
use Rattle.route_table.specs.Tables.{rows_of}
use Rattle.route_pages.specs.Pages.{on_page}
use Rattle.route_bytes.specs.TableBytes.{table_in}
use Rattle.book_joins.specs.Joins.{join_in, ask_in}
use Rattle.book_bytes.specs.BookBytes.{book_in}
use Rattle.route_forwards.specs.Forwards.{forward_call}
use Rattle.c_routes.specs.RelayCalls.{relay_call}
use Rattle.c_routes.specs.UpdateCalls.{page_call}
use Rattle.c_requests.specs.RequestCalls.{join_call, slot_request_call}
use Rattle.c_read_back.specs.FramesRead.{Responded, Copied, Forwarded, ShortForwarded, Paged}

-- a join, and a slot request: the responses tell what the book, as the call leaves its bytes, has for the unit
abbrev pub ResponsesReadInC : Type 0
ResponsesReadInC =
    (s frame : List ℕ) (time : ℕ) (out : List ℕ) (written : ℕ) → Bytes s → time < 0x100000000
    → let joined = join_call s frame time out written in
    let asked = slot_request_call s frame time out written in
    (joined.status ≡ 0 → Responded (join_in frame).node time (book_in joined.book) joined.written joined.out)
    × (asked.status ≡ 0 → Responded (ask_in frame).node time (book_in asked.book) asked.written asked.out)

-- a relay that answers a next hop: the copy stands in the buffer, at the place and with the length that it tells
abbrev pub CopiesReadInC : Type 0
CopiesReadInC =
    (s frame : List ℕ) (time least : ℕ) (out : List ℕ) (next_hop place extent left : ℕ) → Bytes frame
    → let r = relay_call s frame time least out next_hop place extent left in
    r.status ≡ 0 → (r.next_hop ≡ 0 → ⊥) → Copied frame (take r.extent (drop r.place r.out))

-- a data frame for this unit, and where its payload stands in it: behind the fields, as many bytes as the frame says
pub record Delivered (own : ℕ) (s : List ℕ) (place extent : ℕ) : Type 0 where
  pub frame : DataHeader
  pub received : read_frame s ≡ accepted (0x11 ∷ data_values frame)
  pub ours : frame.destination ≡ own
  pub placed : place ≡ place_of data_kind
  pub sized : extent ≡ frame.count
  pub payload : take extent (drop place s) ≡ part_in data_kind s

-- a relay that answers no next hop: the frame is for this unit, place and length are those of the payload in the frame, the buffer is as it was, and no time is
-- left, whatever time was named
abbrev pub PayloadTold : Type 0
PayloadTold =
    (s frame : List ℕ) (time least : ℕ) (out : List ℕ) (next_hop place extent left : ℕ)
    → let r = relay_call s frame time least out next_hop place extent left in
    r.status ≡ 0 → r.next_hop ≡ 0 → Delivered (table_in s).own frame r.place r.extent × (r.out ≡ out) × (r.left ≡ 0)

-- a forward
abbrev pub ForwardsReadInC : Type 0
ForwardsReadInC =
    (s : List ℕ) (network manager : ℕ) (frame : List ℕ) (delay time : ℕ) (out : List ℕ) (written : ℕ) → Bytes frame
    → let r = forward_call s network manager frame delay time out written in
    r.status ≡ 0 → let copy = take r.written r.out in Forwarded (table_in s).own delay frame copy ⊎ ShortForwarded (table_in s).own delay frame copy

-- a page
abbrev pub PagesReadInC : Type 0
PagesReadInC =
    (s : List ℕ) (page time : ℕ) (out : List ℕ) (written : ℕ) → Bytes s → time < 0x100000000
    → let r = page_call s page time out written in
    r.status ≡ 0 → Paged (table_in s).own time (on_page (standing time (rows_of (table_in s))) page) (take r.written r.out)
