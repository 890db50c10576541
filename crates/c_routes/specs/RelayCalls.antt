-- What relaying returns and leaves.
-- Assumes nothing.
use Rattle.std.specs.Prelude.{ℕ, cond, List}
use Rattle.octets.specs.Calls.{after}
use Rattle.frame_kinds.specs.Shape.{place_of}
use Rattle.frame_traffic.specs.Traffic.{data_kind}
use Rattle.route_bytes.specs.StoredTables.{stored_table}
use Rattle.route_bytes.specs.TableBytes.{table_in}
use Rattle.route_relays.specs.Relays.{relay_of}

-- ---- relaying: the status, the buffer, the next hop, the place and the number of the bytes that count, and the ms for which the route is usable
pub record RelayLeft : Type 0 where
  pub status : ℕ
  pub out : List ℕ
  pub next_hop : ℕ
  pub place : ℕ
  pub extent : ℕ
  pub left : ℕ

abbrev pub relay_left : ℕ → List ℕ → ℕ → ℕ → ℕ → ℕ → RelayLeft
relay_left status out next_hop place extent left =
    record { status = status; out = out; next_hop = next_hop; place = place; extent = extent; left = left }

-- for this unit: no next hop, the payload's place in the frame and its length; else the next hop, the bytes written from the buffer's start, and what is left
unfoldable pub relay_call : List ℕ → List ℕ → ℕ → ℕ → List ℕ → ℕ → ℕ → ℕ → ℕ → RelayLeft
relay_call s frame time least out next_hop place extent left =
    let relayed = relay_of (table_in s) frame time least out in
    let answer = relayed.answer in
    let status = stored_table s answer.refused in
    relay_left status (after status out relayed.held) (after status next_hop answer.next_hop)
    (after status place (cond answer.ours (place_of data_kind) 0)) (after status extent answer.size) (after status left answer.left)
