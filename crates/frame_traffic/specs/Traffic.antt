-- Data and routing updates: document 01's table and field rules, a line each.
-- Of each kind: the values of its record in the paper's order, the record with given values, and its fields with what follows them. A name of the code that has a `_` stands in « ».
-- Assumes nothing.
use Rattle.std.specs.Prelude.{ℕ, ◌*◌, Bool, ◌&&◌, ◌||◌, List, [], ◌∷◌, eqb, leb, get_or}
use Rattle.octets.specs.Layouts.{fields}
use Rattle.octets.specs.Lists.{tab, every}
use Rattle.octets.specs.Addresses.{address}
use Rattle.frame_kinds.specs.Fields.{byte, half, word, unit}
use Rattle.frame_kinds.specs.Shape.{Kind, followed}
use Rattle.frame_traffic.specs.declared.data_frame.DataHeader.{DataHeader}
use Rattle.frame_traffic.specs.declared.entry.Entry.{Entry}
use Rattle.frame_traffic.specs.declared.update.UpdateHeader.{UpdateHeader}

-- ---- 0x11 data: source, destination, ttl, sequence, n, payload n
abbrev pub data_values : DataHeader → List ℕ
data_values f = f.source ∷ f.destination ∷ f.ttl ∷ f.sequence ∷ f.count ∷ []

abbrev pub data_from : List ℕ → DataHeader
data_from vs = record { source = get_or vs 0 0; destination = get_or vs 1 0; ttl = get_or vs 2 0; sequence = get_or vs 3 0; count = get_or vs 4 0 }

abbrev pub data_kind : Kind
data_kind = followed 0x11 (unit ∷ unit ∷ byte ∷ half ∷ byte ∷ []) (λ vs. (data_from vs).count) (λ vs part. [])

-- ---- 0x31 routing update: origin, k, time, then k entries: destination 2, hops 1, quality 1, next hop 2, timestamp 4
abbrev pub entry_widths : List ℕ
entry_widths = 2 ∷ 1 ∷ 1 ∷ 2 ∷ 4 ∷ []

abbrev pub entry_values : Entry → List ℕ
entry_values e = e.destination ∷ e.hops ∷ e.quality ∷ e.next_hop ∷ e.timestamp ∷ []

abbrev pub entry_from : List ℕ → Entry
entry_from vs = record { destination = get_or vs 0 0; hops = get_or vs 1 0; quality = get_or vs 2 0; next_hop = get_or vs 3 0; timestamp = get_or vs 4 0 }

-- route hops are 1 to 16, or 255 for unreachable
abbrev pub entry_rule : Entry → Bool
entry_rule e =
    address e.destination && address e.next_hop
    && (leb 1 e.hops && leb e.hops 16 || eqb e.hops 255)

-- the entry at a position, counted from 0, of the bytes behind the fields, and all of them in order
unfoldable pub entry_at : List ℕ → ℕ → Entry
entry_at part position = entry_from (fields entry_widths part (10 * position))

abbrev pub entries_of : ℕ → List ℕ → List Entry
entries_of count part = tab count (entry_at part)

abbrev pub update_values : UpdateHeader → List ℕ
update_values f = f.origin ∷ f.count ∷ f.time ∷ []

abbrev pub update_from : List ℕ → UpdateHeader
update_from vs = record { origin = get_or vs 0 0; count = get_or vs 1 0; time = get_or vs 2 0 }

abbrev pub update : Kind
update =
    followed 0x31 (unit ∷ byte ∷ word ∷ []) (λ vs. 10 * (update_from vs).count)
    (λ vs part. every entry_rule (entries_of (update_from vs).count part) ∷ [])
