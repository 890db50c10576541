-- A merge that compares as many rows as there can be: a full table, and 24 entries for units above all its rows.
-- Assumes nothing.
use Rattle.std.specs.Prelude.{◌≡◌, false, List, [], ◌∷◌, ℕ, ◌+◌}
use Rattle.octets.specs.Lists.{tab}
use Rattle.octets.specs.Layouts.{in_turn}
use Rattle.frame_kinds.specs.Shape.{frame_of}
use Rattle.frame_traffic.specs.Traffic.{entry_widths, entry_values, update}
use Rattle.route_table.specs.declared.table.Table.{Table}
use Rattle.route_table.specs.Tables.{empty_table, with_rows}
use Rattle.route_merges.specs.Merges.{merge_of}

-- unit 1 knows units 2 to 49, all by unit 2
abbrev pub full_table : Table
full_table =
    with_rows (empty_table 1 0) 0 (tab 48 (λ k. record { destination = 2 + k; next_hop = 2; hops = 2; quality = 200; time = 0; withdrawn = false }))

-- unit 100 tells of units 101 to 124
abbrev pub full_update : List ℕ
full_update =
    frame_of update (100 ∷ 24 ∷ 0 ∷ [])
    (in_turn entry_widths entry_values (tab 24 (λ k. record { destination = 101 + k; hops = 1; quality = 200; next_hop = 100; timestamp = 0 })))

-- each of the 25 candidates is compared with all 48 rows, and finds no room
abbrev pub ComparesAll : Type 0
ComparesAll =
    let merged = merge_of full_table full_update 200 0 in (merged.refused ≡ 0) × (merged.compared ≡ 1200) × (merged.skipped ≡ 25)
