-- Needs no belief, laws carry it to the writing of a kind: what the writer of any kind sees of a frame's numbers, its type first.
-- Assumes nothing.
use Rattle.std.specs.Prelude.{ℕ, ◌+◌, Bool, List, ◌++◌}
use Rattle.octets.specs.Layouts.{total, bytes}
use Rattle.octets.specs.Told.{Wrote}
use Rattle.frames.specs.Layout.{widths_of}
use Rattle.frame_kinds.specs.Shape.{sealed}
use Rattle.frame_kinds.specs.Writing.{writing}

abbrev pub write_typed : ℕ → ℕ → Bool → List ℕ → List ℕ → List ℕ → Wrote
write_typed code extent good ns part out = writing (total (widths_of code) + 1 + extent) good (sealed (bytes (widths_of code) ns ++ part)) out
