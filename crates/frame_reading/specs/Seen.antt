-- Needs no belief, laws carry it to the values of a kind: what the loop that shows a frame's numbers sees of a layout, fields of one, two and else four bytes.
-- Assumes nothing.
use Rattle.std.specs.Prelude.{ℕ, ◌+◌, cond, List, [], ◌∷◌, eqb}
use Rattle.octets.specs.Numbers.{num}

abbrev pub seen_width : ℕ → ℕ
seen_width w = cond (eqb w 1) 1 (cond (eqb w 2) 2 4)

abbrev pub seen_fields : List ℕ → List ℕ → ℕ → List ℕ
seen_fields [] s at = []
seen_fields (w ∷ ws) s at = num (seen_width w) s at ∷ seen_fields ws s (at + w)
