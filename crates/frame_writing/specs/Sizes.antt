-- Needs no belief, laws carry it to why a frame is not written: why it has no such size.
-- Assumes nothing.
use Rattle.std.specs.Prelude.{ℕ, not, ◌||◌, [], ◌∷◌, eqb, ltb}
use Rattle.octets.specs.Answers.{reason, first}

-- a frame of this size where its count gives the length `due`; 0 where it has it
unfoldable pub size_refusal : ℕ → ℕ → ℕ
size_refusal due size = first (reason (not (eqb size due) || ltb 255 size) 1 ∷ [])
