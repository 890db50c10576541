-- Needs no belief, laws carry it to the rules of a kind: whether the reader takes a frame that is not too long.
-- Assumes nothing.
use Rattle.std.specs.Prelude.{ℕ, Bool, ◌&&◌, List, eqb, leb, length}
use Rattle.frames.specs.Frames.{read_frame}

unfoldable pub takes : List ℕ → Bool
takes frame = leb (length frame) 255 && eqb (read_frame frame).refusal 0
