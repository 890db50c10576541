-- A text put into a buffer, behind what was put there.
-- Assumes nothing.
use Rattle.std.specs.Prelude.{◌≡◌, ◌+◌, ℕ, List, length}
use Rattle.std.proofs.lemmas.List.Edits.{sets}
use Rattle.book_drawing.specs.declared.text.Text.{Text}

-- the same buffer, with the text from the place on, and the place behind it
pub record Put (old : Text) (text : List ℕ) (new : Text) : Type 0 where
  pub same : new.out.ghost_name ≡ old.out.ghost_name
  pub stored : new.out.now ≡ sets old.out.now old.place text
  pub behind : new.place ≡ old.place + length text
