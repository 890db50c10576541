-- Writing: which records are refused, and which bytes the others are.
-- Assumes nothing.
use Rattle.std.specs.Prelude.{ℕ, Bool, not, ◌||◌, List, [], ◌∷◌, eqb, ltb, length}
use Rattle.std.proofs.lemmas.List.Edits.{sets}
use Rattle.octets.specs.Answers.{accepted, reason, first, unless}
use Rattle.octets.specs.Calls.{after}
use Rattle.octets.specs.Told.{Wrote}
use Rattle.frame_kinds.specs.Shape.{Kind, length_of, frame_of}

-- why a frame of this size is not written, where its count gives the length `due`, its field rules are kept or not, and the buffer has
-- this room; 0 where it is
unfoldable pub write_refusal : ℕ → ℕ → Bool → ℕ → ℕ
write_refusal due size good room =
    first
    (reason (not (eqb size due) || ltb 255 size) 1 ∷
    reason (not good) 4 ∷
    reason (ltb room size) 5 ∷
    [])

-- writing the bytes of a frame: all of them from the buffer's start, or none
unfoldable pub writing : ℕ → Bool → List ℕ → List ℕ → Wrote
writing due good frame out =
    let refusal = write_refusal due (length frame) good (length out) in
    record { said = unless refusal (accepted (length frame ∷ [])); held = after refusal out (sets out 0 frame) }

-- writing a frame of one kind, with these values and these bytes behind them
abbrev pub write_as : Kind → List ℕ → List ℕ → List ℕ → Wrote
write_as k vs part out = writing (length_of k (k.extent vs)) (k.rule vs part) (frame_of k vs part) out
