-- A frame as a list of numbers, its type first, as the C boundary reads and writes it.
-- Assumes nothing.
use Rattle.std.specs.Prelude.{ℕ, ◌+◌, ◌^◌, Bool, true, not, ◌&&◌, List, [], ◌∷◌, eqb, ltb, length, get_or}
use Rattle.std.proofs.lemmas.List.Edits.{sets}
use Rattle.octets.specs.Answers.{refused, reason, first}
use Rattle.octets.specs.Calls.{after}
use Rattle.octets.specs.Told.{Wrote}
use Rattle.frames.specs.Frames.{kinds, read_frame}
use Rattle.frame_kinds.specs.Shape.{Kind, among, length_of, frame_of}
use Rattle.frame_kinds.specs.Writing.{writing}

-- why a frame is not shown as numbers in a buffer with this room for them; 0 where it is
unfoldable pub show_refusal : List ℕ → ℕ → ℕ
show_refusal s room =
    let said = read_frame s in
    first
    (reason (not (eqb said.refusal 0)) said.refusal ∷
    reason (ltb room (length said.values)) 5 ∷
    [])

-- what the buffer then holds: the numbers from its start on
unfoldable pub shown : List ℕ → List ℕ → List ℕ
shown s held = after (show_refusal s (length held)) held (sets held 0 (read_frame s).values)

-- the numbers given for the fields of a layout, from index i on; one that is missing is 0
abbrev pub given : List ℕ → List ℕ → ℕ → List ℕ
given [] ns i = []
given (w ∷ ws) ns i = get_or ns i 0 ∷ given ws ns (i + 1)

-- each of them is there, and fits its bytes
abbrev pub fitting : List ℕ → List ℕ → ℕ → Bool
fitting [] ns i = true
fitting (w ∷ ws) ns i = ltb i (length ns) && ltb (get_or ns i 0) (256 ^ w) && fitting ws ns (i + 1)

-- how many bytes stand behind the fields of the kind that has this type, by the numbers given for them
unfoldable pub extent_of : ℕ → List ℕ → ℕ
extent_of code ns = among kinds code (λ k. k.extent (given k.widths ns 1)) 0

-- writing the numbers, with these bytes behind them, as a frame of one kind
abbrev pub write_listed : Kind → List ℕ → List ℕ → List ℕ → Wrote
write_listed k ns part out =
    let vs = given k.widths ns 1 in
    writing (length_of k (k.extent vs)) (fitting (1 ∷ k.widths) ns 0 && k.rule vs part) (frame_of k vs part) out

-- writing numbers as the frame that they are, of the kind that has their type: 2 where none has. No numbers are an empty frame, which is 1 before any
-- type is looked at
unfoldable pub write_numbers : List ℕ → List ℕ → List ℕ → Wrote
write_numbers [] part out = record { said = refused 1; held = out }
write_numbers (t ∷ fields) part out = among kinds t (λ k. write_listed k (t ∷ fields) part out) (record { said = refused 2; held = out })
