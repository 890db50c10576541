-- The two calls on frames, one after the other: what is read is written again as the same bytes, what is written is read again as the same numbers; the
-- place and the length that a call tells are those of the kind's part; no numbers are refused, and surplus ones make no difference.
-- Assumes nothing.
use Rattle.std.specs.Prelude.{◌≡◌, ℕ, ◌+◌, ◌≤◌, ◌<◌, length, get_or, take, drop}
use mathlib.Core.List.{List, [], ◌∷◌, ◌++◌, Memᴰ}
use Rattle.std.proofs.lemmas.List.Edits.{sets}
use Rattle.octets.specs.Calls.{write_left}
use Rattle.octets.specs.Layouts.{Fit, Bytes}
use Rattle.octets.specs.Numbers.{num}
use Rattle.frame_kinds.specs.Shape.{Kind, place_of, values_in, part_in, frame_of}
use Rattle.frames.specs.Frames.{kinds}
use Rattle.frames.specs.Layout.{widths_of}
use Rattle.c_frames.specs.FrameCalls.{ReadLeft, read_call, write_call}

-- room for the numbers of any frame: a beacon's type and 14 fields
abbrev pub most_numbers : ℕ
most_numbers = 15

-- where `braidlark_read` answers 0, `braidlark_write` is given the numbers as they then stand in the caller's buffer, and the bytes from the place that was
-- told, as many as were told: it writes the same bytes again, and refuses only for room
abbrev pub ReadThenWritten : Type 0
ReadThenWritten =
    (s fields : List ℕ) (place extent : ℕ) (out : List ℕ) (written : ℕ) → Bytes s
    → let r = read_call s fields place extent in
    let w = write_call r.fields (take r.extent (drop r.place s)) out written in
    r.status ≡ 0
    → (length s ≤ length out → w ≡ write_left 0 (sets out 0 s) (length s)) × (length out < length s → w ≡ write_left 5 out written)

-- the place and the length that `braidlark_read` tells are those of the part of the frame's kind
abbrev pub PartsTold : Type 0
PartsTold =
    (s fields : List ℕ) (place extent : ℕ) (k : Kind) → Memᴰ k kinds → num 1 s 0 ≡ k.code
    → let r = read_call s fields place extent in
    r.status ≡ 0
    → (r.place ≡ place_of k) × (r.extent ≡ k.extent (values_in k s)) × (take r.extent (drop r.place s) ≡ part_in k s)

-- numbers that fit are refused by `braidlark_write` exactly as `braidlark_read` refuses the frame that they are, given room on both sides
abbrev pub WrittenAlike : Type 0
WrittenAlike =
    (k : Kind) → Memᴰ k kinds → (vs part out : List ℕ) (written : ℕ) → Fit k.widths vs → length (frame_of k vs part) ≤ length out
    → (fields : List ℕ) (place extent : ℕ) → most_numbers ≤ length fields
    → (write_call (k.code ∷ vs) part out written).status ≡ (read_call (frame_of k vs part) fields place extent).status

-- no numbers at all are an empty frame: `braidlark_write` refuses them as `braidlark_read` refuses that
abbrev pub NoNumbers : Type 0
NoNumbers = (part out : List ℕ) (written : ℕ) → write_call [] part out written ≡ write_left 1 out written

-- numbers behind those of the kind are not looked at, so that the whole of a buffer that `braidlark_read` filled can be handed to `braidlark_write`
abbrev pub SurplusIgnored : Type 0
SurplusIgnored =
    (k : Kind) → Memᴰ k kinds → (ns more part out : List ℕ) (written : ℕ) → get_or ns 0 0 ≡ k.code → 1 + length k.widths ≤ length ns
    → write_call (ns ++ more) part out written ≡ write_call ns part out written

-- where `braidlark_write` answers 0, `braidlark_read` of what it wrote, given room, answers 0, the numbers that were written, and the same part
pub record Returned (ns part fields frame : List ℕ) (r : ReadLeft) : Type 0 where
  pub status : r.status ≡ 0
  pub numbers : r.fields ≡ sets fields 0 (take (length (widths_of (get_or ns 0 0))) ns)
  pub rest : take r.extent (drop r.place frame) ≡ part

abbrev pub WrittenThenRead : Type 0
WrittenThenRead =
    (ns part out : List ℕ) (written : ℕ) (fields : List ℕ) (place extent : ℕ)
    → let w = write_call ns part out written in
    let frame = take w.written w.out in
    w.status ≡ 0 → most_numbers ≤ length fields → Returned ns part fields frame (read_call frame fields place extent)
