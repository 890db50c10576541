-- What holds of reading and writing together, over all ten kinds.
-- Assumes nothing.
use Rattle.std.specs.Prelude.{◌≡◌, ℕ, ◌-◌, length}
use mathlib.Core.List.{List, ◌∷◌, Memᴰ}
use Rattle.octets.specs.Answers.{accepted}
use Rattle.octets.specs.Layouts.{total, Fit, Bytes}
use Rattle.octets.specs.Numbers.{num}
use Rattle.frames.specs.Frames.{kinds, read_frame}
use Rattle.frames.specs.Layout.{widths_of}
use Rattle.frame_kinds.specs.Reading.{refusal_as}
use Rattle.frame_kinds.specs.Shape.{Kind, place_of, length_of, values_in, part_in, frame_of}
use Rattle.frame_kinds.specs.Writing.{write_refusal}

-- why a frame of a kind with these values and these bytes behind them is not written, a short buffer aside: this room is enough
abbrev pub refusal_with : Kind → List ℕ → List ℕ → ℕ
refusal_with k vs part =
    let frame = frame_of k vs part in
    write_refusal (length_of k (k.extent vs)) (length frame) (k.rule vs part) (length frame)

-- a record is refused by its writer with n exactly if the bytes that it would be are refused by the reader with n
abbrev pub RefusedAlike : Type 0
RefusedAlike = (k : Kind) → Memᴰ k kinds → (vs part : List ℕ) → Fit k.widths vs → refusal_with k vs part ≡ (read_frame (frame_of k vs part)).refusal

-- reading what was written gives the record, and the bytes behind it
abbrev pub ReadsBack : Type 0
ReadsBack =
    (k : Kind) → Memᴰ k kinds → (vs part : List ℕ) → Fit k.widths vs → refusal_with k vs part ≡ 0
    → (read_frame (frame_of k vs part) ≡ accepted (k.code ∷ vs)) × (part_in k (frame_of k vs part) ≡ part)

-- of what is read: its kind, and that writing its record and the bytes behind it gives the same bytes
pub record Rewritten (s : List ℕ) : Type 0 where
  pub kind : Kind
  pub known : Memᴰ kind kinds
  pub said : read_frame s ≡ accepted (kind.code ∷ values_in kind s)
  pub fit : Fit kind.widths (values_in kind s)
  pub writable : refusal_with kind (values_in kind s) (part_in kind s) ≡ 0
  pub same : frame_of kind (values_in kind s) (part_in kind s) ≡ s

-- writing what was read gives the same bytes
abbrev pub WritesBack : Type 0
WritesBack = (s : List ℕ) → Bytes s → (read_frame s).refusal ≡ 0 → Rewritten s

-- ---- what is read, as the calls that take one kind see it
-- bytes that are read as a kind with these values are not refused by the calls that take this kind, and say these values to them
abbrev pub TakenAsRead : Type 0
TakenAsRead =
    (k : Kind) → Memᴰ k kinds → (s vs : List ℕ) → read_frame s ≡ accepted (k.code ∷ vs) → (refusal_as k s ≡ 0) × (values_in k s ≡ vs)

-- in bytes that are read as a kind with these values, the part starts where the widths of their type end, is as long as the values say, and fills all
-- that lies between the fields and the checksum
abbrev pub PartsInPlace : Type 0
PartsInPlace =
    (k : Kind) → Memᴰ k kinds → (s vs : List ℕ) → read_frame s ≡ accepted (k.code ∷ vs)
    → (total (widths_of (num 1 s 0)) ≡ place_of k) × (length (part_in k s) ≡ k.extent vs) × (length s - 1 - place_of k ≡ k.extent vs)
