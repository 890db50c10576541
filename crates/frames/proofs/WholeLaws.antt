-- A frame that is read is taken as what it is read as, its part in its place; and a frame that breaks no rule is read as what was written.
-- Assumes nothing.
use Rattle.octets.proofs.Words.{◌≡◌, sym, ap, ◌∙◌, true, List, [], ◌∷◌, Memᴰ, ℕ, ◌≤◌, arith, length, get_or, drop}
use Rattle.octets.specs.Answers.{Said, accepted}
use Rattle.octets.specs.Layouts.{total, Fit}
use Rattle.octets.specs.Numbers.{num}
use Rattle.frame_kinds.specs.Reading.{refusal_as}
use Rattle.frame_kinds.specs.Shape.{Kind, length_of, part_in, frame_of}
use Rattle.frame_kinds.proofs.ReadingLaws.{passed, part_length}
use Rattle.frame_kinds.proofs.WritingLaws.{unrefused}
use Rattle.frames.specs.Frames.{kinds, read_frame}
use Rattle.frames.specs.Trips.{refusal_with, TakenAsRead, PartsInPlace}
use Rattle.frames.proofs.KindLaws.{asked, code_fits}
use Rattle.frames.proofs.TripLaws.{frame-length, alike, reads_back, refused-read, accepted-read, read_of}

-- ---- what is read
-- bytes that are read as a kind are of its type
read_type : (s vs : List ℕ) (code : ℕ) → read_frame s ≡ accepted (code ∷ vs) → num 1 s 0 ≡ code
read_type s vs code e =
    let r = read_of s (ap (λ (x : Said). x.refusal) e) in
    r.typed ∙ ap (λ (x : Said). get_or x.values 0 0) (sym (accepted-read r.kind r.known s r.taken) ∙ e)

pub taken_as_read : TakenAsRead
taken_as_read k m s vs e =
    let z = sym (refused-read k m s (read_type s vs k.code e)) ∙ ap (λ (x : Said). x.refusal) e in
    (z, ap (λ (x : Said). drop 1 x.values) (sym (accepted-read k m s z) ∙ e))

pub parts_in_place : PartsInPlace
parts_in_place k m s vs e =
    let (z, v) = taken_as_read k m s vs e in
    let extent = ap k.extent v in (
      ap total (asked (λ x. 1 ∷ x.widths) [] m (num 1 s 0) (read_type s vs k.code e)),
      part_length k s z ∙ extent,
      omega (arith, (passed _ _ _ s z).sized, extent),
    )

-- ---- what is written
-- values that fit, with a part as long as they say, at most 255 bytes in all, and the rules kept
module _ (k : Kind) (m : Memᴰ k kinds) (vs part : List ℕ) (f : Fit k.widths vs) (e : length part ≡ k.extent vs) (short : length_of k (k.extent vs) ≤ 255)
    (good : k.rule vs part ≡ true) where
  abbrev frame : List ℕ
  frame = frame_of k vs part

  pub frame-size : length frame ≡ length_of k (k.extent vs)
  frame-size = rw (← e) (frame-length k vs part (code_fits m) f)

  writable : refusal_with k vs part ≡ 0
  writable =
      unrefused _ (length frame) _ (length frame) (record { sized = frame-size; short = omega (arith, frame-size, short); kept = good; fits = omega arith })

  -- its kind does not refuse it
  pub frame-accepted : refusal_as k frame ≡ 0
  frame-accepted = sym (alike k vs part (code_fits m) f) ∙ writable

  pub frame-read : (read_frame frame ≡ accepted (k.code ∷ vs)) × (part_in k frame ≡ part)
  frame-read = reads_back k m vs part f writable
