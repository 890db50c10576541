-- The two calls on frames, one after the other.
-- Assumes nothing.
use Rattle.octets.proofs.Words.{◌≡◌, refl, sym, ap, ap₂, subst, ◌∙◌, Bool, true, ◌&&◌, and-eq-true_iff, List, [], ◌∷◌, ◌++◌, append-nil, Memᴰ, ℕ, ◌+◌, ◌≤◌, ◌-◌, arith, le-ltb, length, get_or, take, drop, length-append, get_or-append, sets, sets-eq}
use Rattle.octets.specs.Answers.{Said, accepted}
use Rattle.octets.specs.Calls.{after, WriteLeft, write_left}
use Rattle.octets.specs.Layouts.{Fit, Bytes}
use Rattle.octets.specs.Numbers.{num}
use Rattle.octets.specs.Told.{Wrote, written_in}
use Rattle.octets.proofs.AnswerLaws.{unless-number}
use Rattle.octets.proofs.CallLaws.{after-accepted}
use Rattle.octets.proofs.LayoutLaws.{length_fields}
use Rattle.octets.proofs.StoreLaws.{take-sets}
use Rattle.frame_kinds.specs.Shape.{Kind, place_of, length_of, values_in, part_in, frame_of}
use Rattle.frame_kinds.specs.Writing.{write_refusal, writing}
use Rattle.frame_kinds.proofs.ReadingLaws.{Passed, passed}
use Rattle.frame_kinds.proofs.WritingLaws.{Put, put, written-whole, written_short}
use Rattle.frames.specs.Frames.{kinds, read_frame}
use Rattle.frames.specs.Layout.{widths_of}
use Rattle.frames.specs.Listed.{show_refusal, shown, given, fitting, write_listed, write_numbers}
use Rattle.frames.specs.Trips.{refusal_with, Rewritten}
use Rattle.frames.proofs.KindLaws.{asked, code_fits}
use Rattle.frames.proofs.LayoutLaws.{widths-few}
use Rattle.frames.proofs.ListedLaws.{listed_as, by_type}
use Rattle.frames.proofs.TripLaws.{frame-length, refused_alike, writes_back, frame_type, refused-read, accepted-read, values-read}
use Rattle.frames.proofs.WholeLaws.{parts_in_place, frame-read, taken_as_read}
use Rattle.frame_writing.proofs.KnownLaws.{written_as}
use Rattle.frame_writing.proofs.ListedLaws.{fitting-fit, fitting_stand}
use Rattle.c_frames.specs.FrameCalls.{place_in, read_call, write_call}
use Rattle.c_read_back.specs.PairsRead.{most_numbers, ReadThenWritten, PartsTold, WrittenAlike, NoNumbers, SurplusIgnored, Returned, WrittenThenRead}

-- ---- what is told of a frame that is read
module _ (s fields : List ℕ) (place extent : ℕ) (z : (read_call s fields place extent).status ≡ 0) where
  accepts : show_refusal s (length fields) ≡ 0
  unfolding read_call
  accepts = z

  none : ((read_frame s).refusal ≡ 0) × (length (read_frame s).values ≤ length fields)
  unfolding show_refusal
  none = (grind (arith, accepts), grind (arith, accepts))

  numbers_are : (read_call s fields place extent).fields ≡ sets fields 0 (read_frame s).values
  unfolding read_call shown
  numbers_are = after-accepted _ fields _ accepts

  numbers-left : (read_call s fields place extent).fields ≡ (read_frame s).values ++ drop (0 + length (read_frame s).values) fields
  numbers-left = numbers_are ∙ sets-eq (read_frame s).values fields 0 (omega (arith, none.1))

  module _ (k : Kind) (m : Memᴰ k kinds) (c : num 1 s 0 ≡ k.code) where
    -- where its part lies
    lies : (place_in s ≡ place_of k) × (length (part_in k s) ≡ k.extent (values_in k s)) × (length s - 1 - place_of k ≡ k.extent (values_in k s))
    lies = parts_in_place k m s (values_in k s) (accepted-read k m s (sym (refused-read k m s c) ∙ none.0))

    place-told : (read_call s fields place extent).place ≡ place_of k
    unfolding read_call
    place-told = after-accepted _ place _ accepts ∙ lies.0

    extent-told : (read_call s fields place extent).extent ≡ k.extent (values_in k s)
    unfolding read_call
    extent-told = after-accepted _ extent _ accepts ∙ (ap (λ (n : ℕ). length s - 1 - n) lies.0 ∙ lies.2)

    part-told : take (read_call s fields place extent).extent (drop (read_call s fields place extent).place s) ≡ part_in k s
    part-told = ap₂ {C = List ℕ} (λ (n at : ℕ). take n (drop at s)) extent-told place-told

pub parts_are_told : PartsTold
parts_are_told s fields place extent k m c z =
    (place-told s fields place extent z k m c, extent-told s fields place extent z k m c, part-told s fields place extent z k m c)

-- ---- read, then written
-- what `braidlark_write` leaves, from what writing the numbers says and where it puts them
abbrev leaves : ℕ → Wrote → WriteLeft
leaves written w = write_left w.said.refusal w.held (after w.said.refusal written (written_in w))

module _ (s fields : List ℕ) (place extent : ℕ) (out : List ℕ) (b : Bytes s) (z : (read_call s fields place extent).status ≡ 0) where
  again : Rewritten s
  again = writes_back s b (none s fields place extent z).0

  abbrev kind : Kind
  kind = again.kind

  passes : Passed kind.code (length_of kind (kind.extent (values_in kind s))) (kind.rule (values_in kind s) (part_in kind s)) s
  passes = passed _ _ _ s (taken_as_read kind again.known s (values_in kind s) again.said).0

  -- numbers and part as they were left are those of the frame, with what stood behind the numbers
  given-again : write_numbers (read_call s fields place extent).fields (take (read_call s fields place extent).extent (drop (read_call s fields place extent).place s)) out
      ≡ writing (length_of kind (kind.extent (values_in kind s))) (kind.rule (values_in kind s) (part_in kind s)) s out
  given-again =
      let vs = values_in kind s in
      let part = part_in kind s in
      let more : List ℕ = drop (0 + length (read_frame s).values) fields in
      let numbers = numbers-left s fields place extent z ∙ ap (λ (x : Said). x.values ++ more) again.said in
      ap₂ {C = Wrote} (λ (ns part : List ℕ). write_numbers ns part out) numbers (part-told s fields place extent z kind again.known passes.typed)
      ∙ (written_as kind again.known vs more part out again.fit
      ∙ ap (λ (frame : List ℕ). writing (length_of kind (kind.extent vs)) (kind.rule vs part) frame out) again.same)

pub read_then_written : ReadThenWritten
unfolding write_call
read_then_written s fields place extent out written b z =
    let same = given-again s fields place extent out b z in
    let p = passes s fields place extent out b z in (
      λ room. ap (leaves written) (same ∙ written-whole _ _ s out (record { sized = p.sized; short = p.short; kept = p.kept; fits = room })),
      λ short. ap (leaves written) (same ∙ written_short _ _ s out p.sized p.short p.kept short),
    )

-- ---- none, and more than the kind has
-- the frame of a kind with these values, given by numbers that fit or not
abbrev written-by : Kind → List ℕ → List ℕ → Bool → List ℕ → Wrote
written-by k part out fits vs = writing (length_of k (k.extent vs)) (fits && k.rule vs part) (frame_of k vs part) out

pub no_numbers : NoNumbers
unfolding write_call write_numbers
no_numbers part out written = refl

module _ (ns more : List ℕ) where
  given-first : (ws : List ℕ) (i : ℕ) → i + length ws ≤ length ns → given ws (ns ++ more) i ≡ given ws ns i
  given-first [] i h = refl
  given-first (w ∷ ws) i h = ap₂ {C = List ℕ} ◌∷◌ (get_or-append ns more 0 i (omega (arith, h))) (given-first ws (i + 1) (omega (arith, h)))

  fitting-first : (ws : List ℕ) (i : ℕ) → i + length ws ≤ length ns → fitting ws (ns ++ more) i ≡ fitting ws ns i
  fitting-first [] i h = refl
  fitting-first (w ∷ ws) i h = grind (arith, h, length-append ns more, get_or-append ns more 0 i, fitting-first ws (i + 1))

pub surplus_ignored : SurplusIgnored
unfolding write_call
surplus_ignored k m ns more part out written c h =
    -- a number for the type, and one for each field
    let enough : 0 + length (1 ∷ k.widths) ≤ length ns = omega (arith, h) in
    let first : get_or (ns ++ more) 0 0 ≡ get_or ns 0 0 = get_or-append ns more 0 0 (omega (arith, enough)) in
    let same : write_numbers (ns ++ more) part out ≡ write_numbers ns part out =
    listed_as part out m (ns ++ more) (first ∙ c)
    ∙ (ap₂ (written-by k part out) (fitting-first ns more (1 ∷ k.widths) 0 enough) (given-first ns more k.widths 1 (omega (arith, enough)))
    ∙ sym (listed_as part out m ns c)) in
    ap (leaves written) same

-- ---- refused alike
-- given room for all numbers, a frame is shown as it is read
shown_as_read : (s : List ℕ) (room : ℕ) → most_numbers ≤ room → show_refusal s room ≡ (read_frame s).refusal
unfolding show_refusal
shown_as_read s room h =
    let few : (read_frame s).refusal ≡ 0 → length (read_frame s).values ≤ room = λ z. omega (arith, ap length (values-read s z), length_fields (widths_of (num 1 s 0)) s 0, widths-few (num 1 s 0), h) in
    grind (arith, few)

pub written_alike : WrittenAlike
unfolding write_call read_call writing write_refusal
written_alike k m vs part out written f room fields place extent most =
    let frame = frame_of k vs part in
    let due = length_of k (k.extent vs) in
    let good = k.rule vs part in
    let whole : (write_numbers (k.code ∷ (vs ++ [])) part out).said.refusal ≡ write_refusal due (length frame) good (length out) =
    ap (λ (x : Wrote). x.said.refusal) (written_as k m vs [] part out f) ∙ unless-number _ _ in
    let rooms : write_refusal due (length frame) good (length out) ≡ refusal_with k vs part =
    rw (le-ltb (length out) (length frame) room, le-ltb (length frame) (length frame) (omega arith)) in
    (rw (append-nil vs) at whole) ∙ (rooms ∙ (refused_alike k m vs part f ∙ sym (shown_as_read frame (length fields) most)))

-- ---- written, then read
-- numbers that are written are of one of the kinds
write-of : (ns part out : List ℕ) → (write_numbers ns part out).said.refusal ≡ 0 → (k : Kind) × Memᴰ k kinds × (get_or ns 0 0 ≡ k.code)
write-of ns part out =
    by_type part out ns (λ w. w.said.refusal ≡ 0 → (k : Kind) × Memᴰ k kinds × (get_or ns 0 0 ≡ k.code))
    (λ z e. absurd (omega (arith, e))) (λ k m c e. (k, m, c)) (λ e. absurd (omega (arith, e)))

module _ (ns part out : List ℕ) (written : ℕ) (fields : List ℕ) (place extent : ℕ) (z : (write_numbers ns part out).said.refusal ≡ 0) (room : most_numbers ≤ length fields)
    (k : Kind) (m : Memᴰ k kinds) (c : get_or ns 0 0 ≡ k.code) where
  abbrev vs : List ℕ
  vs = given k.widths ns 1

  abbrev frame : List ℕ
  frame = frame_of k vs part

  abbrev ok : Bool
  ok = fitting (1 ∷ k.widths) ns 0 && k.rule vs part

  abbrev due : ℕ
  due = length_of k (k.extent vs)

  listed : write_numbers ns part out ≡ write_listed k ns part out
  listed = listed_as part out m ns c

  unrefused : write_refusal due (length frame) ok (length out) ≡ 0
  unfolding writing
  unrefused = sym (unless-number _ _) ∙ (sym (ap (λ (x : Wrote). x.said.refusal) listed) ∙ z)

  known : Put due (length frame) ok (length out)
  known = put due (length frame) ok (length out) unrefused

  both : (fitting (1 ∷ k.widths) ns 0 ≡ true) × (k.rule vs part ≡ true)
  both = (and-eq-true_iff (fitting (1 ∷ k.widths) ns 0) (k.rule vs part)).0 known.kept

  fits : Fit k.widths vs
  fits = (fitting-fit (1 ∷ k.widths) ns 0 both.0).1

  whole : write_numbers ns part out ≡ record { said = accepted (length frame ∷ []); held = sets out 0 frame }
  whole = listed ∙ written-whole due ok frame out known

  -- it stands first in the buffer
  standing : take (write_call ns part out written).written (write_call ns part out written).out ≡ frame
  unfolding write_call
  standing =
      ap (λ (w : Wrote). take (leaves written w).written (leaves written w).out) whole
      ∙ take-sets out frame (length frame) refl known.fits

  part-size : length part ≡ k.extent vs
  part-size = omega (arith, known.sized, frame-length k vs part (code_fits m) fits)

  short : due ≤ 255
  short = omega (arith, known.sized, known.short)

  read : (read_frame frame ≡ accepted (k.code ∷ vs)) × (part_in k frame ≡ part)
  read = frame-read k m vs part fits part-size short both.1

  numbers-given : take (length (widths_of (get_or ns 0 0))) ns ≡ k.code ∷ vs
  numbers-given =
      ap (λ (ws : List ℕ). take (length ws) ns) (asked (λ x. 1 ∷ x.widths) [] m (get_or ns 0 0) c)
      ∙ (fitting_stand (1 ∷ k.widths) ns 0 both.0 ∙ ap (λ (n : ℕ). n ∷ vs) c)

  shows : (read_call frame fields place extent).status ≡ 0
  unfolding read_call
  shows = shown_as_read frame (length fields) room ∙ ap (λ (x : Said). x.refusal) read.0

  returned : Returned ns part fields frame (read_call frame fields place extent)
  returned =
      record {
        status = shows;
        numbers = numbers_are frame fields place extent shows ∙ ap (sets fields 0) (ap (λ (x : Said). x.values) read.0 ∙ sym numbers-given);
        rest = part-told frame fields place extent shows k m (frame_type k vs part (code_fits m) fits) ∙ read.1;
      }

pub written_then_read : WrittenThenRead
unfolding write_call
written_then_read ns part out written fields place extent z room =
    let (k, m, c) = write-of ns part out z in
    subst (λ (s : List ℕ). Returned ns part fields s (read_call s fields place extent)) (sym (standing ns part out written fields place extent z room k m c))
    (returned ns part out written fields place extent z room k m c)
