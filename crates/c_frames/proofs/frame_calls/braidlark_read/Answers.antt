-- `braidlark_read`: what `show` refuses, or the place behind the fields that it showed.
-- Assumes nothing.
use Rattle.octets.proofs.Words.{◌≡◌, refl, sym, ap, ◌∙◌, ◌≤◌, ◌<◌, arith, length}
use Rattle.frames.specs.Layout.{layout_of}
use Rattle.frames.proofs.LayoutLaws.{laid_out_lem}
use Rattle.frames.proofs.TripLaws.{read-size}
use Rattle.octets.proofs.RefusalLaws.{refusal_some}
use Rattle.c_frames.specs.FrameCalls.{place_in}
use Rattle.c_frames.proofs.FrameCallLaws.{unread, read_left_lem, shown_read}
use Rattle.c_frames.proofs.frame_calls.braidlark_read.Goals as goal
use Rattle.c_frames.proofs.frame_calls.braidlark_read.Goals.{After-layout_of-place}

-- what was shown: the layout of its type, and that its checksum stands behind its fields
place : (d : After-layout_of-place) → d.layout_of-place.result.head ≡ place_in d.args.frame.now
place d = (laid_out_lem d.layout_of-place.result _ (d.layout_of-place.ensures ∙ ap layout_of d.read.ensures)).summed

size : (d : After-layout_of-place) → (length d.args.frame.now ≤ 255)
    × (d.layout_of-place.result.head < length d.args.frame.now)
size d =
    let s = d.args.frame.now in
    let z = read-size s (shown_read s _ (sym d.in_default.ensures.0)) in
    (z.0, rw (place d) z.1)

pub overflow_sub-part_length : goal.overflow_sub-part_length
overflow_sub-part_length c = omega (arith, size c)

pub overflow_sub-part_length-2 : goal.overflow_sub-part_length-2
overflow_sub-part_length-2 c = omega (arith, size c)

pub overflow_cast-part_length-2 : goal.overflow_cast-part_length-2
overflow_cast-part_length-2 c = omega (arith, size c)

pub returns : goal.returns
returns c =
    let a = c.args in
    let h = c.in_default.ensures in
    read_left_lem a.frame.now a.fields.now _ _ 0 _ h.0 h.1 refl _ _ (place c) (rw (place c))

pub returns-in-Err : goal.returns-in-Err
returns-in-Err c =
    let a = c.args in
    let h = c.in-Err.ensures in
    unread a.frame.now a.fields.now _ _ _ _ (c.number.ensures ∙ h.0) h.1 (λ z. refusal_some c.in-Err.refusal (sym c.number.ensures ∙ z))
