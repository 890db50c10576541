-- `show`: what reading refuses, then a short buffer; else the numbers where the layout says.
-- Assumes nothing.
use Rattle.octets.proofs.Words.{◌≡◌, sym, ap, ◌∙◌, List, ℕ, ◌≤◌, ◌<◌, arith, rules, length, sets}
use Rattle.octets.specs.Refusals.{number_of, status_of}
use Rattle.octets.specs.Numbers.{num}
use Rattle.octets.proofs.LayoutLaws.{length_fields}
use Rattle.frames.specs.Layout.{widths_of, layout_of}
use Rattle.frames.specs.Frames.{read_frame}
use Rattle.frames.proofs.LayoutLaws.{Laid, laid_out_lem, laid-count}
use Rattle.frames.proofs.TripLaws.{values-read}
use Rattle.octets.proofs.RefusalLaws.{refusal_some}
use Rattle.frame_reading.specs.Seen.{seen_fields}
use Rattle.frame_reading.proofs.ShowLaws.{refused-shown, short_shown, whole-shown, seen_fields_lem}
use Rattle.frame_reading.proofs.numbers.show.Goals as goal
use Rattle.frame_reading.proofs.numbers.show.Goals.{After-layout_of-layout}

-- the layout of the frame's type
here : (c : After-layout_of-layout) → Laid c.layout_of-layout.result (widths_of (num 1 c.args.s.now 0))
here c = laid_out_lem c.layout_of-layout.result _ (c.layout_of-layout.ensures ∙ ap layout_of c.read.ensures)

unrefused : (c : After-layout_of-layout) → (read_frame c.args.s.now).refusal ≡ 0
unrefused c = sym c.in_ok-refusal.ensures

values_length : (c : After-layout_of-layout) → length (read_frame c.args.s.now).values ≡
    c.layout_of-layout.result.count
values_length c =
    let s = c.args.s.now in
    ap length (values-read s (unrefused c)) ∙ (length_fields (widths_of (num 1 s 0)) s 0 ∙ sym (here c).counted)

pub returns-in_err-refusal : goal.returns-in_err-refusal
returns-in_err-refusal c =
    let a = c.args in
    let e : status_of c.from_residual.result ≡ number_of c.in_err-refusal.field-0.0 = search rules in
    rw e (refused-shown a.s.now a.out.now _ c.in_err-refusal.ensures (refusal_some c.in_err-refusal.field-0.0))

pub returns-in_err-refuse_if : goal.returns-in_err-refuse_if
returns-in_err-refuse_if c =
    let d = (goal.at.returns-in_err-refuse_if c).After-layout_of-layout in
    let a = c.args in
    let e : status_of c.from_residual-in_err-refuse_if.result ≡ 5 = search rules in
    let h : length a.out.now < c.layout_of-layout.result.count = search rules in
    rw e (short_shown a.s.now a.out.now (unrefused d) (omega (arith, values_length d, h)))

pub slice_bounds-widths-end : goal.slice_bounds-widths-end
slice_bounds-widths-end c = (here ((goal.at.slice_bounds-widths-end c).After-layout_of-layout)).within

pub slice_bounds-put_numbers-end : goal.slice_bounds-put_numbers-end
slice_bounds-put_numbers-end c = laid-count (here ((goal.at.slice_bounds-put_numbers-end c).After-layout_of-layout))

pub put_numbers-requires : goal.put_numbers-requires
put_numbers-requires c =
    let l = here ((goal.at.put_numbers-requires c).After-layout_of-layout) in
    let h : c.layout_of-layout.result.count ≤ length c.args.out.now = search rules in
    let e = ap length l.firsts in (omega (arith, l, e, h), omega (arith, l, e))

pub returns : goal.returns
returns c =
    let d = (goal.at.returns c).After-layout_of-layout in
    let a = c.args in
    let t = num 1 a.s.now 0 in
    let h : c.layout_of-layout.result.count ≤ length c.args.out.now = search rules in
    whole-shown a.s.now a.out.now (unrefused d) _ (omega (arith, values_length d, h))
    (c.put_numbers.ensures ∙ ap (sets a.out.now 0)
    (ap (λ (ws : List ℕ). seen_fields ws a.s.now 0) (here d).firsts ∙ (seen_fields_lem t a.s.now ∙ sym
    (values-read a.s.now (unrefused d)))))
