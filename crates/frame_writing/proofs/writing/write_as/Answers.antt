-- `write_as`: emitted by the layout of the type.
-- Assumes nothing.
use Rattle.octets.proofs.Words.{sym, ap, ◌∙◌, get_or, length}
use Rattle.octets.specs.Layouts.{total}
use Rattle.frames.specs.Layout.{widths_of}
use Rattle.frames.proofs.LayoutLaws.{Laid, laid_out_lem, laid-count, laid-written}
use Rattle.frame_writing.proofs.writing.write_as.Goals as goal
use Rattle.frame_writing.proofs.writing.write_as.Goals.{After-layout_of-layout}

here : (d : After-layout_of-layout) → Laid d.layout_of-layout.result (widths_of (get_or d.args.numbers.now 0 0))
here d = laid_out_lem _ _ d.layout_of-layout.ensures

pub slice_bounds-widths-end : goal.slice_bounds-widths-end
slice_bounds-widths-end c = (here ((goal.at.slice_bounds-widths-end c).After-layout_of-layout)).within

pub slice_bounds-draft-end : goal.slice_bounds-draft-end
slice_bounds-draft-end c = laid-count (here ((goal.at.slice_bounds-draft-end c).After-layout_of-layout))

pub invariant_of-draft : goal.invariant_of-draft
invariant_of-draft c =
    let d = (goal.at.invariant_of-draft c).After-layout_of-layout in
    let h = here d in
    record { laid = (ap length h.firsts ∙ sym d.requires.0, ap total h.firsts ∙ sym h.summed, h.small) }

pub returns : goal.returns
returns c = laid-written (here ((goal.at.returns c).After-layout_of-layout)) _ _ _ _ _ _ c.emit.ensures
