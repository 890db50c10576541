-- `put_kinds`: the slots awake, and those asleep behind them.
-- Assumes nothing.
use Rattle.octets.proofs.Words.{◌∙◌, arith}
use Rattle.octets.proofs.ListLaws.{tab-none, tab_more}
use Rattle.slot_sets.specs.Sets.{slots_of}
use Rattle.site_plan.specs.Schedules.{kind_of}
use Rattle.book.proofs.ScheduleLaws.{both-filled}
use Rattle.book.proofs.schedule.put_kinds.Goals as goal

pub loop-slot-init : goal.loop-slot-init
loop-slot-init c = (omega arith, tab-none _ _)

pub loop-slot-preserved : goal.loop-slot-preserved
loop-slot-preserved c =
    let l = c.loop-slot in
    let a = c.args in (
      l.invariant.0,
      rw (c.number.ensures, c.kind_at.ensures, l.invariant.1) (tab_more l.slot (kind_of a.plan a.seat.row a.seat.hop (slots_of a.seat.slots)) a.out.now (omega arith)),
    )

pub returns : goal.returns
returns c =
    let l = c.loop-slot in
    let a = c.args in
    both-filled a.plan a.seat.row a.seat.hop (slots_of a.seat.slots) a.out.now l.out _ c.min-awake.result l.slot (c.min-awake.ensures ∙ rw c.sleep_at.ensures) (omega arith)
    l.auto.out l.invariant.1 (c.fill.ensures.after (λ y h. h) ∙ rw c.number-2.ensures)
