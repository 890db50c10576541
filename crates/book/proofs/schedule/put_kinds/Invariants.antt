-- `put_kinds`' loop: the kinds of the slots passed, and what the buffer held behind them.
-- Assumes nothing.
use Rattle.octets.proofs.Words.{◌≡◌, ◌++◌, ◌≤◌, length, drop}
use Rattle.octets.specs.Lists.{tab}
use Rattle.slot_sets.specs.Sets.{slots_of}
use Rattle.site_plan.specs.Schedules.{kind_of}
use Rattle.book.proofs.schedule.put_kinds.Given as goal

abbrev pub invariant-loop-slot : goal.invariant-loop-slot
invariant-loop-slot l =
    (l.awake ≤ length l.initial.out) × (l.out ≡ tab l.slot (kind_of l.plan l.seat.row l.seat.hop (slots_of l.seat.slots)) ++ drop l.slot l.initial.out)
