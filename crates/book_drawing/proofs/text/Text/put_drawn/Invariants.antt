-- `put_drawn`'s loop: the letters of the slots passed are put.
-- Assumes nothing.
use Rattle.octets.specs.Lists.{tab}
use Rattle.slot_sets.specs.Sets.{slots_of}
use Rattle.site_plan.specs.Schedules.{kind_of}
use Rattle.book_drawing.specs.Texts.{Put}
use Rattle.book_drawing.specs.Views.{letter}
use Rattle.book_drawing.proofs.text.Text.put_drawn.Given as goal

abbrev pub invariant-loop-slot : goal.invariant-loop-slot
invariant-loop-slot l = Put l.initial.self (tab l.slot (λ s. letter (kind_of l.plan l.seat.row l.seat.hop (slots_of l.seat.slots) s))) l.self
