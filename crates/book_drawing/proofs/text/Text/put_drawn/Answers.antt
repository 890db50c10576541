-- `put_drawn`'s loop: the letters of the slots passed are put.
-- Assumes nothing.
use Rattle.octets.proofs.Words.{◌≡◌, ap, ◌∙◌, ℕ, arith, Fits-under}
use Rattle.octets.proofs.ListLaws.{length-tab}
use Rattle.slot_sets.specs.Sets.{slots_of}
use Rattle.site_plan.proofs.PlanLaws.{few-slots}
use Rattle.site_plan.specs.Plans.{slots}
use Rattle.book_drawing.specs.Texts.{Put}
use Rattle.book_drawing.specs.Views.{letter, drawn}
use Rattle.book_drawing.proofs.TextLaws.{none_put, one_more}
use Rattle.book_drawing.proofs.text.Text.put_drawn.Goals as goal

pub overflow_cast-slot-end : goal.overflow_cast-slot-end
overflow_cast-slot-end c = Fits-under _ _ 101 (omega (arith, c.slots-slot-end.ensures, few-slots c.args.plan)) _

pub loop-slot-init : goal.loop-slot-init
loop-slot-init c = none_put _ c.args.self.now

pub put_byte-requires : goal.put_byte-requires
put_byte-requires c =
    let l = c.loop-slot in
    omega (arith, c.requires, l.invariant.behind, length-tab {A = ℕ}, c.slots-slot-end.ensures, few-slots c.args.plan)

pub loop-slot-preserved : goal.loop-slot-preserved
loop-slot-preserved c =
    let l = c.loop-slot in
    one_more _ l.slot c.letter_of.result c.args.self.now l.self c.put_byte.new.self l.invariant (c.letter_of.ensures ∙ ap letter c.kind_at.ensures) c.put_byte.ensures

pub returns : goal.returns
returns c =
    let l = c.loop-slot in
    let a = c.args in
    let all : l.slot ≡ slots a.plan = omega (arith, c.slots-slot-end.ensures) in
    let put : Put a.self.now (drawn a.plan a.row (slots_of a.slots)) l.self = rw (all, c.seat_of-seat.ensures) at l.invariant in
    (put, omega (arith, put.behind, length-tab {A = ℕ}, few-slots a.plan))
