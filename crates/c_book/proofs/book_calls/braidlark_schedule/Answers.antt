-- `braidlark_schedule`: the schedule that was written, or why none was.
-- Assumes nothing.
use Rattle.octets.proofs.Words.{◌≡◌, ap, ◌∙◌}
use Rattle.octets.specs.Told.{wrote}
use Rattle.book.specs.Schedules.{schedule_of}
use Rattle.book_bytes.specs.BookBytes.{book_in}
use Rattle.c_book.specs.BookCalls.{schedule_call}
use Rattle.c_book.proofs.BookCallLaws.{schedule_answered, few-kinds, told}
use Rattle.c_book.proofs.book_calls.braidlark_schedule.Goals as goal
use Rattle.c_book.proofs.book_calls.braidlark_schedule.Goals.{After-schedule}

-- the answer is the definition's
defined : (d : After-schedule) → wrote d.schedule.result d.schedule.new.out ≡ schedule_of (book_in d.args.book.now) d.args.unit d.args.hop d.args.time d.args.out.now
defined d =
    let a = d.args in
    d.schedule.ensures ∙ ap (λ b. schedule_of b a.unit a.hop a.time a.out.now) d.book_of.ensures

pub tell-requires : goal.tell-requires
tell-requires c =
    let d = (goal.at.tell-requires c).After-schedule in
    let a = d.args in
    few-kinds (book_in a.book.now) a.unit a.hop a.time a.out.now d.schedule.new.out d.schedule.result (defined d)

pub returns : goal.returns
unfolding schedule_call
returns c =
    let d = (goal.at.returns c).After-schedule in
    let a = d.args in
    told a.book.now a.out.now _ _ (schedule_answered (book_in a.book.now) a.unit a.hop a.time a.out.now) d.if-book-ne-BOOK_SIZE.false d.schedule.result d.schedule.new.out (defined d) _ _
    (c.status.ensures ∙ c.tell.ensures.0) c.tell.ensures.1
