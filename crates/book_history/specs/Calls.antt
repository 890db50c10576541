-- A call on a member book with its arguments, its outcome, and what it is about.
-- Assumes nothing.
use Rattle.std.specs.Prelude.{ℕ, Bool, true, false, ◌||◌, List, []}
use Rattle.octets.specs.Told.{Wrote, written_in}
use Rattle.book.specs.Books.{Contents, BookChange, heard_of, leave_of}
use Rattle.book.specs.Schedules.{schedule_of}
use Rattle.book_joins.specs.Joins.{Answered, join_in, join_of, ask_in, ask_of}
use Rattle.book_image.specs.Images.{image_written}

-- any bytes, any numbers, any times
pub data Call : Type 0 where
  -- a join request's frame, the time, the buffer
  join : List ℕ → ℕ → List ℕ → Call
  -- a slot request's frame, the time, the buffer
  ask : List ℕ → ℕ → List ℕ → Call
  -- a unit, the time
  heard : ℕ → ℕ → Call
  -- a unit, the time
  leave : ℕ → ℕ → Call
  -- a unit, its hop, the time, the buffer
  schedule : ℕ → ℕ → ℕ → List ℕ → Call
  -- the time, the buffer
  image : ℕ → List ℕ → Call

-- ---- its outcome
-- of a call that writes nothing, ..
abbrev pub changing : BookChange → Answered
changing c = record { refused = c.refused; written = 0; book = c.book; held = [] }

-- .. and of one that only reads the book
abbrev pub reading : Contents → Wrote → Answered
reading b w = record { refused = w.said.refusal; written = written_in w; book = b; held = w.held }

-- the number that refuses it, 0 where it is accepted, how many bytes were written, the book after it, and what the buffer then holds
abbrev pub outcome : Contents → Call → Answered
outcome b (join s time out) = join_of b s time out
outcome b (ask s time out) = ask_of b s time out
outcome b (heard unit time) = changing (heard_of b unit time)
outcome b (leave unit time) = changing (leave_of b unit time)
outcome b (schedule unit hop time out) = reading b (schedule_of b unit hop time out)
outcome b (image time out) = reading b (image_written b time out)

abbrev pub refusal_of : Contents → Call → ℕ
refusal_of b c = (outcome b c).refused

abbrev pub next : Contents → Call → Contents
next b c = (outcome b c).book

-- ---- what it is about
-- the unit, 0 where it is about none, and when it is made; whether it renews that unit's time, and whether it can move that unit's slots
pub record About : Type 0 where
  pub unit : ℕ
  pub time : ℕ
  pub renews : Bool
  pub moves : Bool

abbrev pub about : Call → About
about (join s time out) = record { unit = (join_in s).node; time = time; renews = true; moves = true }
about (ask s time out) = record { unit = (ask_in s).node; time = time; renews = true; moves = true }
about (heard unit time) = record { unit = unit; time = time; renews = true; moves = false }
about (leave unit time) = record { unit = unit; time = time; renews = false; moves = true }
about (schedule unit hop time out) = record { unit = unit; time = time; renews = false; moves = false }
about (image time out) = record { unit = 0; time = time; renews = false; moves = false }

abbrev pub unit_of : Call → ℕ
unit_of c = (about c).unit

abbrev pub time_of : Call → ℕ
time_of c = (about c).time

-- it changes the book, if it is accepted
abbrev pub changes : Call → Bool
changes c = (about c).renews || (about c).moves
