-- Calls on a member book, one after the other, from a fresh book or from a restored image on; what each of them answers; and what the answers alone say
-- that each unit was granted.
-- Assumes nothing.
use Rattle.std.specs.Prelude.{ℕ, zero, suc, ◌+◌, ◌/◌, min, Bool, ◌&&◌, ◌||◌, cond, List, [], ◌∷◌, map, eqb, leb, length, get_or, drop}
use Rattle.moments.specs.Elapsed.{Clock, started, now_at, Step, moved, clock_after}
use Rattle.site_plan.specs.declared.plan.Plan.{Plan}
use Rattle.book_members.specs.Members.{empty_row, place_for}
use Rattle.book.specs.Books.{Contents, BookChange, rows_in, fresh_of}
use Rattle.book_joins.specs.Responses.{slots_told, told_in}
use Rattle.book_image.specs.Images.{restore_of}
use Rattle.book_history.specs.Calls.{Call, outcome, next, about, unit_of, time_of, changes}

-- ---- histories
-- how a history begins
pub data Start : Type 0 where
  -- a plan, the time
  fresh : Plan → ℕ → Start
  -- an image's bytes, the time
  restored : List ℕ → ℕ → Start

abbrev pub begun : Start → BookChange
begun (fresh p time) = fresh_of p time
begun (restored s time) = restore_of s time

abbrev pub after_calls : Contents → List Call → Contents
after_calls b [] = b
after_calls b (c ∷ cs) = after_calls (next b c) cs

-- ---- answers
-- what the caller sees: the number, how many bytes were written, and what the buffer then holds
pub record Answer : Type 0 where
  pub refused : ℕ
  pub written : ℕ
  pub held : List ℕ

abbrev pub answer : Contents → Call → Answer
answer b c = let o = outcome b c in record { refused = o.refused; written = o.written; held = o.held }

-- a call with its answer, and those of a history in their order
pub record Happened : Type 0 where
  pub call : Call
  pub answer : Answer

abbrev pub recorded : Contents → List Call → List Happened
recorded b [] = []
recorded b (c ∷ cs) = record { call = c; answer = answer b c } ∷ recorded (next b c) cs

-- ---- elapsed time, from the record alone
-- what happened, as a step of elapsed time
abbrev pub step_of : Happened → Step
step_of h = record { time = time_of h.call; changes = eqb h.answer.refused 0 && changes h.call }

-- the clock of a history that began with a book
abbrev pub clock_of : Contents → List Happened → Clock
clock_of b hs = clock_after (started b.time) (map step_of hs)

-- ---- grants: what a unit was told, from the record alone
-- the slots that its last accepted request was answered with, the control slot first, and the ms that had elapsed at its last accepted call
pub record Grant : Type 0 where
  pub told : List ℕ
  pub at : ℕ

abbrev pub grant : List ℕ → ℕ → Grant
grant told at = record { told = told; at = at }

-- how an answer is read: the slots that so many response frames in a buffer tell
abbrev pub Telling : Type 0
Telling = ℕ → List ℕ → List ℕ

-- what an accepted call of the unit itself makes of its grant, now, its answer read so; who leaves is told of no slot
abbrev pub renewed_by : Telling → Call → Answer → ℕ → Grant → Grant
renewed_by told c a now g = cond (changes c) (grant (cond (about c).moves (told (a.written / 13) a.held) g.told) now) g

-- what any call makes of it: one that is refused, or about another unit, changes nothing
abbrev pub changed_by : Telling → ℕ → Call → Answer → ℕ → Grant → Grant
changed_by told unit c a now g = cond (eqb a.refused 0 && eqb (unit_of c) unit) (renewed_by told c a now g) g

-- after what happened, by the clock at its beginning
abbrev pub granted_by : Telling → ℕ → Clock → Grant → List Happened → Grant
granted_by told unit k g [] = g
granted_by told unit k g (h ∷ hs) =
    granted_by told unit (moved k (step_of h)) (changed_by told unit h.call h.answer (now_at k (time_of h.call)) g) hs

-- the slot of each frame, cut out of its 13 bytes
abbrev pub renewed : Call → Answer → ℕ → Grant → Grant
renewed = renewed_by told_in

abbrev pub granted : ℕ → Clock → Grant → List Happened → Grant
granted = granted_by told_in

-- what a unit has at the start: what its row says, in the fresh book or in the image
abbrev pub granting : Contents → ℕ → Grant
granting b unit =
    let at = place_for unit (rows_in b) in
    let r = get_or (rows_in b) at empty_row in
    grant (cond (eqb r.unit unit) (slots_told b.plan at r.slots) []) 0

-- now its unit is not silent: it is the manager, or its last accepted call is at most 300,000 ms ago
abbrev pub recent : Plan → ℕ → ℕ → Grant → Bool
recent p unit now g = eqb unit p.manager || leb now (g.at + 300000)

-- so long a grant counts
abbrev pub counts : Plan → ℕ → ℕ → Grant → List ℕ
counts p unit now g = cond (recent p unit now g) g.told []

-- of what happened since a book, its answers read so: a unit's grant, whether the unit is not silent at a time, and the slots that it is then granted
abbrev pub grant_since : Telling → Contents → List Happened → ℕ → Grant
grant_since told b hs unit = granted_by told unit (started b.time) (granting b unit) hs

abbrev pub recent_since : Telling → Contents → List Happened → ℕ → ℕ → Bool
recent_since told b hs unit time = recent b.plan unit (now_at (clock_of b hs) time) (grant_since told b hs unit)

abbrev pub granted_since : Telling → Contents → List Happened → ℕ → ℕ → List ℕ
granted_since told b hs unit time = counts b.plan unit (now_at (clock_of b hs) time) (grant_since told b hs unit)

-- the same of a history
abbrev pub recent_at : Start → List Call → ℕ → ℕ → Bool
recent_at start cs unit time = let b = (begun start).book in recent_since told_in b (recorded b cs) unit time

abbrev pub granted_at : Start → List Call → ℕ → ℕ → List ℕ
granted_at start cs unit time = let b = (begun start).book in granted_since told_in b (recorded b cs) unit time

-- ---- over all units
-- addresses are 1 to this
abbrev pub last_address : ℕ
last_address = 0xFFFE

-- f 1 + .. + f n
unfoldable pub sum_to : (ℕ → ℕ) → ℕ → ℕ
sum_to f zero = 0
sum_to f (suc n) = f (suc n) + sum_to f n

-- where each unit is granted these slots: all the data slots, which are all but the first
abbrev pub data_granted : (ℕ → List ℕ) → ℕ
data_granted slots = sum_to (λ unit. length (drop 1 (slots unit))) last_address

-- and how many units are granted anything
abbrev pub units_granted : (ℕ → List ℕ) → ℕ
units_granted slots = sum_to (λ unit. min 1 (length (slots unit))) last_address
