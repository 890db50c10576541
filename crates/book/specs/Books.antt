-- A book with sets for masks, when it is within rule, and what fresh book, heard and leave answer.
-- Assumes nothing.
use Rattle.std.specs.Prelude.{ℕ, Bool, not, ◌&&◌, List, [], ◌∷◌, Result, Ok, Err, eqb, ltb, length, get_or, take, drop, set, replicate}
use Rattle.octets.specs.Answers.{Reason, reason, first}
use Rattle.octets.specs.Calls.{after}
use Rattle.octets.specs.Lists.{every}
use Rattle.octets.specs.Refusals.{number_of}
use Rattle.octets.specs.declared.refusals.Refusal.{Refusal}
use Rattle.moments.specs.Moments.{in_order}
use Rattle.octets.specs.Addresses.{address}
use Rattle.slot_sets.specs.Sets.{Slots, firsts}
use Rattle.site_plan.specs.declared.plan.Plan.{Plan}
use Rattle.site_plan.specs.Plans.{plan_rule}
use Rattle.book_members.specs.Members.{Row, member_with, rows_of, empty_row, heard_at, current, place_for}
use Rattle.book_members.specs.Rules.{rows_rule, empty_is}
use Rattle.book.specs.declared.book.Book.{Book}

-- a plan, the last accepted time, and 21 places for rows, of which the plan uses the first
pub record Contents : Type 0 where
  pub plan : Plan
  pub time : ℕ
  pub places : List Row

-- what a book of the code stands for
abbrev pub contents : Book → Contents
contents b = record { plan = b.plan; time = b.time; places = rows_of b.rows }

-- the rows that the plan uses
abbrev pub rows_in : Contents → List Row
rows_in b = take b.plan.rows b.places

-- a book is within rule: its plan and its rows are, and the places behind them are zeros
unfoldable pub within_rule : Contents → Bool
within_rule b =
    plan_rule b.plan && rows_rule b.plan.manager b.plan.data_slots b.time (rows_in b) && every empty_is (drop b.plan.rows b.places)

-- the rows of a book that are live at a time
abbrev pub rows_at : Contents → ℕ → List Row
rows_at b time = current time (rows_in b)

-- its places then, silent members dropped
abbrev pub places_at : Contents → ℕ → List Row
places_at b time = current time b.places

-- a unit is a live member at a time
abbrev pub live_at : Contents → ℕ → ℕ → Bool
live_at b unit time = ltb (place_for unit (rows_at b time)) (length (rows_at b time))

-- its row then, an empty one where it has none, and the slots that it holds
abbrev pub own_row : Contents → ℕ → ℕ → Row
own_row b unit time = get_or (rows_at b time) (place_for unit (rows_at b time)) empty_row

abbrev pub holding : Contents → ℕ → ℕ → Slots 64
holding b unit time = (own_row b unit time).slots

-- the book after an accepted call: silent members are dropped, and one row is written
abbrev pub with_row : Contents → ℕ → ℕ → Row → Contents
with_row b time at r = record { plan = b.plan; time = time; places = set (places_at b time) at r }

-- ---- the calls
-- what a changing call gives: the number that refuses it with the book as it was, or the new book
pub record BookChange : Type 0 where
  pub refused : ℕ
  pub book : Contents

abbrev pub change_to : ℕ → Contents → Contents → BookChange
change_to refused b new = record { refused = refused; book = after refused b new }

-- what an answer of the code stands for: the new book, or the one that was there with the number that refuses the call
abbrev pub changed : Contents → Result Book Refusal → BookChange
changed b (Ok new) = record { refused = 0; book = contents new }
changed b (Err r) = record { refused = number_of r; book = b }

-- fresh: the manager in row 0 with the lowest data slot, the time as last accepted; a plan out of rule is 14, and then all is zeros
abbrev pub fresh_row : ℕ → ℕ → Row
fresh_row manager time = member_with manager (firsts 1) time

abbrev pub no_book : Contents
no_book =
    record {
      plan = record { network = 0; manager = 0; max_hops = 0; rows = 0; data_slots = 0; slot_ms = 0; beacon_type = 0 };
      time = 0;
      places = replicate 21 empty_row;
    }

abbrev pub fresh_book : Plan → ℕ → Contents
fresh_book p time = record { plan = p; time = time; places = fresh_row p.manager time ∷ replicate 20 empty_row }

unfoldable pub fresh_of : Plan → ℕ → BookChange
fresh_of p time = change_to (first (reason (not (plan_rule p)) 14 ∷ [])) no_book (fresh_book p time)

-- heard: a live member's time is renewed; 14 4 8 13
abbrev pub heard_reasons : Contents → ℕ → ℕ → List Reason
heard_reasons b unit time =
    reason (not (within_rule b)) 14 ∷
    reason (not (address unit)) 4 ∷
    reason (not (in_order b.time time)) 8 ∷
    reason (not (live_at b unit time)) 13 ∷
    []

unfoldable pub heard_of : Contents → ℕ → ℕ → BookChange
heard_of b unit time =
    change_to (first (heard_reasons b unit time)) b (with_row b time (place_for unit (rows_at b time)) (heard_at time (own_row b unit time)))

-- leave: a live member other than the manager frees its row and its slots; 14 4 8 13
abbrev pub leave_reasons : Contents → ℕ → ℕ → List Reason
leave_reasons b unit time =
    reason (not (within_rule b)) 14 ∷
    reason (not (address unit)) 4 ∷
    reason (not (in_order b.time time)) 8 ∷
    reason (not (live_at b unit time && not (eqb unit b.plan.manager))) 13 ∷
    []

unfoldable pub leave_of : Contents → ℕ → ℕ → BookChange
leave_of b unit time = change_to (first (leave_reasons b unit time)) b (with_row b time (place_for unit (rows_at b time)) empty_row)
