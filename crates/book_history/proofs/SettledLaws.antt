-- When an accepted call that changes the book was: at a time in order with the book's, which is then the book's.
-- Assumes nothing.
use Rattle.octets.proofs.Words.{◌≡◌, ap, true, ℕ}
use Rattle.moments.specs.Moments.{in_order}
use Rattle.slot_sets.specs.Sets.{Slots}
use Rattle.book.specs.Books.{Contents}
use Rattle.book_history.specs.Calls.{Call, leave, refusal_of, next, time_of}
use Rattle.book_history.proofs.TakingLaws.{Taken, leave_freed}

pub record Settled (b : Contents) (c : Call) : Type 0 where
  pub order : in_order b.time (time_of c) ≡ true
  pub time : (next b c).time ≡ time_of c

pub taken-settled : {b : Contents} {c : Call} {at : ℕ} {own : Slots 64} → Taken b c at own → Settled b c
taken-settled t = record { order = t.allowed.order; time = ap (λ (new : Contents). new.time) t.book }

pub left-settled : (b : Contents) (unit time : ℕ) → refusal_of b (leave unit time) ≡ 0 → Settled b (leave unit time)
left-settled b unit time z =
    let f = leave_freed b unit time z in
    record { order = f.allowed.order; time = ap (λ (new : Contents). new.time) f.book }
