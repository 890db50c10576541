-- Along calls from C the buffer holds the bytes of the book that the same calls give on values; so what is refused, and what is within rule, is seen there.
-- Assumes nothing.
use Rattle.octets.proofs.Words.{◌≡◌, refl, sym, ap, ◌∙◌, List, [], ◌∷◌, ℕ, eq-eqb, eqb, length}
use Rattle.octets.specs.Calls as calls
use Rattle.octets.specs.Calls.{stored}
use Rattle.octets.proofs.CallLaws.{after-refused, left_as, stored-none}
use Rattle.book.specs.Books.{Contents, fresh_of, heard_of, leave_of}
use Rattle.book_joins.specs.Joins.{join_of, ask_of}
use Rattle.book_history.specs.Calls.{Call, join, ask, heard, leave, schedule, image, refusal_of, next}
use Rattle.book_history.proofs.RuleLaws.{refused_keeps}
use Rattle.site_plan.specs.PlanBytes.{plan_size, plan_at}
use Rattle.book_bytes.specs.BookBytes.{book_size, book_in, bytes_of_book}
use Rattle.book_bytes.specs.Trips.{Sized}
use Rattle.book_bytes.proofs.SizeLaws.{book-sized}
use Rattle.book_bytes.proofs.TripLaws.{reads_back, writes_back}
use Rattle.book_image.specs.Images.{restore_of}
use Rattle.book_history.specs.Histories.{Start, begun, after_calls, answer}
use Rattle.book_history.specs.BookLaws.{book_after}
use Rattle.book_history.proofs.BookRuleLaws.{stays_within_rule, only-beyond_plan}
use Rattle.c_book.specs.BookCalls.{fresh_call, heard_call, leave_call, restore_call, schedule_call, image_call}
use Rattle.c_requests.specs.RequestCalls.{join_call, slot_request_call}
use Rattle.c_history.specs.HeldBooks.{StartInC, fresh, restored, begins_in, MachineStart, start_of, InC, leaves, answer_in_c, buffer_after, AllMachine, calls_of}
use Rattle.c_history.specs.BookLaws.{StaysStored, StoredFrom, RefusedLeaves, OnlyBeyondPlanInC}
use Rattle.c_history.proofs.BookSizes.{begun_sized, sized-next}

-- ---- one call
module _ (b : Contents) (z : Sized b) where
  read : book_in (bytes_of_book b) ≡ b
  read = (reads_back b z).0

  long : length (bytes_of_book b) ≡ book_size
  long = (reads_back b z).1

  -- a call that is refused leaves the book, and so do its bytes
  left : (n : ℕ) (new : Contents) → ((n ≡ 0 → ⊥) → new ≡ b) → calls.after (stored book_size (bytes_of_book b) n) (bytes_of_book b) (bytes_of_book new) ≡ bytes_of_book new
  left n new kept = rw long (left_as bytes_of_book n b new kept)

  pub leaves-same : (c : Call) (filled : ℕ) → leaves (bytes_of_book b) c filled ≡ bytes_of_book (next b c)
  unfolding join_call slot_request_call heard_call leave_call
  leaves-same (join frame time out) filled = rw read (left (join_of b frame time out).refused (join_of b frame time out).book (refused_keeps b (join frame time out)))
  leaves-same (ask frame time out) filled = rw read (left (ask_of b frame time out).refused (ask_of b frame time out).book (refused_keeps b (ask frame time out)))
  leaves-same (heard unit time) filled = rw read (left (heard_of b unit time).refused (heard_of b unit time).book (refused_keeps b (heard unit time)))
  leaves-same (leave unit time) filled = rw read (left (leave_of b unit time).refused (leave_of b unit time).book (refused_keeps b (leave unit time)))
  leaves-same (schedule unit hop time out) filled = refl
  leaves-same (image time out) filled = refl

  -- its status is what the call on the book says, and so is all that it answers where it is accepted
  pub refused-same : (c : Call) (filled : ℕ) → (answer_in_c (bytes_of_book b) c filled).refused ≡ refusal_of b c
  unfolding join_call slot_request_call heard_call leave_call schedule_call image_call
  refused-same (join frame time out) filled = rw (read, long)
  refused-same (ask frame time out) filled = rw (read, long)
  refused-same (heard unit time) filled = rw (read, long)
  refused-same (leave unit time) filled = rw (read, long)
  refused-same (schedule unit hop time out) filled = rw (read, long)
  refused-same (image time out) filled = rw (read, long)

  pub answer-same : (c : Call) (filled : ℕ) → refusal_of b c ≡ 0 → answer_in_c (bytes_of_book b) c filled ≡ answer b c
  unfolding join_call slot_request_call heard_call leave_call schedule_call image_call
  answer-same (join frame time out) filled q = rw (read, long, q)
  answer-same (ask frame time out) filled q = rw (read, long, q)
  answer-same (heard unit time) filled q = rw (read, long)
  answer-same (leave unit time) filled q = rw (read, long)
  answer-same (schedule unit hop time out) filled q = rw (read, long, q)
  answer-same (image time out) filled q = rw (read, long, q)

-- ---- calls one after the other
pub sized-after : (b : Contents) (cs : List InC) → AllMachine cs → Sized b → Sized (after_calls b (calls_of cs))
sized-after b [] m z = z
sized-after b (c ∷ cs) m z = sized-after (next b c.call) cs m.1 (sized-next b c.call m.0 z)

pub buffer-same : (b : Contents) (cs : List InC) → AllMachine cs → Sized b → buffer_after (bytes_of_book b) cs ≡ bytes_of_book (after_calls b (calls_of cs))
buffer-same b [] m z = refl
buffer-same b (c ∷ cs) m z =
    ap (λ (s : List ℕ). buffer_after s cs) (leaves-same b z c.call c.filled) ∙ buffer-same (next b c.call) cs m.1 (sized-next b c.call m.0 z)

-- ---- the start
begun-accepted : (s : List ℕ) (start : StartInC) → (begins_in s start).status ≡ 0 → (begun (start_of start)).refused ≡ 0
unfolding fresh_call restore_call
begun-accepted s (fresh plan time) e = (stored-none (eqb (length plan) plan_size) _ (stored-none (eqb (length s) book_size) _ e).1).1
begun-accepted s (restored bytes time) e = (stored-none (eqb (length s) book_size) _ e).1

pub begun-same : (s : List ℕ) (start : StartInC) → (begins_in s start).status ≡ 0 → (begins_in s start).book ≡ bytes_of_book (begun (start_of start)).book
unfolding fresh_call restore_call
begun-same s (fresh plan time) e = rw (eq-eqb (stored book_size s (stored plan_size plan (fresh_of (plan_at plan 0) time).refused)) 0 e)
begun-same s (restored bytes time) e = rw (eq-eqb (stored book_size s (restore_of bytes time).refused) 0 e)

pub stays_stored : StaysStored
stays_stored s start cs m n e =
    ap (λ (s : List ℕ). buffer_after s cs) (begun-same s start e) ∙ buffer-same (begun (start_of start)).book cs n (begun_sized start m)

pub stored-from : StoredFrom
stored-from s cs b l m = ap (λ (s : List ℕ). buffer_after s cs) (sym (writes_back s b l)) ∙ buffer-same (book_in s) cs m (book-sized s b)

-- ---- refusals
pub refused-leaves : RefusedLeaves
unfolding join_call slot_request_call heard_call leave_call
refused-leaves s (join frame time out) filled z = after-refused _ s _ z
refused-leaves s (ask frame time out) filled z = after-refused _ s _ z
refused-leaves s (heard unit time) filled z = after-refused _ s _ z
refused-leaves s (leave unit time) filled z = after-refused _ s _ z
refused-leaves s (schedule unit hop time out) filled z = refl
refused-leaves s (image time out) filled z = refl

-- ---- after any calls
module _ (s : List ℕ) (start : StartInC) (cs : List InC) (m : MachineStart start) (n : AllMachine cs) (e : (begins_in s start).status ≡ 0) where
  abbrev began : List ℕ
  began = (begins_in s start).book

  abbrev from : Start
  from = start_of start

  abbrev on_values : List Call
  on_values = calls_of cs

  pub right : (begun from).refused ≡ 0
  right = begun-accepted s start e

  pub sized : Sized (book_after from on_values)
  sized = sized-after (begun from).book cs n (begun_sized start m)

  pub book-same : book_in (buffer_after began cs) ≡ book_after from on_values
  book-same = ap book_in (stays_stored s start cs m n e) ∙ (reads_back (book_after from on_values) sized).0

pub only_beyond_plan_in_c : OnlyBeyondPlanInC
only_beyond_plan_in_c s start cs m n e =
    let b = book_after (start_of start) (calls_of cs) in
    let z = sized s start cs m n e in
    let right = right s start cs m n e in
    rw (stays_stored s start cs m n e, (reads_back b z).0) (
      (reads_back b z).1,
      stays_within_rule (start_of start) (calls_of cs) right,
      λ v filled q. only-beyond_plan (start_of start) (calls_of cs) v right (sym (refused-same b z v filled) ∙ q),
    )
