-- Joining, asking, sending and holding, of the bytes: the theorems of `book_history` on books, carried to the buffer.
-- Assumes nothing.
use Rattle.octets.proofs.Words.{◌≡◌, refl, sym, ap, ap₂, subst, ◌∙◌, true, not, ◌&&◌, List, [], ◌∷◌, ◌++◌, map-append, ℕ, ◌≤◌, eqb}
use Rattle.octets.specs.Lists.{every}
use Rattle.octets.proofs.EachLaws.{each_append}
use Rattle.moments.specs.Moments.{in_order}
use Rattle.slot_sets.specs.Sets.{count}
use Rattle.book.specs.Books.{Contents, rows_at, live_at, holding}
use Rattle.book.specs.Schedules.{schedule_of}
use Rattle.book_joins.specs.Joins.{wish, grant_for, join_in, join_of}
use Rattle.book_history.specs.Calls.{Call, join, ask, schedule, next, about, unit_of}
use Rattle.book_history.specs.Laws.{due, Admitted}
use Rattle.book_history.proofs.JoinLaws.{asked_for}
use Rattle.book_history.proofs.TakingLaws.{ask-taken, taken_live}
use Rattle.book_bytes.specs.BookBytes.{book_in, bytes_of_book}
use Rattle.book_bytes.specs.Trips.{Sized}
use Rattle.book_bytes.proofs.TripLaws.{reads_back}
use Rattle.book_history.specs.Histories.{Answer, recorded, recent_at}
use Rattle.book_history.specs.BookLaws.{book_after, slots_at, its}
use Rattle.book_history.proofs.BookHistoryLaws.{joins-exactly, one_sender}
use Rattle.book_history.proofs.OwnLaws.{stays_its_own}
use Rattle.c_book.specs.BookCalls.{schedule_call}
use Rattle.c_requests.specs.RequestCalls.{join_call}
use Rattle.c_history.specs.HeldBooks.{start_of, InC, Machine, leaves, recorded_in_c, AllMachine, calls_of}
use Rattle.c_history.specs.BookLaws.{AdmittedInC, JoinsExactlyInC, AsksExactlyInC, StaysItsOwnInC, OneSenderInC}
use Rattle.c_history.proofs.BookSizes.{sized-next}
use Rattle.c_history.proofs.BookGrants.{recent_as}
use Rattle.c_history.proofs.BookStored.{leaves-same, refused-same, answer-same, right, sized, book-same, stays_stored}

-- the book in the buffer after a call is the one that the call gives
left-read : (b : Contents) → Sized b → (c : Call) (filled : ℕ) → Machine c → book_in (leaves (bytes_of_book b) c filled) ≡ next b c
left-read b z c filled m = ap book_in (leaves-same b z c filled) ∙ (reads_back (next b c) (sized-next b c m z)).0

-- ---- joining
module _ (b : Contents) (z : Sized b) (frame : List ℕ) (time : ℕ) (out : List ℕ) (written : ℕ) (m : Machine (join frame time out)) where
  join-status : (join_call (bytes_of_book b) frame time out written).status ≡ (join_of b frame time out).refused
  join-status = refused-same b z (join frame time out) written

  join-book : book_in (join_call (bytes_of_book b) frame time out written).book ≡ (join_of b frame time out).book
  join-book = left-read b z (join frame time out) written m

  admitted : Admitted b frame time out → AdmittedInC (bytes_of_book b) frame time out written
  admitted a =
      let unit = (join_in frame).node in
      let before = sym (reads_back b z).0 in
      record {
        accepted = join-status ∙ a.accepted;
        member = ap (λ (new : Contents). live_at new unit time) join-book ∙ a.member;
        slots =
            ap (λ (new : Contents). holding new unit time) join-book
            ∙ (a.slots ∙ ap (λ (old : Contents). grant_for old.plan.data_slots (rows_at old time) (join_in frame).slots) before);
        exact = ap (λ (new : Contents). count (holding new unit time)) join-book ∙ (a.exact ∙ ap (λ (old : Contents). due old frame time) before);
        least = subst (λ (old : Contents). 1 ≤ due old frame time) before a.least;
        most = subst (λ (old : Contents). due old frame time ≤ wish (join_in frame).slots) before a.most;
      }

pub joins_exactly_in_c : JoinsExactlyInC
joins_exactly_in_c s start cs m n e =
    let b = book_after (start_of start) (calls_of cs) in
    let z = sized s start cs m n e in
    rw (stays_stored s start cs m n e, (reads_back b z).0)
    (λ frame time out written k new.
    let (filled, else) = joins-exactly (start_of start) (calls_of cs) frame time out (right s start cs m n e) new in
    let status = join-status b z frame time out written k in (
      (λ f. status ∙ filled.0 f, λ q. filled.1 (sym status ∙ q)),
      λ f r. admitted b z frame time out written k (else f r),
    ))

-- ---- asking
pub asks_exactly_in_c : AsksExactlyInC
asks_exactly_in_c s start cs m n e =
    let b = book_after (start_of start) (calls_of cs) in
    let z = sized s start cs m n e in
    rw (stays_stored s start cs m n e, (reads_back b z).0)
    (λ frame time out written k q.
    let asked = ask frame time out in
    let accepted = sym (refused-same b z asked written) ∙ q in
    rw (left-read b z asked written k) (taken_live (ask-taken b frame time out accepted), asked_for b frame time out accepted))

-- ---- sending
module _ (b : Contents) (z : Sized b) (unit hop time : ℕ) (out : List ℕ) (written : ℕ) (e : (schedule_call (bytes_of_book b) unit hop time out written).status ≡ 0) where
  made : (schedule_of b unit hop time out).said.refusal ≡ 0
  made = sym (refused-same b z (schedule unit hop time out) written) ∙ e

  made-out : (schedule_call (bytes_of_book b) unit hop time out written).out ≡ (schedule_of b unit hop time out).held
  made-out = ap (λ (a : Answer). a.held) (answer-same b z (schedule unit hop time out) written made)

pub one_sender_in_c : OneSenderInC
one_sender_in_c s start cs m n e =
    let b = book_after (start_of start) (calls_of cs) in
    let z = sized s start cs m n e in
    rw (stays_stored s start cs m n e, (reads_back b z).0)
    (λ time unit unit' hop hop' out out' written written' q q' other slot.
    rw (made-out b z unit hop time out written q, made-out b z unit' hop' time out' written' q')
    (one_sender (start_of start) (calls_of cs) time unit unit' hop hop' out out' (right s start cs m n e) (made b z unit hop time out written q) (made b z unit' hop' time out' written' q') other slot))

-- ---- holding
-- whether a call moves a unit's slots is seen by its status
its-same : (b : Contents) (cs : List InC) → AllMachine cs → Sized b → (unit : ℕ)
    → every (λ h. not (its unit h)) (recorded_in_c (bytes_of_book b) cs) ≡ every (λ h. not (its unit h)) (recorded b (calls_of cs))
unfolding every
its-same b [] m z unit = refl
its-same b (c ∷ cs) m z unit =
    let here = ap (λ (n : ℕ). not (eqb n 0 && eqb (unit_of c.call) unit && (about c.call).moves)) (refused-same b z c.call c.filled) in
    let rest =
    ap (λ (s : List ℕ). every (λ h. not (its unit h)) (recorded_in_c s cs)) (leaves-same b z c.call c.filled)
    ∙ its-same (next b c.call) cs m.1 (sized-next b c.call m.0 z) unit in
    ap₂ ◌&&◌ here rest

-- of equal books; a goal that shows the slots is never rewritten, since they would be computed
abbrev Own : ℕ → ℕ → Contents → Contents → Type 0
Own unit time b later = in_order later.time time ≡ true → slots_at later unit time ≡ slots_at b unit b.time

own_same : (unit time : ℕ) (b b' later later' : Contents) → b ≡ b' → later ≡ later' → Own unit time b' later' → Own unit time b later
own_same unit time b b' later later' p q h = subst (λ (x : Contents). Own unit time x later) (sym p) (subst (λ (y : Contents). Own unit time b' y) (sym q) h)

pub stays_its_own_in_c : StaysItsOwnInC
stays_its_own_in_c s start cs more m n k e unit time a h o r =
    let from = start_of start in
    let b = book_after from (calls_of cs) in
    let z = sized s start cs m n e in
    let all = each_append (λ c. Machine c.call) cs more n k in
    let joined : calls_of (cs ++ more) ≡ calls_of cs ++ calls_of more = map-append _ cs more in
    let later = book-same s start (cs ++ more) m all e ∙ ap (book_after from) joined in
    let none = sym (ap (λ (x : List ℕ). every (λ h. not (its unit h)) (recorded_in_c x more)) (stays_stored s start cs m n e) ∙ its-same b more k z unit) ∙ h in
    let lately = ap (λ (vs : List Call). recent_at from vs unit time) (sym joined) ∙ (sym (recent_as s start (cs ++ more) m all e unit time) ∙ r) in
    own_same unit time _ b _ (book_after from (calls_of cs ++ calls_of more)) (book-same s start cs m n e) later
    (λ p. stays_its_own from (calls_of cs) (calls_of more) unit time (right s start cs m n e) a none p lately) o
