-- What the calls from C that answer requests, forward beacons and write pages leave is read.
-- Assumes nothing.
use Rattle.octets.proofs.Words.{◌≡◌, ap, ◌∙◌, cond, List, [], ◌∷◌, ℕ, eqb, length, get_or}
use Rattle.octets.specs.Answers.{Said, accepted}
use Rattle.octets.proofs.CallLaws.{after-accepted, stored-none}
use Rattle.octets.specs.Told.{written_in}
use Rattle.octets.proofs.AnsweredLaws.{said-none}
use Rattle.route_table.specs.declared.table.Table.{Table}
use Rattle.route_forwards.specs.Forwards.{forward_of, forward_call}
use Rattle.route_pages.specs.Pages.{page_frame, page_refusal, page_of}
use Rattle.route_bytes.specs.TableBytes.{table_in, is_table}
use Rattle.route_bytes.proofs.SizeLaws.{sized-read}
use Rattle.book_joins.specs.Joins.{Answered, join_in, join_of, ask_in, ask_of}
use Rattle.book_history.specs.Calls.{join, ask}
use Rattle.book_history.proofs.SizeLaws.{keeps_size}
use Rattle.book_bytes.specs.BookBytes.{book_size, book_in, bytes_of_book}
use Rattle.book_bytes.specs.Trips as books
use Rattle.book_bytes.proofs.SizeLaws.{book-sized}
use Rattle.book_bytes.proofs.TripLaws.{reads_back}
use Rattle.c_routes.specs.UpdateCalls.{page_call}
use Rattle.c_requests.specs.RequestCalls.{RequestLeft, join_call, slot_request_call, answered_to}
use Rattle.c_read_back.specs.FramesRead.{Responded}
use Rattle.c_read_back.specs.CallsRead.{ResponsesReadInC, ForwardsReadInC, PagesReadInC}
use Rattle.c_read_back.proofs.ForwardReadLaws.{forwards_are_read}
use Rattle.c_read_back.proofs.PageReadLaws.{pages_are_read}
use Rattle.c_read_back.proofs.ResponseReadLaws.{responses_are_read}

-- ---- requests
module _ (s out : List ℕ) (written unit time : ℕ) (a : Answered) (r : a.refused ≡ 0 → Responded unit time a.book a.written a.held × books.Sized a.book) where
  abbrev left : RequestLeft
  left = answered_to s out written a

  left_responded : left.status ≡ 0 → Responded unit time (book_in left.book) left.written left.out
  left_responded z =
      let (responded, sized) = r (stored-none (eqb (length s) book_size) a.refused z).1 in
      let back : book_in left.book ≡ a.book = ap book_in (after-accepted left.status s (bytes_of_book a.book) z) ∙ (reads_back a.book sized).0 in
      rw (back, after-accepted left.status written a.written z, after-accepted left.status out a.held z) responded

pub responses_are_read_in_c : ResponsesReadInC
unfolding join_call slot_request_call
responses_are_read_in_c s frame time out written b h =
    let book = book_in s in
    let z = book-sized s b in
    let (joined, asked) = responses_are_read book frame time out z.plan.0 h in (
      left_responded s out written (join_in frame).node time (join_of book frame time out)
          (λ e. (joined e, keeps_size book (join frame time out) h z)),
      left_responded s out written (ask_in frame).node time (ask_of book frame time out)
          (λ e. (asked e, keeps_size book (ask frame time out) h z)),
    )

-- ---- forwarding
pub forwards_are_read_in_c : ForwardsReadInC
unfolding forward_call
forwards_are_read_in_c s network manager frame delay time out written b z =
    let passed = forward_of (table_in s) network manager frame delay time out in
    let n = passed.answer.refused in
    rw (after-accepted (cond (is_table s) n 14) written passed.answer.written z, after-accepted (cond (is_table s) n 14) out passed.held z)
    (forwards_are_read (table_in s) network manager frame delay time out b (stored-none (is_table s) n z).1)

-- ---- pages
page-said : (t : Table) (p time : ℕ) (out : List ℕ) → (page_of t p time out).said.refusal ≡ 0 → (page_of t p time out).said ≡ accepted (length (page_frame t p time) ∷ [])
unfolding page_of
page-said t p time out z = (said-none (page_refusal t p time (length out)) (accepted (length (page_frame t p time) ∷ [])) z).1

pub pages_are_read_in_c : PagesReadInC
unfolding page_call
pages_are_read_in_c s page time out written b h z =
    let t = table_in s in
    let wrote = page_of t page time out in
    let n = wrote.said.refusal in
    let said = page-said t page time out (stored-none (is_table s) n z).1 in
    let size : written_in wrote ≡ length (page_frame t page time) = ap (λ (x : Said). get_or x.values 0 0) said in
    rw (after-accepted (cond (is_table s) n 14) written (written_in wrote) z, after-accepted (cond (is_table s) n 14) out wrote.held z, size)
    (pages_are_read t page time out (length (page_frame t page time)) (sized-read s b) h said)
