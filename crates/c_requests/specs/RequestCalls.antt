-- What the calls on a request to join and on one for slots return and leave.
-- Assumes nothing.
use Rattle.std.specs.Prelude.{ℕ, List}
use Rattle.octets.specs.Calls.{after, stored}
use Rattle.book_joins.specs.Joins.{Answered, join_of, ask_of}
use Rattle.book_bytes.specs.BookBytes.{book_size, book_in, bytes_of_book}

-- the status, the book's bytes, the buffer, and the number of bytes written
pub record RequestLeft : Type 0 where
  pub status : ℕ
  pub book : List ℕ
  pub out : List ℕ
  pub written : ℕ

abbrev pub request_left : ℕ → List ℕ → List ℕ → ℕ → RequestLeft
request_left status book out written = record { status = status; book = book; out = out; written = written }

abbrev pub answered_to : List ℕ → List ℕ → ℕ → Answered → RequestLeft
answered_to s out written a =
    let status = stored book_size s a.refused in
    request_left status (after status s (bytes_of_book a.book)) (after status out a.held) (after status written a.written)

unfoldable pub join_call : List ℕ → List ℕ → ℕ → List ℕ → ℕ → RequestLeft
join_call s frame time out written = answered_to s out written (join_of (book_in s) frame time out)

unfoldable pub slot_request_call : List ℕ → List ℕ → ℕ → List ℕ → ℕ → RequestLeft
slot_request_call s frame time out written = answered_to s out written (ask_of (book_in s) frame time out)
