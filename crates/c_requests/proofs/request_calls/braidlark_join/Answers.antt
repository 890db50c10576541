-- `braidlark_join`: bytes that are no book's, or what a request to join gives.
-- Assumes nothing.
use Rattle.octets.proofs.Words.{◌≡◌, ap, ◌∙◌}
use Rattle.book.specs.Books.{contents}
use Rattle.book_joins.specs.Joins.{answered_by, join_of}
use Rattle.book_bytes.specs.BookBytes.{book_in}
use Rattle.c_requests.specs.RequestCalls.{join_call}
use Rattle.c_requests.proofs.RequestCallLaws.{join_short_lem, no_book_lem, few-written, settled}
use Rattle.c_requests.proofs.request_calls.braidlark_join.Goals as goal
use Rattle.c_requests.proofs.request_calls.braidlark_join.Goals.{After-join-granted}

-- at the answer: it is the definition's
told : (d : After-join-granted) → answered_by (contents d.book_of.result) d.join-granted.result d.join-granted.new.out
    ≡ join_of (book_in d.args.book.now) d.args.frame.now d.args.time d.args.out.now
told d =
    let a = d.args in
    d.join-granted.ensures ∙ ap (λ b. join_of b a.frame.now a.time a.out.now) d.book_of.ensures

pub returns-then-book-ne-BOOK_SIZE : goal.returns-then-book-ne-BOOK_SIZE
unfolding join_call
returns-then-book-ne-BOOK_SIZE c =
    let a = c.args in
    rw c.number.ensures (no_book_lem a.book.now a.out.now _ (join_of (book_in a.book.now) a.frame.now a.time a.out.now) c.if-book-ne-BOOK_SIZE.true)

pub settle-requires-clause-short : goal.settle-requires-clause-short
settle-requires-clause-short c =
    let d = (goal.at.settle-requires-clause-short c).After-join-granted in
    few-written _ _ (join_short_lem _ _ _ _) (contents d.book_of.result) _ _ (told d)

pub returns : goal.returns
unfolding join_call
returns c =
    let d = (goal.at.returns c).After-join-granted in
    let a = d.args in
    let b = contents d.book_of.result in
    settled a.book.now a.out.now _ _ (join_short_lem _ _ _ _) b d.join-granted.result _ (told d) d.if-book-ne-BOOK_SIZE.false _ _ _
    (rw c.status.ensures (c.settle.ensures b d.join-granted.new.out))
