-- What a join and a slot request take from the rows, and the end of both.
-- Assumes nothing.
use Rattle.octets.proofs.Words.{◌≡◌, sym, ◌∙◌, List, ℕ, ◌+◌, ◌*◌, length, set, sets}
use Rattle.slot_sets.specs.Sets.{Slots, count}
use Rattle.book_members.specs.Members.{Row, member_with}
use Rattle.book.specs.Books.{Contents, places_at, with_row}
use Rattle.book_joins.specs.Joins.{Answered, grants}
use Rattle.book_joins.specs.Responses.{responses}
use Rattle.book_joins.proofs.ResponseLaws.{length-responses}

-- an accepted call: the book is made from the rows of its time
pub settled : (b : Contents) (unit time at : ℕ) (own : Slots 64) (out : List ℕ) (places now : List Row) (written : ℕ) (held : List ℕ) → written ≡ 13 * (1 + count own) → now ≡ places_at b time
    → places ≡ set now at (member_with unit own time) → held ≡ sets out 0 (responses b.plan unit time at own)
    → record { refused = 0; written = written; book = record { plan = b.plan; time = time; places = places }; held = held } ≡ grants 0 b unit time at own out
settled b unit time at own out places now written held w e p h = go (responses b.plan unit time at own) (w ∙ sym (length-responses b.plan unit time at own)) h
  where
    go : (bytes : List ℕ) → written ≡ length bytes → held ≡ sets out 0 bytes → ◌≡◌ {A = Answered} (record { refused = 0; written = written; book = record { plan = b.plan; time = time; places = places }; held = held })
        (record { refused = 0; written = length bytes; book = with_row b time at (member_with unit own time); held = sets out 0 bytes })
    go bytes w h = rw (w, h, p, e)
