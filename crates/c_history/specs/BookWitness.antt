-- A history of a book that is not empty and in which times begin again at 0: a site of three rows, a unit that joins and asks for more, its image restored in
-- another buffer, and calls there.
-- Assumes nothing.
use Rattle.std.specs.Prelude.{◌≡◌, List, [], ◌∷◌, ℕ, replicate}
use Rattle.book_history.specs.Calls.{Call, join, ask, heard, image}
use Rattle.c_history.specs.HeldBooks.{StartInC, fresh, restored, begins_in, InC, answer_in_c, buffer_after, granted_in_c}

-- ---- the first buffer
-- network 1, manager 1, one hop, three rows, five data slots of 100 ms; it begins 10 ms before times begin again
abbrev pub small : StartInC
small = fresh (1 ∷ 0 ∷ 1 ∷ 0 ∷ 1 ∷ 3 ∷ 5 ∷ 100 ∷ 0 ∷ 0x46 ∷ []) 0xFFFFFFF6

abbrev pub buffer_at_first : List ℕ
buffer_at_first = (begins_in (replicate 308 7) small).book

-- unit 2 asks to join, for one slot, 5 ms before that, and for two slots 7 ms after it
abbrev pub joins : Call
joins = join (0x21 ∷ 2 ∷ 0 ∷ 0 ∷ 1 ∷ 0 ∷ 1 ∷ 0x23 ∷ []) 0xFFFFFFFB (replicate 26 0)

abbrev pub asks : Call
asks = ask (0x23 ∷ 2 ∷ 0 ∷ 2 ∷ 0 ∷ 0 ∷ 0x23 ∷ []) 7 (replicate 39 0)

abbrev pub in_c : Call → InC
in_c c = record { call = c; filled = 0 }

abbrev pub joined : List InC
joined = in_c joins ∷ []

abbrev pub joined_and_asked : List InC
joined_and_asked = in_c joins ∷ in_c asks ∷ []

-- it is granted control slot 3 and data slot 6, until it has been silent for more than 300,000 ms
abbrev pub Grants : Type 0
Grants =
    ((begins_in (replicate 308 7) small).status ≡ 0)
    × ((answer_in_c buffer_at_first joins 0).refused ≡ 0)
    × (granted_in_c buffer_at_first joined 2 299995 ≡ 3 ∷ 6 ∷ [])
    × (granted_in_c buffer_at_first joined 2 299996 ≡ [])

-- then data slot 7 too
abbrev pub GrantsMore : Type 0
GrantsMore = granted_in_c buffer_at_first joined_and_asked 2 300007 ≡ 3 ∷ 6 ∷ 7 ∷ []

-- ---- the second buffer
-- the image that is written of that book at 10, restored there at 20
abbrev pub its_image : List ℕ
its_image = (answer_in_c (buffer_after buffer_at_first joined_and_asked) (image 10 (replicate 50 0)) 0).held

abbrev pub again : StartInC
again = restored its_image 20

abbrev pub buffer_again : List ℕ
buffer_again = (begins_in (replicate 308 9) again).book

-- unit 2 has the same, for 300,000 ms from then on
abbrev pub GrantsAgain : Type 0
GrantsAgain =
    ((begins_in (replicate 308 9) again).status ≡ 0)
    × (granted_in_c buffer_again [] 2 300020 ≡ 3 ∷ 6 ∷ 7 ∷ [])
    × (granted_in_c buffer_again [] 2 300021 ≡ [])

-- it is heard, and unit 3 asks to join, for four slots
abbrev pub goes_on : List InC
goes_on = in_c (heard 2 30) ∷ in_c (join (0x21 ∷ 3 ∷ 0 ∷ 0 ∷ 1 ∷ 0 ∷ 4 ∷ 0x27 ∷ []) 40 (replicate 39 0)) ∷ []

-- what unit 2 has lasts from when it was heard; unit 3 gets control slot 4 and the two data slots that are left; the manager has its own always
abbrev pub GrantsOn : Type 0
GrantsOn =
    (granted_in_c buffer_again goes_on 2 300030 ≡ 3 ∷ 6 ∷ 7 ∷ [])
    × (granted_in_c buffer_again goes_on 2 300031 ≡ [])
    × (granted_in_c buffer_again goes_on 3 300040 ≡ 4 ∷ 8 ∷ 9 ∷ [])
    × (granted_in_c buffer_again goes_on 1 300041 ≡ 2 ∷ 5 ∷ [])
