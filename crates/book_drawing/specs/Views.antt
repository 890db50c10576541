-- What slotview prints of a book, as bytes of text, and what it prints where there is none.
-- Assumes nothing.
use Rattle.std.specs.Prelude.{ℕ, suc, ◌+◌, ◌/◌, ◌%◌, ◌≤◌, cond, List, [], ◌∷◌, ◌++◌, eqb, ltb, length, get_or}
use Rattle.octets.specs.Lists.{tab}
use Rattle.slot_sets.specs.Sets.{Slots}
use Rattle.site_plan.specs.declared.plan.Plan.{Plan}
use Rattle.site_plan.specs.Plans.{active, slots}
use Rattle.site_plan.specs.Schedules.{kind_of}
use Rattle.book_members.specs.Members.{Row, vacant_row}
use Rattle.book.specs.Books.{Contents, rows_in}
use Rattle.book_image.specs.Images.{image_book, accepted_image}

-- ---- letters
-- "slots ", " active ", "refused 14"
abbrev pub slots_word : List ℕ
slots_word = 115 ∷ 108 ∷ 111 ∷ 116 ∷ 115 ∷ 32 ∷ []

abbrev pub active_word : List ℕ
active_word = 32 ∷ 97 ∷ 99 ∷ 116 ∷ 105 ∷ 118 ∷ 101 ∷ 32 ∷ []

abbrev pub refused_word : List ℕ
refused_word = 114 ∷ 101 ∷ 102 ∷ 117 ∷ 115 ∷ 101 ∷ 100 ∷ 32 ∷ 49 ∷ 52 ∷ []

abbrev pub newline : ℕ
newline = 10

abbrev pub space : ℕ
space = 32

-- the kinds 0 to 8 as T R B b C c D d and a dot
abbrev pub letters : List ℕ
letters = 84 ∷ 82 ∷ 66 ∷ 98 ∷ 67 ∷ 99 ∷ 68 ∷ 100 ∷ 46 ∷ []

abbrev pub letter : ℕ → ℕ
letter kind = get_or letters kind 0

-- ---- numbers
-- a number below 1,000 in decimal digits
abbrev pub decimal : ℕ → List ℕ
decimal n =
    cond (ltb n 10) ((48 + n) ∷ [])
    (cond (ltb n 100) ((48 + n / 10) ∷ (48 + n % 10) ∷ []) ((48 + n / 100) ∷ (48 + n / 10 % 10) ∷ (48 + n % 10) ∷ []))

-- an upper-case hex digit
abbrev pub hex_digit : ℕ → ℕ
hex_digit n = cond (ltb n 10) (48 + n) (55 + n)

-- an address in four of them
abbrev pub hex : ℕ → List ℕ
hex n = hex_digit (n / 4096) ∷ hex_digit (n / 256 % 16) ∷ hex_digit (n / 16 % 16) ∷ hex_digit (n % 16) ∷ []

-- ---- lines
abbrev pub head_line : Plan → List ℕ
head_line p = slots_word ++ decimal (slots p) ++ active_word ++ decimal (active p) ++ newline ∷ []

-- the kinds of all slots for a row: the manager, in row 0, at hop 0, others at hop 1
abbrev pub drawn : Plan → ℕ → Slots 64 → List ℕ
drawn p row own = tab (slots p) (λ s. letter (kind_of p row (cond (eqb row 0) 0 1) own s))

abbrev pub member_line : Plan → ℕ → Row → List ℕ
member_line p row r = hex r.unit ++ space ∷ drawn p row r.slots ++ newline ∷ []

-- a line per member, in row order, from a row on
abbrev pub member_lines : Plan → ℕ → List Row → List ℕ
member_lines p row [] = []
member_lines p row (r ∷ rs) = cond (vacant_row r) (member_lines p (suc row) rs) (member_line p row r ++ member_lines p (suc row) rs)

-- ---- the whole
-- what is printed of a book
unfoldable pub book_text : Contents → List ℕ
book_text b = head_line b.plan ++ member_lines b.plan 0 (rows_in b)

abbrev pub refused_text : List ℕ
refused_text = refused_word ++ newline ∷ []

-- what slotview prints of an image: its book, restored at any time, or that it is refused
unfoldable pub view_of : List ℕ → List ℕ
view_of s = cond (accepted_image s 0) (book_text (image_book s 0)) refused_text

-- no text is longer than this
abbrev pub ViewFits : Type 0
ViewFits = (s : List ℕ) → length (view_of s) ≤ 2247
