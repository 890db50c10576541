-- The calls on a member, from what the rows say.
-- Assumes nothing.
use Rattle.std.proofs.Common.{Some, None}
use Rattle.std.proofs.lemmas.List.{take-map}
use Rattle.octets.proofs.Words.{◌≡◌, refl, sym, ap, ◌∙◌, Bool, not, true, false, List, [], ◌∷◌, map, ℕ, zero, suc, ◌<◌, arith, lt-ltb, le-ltb, not-false, length, get_or, take, set, length-map, length-take, get_or-take, get_or-map}
use Rattle.slot_sets.specs.Sets.{Slots}
use Rattle.slot_sets.proofs.MaskLaws.{mask-nothing}
use Rattle.book_members.specs.declared.member.Member.{Member}
use Rattle.book_members.specs.Members.{Row, row_of, member_with, rows_of, empty_row, heard_at, kept, current, place_for, placed}
use Rattle.book_members.proofs.LookupLaws.{placed-there, placed-nowhere}
use Rattle.book_members.proofs.RowLoopLaws.{nobody, row_written}
use Rattle.book.specs.declared.book.Book.{Book}
use Rattle.octets.specs.Answers.{Reason, reason, first}
use Rattle.octets.proofs.AnswerLaws.{none-holds}
use Rattle.octets.specs.Addresses.{address}
use Rattle.moments.specs.Moments.{in_order}
use Rattle.book.specs.Books.{Contents, within_rule, contents, rows_at, live_at, own_row, with_row}

-- the reasons of a call on a member that is found or not, whichever that is for the call
abbrev pub member_reasons : Contents → ℕ → ℕ → Bool → List Reason
member_reasons b unit time found =
    reason (not (within_rule b)) 14 ∷ reason (not (address unit)) 4 ∷ reason (not (in_order b.time time)) 8 ∷ reason (not found) 13 ∷ []

-- an accepted call finds the member that it wants
found-true : (b : Contents) (unit time n : ℕ) (found : Bool) → n ≡ first (member_reasons b unit time found) → n ≡ 0 → found ≡ true
found-true b unit time n found q z =
    let none =
    none-holds (member_reasons b unit time found) _ (sym q ∙ z) in
    not-false found none.1.1.1.0

-- the rows that a plan uses at a time are among its places then
pub take-current : (time n : ℕ) (places : List Row) → take n (current time places) ≡ current time (take n places)
unfolding current
take-current time zero places = refl
take-current time (suc n) [] = refl
take-current time (suc n) (r ∷ rs) = ap (λ (l : List Row). r ∷ l) (take-map (kept time) n rs)

-- a book, and its places at a time; what the code has of those that the plan uses
module _ (b : Book) (unit time : ℕ) (now used : List Member) (e : rows_of now ≡ current time (rows_of b.rows)) (u : rows_of used ≡ take b.plan.rows (rows_of now)) where
  pub rows_now : rows_of used ≡ rows_at (contents b) time
  rows_now = u ∙ (ap (take b.plan.rows) e ∙ take-current time b.plan.rows (rows_of b.rows))

  length-rows : length (rows_of used) ≡ length used
  unfolding rows_of
  length-rows = length-map used row_of

  pub gone : placed unit (rows_of used) ≡ None → live_at (contents b) unit time ≡ false
  gone p = le-ltb _ _ (placed-nowhere unit (rows_at (contents b) time) (sym (ap (placed unit) rows_now) ∙ p))

  module _ (at : ℕ) (p : placed unit (rows_of used) ≡ Some at) where
    here : (place_for unit (rows_at (contents b) time) ≡ at) × (at < length (rows_at (contents b) time))
    here = placed-there unit (rows_at (contents b) time) at (sym (ap (placed unit) rows_now) ∙ p)

    pub live : live_at (contents b) unit time ≡ true
    live = lt-ltb _ _ (omega (arith, here.0, here.1))

    pub place : at ≡ place_for unit (rows_at (contents b) time)
    place = sym here.0

    pub within : at < length used
    within = omega (arith, here.1, ap length rows_now, length-rows)

    -- its row is that of its place
    pub row_there : row_of (get_or now at nobody) ≡ own_row (contents b) unit time
    unfolding rows_of
    row_there =
        let below : at < b.plan.rows = omega (arith, within, length-rows, ap length u, length-take b.plan.rows (map row_of now)) in
        sym (get_or-map row_of now at nobody) ∙
        (ap (λ (s : Slots 64). get_or (map row_of now) at (member_with 0 s 0)) mask-nothing ∙
        (sym (get_or-take b.plan.rows (map row_of now) at empty_row below) ∙
        (ap (λ (rs : List Row). get_or rs at empty_row) (sym u ∙ rows_now) ∙ ap (λ (k : ℕ). get_or (rows_at (contents b) time) k empty_row) place)))

    -- the book with one row written, as the code leaves it
    written : (m : Member) (r : Row) → row_of m ≡ r
        → record { plan = b.plan; time = time; places = rows_of (set now at m) } ≡ with_row (contents b) time (place_for unit (rows_at (contents b) time)) r
    written m r q = rw (row_written now at m, e, place, q)

    pub heards : record { plan = b.plan; time = time; places = rows_of (set now at (record { slots = (get_or now at nobody).slots; time = time; unit = (get_or now at nobody).unit })) }
        ≡ with_row (contents b) time (place_for unit (rows_at (contents b) time)) (heard_at time (own_row (contents b) unit time))
    heards = written _ _ (ap (heard_at time) row_there)

    pub leaves : record { plan = b.plan; time = time; places = rows_of (set now at nobody) } ≡ with_row (contents b) time (place_for unit (rows_at (contents b) time)) empty_row
    leaves = written nobody empty_row (ap (λ (s : Slots 64). member_with 0 s 0) mask-nothing)
