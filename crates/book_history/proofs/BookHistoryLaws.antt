-- The theorems on books that follow from each book of a history being within rule, joining, counting, sending; and that their elapsed time is true time.
-- Assumes nothing.
use Rattle.octets.proofs.Words.{◌≡◌, refl, sym, ap, ◌∙◌, Bool, true, false, not, cond, and-eq-true_iff, List, [], ◌∷◌, map, ℕ, ◌+◌, ◌≤◌, min, arith, ne_eqb, le-leb, leb-true, ltb-true, leb, length, drop}
use Rattle.moments.specs.Moments.{in_order}
use Rattle.moments.proofs.ElapsedLaws as elapsed
use Rattle.octets.specs.Addresses.{address}
use Rattle.octets.proofs.AddressLaws.{address-some}
use Rattle.slot_sets.specs.Sets.{Slots, count, no_slots}
use Rattle.book_members.specs.Members.{Row, vacant_row, place_for, free}
use Rattle.book_members.proofs.LookupLaws.{found-unit}
use Rattle.book_members.proofs.RowSums.{weigh, one, tally, every-many}
use Rattle.book_members.proofs.RowRuleLaws.{no_count, ruled_current}
use Rattle.book.specs.Books.{Contents, rows_at, live_at, own_row, holding}
use Rattle.book.proofs.WithinLaws.{RowsRuled, within}
use Rattle.book_joins.specs.Responses.{slots_told}
use Rattle.book_joins.proofs.ResponseLaws.{slots-told}
use Rattle.book_history.proofs.JoinLaws.{refused_if_full, granted_else}
use Rattle.book_history.proofs.CountingLaws.{held-sum, all_accounted}
use Rattle.book_history.proofs.SendingLaws.{one_sender_in_book, one_hop_in_book}
use Rattle.book_history.specs.Histories.{Start, begun, recorded, step_of, granted_at, last_address, sum_to, units_granted}
use Rattle.book_history.specs.Calls.{Call}
use Rattle.book_history.specs.BookLaws.{book_after, JoinsExactly, FullByAnswers, slots_at, AlwaysD, OneSender, TrueTime}
use Rattle.book_history.proofs.BookRuleLaws.{stays_within_rule, rows-many}
use Rattle.book_history.proofs.SlotsAtLaws.{no_slots_lem}
use Rattle.book_history.proofs.KnownLaws.{live-slots, answers_tell}
use Rattle.book_history.proofs.UnitSums.{sum_same, mine, units-sum, held_by_lem}

-- ---- joining
pub joins-exactly : JoinsExactly
joins-exactly start cs s time out z n =
    let b = book_after start cs in
    let w = stays_within_rule start cs z in
    (refused_if_full b s time out w n, λ room fits. granted_else b s time out w n room fits)

-- ---- sending
pub one_sender : OneSender
one_sender start cs time unit unit' hop hop' out out' z e e' n s =
    let b = book_after start cs in
    (one_sender_in_book b time unit unit' hop hop' out out' e e' n s, one_hop_in_book b time unit unit' hop hop' out out' e e' s)

-- ---- counting
-- what a unit's slots count for, by a weight of its row, sums up over all units to what the rows weigh, if a free row weighs nothing
module _ (start : Start) (cs : List Call) (time : ℕ) (z : (begun start).refused ≡ 0) (o : in_order (book_after start cs).time time ≡ true)
    (value : List ℕ → ℕ) (weight : Row → ℕ) (free-row : (r : Row) → vacant_row r ≡ true → r.slots ≡ no_slots → weight r ≡ 0) where
  abbrev b : Contents
  b = book_after start cs

  abbrev rows : List Row
  rows = rows_at b time

  ruled : RowsRuled b b.time rows
  ruled = ruled_current time (within b (stays_within_rule start cs z)).rows

  module _ (of_row : (unit : ℕ) → (unit ≡ 0 → ⊥) → value (slots_at b unit time) ≡ cond (live_at b unit time) (weight (own_row b unit time)) 0) where
    -- up to the last address
    granted-all : (n : ℕ) → n ≡ last_address → sum_to (λ u. value (granted_at start cs u time)) n ≡ weigh weight rows
    granted-all n e =
        sum_same (λ u. value (granted_at start cs u time)) (λ u. weigh (mine weight u) rows) n each
        ∙ units-sum weight b.plan.data_slots n most free-row rows ruled.each
      where
        most : (u : ℕ) → address u ≡ true → u ≤ n
        most u a = omega (arith, e, leb-true u 0xFFFE ((and-eq-true_iff (leb 1 u) (leb u 0xFFFE)).0 a).1)

        each : (u : ℕ) → 1 ≤ u → u ≤ n → value (granted_at start cs u time) ≡ weigh (mine weight u) rows
        each u l m =
            let a = (and-eq-true_iff (leb 1 u) (leb u 0xFFFE)).1 (le-leb 1 u l, le-leb u 0xFFFE (omega (arith, m, e))) in
            let some = address-some u a in
            sym (ap value (answers_tell start cs u time z a o)) ∙ (of_row u some ∙ sym (held_by_lem weight u rows (ruled.units u some)))

-- the data slots that a book has for a unit are those of its row
data_slots : (b : Contents) (unit time : ℕ) → length (drop 1 (slots_at b unit time)) ≡ cond (live_at b unit time) (count (holding b unit time)) 0
data_slots b unit time = go (live_at b unit time)
  where
    told : Slots 64 → List ℕ
    told = slots_told b.plan (place_for unit (rows_at b time))

    go : (t : Bool) → length (drop 1 (cond t (told (holding b unit time)) [])) ≡ cond t (count (holding b unit time)) 0
    go true = slots-told b.plan (place_for unit (rows_at b time)) (holding b unit time)
    go false = refl

pub always_d : AlwaysD
always_d start cs time z o =
    let b = book_after start cs in
    let all = granted-all start cs time z o (λ slots. length (drop 1 slots)) (λ r. count r.slots) (λ r t none. ap count none ∙ no_count) (λ unit some. data_slots b unit time) last_address refl in
    ap (λ (k : ℕ). count (free b.plan.data_slots (rows_at b time)) + k)
    (all ∙ sym (held-sum (rows_at b time)))
    ∙ all_accounted b time (stays_within_rule start cs z)

-- ---- joining, by the answers
abbrev used : Row → Bool
used r = not (vacant_row r)

-- a book has something for a unit exactly if the unit has a row, which is in use
some-slots : (b : Contents) (unit time : ℕ) → (unit ≡ 0 → ⊥) → min 1 (length (slots_at b unit time)) ≡ cond (live_at b unit time) (one used (own_row b unit time)) 0
some-slots b unit time some = go (live_at b unit time) refl
  where
    many : (x : ℕ) (l slots : List ℕ) → x ∷ l ≡ slots → min 1 (length slots) ≡ 1
    many x l slots e = ap (λ (s : List ℕ). min 1 (length s)) (sym e) ∙ omega arith

    in_use_lem : live_at b unit time ≡ true → one used (own_row b unit time) ≡ 1
    in_use_lem e =
        let own = found-unit unit (rows_at b time) (ltb-true (place_for unit (rows_at b time)) (length (rows_at b time)) e) in
        rw (own, ne_eqb unit 0 some)

    go : (t : Bool) → live_at b unit time ≡ t → min 1 (length (slots_at b unit time)) ≡ cond t (one used (own_row b unit time)) 0
    go true e = let (x, (l, q)) = live-slots b unit time e in many x l (slots_at b unit time) q ∙ sym (in_use_lem e)
    go false e = ap (λ (s : List ℕ). min 1 (length s)) (no_slots_lem b unit time e)

units_used : (start : Start) (cs : List Call) (time : ℕ) → (begun start).refused ≡ 0 → in_order (book_after start cs).time time ≡ true
    → units_granted (λ unit. granted_at start cs unit time) ≡ tally used (rows_at (book_after start cs) time)
units_used start cs time z o =
    granted-all start cs time z o (λ slots. min 1 (length slots)) (one used) (λ r t none. rw t) (λ unit some. some-slots (book_after start cs) unit time some) last_address refl

pub full_by_answers : FullByAnswers
full_by_answers start cs time z o =
    every-many used (rows_at (book_after start cs) time) _ _ (units_used start cs time z o) (omega (arith, rows-many start cs time z))

-- ---- true time
pub true-time : TrueTime
true-time start cs began nows = let b = (begun start).book in elapsed.true-time began b.time (map step_of (recorded b cs)) nows
