-- What a book has for a unit at a time, by the unit's row: the same where the holding is the same, what the row says as long as it counts, nothing else.
-- Assumes nothing.
use Rattle.octets.proofs.Words.{◌≡◌, refl, sym, ap, ◌∙◌, Bool, true, false, not, ◌||◌, cond, [], inl, inr, ℕ, ◌+◌, ◌≤◌, arith, eq-eqb, ne_eqb, le-leb, lt-leb, leb-true, leb-false, ltb-true, eqb, leb, length}
use Rattle.moments.specs.Moments.{age_at, in_order}
use Rattle.moments.proofs.MomentLaws.{ages_add}
use Rattle.book_members.specs.Members.{Row, place_for}
use Rattle.book_members.specs.Rules.{row_rule}
use Rattle.book_members.proofs.RowLaws.{row, Timed, still}
use Rattle.book_members.proofs.RowSums.{weigh_current, one, tally, of_unit}
use Rattle.book_members.proofs.LookupLaws.{found_tally, found-unit}
use Rattle.book_members.proofs.PairLaws.{led_first}
use Rattle.book_members.proofs.RowRuleLaws.{units-least}
use Rattle.book_members.proofs.TimedLaws.{timed_rows}
use Rattle.book.specs.Books.{Contents, within_rule, rows_in, rows_at, live_at, holding}
use Rattle.book.proofs.WithinLaws.{within}
use Rattle.book_joins.specs.Responses.{slots_told}
use Rattle.book_history.specs.Laws.{SameHolding}
use Rattle.book_history.proofs.SilenceLaws.{lasts, live-lasts, row-lasts, slots-last}
use Rattle.book_history.specs.Histories.{Grant, grant, counts}
use Rattle.book_history.specs.BookLaws.{slots_at}

-- the same in two books where it holds the same
pub same-slots : {b b' : Contents} {time time' unit : ℕ} → b'.plan ≡ b.plan → SameHolding b time b' time' unit → slots_at b' unit time' ≡ slots_at b unit time
same-slots p h = λ i. cond (h.live i) (slots_told (p i) (h.row i) (h.slots i)) []

-- nothing where it is no live member
pub no_slots_lem : (b : Contents) (unit time : ℕ) → live_at b unit time ≡ false → slots_at b unit time ≡ []
no_slots_lem b unit time e = ap (λ (live : Bool). cond live (slots_told b.plan (place_for unit (rows_at b time)) (holding b unit time)) []) e

-- two tests by sums that are one
same_test : (a b c d : ℕ) → a + d ≡ c + b → leb a b ≡ leb c d
same_test a b c d e = go (leb a b) refl
  where
    go : (t : Bool) → leb a b ≡ t → t ≡ leb c d
    go true q = sym (le-leb c d (omega (arith, e, leb-true a b q)))
    go false q = sym (lt-leb c d (omega (arith, e, leb-false a b q)))

-- where it has a row: what the row says, as long as it counts
module _ (b : Contents) (w : within_rule b ≡ true) (unit : ℕ) (some : unit ≡ 0 → ⊥) (at : ℕ) (own : (row (rows_in b) at).unit ≡ unit) (later : ℕ) where
  abbrev said : ℕ → Grant
  said now = grant (slots_told b.plan at (row (rows_in b) at).slots) now

  pub row-slots : slots_at b unit later ≡ cond (lasts b w unit some at own later) (slots_told b.plan at (row (rows_in b) at).slots) []
  row-slots = go (lasts b w unit some at own later) refl
    where
      live : live_at b unit later ≡ lasts b w unit some at own later
      live = live-lasts b w unit some at own later

      go : (t : Bool) → lasts b w unit some at own later ≡ t → slots_at b unit later ≡ cond (lasts b w unit some at own later) (said 0).told []
      go true e =
          let place = row-lasts b w unit some at own later e in
          let slots = slots-last b w unit some at own later e in
          λ i. cond (live i) (slots_told b.plan (place i) (slots i)) []
      go false e = no_slots_lem b unit later (live ∙ e) ∙ sym (ap (λ (t : Bool). cond t (said 0).told []) e)

  -- where the row is of the book's last accepted time
  pub row_counts : (row (rows_in b) at).time ≡ b.time → (now : ℕ) → slots_at b unit later ≡ counts b.plan unit (now + age_at later b.time) (said now)
  row_counts e now =
      let age : age_at later (row (rows_in b) at).time ≡ age_at later b.time = ap (age_at later) e in
      row-slots ∙ ap (λ (t : Bool). cond (eqb unit b.plan.manager || t) (said 0).told [])
      (same_test (age_at later (row (rows_in b) at).time) _ (now + age_at later b.time) _ (omega (arith, age)))

-- a unit but the manager that is live is so for at most 300,000 ms after the last accepted time
pub live_soon : (b : Contents) → within_rule b ≡ true → (unit : ℕ) → (unit ≡ 0 → ⊥) → (unit ≡ b.plan.manager → ⊥) → (later : ℕ) → in_order b.time later ≡ true
    → live_at b unit later ≡ true → age_at later b.time ≤ 300000
live_soon b w unit some other later o e =
    let then = rows_at b later in
    let i = place_for unit then in
    let mine = found-unit unit then (ltb-true i (length then) e) in
    let own : (row (rows_in b) i).unit ≡ unit = ap (λ (r : Row). r.unit) (sym (still later (rows_in b) i (λ z. some (sym mine ∙ z)))) ∙ mine in
    let lives : lasts b w unit some i own later ≡ true = sym (live-lasts b w unit some i own later) ∙ e in
    let young : leb (age_at later (row (rows_in b) i).time) 300000 ≡ true = rw (ne_eqb unit b.plan.manager other) at lives in
    by_row (timed_rows (within b w).rows i (λ z. other (sym own ∙ (ap (λ (k : ℕ). (row (rows_in b) k).unit) z ∙ led_first b.plan.manager (rows_in b) (within b w).rows.led))))
    own (leb-true (age_at later (row (rows_in b) i).time) 300000 young)
  where
    by_row : {r : Row} → Timed b.time r → r.unit ≡ unit → age_at later r.time ≤ 300000 → age_at later b.time ≤ 300000
    by_row (inl z) own young = absurd (some (sym own ∙ ap (λ (x : Row). x.unit) z))
    by_row {r} (inr p) own young = omega (arith, ages_add r.time b.time later p o)

-- where no row is its own, nothing
pub none-counts : (b : Contents) → within_rule b ≡ true → (unit : ℕ) → (unit ≡ 0 → ⊥) → tally (of_unit unit) (rows_in b) ≡ 0 → (later : ℕ) → slots_at b unit later ≡ []
none-counts b w unit some none later =
    let fewer =
    weigh_current (one (of_unit unit)) (row_rule b.plan.data_slots) (λ r e. omega (arith, units-least unit some)) later (rows_in b) (within b w).rows.each in
    let gone : tally (of_unit unit) (rows_at b later) ≡ 0 = omega (arith, none, fewer) in
    no_slots_lem b unit later (found_tally unit (rows_at b later) ∙ ap not (eq-eqb (tally (of_unit unit) (rows_at b later)) 0 gone))
