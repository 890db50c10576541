-- Members and time: the row and the slots of one that is live stay, and how long it is live.
-- Assumes nothing.
use Rattle.octets.proofs.Words.{◌≡◌, refl, sym, ap, ◌∙◌, Bool, true, false, ◌||◌, false≢true, List, ℕ, ◌<◌, ℕ_discrete, arith, eq-eqb, ne_eqb, ltb-true, lt-ltb, le-ltb, eqb, leb, ltb, length, get_or-set_same}
use Rattle.octets.proofs.AddressLaws.{address-some}
use Rattle.moments.specs.Moments.{age_at}
use Rattle.slot_sets.specs.Sets.{Slots}
use Rattle.site_plan.specs.declared.plan.Plan.{Plan}
use Rattle.book_members.specs.Members.{Row, empty_row, current, place_for, member_with}
use Rattle.book_members.proofs.RowLaws.{row, length-current, first_stays, others-kept, still, live-before}
use Rattle.book_members.proofs.PairLaws.{led_first}
use Rattle.book_members.proofs.LookupLaws.{found-unit, found-there, found_is}
use Rattle.book_members.proofs.RowRuleLaws.{ruled_current}
use Rattle.book_members.proofs.TimedLaws.{timed_rows}
use Rattle.book.specs.Books.{Contents, within_rule, rows_in, rows_at, live_at, holding}
use Rattle.book_history.specs.Calls.{Call, join, ask, heard, leave, schedule, image, next, unit_of, time_of}
use Rattle.book_history.specs.Laws.{StaysWhileLive, LiveFor}
use Rattle.book.proofs.WithinLaws.{within}
use Rattle.book_history.proofs.WrittenLaws.{rows_written}
use Rattle.book_history.proofs.TakingLaws.{some-unit, Taken, join-taken, ask-taken, heard-taken, taken-within}
use Rattle.book_history.proofs.RuleLaws.{keeps_plan}
use Rattle.book_history.proofs.HoldingLaws.{same-holding}

-- ---- while a member is live
pub stays_while_live : StaysWhileLive
stays_while_live b unit time later w a p o l e =
    let rs = rows_in b in
    let some = address-some unit a in
    let i = place_for unit (current later rs) in
    let own = found-unit unit (current later rs) (ltb-true _ _ e) in
    let same = live-before b.time time later (record { one = p; two = o; both = l }) rs (timed_rows (within b w).rows) i (λ z. some (sym own ∙ z)) in
    let place = found_is unit some (current time rs) i (ap (λ (r : Row). r.unit) same ∙ own) ((ruled_current time (within b w).rows).units unit some) in
    same-holding b time b later unit (length-current later rs ∙ sym (length-current time rs)) (sym place) (rw place (sym same))

-- ---- how long
-- a unit that has a row, at any time: it is live as the manager, or up to 300,000 ms after the row's time
module _ (b : Contents) (w : within_rule b ≡ true) (unit : ℕ) (some : unit ≡ 0 → ⊥) (at : ℕ) (own : (row (rows_in b) at).unit ≡ unit) (later : ℕ) where
  abbrev rows : List Row
  rows = rows_in b

  abbrev then : List Row
  then = rows_at b later

  abbrev pub lasts : Bool
  lasts = eqb unit b.plan.manager || leb (age_at later (row rows at).time) 300000

  -- it has no other row
  alone : (i : ℕ) → (row rows i).unit ≡ unit → i ≡ at
  alone i e = let one-row = (within b w).rows.units unit some in sym (found_is unit some rows i e one-row) ∙ found_is unit some rows at own one-row

  led : (row rows 0).unit ≡ b.plan.manager
  led = led_first b.plan.manager rows (within b w).rows.led

  stays : lasts ≡ true → row then at ≡ row rows at
  stays = go (ℕ_discrete at 0)
    where
      go : Dec (at ≡ 0) → lasts ≡ true → row then at ≡ row rows at
      go (yes z) e = ap (row then) z ∙ (first_stays later rows ∙ ap (row rows) (sym z))
      go (no z) e =
          let other = ne_eqb unit b.plan.manager (λ m. z (sym (alone 0 (led ∙ sym m)))) in
          let kept_then : leb (age_at later (row rows at).time) 300000 ≡ true = rw other at e in
          others-kept later rows at z ∙ rw kept_then

  goes : lasts ≡ false → row then at ≡ empty_row
  goes = go (ℕ_discrete at 0)
    where
      go : Dec (at ≡ 0) → lasts ≡ false → row then at ≡ empty_row
      go (yes z) e =
          let same = eq-eqb unit b.plan.manager (sym own ∙ (ap (λ (i : ℕ). (row rows i).unit) z ∙ led)) in
          absurd (false≢true (sym (rw same at e)))
      go (no z) e =
          let other = ne_eqb unit b.plan.manager (λ m. z (sym (alone 0 (led ∙ sym m)))) in
          let silent : leb (age_at later (row rows at).time) 300000 ≡ false = rw other at e in
          others-kept later rows at z ∙ rw silent

  pub live-lasts : live_at b unit later ≡ lasts
  live-lasts = go lasts refl
    where
      go : (live : Bool) → lasts ≡ live → ltb (place_for unit then) (length then) ≡ live
      go true e = lt-ltb (place_for unit then) (length then) (found-there unit some then at (ap (λ (r : Row). r.unit) (stays e) ∙ own))
      go false e = le-ltb (place_for unit then) (length then) (omega (arith, silent))
        where
          silent : place_for unit then < length then → ⊥
          silent h =
              let i = place_for unit then in
              let mine = found-unit unit then h in
              let before = ap (λ (r : Row). r.unit) (sym (still later rows i (λ z. some (sym mine ∙ z)))) ∙ mine in
              some (sym mine ∙ (ap (λ (k : ℕ). (row then k).unit) (alone i before) ∙ ap (λ (r : Row). r.unit) (goes e)))

  module _ (e : lasts ≡ true) where
    pub row-lasts : place_for unit then ≡ at
    row-lasts = found_is unit some then at (ap (λ (r : Row). r.unit) (stays e) ∙ own) ((ruled_current later (within b w).rows).units unit some)

    pub slots-last : holding b unit later ≡ (row rows at).slots
    slots-last = ap (λ (i : ℕ). (row then i).slots) row-lasts ∙ ap (λ (r : Row). r.slots) (stays e)

-- the row that a call writes
module _ {b : Contents} {c : Call} {at : ℕ} {slots : Slots 64} (t : Taken b c at slots) where
  pub row_written : row (rows_in (next b c)) at ≡ member_with (unit_of c) slots (time_of c)
  row_written =
      ap (λ (new : Contents). row (rows_in new) at) t.book
      ∙ (ap (λ (rs : List Row). row rs at) (rows_written b (time_of c) at (member_with (unit_of c) slots (time_of c)) t.place.there)
      ∙ get_or-set_same (rows_at b (time_of c)) at (member_with (unit_of c) slots (time_of c)) empty_row t.place.there)

  live-taken : (later : ℕ) → (unit_of c ≡ b.plan.manager → ⊥) → live_at (next b c) (unit_of c) later ≡ leb (age_at later (time_of c)) 300000
  live-taken later other =
      let manager = ne_eqb (unit_of c) (next b c).plan.manager (λ e. other (e ∙ ap (λ (p : Plan). p.manager) (keeps_plan b c).0)) in
      live-lasts (next b c) (taken-within t) (unit_of c) (some-unit t.allowed) at (ap (λ (r : Row). r.unit) row_written) later
      ∙ rw (manager, row_written)

pub live_for : LiveFor
live_for b (join s time out) later z r n = live-taken (join-taken b s time out z) later n
live_for b (ask s time out) later z r n = live-taken (ask-taken b s time out z) later n
live_for b (heard unit time) later z r n = live-taken (heard-taken b unit time z) later n
live_for b (leave unit time) later z r n = absurd (false≢true r)
live_for b (schedule unit hop time out) later z r n = absurd (false≢true r)
live_for b (image time out) later z r n = absurd (false≢true r)
