-- What an accepted call leaves: a unit has a row that it may have, with slots that it may have, since now; or its row is free.
-- Assumes nothing.
use Rattle.octets.proofs.Words.{◌≡◌, refl, sym, ap, ◌∙◌, Bool, true, false, not, ◌&&◌, cond, and-eq-true_iff, List, ℕ, ◌<◌, arith, eqb-false, lt-ltb, ltb-true, not-true, eqb, length, set, length-set, get_or-set_same}
use Rattle.octets.proofs.CallLaws.{after-accepted}
use Rattle.octets.proofs.AddressLaws.{address-some}
use Rattle.moments.proofs.MomentLaws.{in_order_self}
use Rattle.slot_sets.specs.Sets.{Slots}
use Rattle.site_plan.proofs.PlanLaws.{kept}
use Rattle.book_members.specs.Members.{Row, empty_row, place_for, vacant, member_with}
use Rattle.book_members.proofs.RowLaws.{row, kept_now}
use Rattle.book_members.proofs.LookupLaws.{found-unit, found-set}
use Rattle.book_members.proofs.RowRuleLaws.{Seat, Share, ruled_taken}
use Rattle.book_members.proofs.SeatLaws.{live-seat, free-seat}
use Rattle.book.specs.Books.{Contents, within_rule, rows_at, live_at, with_row, heard_of, leave_of, holding}
use Rattle.book_joins.specs.Joins.{seat, seated, grant_for, asks, no_row_for, join_in, join_of, ask_in, ask_of, asked_slots}
use Rattle.book_history.specs.Calls.{Call, join, ask, heard, time_of, unit_of, next}
use Rattle.book_history.proofs.CallLaws.{Allowed, joined_slots, member_allowed, join_allowed, ask_allowed}
use Rattle.book.proofs.WithinLaws.{RowsRuled, Within, within, rows_then}
use Rattle.book_history.proofs.WrittenLaws.{rows_at-written, within-written}
use Rattle.book_history.proofs.ShareLaws.{own_share, asks_share, granted_share}

-- ---- the rows that an allowed call finds
module _ {b : Contents} {unit time : ℕ} (a : Allowed b unit time) where
  abbrev rows : List Row
  rows = rows_at b time

  pub whole : Within b
  whole = within b a.book

  pub ruled_rows : RowsRuled b time rows
  ruled_rows = rows_then b whole time

  pub some-unit : unit ≡ 0 → ⊥
  some-unit = address-some unit a.of-unit

  -- a live member may have its own row, with its own slots or with those that it asks for
  module _ (live : live_at b unit time ≡ true) where
    abbrev at : ℕ
    at = place_for unit rows

    there : at < length rows
    there = ltb-true at (length rows) live

    used : (row rows at).unit ≡ 0 → ⊥
    used z = some-unit (sym (found-unit unit rows there) ∙ z)

    own-seat : Seat ruled_rows at unit
    own-seat = live-seat ruled_rows unit some-unit there

    own-slots : Share ruled_rows at (holding b unit time)
    own-slots = own_share whole.few ruled_rows at there used

    asked_slots_lem : (asked : ℕ) → Share ruled_rows at (asks b.plan.data_slots rows (holding b unit time) asked)
    asked_slots_lem asked = asks_share whole.few ruled_rows at there used asked

  -- and who joins what it joins into
  joining : (asked : ℕ) → no_row_for b unit time ≡ false → Seat ruled_rows (seat b unit time) unit × Share ruled_rows (seat b unit time) (seated b unit time asked)
  joining asked = go (live_at b unit time) refl
    where
      go : (t : Bool) → live_at b unit time ≡ t → (not t && eqb (vacant rows) 0) ≡ false
          → Seat ruled_rows (cond t (place_for unit rows) (place_for 0 rows)) unit
          × Share ruled_rows (cond t (place_for unit rows) (place_for 0 rows)) (cond t (holding b unit time) (grant_for b.plan.data_slots rows asked))
      go true live room = (own-seat live, own-slots live)
      go false unknown room =
          let free = eqb-false (vacant rows) 0 room in
          let manager = address-some b.plan.manager (kept b.plan whole.plan).manager in
          (free-seat ruled_rows (omega (arith, free)) unit manager unknown, granted_share whole.few ruled_rows asked (omega (arith, free)))

-- ---- a unit has its row
pub record Taken (b : Contents) (c : Call) (at : ℕ) (own : Slots 64) : Type 0 where
  pub allowed : Allowed b (unit_of c) (time_of c)
  pub place : Seat (ruled_rows allowed) at (unit_of c)
  pub share : Share (ruled_rows allowed) at own
  pub book : next b c ≡ with_row b (time_of c) at (member_with (unit_of c) own (time_of c))

pub heard-taken : (b : Contents) (unit time : ℕ) → (heard_of b unit time).refused ≡ 0 → Taken b (heard unit time) (place_for unit (rows_at b time)) (holding b unit time)
unfolding heard_of
heard-taken b unit time e =
    let (a, live) = member_allowed b unit time (live_at b unit time) e in
    let at = place_for unit (rows_at b time) in
    let own = found-unit unit (rows_at b time) (ltb-true at (length (rows_at b time)) live) in
    record {
      allowed = a;
      place = own-seat a live;
      share = own-slots a live;
      book = after-accepted _ b _ e ∙ ap (λ (u : ℕ). with_row b time at (member_with u (holding b unit time) time)) own;
    }

pub ask-taken : (b : Contents) (s : List ℕ) (time : ℕ) (out : List ℕ) → (ask_of b s time out).refused ≡ 0
    → Taken b (ask s time out) (place_for (ask_in s).node (rows_at b time)) (asked_slots b s time)
unfolding ask_of
ask-taken b s time out e =
    let (a, live, fits) = ask_allowed b s time out e in
    record { allowed = a; place = own-seat a live; share = asked_slots_lem a live (ask_in s).slots; book = after-accepted _ b _ e }

pub join-taken : (b : Contents) (s : List ℕ) (time : ℕ) (out : List ℕ) → (join_of b s time out).refused ≡ 0
    → Taken b (join s time out) (seat b (join_in s).node time) (joined_slots b s time)
unfolding join_of
join-taken b s time out e =
    let (a, room, fits) = join_allowed b s time out e in
    let (place, share) = joining a (join_in s).slots room in
    record { allowed = a; place = place; share = share; book = after-accepted _ b _ e }

module _ {b : Contents} {c : Call} {at : ℕ} {own : Slots 64} (t : Taken b c at own) where
  abbrev unit : ℕ
  unit = unit_of c

  abbrev time : ℕ
  time = time_of c

  -- the rows with this one among them
  abbrev pub rows_taken : List Row
  rows_taken = set (rows_at b time) at (member_with unit own time)

  pub taken_ruled : RowsRuled b time rows_taken
  taken_ruled = ruled_taken (ruled_rows t.allowed) at (whole t.allowed).few (member_with unit own time) t.place t.share t.allowed.of-unit (in_order_self time)

  pub taken-within : within_rule (next b c) ≡ true
  taken-within = ap within_rule t.book ∙ within-written b time at (member_with unit own time) t.place.there (whole t.allowed) taken_ruled

  -- ---- what the unit then has
  pub row-taken : place_for unit rows_taken ≡ at
  row-taken = found-set unit (rows_at b time) at (member_with unit own time) refl t.place.there t.place.first

  now : rows_at (next b c) time ≡ rows_taken
  now = ap (λ (new : Contents). rows_at new time) t.book ∙ rows_at-written b time at (member_with unit own time) t.place.there (kept_now time (member_with unit own time) refl)

  pub taken-row : place_for unit (rows_at (next b c) time) ≡ at
  taken-row = ap (place_for unit) now ∙ row-taken

  pub taken_live : live_at (next b c) unit time ≡ true
  taken_live =
      rw now (lt-ltb (place_for unit rows_taken) (length rows_taken) (omega (arith, row-taken, length-set (rows_at b time) at (member_with unit own time), t.place.there)))

  pub taken-holding : holding (next b c) unit time ≡ own
  taken-holding =
      ap (λ (rs : List Row). (row rs (place_for unit rs)).slots) now
      ∙ (ap (λ (i : ℕ). (row rows_taken i).slots) row-taken
      ∙ ap (λ (r : Row). r.slots) (get_or-set_same (rows_at b time) at (member_with unit own time) empty_row t.place.there))

-- ---- a unit's row is free
pub record Freed (b : Contents) (unit time : ℕ) : Type 0 where
  pub allowed : Allowed b unit time
  pub place : Seat (ruled_rows allowed) (place_for unit (rows_at b time)) unit
  pub other : unit ≡ b.plan.manager → ⊥
  pub book : (leave_of b unit time).book ≡ with_row b time (place_for unit (rows_at b time)) empty_row

pub leave_freed : (b : Contents) (unit time : ℕ) → (leave_of b unit time).refused ≡ 0 → Freed b unit time
unfolding leave_of
leave_freed b unit time e =
    let other = not (eqb unit b.plan.manager) in
    let (a, leaves) = member_allowed b unit time (live_at b unit time && other) e in
    let (live, out) = (and-eq-true_iff (live_at b unit time) other).0 leaves in
    record { allowed = a; place = own-seat a live; other = eqb-false unit b.plan.manager (not-true _ out); book = after-accepted _ b _ e }
