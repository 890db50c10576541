-- Who holds what: no slot is held by two, a call changes no other unit's holding, and a live member that calls again keeps its own.
-- Assumes nothing.
use Rattle.octets.proofs.Words.{◌≡◌, refl, sym, ap, ◌∙◌, true, false≢true, List, ℕ, zero, suc, ◌<◌, ℕ_discrete, arith, length, length-set, get_or-set_other}
use Rattle.moments.specs.Moments.{in_order}
use Rattle.octets.specs.Addresses.{address}
use Rattle.octets.proofs.AddressLaws.{address-some}
use Rattle.slot_sets.specs.Sets.{Slots, Apart}
use Rattle.slot_sets.proofs.SetLaws.{nothing-has, disjoint_is_apart}
use Rattle.book_members.specs.Members.{Row, empty_row, place_for}
use Rattle.book_members.proofs.RowLaws.{row, Steps, kept_either, kept-later, kept_at, length-current, live-before}
use Rattle.book_members.proofs.RowSums.{owns, passes_there, only_one}
use Rattle.book_members.proofs.LookupLaws.{found-unit, found-other, found-same}
use Rattle.book_members.proofs.RowRuleLaws.{Seat, ruled_current}
use Rattle.book_members.proofs.TimedLaws.{timed_rows}
use Rattle.book.specs.Books.{Contents, rows_in, rows_at, live_at, with_row, holding}
use Rattle.book_joins.specs.Joins.{ask_in, ask_of}
use Rattle.book_history.specs.Calls.{Call, join, ask, heard, leave, schedule, image, refusal_of, next, unit_of, time_of}
use Rattle.book_history.specs.Laws.{SameHolding, OthersStay, repeats, KeepsOwn, HoldApart}
use Rattle.book_history.proofs.CallLaws.{Allowed}
use Rattle.book.proofs.WithinLaws.{within}
use Rattle.book_history.proofs.WrittenLaws.{rows-later}
use Rattle.book_history.proofs.TakingLaws.{ruled_rows, Taken, join-taken, ask-taken, heard-taken, taken-row, taken_live, taken-holding, leave_freed}
use Rattle.book_history.proofs.RuleLaws.{refused_keeps}

-- ---- no slot is held by two
pub hold_apart : HoldApart
hold_apart b time unit unit' w n = (disjoint_is_apart 64 _ _).1 together
  where
    together : Apart (holding b unit time) (holding b unit' time)
    together s p q =
        let rs = rows_at b time in
        let at_most_one = (ruled_current time (within b w).rows).owners s in
        let there = passes_there (owns s) (nothing-has 64 s) rs (place_for unit rs) p in
        n (found-same rs unit unit' there (only_one (owns s) (nothing-has 64 s) rs at_most_one (place_for unit rs) (place_for unit' rs) p q))

-- ---- the same holding
-- a unit has the same where it is found at the same place, in rows as many, with the same row there
module _ (b : Contents) (time : ℕ) (b' : Contents) (time' : ℕ) (unit : ℕ) where
  abbrev now : List Row
  now = rows_at b time

  abbrev then : List Row
  then = rows_at b' time'

  pub same-holding : length then ≡ length now → place_for unit then ≡ place_for unit now → row then (place_for unit now) ≡ row now (place_for unit now) → SameHolding b time b' time' unit
  same-holding l p r = record { live = rw (l, p); row = p; slots = ap (λ (i : ℕ). (row then i).slots) p ∙ ap (λ (r : Row). r.slots) r }

same_self : {b : Contents} {time unit : ℕ} → SameHolding b time b time unit
same_self = record { live = refl; row = refl; slots = refl }

-- what holds of the book as it was, and of the next where the call is accepted, holds of the next
pub by-refusal : (P : Contents → Type 0) (b : Contents) (c : Call) → P b → (refusal_of b c ≡ 0 → P (next b c)) → P (next b c)
by-refusal P b c old new = go (ℕ_discrete (refusal_of b c) 0)
  where
    go : Dec (refusal_of b c ≡ 0) → P (next b c)
    go (yes z) = new z
    go (no z) = rw (refused_keeps b c z) old

same_or : (b : Contents) (c : Call) (unit time : ℕ) → (refusal_of b c ≡ 0 → SameHolding b time (next b c) time unit) → SameHolding b time (next b c) time unit
same_or b c unit time = by-refusal (λ new. SameHolding b time new time unit) b c same_self

-- ---- calls about others
module _ (unit : ℕ) (is_Address : address unit ≡ true) (later : ℕ) where
  some : unit ≡ 0 → ⊥
  some = address-some unit is_Address

  -- a row that is not the unit's is not then
  still_other : (at : ℕ) (r : Row) → (r.unit ≡ unit → ⊥) → (kept_at later at r).unit ≡ unit → ⊥
  still_other zero r new = new
  still_other (suc at) r new = kept_either (λ k. k.unit ≡ unit → ⊥) later r (λ e. new) (λ e. some (sym e))

  -- a row written at another's place, or at a free one
  other-written : {b : Contents} {caller time at : ℕ} (a : Allowed b caller time) → Seat (ruled_rows a) at caller → (unit ≡ caller → ⊥)
      → in_order b.time later ≡ true → in_order time later ≡ true → (r : Row) → (r.unit ≡ unit → ⊥)
      → SameHolding b later (with_row b time at r) later unit
  other-written {b} {caller} {time} {at} a p n both o r new =
      let steps : Steps b.time time later = record { one = a.order; two = o; both = both } in
      let timed = timed_rows (within b a.book).rows in
      let rs = rows_at b later in
      let before : (row rs at).unit ≡ unit → (row (rows_at b time) at).unit ≡ unit =
      λ e. ap (λ (r : Row). r.unit) (live-before b.time time later steps (rows_in b) timed at (λ z. some (sym e ∙ z))) ∙ e in
      let old : (row rs at).unit ≡ unit → ⊥ = λ e. n (sym (before e) ∙ p.own (λ z. some (sym (before e) ∙ z))) in
      let there : at < length rs = omega (arith, p.there, length-current time (rows_in b), length-current later (rows_in b)) in
      let elsewhere : place_for unit rs ≡ at → ⊥ = λ e. old (rw e at (found-unit unit rs (rw e there))) in
      let rows = rows-later b time at r p.there later (λ i z. kept-later b.time time later steps (row (rows_in b) i) (timed i z)) in
      let written = kept_at later at r in
      same-holding b later (with_row b time at r) later unit
      (ap length rows ∙ length-set rs at written)
      (ap (place_for unit) rows ∙ found-other unit rs at written old (still_other at r new))
      (ap (λ (l : List Row). row l (place_for unit rs)) rows ∙ get_or-set_other rs at (place_for unit rs) written empty_row elsewhere)

  other-taken : {b : Contents} {c : Call} {at : ℕ} {own : Slots 64} → (unit ≡ unit_of c → ⊥) → in_order b.time later ≡ true → in_order (time_of c) later ≡ true
      → Taken b c at own → SameHolding b later (next b c) later unit
  other-taken n l o t = rw t.book (other-written t.allowed t.place n l o _ (λ e. n (sym e)))

  other-accepted : (b : Contents) (c : Call) → (unit ≡ unit_of c → ⊥) → in_order b.time later ≡ true → in_order (time_of c) later ≡ true → refusal_of b c ≡ 0
      → SameHolding b later (next b c) later unit
  other-accepted b (join s time out) n l o z = other-taken n l o (join-taken b s time out z)
  other-accepted b (ask s time out) n l o z = other-taken n l o (ask-taken b s time out z)
  other-accepted b (heard caller time) n l o z = other-taken n l o (heard-taken b caller time z)
  other-accepted b (leave caller time) n l o z =
      let f = leave_freed b caller time z in
      rw f.book (other-written f.allowed f.place n l o empty_row (λ e. some (sym e)))
  other-accepted b (schedule caller hop time out) n l o z = same_self
  other-accepted b (image time out) n l o z = same_self

pub others_stay : OthersStay
others_stay b c unit later a n l o = same_or b c unit later (other-accepted unit a later b c n l o)

-- ---- calls about itself
own-taken : {b : Contents} {c : Call} → Taken b c (place_for (unit_of c) (rows_at b (time_of c))) (holding b (unit_of c) (time_of c)) → live_at b (unit_of c) (time_of c) ≡ true
    → SameHolding b (time_of c) (next b c) (time_of c) (unit_of c)
own-taken t live = record { live = taken_live t ∙ sym live; row = taken-row t; slots = taken-holding t }

pub keeps_own : KeepsOwn
keeps_own = (again, ask-again)
  where
    again : (b : Contents) (c : Call) → repeats c ≡ true → live_at b (unit_of c) (time_of c) ≡ true → SameHolding b (time_of c) (next b c) (time_of c) (unit_of c)
    again b (join s time out) e live = same_or b (join s time out) _ time (λ z. own-taken (rw live at (join-taken b s time out z)) live)
    again b (ask s time out) e live = absurd (false≢true e)
    again b (heard unit time) e live = same_or b (heard unit time) _ time (λ z. own-taken (heard-taken b unit time z) live)
    again b (leave unit time) e live = absurd (false≢true e)
    again b (schedule unit hop time out) e live = same_self
    again b (image time out) e live = same_self

    ask-again : (b : Contents) (s : List ℕ) (time : ℕ) (out : List ℕ) → live_at b (ask_in s).node time ≡ true
        → place_for (ask_in s).node (rows_at (ask_of b s time out).book time) ≡ place_for (ask_in s).node (rows_at b time)
    ask-again b s time out live =
        let unit = (ask_in s).node in
        by-refusal (λ new. place_for unit (rows_at new time) ≡ place_for unit (rows_at b time)) b (ask s time out) refl (λ z. taken-row (ask-taken b s time out z))
