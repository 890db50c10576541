-- A join and a slot request, from what their parts say.
-- Assumes nothing.
use Rattle.std.proofs.Common.{Option, Some, None, Result, Ok, Err}
use Rattle.std.specs.Option.{option_or}
use Rattle.octets.specs.declared.refusals.Refusal.{Refusal}
use Rattle.octets.proofs.Words.{◌≡◌, ◌⊎◌, inl, inr, refl, sym, ap, ◌∙◌, Bool, true, false, not, ◌&&◌, cond, List, ℕ, ◌+◌, ◌-◌, ◌*◌, min, eqb, ltb, length, get_or, take}
use Rattle.frame_kinds.specs.Shape.{values_in}
use Rattle.frame_requests.specs.declared.JoinRequest.{JoinRequest}
use Rattle.frame_requests.specs.declared.SlotRequest.{SlotRequest}
use Rattle.frame_requests.specs.Requests.{join_request, join_request_from, join_request_values, slot_request, slot_request_from, slot_request_values}
use Rattle.slot_sets.specs.Sets.{Slots, slots_of, count, lowest}
use Rattle.book_members.specs.declared.member.Member.{Member}
use Rattle.book_members.specs.Members.{Row, rows_of, current, place_for, placed, free, vacant}
use Rattle.book_members.proofs.RowLoopLaws.{nobody}
use Rattle.book_members.proofs.RowSums.{vacant_tally}
use Rattle.book_members.proofs.LookupLaws.{found_tally}
use Rattle.book.specs.declared.book.Book.{Book}
use Rattle.book.specs.Books.{contents, rows_at, live_at, holding}
use Rattle.book.proofs.VisitLaws.{rows_now, gone, live, place, row_there}
use Rattle.book_joins.specs.Joins.{wish, grant_for, brought, asked_slots, grants, join_in, seat, seated, no_row_for, join_responses, ask_in, ask_responses}
use Rattle.book_joins.specs.Responses.{responses}
use Rattle.book_joins.proofs.ResponseLaws.{length-responses}

-- how many bytes the responses take
taking : (bytes unit time at : ℕ) (b : Book) (own own' : Slots 64) → bytes ≡ 13 * (1 + count own) → own ≡ own' → bytes ≡ length (responses b.plan unit time at own')
taking bytes unit time at b own own' e s = e ∙ (ap (λ (t : Slots 64). 13 * (1 + count t)) s ∙ sym (length-responses b.plan unit time at own'))

-- a reason that does not refuse does not hold
pub passed : (b : Bool) (r : Refusal) → ◌≡◌ {A = Result (Unit {0}) Refusal} (Ok tt) (cond b (Err r) (Ok tt)) → b ≡ false
passed true r e = absurd cc
passed false r e = refl

-- a place or another: where there is one, and where there is none
pub one_or_other : (o p : Option ℕ) (at : ℕ) → option_or o p ≡ Some at → (o ≡ Some at) ⊎ ((o ≡ None) × (p ≡ Some at))
one_or_other (Some k) p at e = inl e
one_or_other None p at e = inr (refl, e)

pub neither_of : (o p : Option ℕ) → option_or o p ≡ None → (o ≡ None) × (p ≡ None)
neither_of (Some k) p e = absurd cc
neither_of None p e = (refl, e)

-- no row is free where unit 0 has none
pub vacant-placed : (rs : List Row) → eqb (vacant rs) 0 ≡ not (ltb (place_for 0 rs) (length rs))
vacant-placed rs = rw (found_tally 0 rs, vacant_tally rs) (go (eqb _ 0))
  where
    go : (b : Bool) → b ≡ not (not b)
    go true = refl
    go false = refl

-- what is known of a request whose unit has a row, or gets one, and what it then gives
pub record Asking (b : Book) (time : ℕ) (s : List ℕ) (unit at : ℕ) (own : Slots 64) (bytes : ℕ) : Type 0 where
  pub member : live_at (contents b) (ask_in s).node time ≡ true
  pub long : bytes ≡ length (ask_responses (contents b) s time)
  pub gives : (out : List ℕ) → grants 0 (contents b) unit time at own out ≡ grants 0 (contents b) (ask_in s).node time (place_for (ask_in s).node (rows_at (contents b) time)) (asked_slots (contents b) s time) out

pub record Joining (b : Book) (time : ℕ) (s : List ℕ) (unit at : ℕ) (own : Slots 64) (bytes : ℕ) : Type 0 where
  pub some : no_row_for (contents b) (join_in s).node time ≡ false
  pub long : bytes ≡ length (join_responses (contents b) s time)
  pub gives : (out : List ℕ) → grants 0 (contents b) unit time at own out ≡ grants 0 (contents b) (join_in s).node time (seat (contents b) (join_in s).node time) (seated (contents b) (join_in s).node time (join_in s).slots) out

-- the rows of the call's time, and those of them that the plan uses
module _ (b : Book) (time : ℕ) (s : List ℕ) (now used : List Member) (e : rows_of now ≡ current time (rows_of b.rows)) (u : rows_of used ≡ take b.plan.rows (rows_of now)) where
  abbrev there : List Row
  there = rows_at (contents b) time

  -- whose row is found, the unit of a request, and the same by another name
  module _ (unit unit' at : ℕ) (same : unit ≡ unit') (p : placed unit (rows_of used) ≡ Some at) where
    is_live : live_at (contents b) unit' time ≡ true
    is_live = ap (λ (x : ℕ). live_at (contents b) x time) (sym same) ∙ live b unit time now used e u at p

    row_of_unit : at ≡ place_for unit' there
    row_of_unit = place b unit time now used e u at p ∙ ap (λ (x : ℕ). place_for x there) same

    held_there : slots_of (get_or now at nobody).slots ≡ holding (contents b) unit' time
    held_there = ap (λ (x : Row). x.slots) (row_there b unit time now used e u at p) ∙ ap (λ (x : ℕ). holding (contents b) x time) same

  pub asking : (r : SlotRequest) (at : ℕ) (own spaces : Slots 64) (empty bytes : ℕ) → slot_request_values r ≡ values_in slot_request s → placed r.node (rows_of used) ≡ Some at
      → spaces ≡ free b.plan.data_slots (rows_of used) → empty ≡ vacant (rows_of used) → let held = slots_of (get_or now at nobody).slots in
      own ≡ brought (min (wish r.slots) (count held + (count spaces - empty))) held spaces → bytes ≡ 13 * (1 + count own) → Asking b time s r.node at own bytes
  unfolding ask_responses
  asking r at own spaces empty bytes v p f m o w =
      let request : r ≡ ask_in s = ap slot_request_from v in
      let unit = (ask_in s).node in
      let same : r.node ≡ unit = λ i. (request i).node in
      let rows = rows_now b r.node time now used e u in
      let row = row_of_unit r.node unit at same p in
      let held = held_there r.node unit at same p in
      let spaces = f ∙ ap (free b.plan.data_slots) rows in
      let empty = m ∙ ap vacant rows in
      let slots : own ≡ asked_slots (contents b) s time = o ∙ (λ i. brought (min (wish (request i).slots) (count (held i) + (count (spaces i) - empty i))) (held i) (spaces i)) in
      record {
        member = is_live r.node unit at same p;
        long = taking bytes unit time (place_for unit there) b own _ w slots;
        gives = λ out. λ i. grants 0 (contents b) (same i) time (row i) (slots i) out;
      }

  -- a live member that asks to join, and a newcomer that finds a row
  pub rejoining : (r : JoinRequest) (at bytes : ℕ) → join_request_values r ≡ values_in join_request s → placed r.node (rows_of used) ≡ Some at
      → let held = slots_of (get_or now at nobody).slots in bytes ≡ 13 * (1 + count held) → Joining b time s r.node at held bytes
  unfolding join_responses
  rejoining r at bytes v p w =
      let request : r ≡ join_in s = ap join_request_from v in
      let unit = (join_in s).node in
      let same : r.node ≡ unit = λ i. (request i).node in
      let member = is_live r.node unit at same p in
      let row : at ≡ seat (contents b) unit time = row_of_unit r.node unit at same p ∙ rw member in
      let slots : slots_of (get_or now at nobody).slots ≡ seated (contents b) unit time (join_in s).slots = held_there r.node unit at same p ∙ rw member in
      record {
        some = ap (λ (t : Bool). not t && eqb (vacant there) 0) member;
        long = taking bytes unit time (seat (contents b) unit time) b _ _ w slots;
        gives = λ out. λ i. grants 0 (contents b) (same i) time (row i) (slots i) out;
      }

  pub joining : (r : JoinRequest) (at : ℕ) (own spaces : Slots 64) (empty bytes : ℕ) → join_request_values r ≡ values_in join_request s
      → placed r.node (rows_of used) ≡ None → placed 0 (rows_of used) ≡ Some at → spaces ≡ free b.plan.data_slots (rows_of used) → empty ≡ vacant (rows_of used)
      → own ≡ lowest (min (wish r.slots) (count spaces - empty + 1)) spaces → bytes ≡ 13 * (1 + count own) → Joining b time s r.node at own bytes
  unfolding join_responses
  joining r at own spaces empty bytes v n p f m o w =
      let request : r ≡ join_in s = ap join_request_from v in
      let unit = (join_in s).node in
      let same : r.node ≡ unit = λ i. (request i).node in
      let rows = rows_now b r.node time now used e u in
      let none : live_at (contents b) unit time ≡ false = ap (λ (x : ℕ). live_at (contents b) x time) (sym same) ∙ gone b r.node time now used e u n in
      let spaces = f ∙ ap (free b.plan.data_slots) rows in
      let empty = m ∙ ap vacant rows in
      let row : at ≡ seat (contents b) unit time = place b 0 time now used e u at p ∙ rw none in
      let granted : own ≡ grant_for b.plan.data_slots there (join_in s).slots = o ∙ (λ i. lowest (min (wish (request i).slots) (count (spaces i) - empty i + 1)) (spaces i)) in
      let slots : own ≡ seated (contents b) unit time (join_in s).slots = granted ∙ rw none in
      record {
        some = ap (λ (t : Bool). not t && eqb (vacant there) 0) none ∙ (vacant-placed there ∙ ap not (live b 0 time now used e u at p));
        long = taking bytes unit time (seat (contents b) unit time) b own _ w slots;
        gives = λ out. λ i. grants 0 (contents b) (same i) time (row i) (slots i) out;
      }

  -- and one that finds none
  pub full : (r : JoinRequest) → join_request_values r ≡ values_in join_request s → placed r.node (rows_of used) ≡ None → placed 0 (rows_of used) ≡ None
      → no_row_for (contents b) (join_in s).node time ≡ true
  full r v n p =
      let request : r ≡ join_in s = ap join_request_from v in
      let none : live_at (contents b) (join_in s).node time ≡ false = ap (λ (x : JoinRequest). live_at (contents b) x.node time) (sym request) ∙ gone b r.node time now used e u n in
      ap (λ (t : Bool). not t && eqb (vacant there) 0) none ∙ (vacant-placed there ∙ ap not (gone b 0 time now used e u p))
