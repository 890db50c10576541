-- Who sends in a slot, by schedules from one book: the statements of specs/Laws on it, proved.
-- Assumes nothing.
use Rattle.octets.proofs.Words.{◌≡◌, refl, ap, ◌∙◌, Bool, true, false, ◌||◌, and-eq-true_iff, List, ◌++◌, ℕ, ◌<◌, ◌≤◌, zero-add, arith, eq-eqb, ltb-true, leb, ltb, length, get_or, drop, get_or-append, sets, sets-eq}
use Rattle.octets.specs.Lists.{tab}
use Rattle.octets.proofs.ListLaws.{length-tab, get_or-tab}
use Rattle.site_plan.specs.declared.plan.Plan.{Plan}
use Rattle.site_plan.specs.Plans.{plan_rule, slots, control_slot_at, data_slot_at, discovery_slot_at}
use Rattle.site_plan.specs.Schedules.{sleep, in_controls, in_data, kind_of}
use Rattle.site_plan.proofs.PlanLaws.{rule_bounds}
use Rattle.site_plan.proofs.SendingLaws.{one_sender_of_units, one_hop_of_units}
use Rattle.book_members.specs.Members.{place_for}
use Rattle.book_members.proofs.LookupLaws.{found-same}
use Rattle.book.specs.Books.{Contents, rows_at, holding}
use Rattle.book.specs.Schedules.{schedule_refusal, schedule_of}
use Rattle.book.proofs.ScheduleLaws.{Schedulable}
use Rattle.book_history.specs.Laws.{kind_in, OneSenderInBook, OneHopInBook}
use Rattle.book_history.proofs.CallLaws.{schedule_unrefused, schedule_allowed}
use Rattle.book.proofs.WithinLaws.{within}
use Rattle.book_history.proofs.HoldingLaws.{hold_apart}

-- ---- a slot of a schedule that was written
-- what was stored from the start on is read there
stored : (n : ℕ) (f : ℕ → ℕ) (out : List ℕ) (s d : ℕ) → s < n → n ≤ length out → get_or (sets out 0 (tab n f)) s d ≡ f s
stored n f out s d h l =
    let long = length-tab n f in
    let rest = drop (length (tab n f)) out in
    let whole : sets out 0 (tab n f) ≡ tab n f ++ rest = sets-eq (tab n f) out 0 (omega (arith, long)) ∙ rw zero-add in
    ap (λ (t : List ℕ). get_or t s d) whole ∙ get_or-append (tab n f) rest d s (omega (arith, long)) ∙ get_or-tab n f s d h

module _ (b : Contents) (unit hop time : ℕ) (out : List ℕ) (e : (schedule_of b unit hop time out).said.refusal ≡ 0) where
  may : Schedulable b unit hop time (length out)
  may = schedule_allowed b unit hop time out e

  plan-kept : plan_rule b.plan ≡ true
  plan-kept = (within b may.book).plan

  member-there : place_for unit (rows_at b time) < length (rows_at b time)
  member-there = ltb-true _ _ may.member

  kind-there : (s : ℕ) → s < slots b.plan
      → kind_in (schedule_of b unit hop time out).held s ≡ kind_of b.plan (place_for unit (rows_at b time)) hop (holding b unit time) s
  unfolding schedule_of
  kind-there s h =
      rw (eq-eqb (schedule_refusal b unit hop time (length out)) 0 (schedule_unrefused b unit hop time out e))
      (stored (slots b.plan) (kind_of b.plan (place_for unit (rows_at b time)) hop (holding b unit time)) out s sleep h may.fits)

-- ---- the regions are among the slots
within-slots : (p : Plan) (s : ℕ) → plan_rule p ≡ true → s < discovery_slot_at p → s < slots p
within-slots p s e h = omega (arith, (rule_bounds p e).inside)

before-discovery : (p : Plan) (s : ℕ) → (in_controls p s || in_data p s) ≡ true → s < discovery_slot_at p
before-discovery p s = go (in_controls p s) (in_data p s) refl refl
  where
    go : (c d : Bool) → in_controls p s ≡ c → in_data p s ≡ d → (c || d) ≡ true → s < discovery_slot_at p
    go true d x y e = omega (arith, ltb-true s (data_slot_at p) ((and-eq-true_iff (leb (control_slot_at p) s) (ltb s (data_slot_at p))).0 x).1)
    go false d x y e = ltb-true s (discovery_slot_at p) ((and-eq-true_iff (leb (data_slot_at p) s) (ltb s (discovery_slot_at p))).0 (y ∙ e)).1

-- ---- two units
pub one_sender_in_book : OneSenderInBook
one_sender_in_book b time unit unit' hop hop' out out' e e' n s region =
    let rs = rows_at b time in
    let h = within-slots b.plan s (plan-kept b unit hop time out e) (before-discovery b.plan s region) in
    rw (kind-there b unit hop time out e s h, kind-there b unit' hop' time out' e' s h)
    (one_sender_of_units b.plan (place_for unit rs) (place_for unit' rs) hop hop' (holding b unit time) (holding b unit' time)
    (λ same. n (found-same rs unit unit' (member-there b unit hop time out e) same))
    (hold_apart b time unit unit' (may b unit hop time out e).book n) s region)

pub one_hop_in_book : OneHopInBook
one_hop_in_book b time unit unit' hop hop' out out' e e' s region t t' =
    let rs = rows_at b time in
    let before = ltb-true s (control_slot_at b.plan) region in
    let h = within-slots b.plan s (plan-kept b unit hop time out e) (omega arith) in
    one_hop_of_units b.plan (place_for unit rs) (place_for unit' rs) hop hop' (holding b unit time) (holding b unit' time) s region
    (rw (kind-there b unit hop time out e s h) at t) (rw (kind-there b unit' hop' time out' e' s h) at t')
