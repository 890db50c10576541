-- What an accepted request is answered with: the responses in the buffer tell the slots that the unit then has.
-- Assumes nothing.
use Rattle.octets.proofs.Words.{◌≡◌, ap₂, ◌∙◌, true, List, ℕ, ◌+◌, ◌/◌, ◌^◌, ◌≤◌, ◌<◌, arith, ltb-false, length, length-take}
use Rattle.octets.proofs.CallLaws.{after-accepted}
use Rattle.slot_sets.specs.Sets.{Slots}
use Rattle.site_plan.specs.Plans.{plan_rule, data_slot_at}
use Rattle.site_plan.specs.Schedules.{control_slot}
use Rattle.site_plan.proofs.PlanLaws.{kept}
use Rattle.book_members.specs.Members.{place_for}
use Rattle.book_members.proofs.RowLaws.{length-current}
use Rattle.book.specs.Books.{Contents, rows_in, rows_at}
use Rattle.book.proofs.WithinLaws.{within}
use Rattle.book_joins.specs.Joins.{grants, seat, join_in, join_of, ask_in, ask_of, asked_slots, join_responses, ask_responses}
use Rattle.book_joins.specs.Responses.{slots_told, responses, told_in}
use Rattle.book_joins.proofs.ResponseLaws.{small-told, told_back}
use Rattle.book_history.proofs.CallLaws.{joined_slots, join_allowed, ask_allowed}
use Rattle.book_history.proofs.TakingLaws.{join-taken, ask-taken}

-- what is written where nothing refuses the request, and there is room for it
granted-told : (b : Contents) (unit time at : ℕ) (own : Slots 64) (out : List ℕ) (n : ℕ) → plan_rule b.plan ≡ true → at < length (rows_at b time)
    → length (responses b.plan unit time at own) ≤ length out → n ≡ 0
    → told_in ((grants n b unit time at own out).written / 13) (grants n b unit time at own out).held ≡ slots_told b.plan at own
granted-told b unit time at own out n planned there fits z =
    let p = b.plan in
    let k = kept p planned in
    let seated-below : at < p.rows = omega (arith, there, length-current time (rows_in b), length-take p.rows b.places) in
    let control : control_slot p at < 256 ^ 2 = omega (arith, k.few, seated-below) in
    let data_slots : data_slot_at p + 64 ≤ 256 ^ 2 = omega (arith, k.few) in
    ap₂ {C = List ℕ} (λ (count : ℕ) (s : List ℕ). told_in (count / 13) s) (after-accepted n 0 _ z) (after-accepted n out _ z)
    ∙ told_back p unit time (slots_told p at own) out (small-told 64 p at own control data_slots) fits

module _ (b : Contents) (s : List ℕ) (time : ℕ) (out : List ℕ) where
  pub join-told : (join_of b s time out).refused ≡ 0
      → told_in ((join_of b s time out).written / 13) (join_of b s time out).held ≡ slots_told b.plan (seat b (join_in s).node time) (joined_slots b s time)
  unfolding join_of join_responses
  join-told z =
      let (a, room, fits) = join_allowed b s time out z in
      granted-told b (join_in s).node time (seat b (join_in s).node time) (joined_slots b s time) out _ (within b a.book).plan
      (join-taken b s time out z).place.there (ltb-false _ _ fits) z

  pub ask-told : (ask_of b s time out).refused ≡ 0
      → told_in ((ask_of b s time out).written / 13) (ask_of b s time out).held ≡ slots_told b.plan (place_for (ask_in s).node (rows_at b time)) (asked_slots b s time)
  unfolding ask_of ask_responses
  ask-told z =
      let (a, live, fits) = ask_allowed b s time out z in
      granted-told b (ask_in s).node time (place_for (ask_in s).node (rows_at b time)) (asked_slots b s time) out _ (within b a.book).plan
      (ask-taken b s time out z).place.there (ltb-false _ _ fits) z
