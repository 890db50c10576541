-- The responses to an accepted request are read as what the unit was granted.
-- Assumes nothing.
use Rattle.octets.proofs.Words.{◌≡◌, refl, sym, ap, ap₂, ◌∙◌, true, cond, List, [], ◌∷◌, ◌++◌, map, append_assoc, ℕ, ◌+◌, ◌/◌, ◌≤◌, ◌<◌, arith, lt-ltb, ltb-false, length, take, drop, length-take, sets, sets-eq, take_at, drop_at}
use Rattle.octets.specs.Answers.{Said, accepted}
use Rattle.octets.specs.Layouts.{Fit}
use Rattle.octets.proofs.CallLaws.{after-accepted}
use Rattle.octets.proofs.AddressLaws.{address-fits}
use Rattle.octets.specs.Addresses.{address, network}
use Rattle.frame_requests.specs.Requests.{join_response}
use Rattle.frames.specs.Frames.{read_frame}
use Rattle.frames.proofs.KindLaws.{a_response}
use Rattle.frames.proofs.WholeLaws.{frame-read}
use Rattle.slot_sets.specs.Sets.{Slots}
use Rattle.site_plan.specs.declared.plan.Plan.{Plan}
use Rattle.site_plan.proofs.PlanLaws.{Kept, kept}
use Rattle.book_members.specs.Members.{place_for}
use Rattle.book_members.proofs.RowLaws.{length-current}
use Rattle.book.specs.Books.{Contents, rows_in, rows_at, live_at}
use Rattle.book.proofs.WithinLaws.{within}
use Rattle.book_joins.specs.Joins.{Answered, seat, join_in, join_of, ask_in, ask_of, asked_slots, join_responses, ask_responses}
use Rattle.book_joins.specs.Responses.{slots_told, response, responses_for}
use Rattle.book_joins.proofs.ResponseLaws.{Below, length-response, length_for, below-told}
use Rattle.book_history.specs.Calls.{Call, time_of, unit_of, next}
use Rattle.book_history.proofs.CallLaws.{joined_slots, join_allowed, ask_allowed}
use Rattle.book_history.proofs.RuleLaws.{keeps_plan}
use Rattle.book_history.proofs.TakingLaws.{Taken, join-taken, ask-taken, taken_live, taken-row, taken-holding}
use Rattle.book_history.specs.BookLaws.{slots_at}
use Rattle.book_history.proofs.ToldLaws.{join-told, ask-told}
use Rattle.c_read_back.specs.FramesRead.{frames_in, Responded, ResponsesRead, slot_said, slots_read, ToldAsRead}

-- what a response says
abbrev saying : ℕ → ℕ → ℕ → ℕ → Said
saying unit time net slot = accepted (0x22 ∷ unit ∷ 0 ∷ slot ∷ time ∷ net ∷ [])

-- ---- one response, and one after the other
module _ (p : Plan) (unit time : ℕ) (a : address unit ≡ true) (n : network p.network ≡ true) (w : p.network < 0x10000) (t : time < 0x100000000) where
  response-read : (slot : ℕ) → slot < 100 → read_frame (response p unit time slot) ≡ saying unit time p.network slot
  response-read slot h =
      let values : List ℕ = unit ∷ 0 ∷ slot ∷ time ∷ p.network ∷ [] in
      let fits : Fit join_response.widths values = (address-fits unit a, (omega arith, (omega (arith, h), (t, (w, tt))))) in
      let good : join_response.rule values [] ≡ true = rw (a, n, lt-ltb slot 100 h) in
      (frame-read join_response a_response values [] fits refl (omega arith) good).0

  responses-read : (slots rest : List ℕ) → Below 100 slots
      → map read_frame (frames_in (length slots) (responses_for p unit time slots ++ rest)) ≡ map (saying unit time p.network) slots
  responses-read [] rest h = refl
  responses-read (slot ∷ slots) rest h =
      let one = response p unit time slot in
      let more = responses_for p unit time slots ++ rest in
      let first : take 13 (one ++ more) ≡ one = take_at one more 13 (length-response p unit time slot) in
      let behind : drop 13 (one ++ more) ≡ more = drop_at one more 13 (length-response p unit time slot) in
      ap (λ (s : List ℕ). read_frame (take 13 s) ∷ map read_frame (frames_in (length slots) (drop 13 s))) (append_assoc one (responses_for p unit time slots) rest)
      ∙ ap₂ {C = List Said} (λ (x : List ℕ) (l : List ℕ). read_frame x ∷ map read_frame (frames_in (length slots) l)) first behind
      ∙ ap₂ {C = List Said} ◌∷◌ (response-read slot h.0) (responses-read slots rest h.1)

-- ---- a request that was granted
-- the slots that it is told of are those that the book then has for it
slots_now : {b : Contents} {c : Call} {at : ℕ} {own : Slots 64} (t : Taken b c at own) → slots_told b.plan at own ≡ slots_at (next b c) (unit_of c) (time_of c)
slots_now {b} {c} t = sym (λ i. cond (taken_live t i) (slots_told ((keeps_plan b c).0 i) (taken-row t i) (taken-holding t i)) [])

module _ {b : Contents} {c : Call} {at : ℕ} {own : Slots 64} (t : Taken b c at own) where
  abbrev p : Plan
  p = b.plan

  rule : Kept p
  rule = kept p (within b t.allowed.book).plan

  -- they are below 100: up to 50 active slots, and at most 64 that may be data slots
  below : Below 100 (slots_told p at own)
  below =
      let row : at < p.rows = omega (arith, t.place.there, length-current (time_of c) (rows_in b), length-take p.rows b.places) in
      below-told 100 64 p at own (omega (arith, rule.few, row)) (omega (arith, rule.few, rule.data_slots, rule.few-hops))

  abbrev all : List ℕ → List ℕ
  all slots = responses_for p (unit_of c) (time_of c) slots

  responded : (a : Answered) (slots out : List ℕ) → p.network < 0x10000 → time_of c < 0x100000000 → slots ≡ slots_told p at own → Below 100 slots
      → length (all slots) ≤ length out → a.book ≡ next b c → a.written ≡ length (all slots) → a.held ≡ sets out 0 (all slots)
      → Responded (unit_of c) (time_of c) a.book a.written a.held
  responded a slots out net h e small room k w held =
      let whole : sets out 0 (all slots) ≡ all slots ++ drop (0 + length (all slots)) out = sets-eq (all slots) out 0 (omega (arith, room)) in
      record {
        member = ap (λ (new : Contents). live_at new (unit_of c) (time_of c)) k ∙ taken_live t;
        slots = slots;
        held = e ∙ (slots_now t ∙ ap (λ (new : Contents). slots_at new (unit_of c) (time_of c)) (sym k));
        sized = w ∙ length_for p (unit_of c) (time_of c) slots;
        read =
            ap (λ (s : List ℕ). map read_frame (frames_in (length slots) s)) (held ∙ whole)
            ∙ (responses-read p (unit_of c) (time_of c) t.allowed.of-unit rule.named net h slots (drop (0 + length (all slots)) out) small
            ∙ ap (λ (plan : Plan). map (saying (unit_of c) (time_of c) plan.network) slots) (sym (ap (λ (new : Contents). new.plan) k ∙ (keeps_plan b c).0)));
      }

pub responses_are_read : ResponsesRead
unfolding join_of ask_of join_responses ask_responses
responses_are_read b s time out net h = (
  λ z.
      let t = join-taken b s time out z in
      let fits = ltb-false _ _ (join_allowed b s time out z).2 in
      responded t (join_of b s time out) (slots_told b.plan (seat b (join_in s).node time) (joined_slots b s time)) out net h refl (below t)
      fits refl (after-accepted _ 0 _ z) (after-accepted _ out _ z),
  λ z.
      let t = ask-taken b s time out z in
      let fits = ltb-false _ _ (ask_allowed b s time out z).2 in
      responded t (ask_of b s time out) (slots_told b.plan (place_for (ask_in s).node (rows_at b time)) (asked_slots b s time)) out net h refl (below t)
      fits refl (after-accepted _ 0 _ z) (after-accepted _ out _ z),
)

-- ---- what is told, and what is read
slots-said : (unit time net : ℕ) (slots : List ℕ) → map slot_said (map (saying unit time net) slots) ≡ slots
slots-said unit time net [] = refl
slots-said unit time net (slot ∷ slots) = ap (λ (l : List ℕ). slot ∷ l) (slots-said unit time net slots)

read-slots : (unit time : ℕ) (a : Answered) (r : Responded unit time a.book a.written a.held) → slots_read (a.written / 13) a.held ≡ r.slots
read-slots unit time a r =
    let many : a.written / 13 ≡ length r.slots = omega (arith, r.sized) in
    ap (λ (n : ℕ). slots_read n a.held) many
    ∙ (ap (map slot_said) r.read ∙ slots-said unit time a.book.plan.network r.slots)

pub told_as_read : ToldAsRead
told_as_read b s time out net h = (
  λ z.
      let r = (responses_are_read b s time out net h).0 z in
      read-slots (join_in s).node time (join_of b s time out) r ∙ (r.held ∙ (sym (slots_now (join-taken b s time out z)) ∙ sym (join-told b s time out z))),
  λ z.
      let r = (responses_are_read b s time out net h).1 z in
      read-slots (ask_in s).node time (ask_of b s time out) r ∙ (r.held ∙ (sym (slots_now (ask-taken b s time out z)) ∙ sym (ask-told b s time out z))),
)
