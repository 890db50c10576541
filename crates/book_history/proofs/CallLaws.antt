-- What holds where a call on a book is not refused.
-- Assumes nothing.
use Rattle.octets.proofs.Words.{◌≡◌, sym, ◌∙◌, Bool, true, false, List, ℕ, eqb-true, not-false, ltb, length}
use Rattle.octets.specs.Answers.{first}
use Rattle.octets.proofs.AnswerLaws.{refusing_numbered, none-holds, unless-number}
use Rattle.moments.specs.Moments.{in_order}
use Rattle.frame_kinds.specs.Reading.{refusal_as}
use Rattle.octets.specs.Addresses.{address}
use Rattle.frame_kinds.proofs.ReadingLaws.{passed}
use Rattle.frame_requests.specs.Requests.{join_request, slot_request}
use Rattle.slot_sets.specs.Sets.{Slots}
use Rattle.book.specs.Books.{Contents, within_rule, live_at}
use Rattle.book.proofs.VisitLaws.{member_reasons}
use Rattle.book.specs.Schedules.{schedule_refusal, schedule_of}
use Rattle.book.proofs.ScheduleLaws.{Schedulable, schedulable}
use Rattle.book_joins.specs.Joins.{join_in, seated, no_row_for, join_responses, join_reasons, join_of, ask_in, ask_responses, ask_reasons, ask_of}
use Rattle.book_image.specs.Images.{image_reasons, image_written}

-- what all calls that write a row rest on
pub record Allowed (b : Contents) (unit time : ℕ) : Type 0 where
  pub book : within_rule b ≡ true
  pub of-unit : address unit ≡ true
  pub order : in_order b.time time ≡ true

pub member_allowed : (b : Contents) (unit time : ℕ) (found : Bool) → first (member_reasons b unit time found) ≡ 0 → Allowed b unit time × (found ≡ true)
member_allowed b unit time found e =
    let n =
    none-holds (member_reasons b unit time found) _ e in
    (record { book = not-false _ n.0; of-unit = not-false _ n.1.0; order = not-false _ n.1.1.0 }, not-false found n.1.1.1.0)

-- what a unit that joins then holds
abbrev pub joined_slots : Contents → List ℕ → ℕ → Slots 64
joined_slots b s time = seated b (join_in s).node time (join_in s).slots

-- the responses do not fit
abbrev pub join_short : Contents → List ℕ → ℕ → List ℕ → Bool
join_short b s time out = ltb (length out) (length (join_responses b s time))

abbrev ask_short : Contents → List ℕ → ℕ → List ℕ → Bool
ask_short b s time out = ltb (length out) (length (ask_responses b s time))

pub join_allowed : (b : Contents) (s : List ℕ) (time : ℕ) (out : List ℕ) → (join_of b s time out).refused ≡ 0
    → Allowed b (join_in s).node time × (no_row_for b (join_in s).node time ≡ false) × (join_short b s time out ≡ false)
unfolding join_of
join_allowed b s time out e =
    let n =
    none-holds (join_reasons b s time (length out)) (_, (refusing_numbered (refusal_as join_request s), _)) e in (
      record {
        book = not-false _ n.0;
        of-unit = (passed _ _ _ s (eqb-true (refusal_as join_request s) 0 (not-false _ n.1.0))).kept;
        order = not-false _ n.1.1.1.1.0;
      },
      n.1.1.1.1.1.0,
      n.1.1.1.1.1.1.0,
    )

pub ask_allowed : (b : Contents) (s : List ℕ) (time : ℕ) (out : List ℕ) → (ask_of b s time out).refused ≡ 0
    → Allowed b (ask_in s).node time × (live_at b (ask_in s).node time ≡ true) × (ask_short b s time out ≡ false)
unfolding ask_of
ask_allowed b s time out e =
    let n =
    none-holds (ask_reasons b s time (length out)) (_, (refusing_numbered (refusal_as slot_request s), _)) e in (
      record {
        book = not-false _ n.0;
        of-unit = (passed _ _ _ s (eqb-true (refusal_as slot_request s) 0 (not-false _ n.1.0))).kept;
        order = not-false _ n.1.1.1.0;
      },
      not-false (live_at b (ask_in s).node time) n.1.1.1.1.0,
      n.1.1.1.1.1.0,
    )

module _ (b : Contents) (unit hop time : ℕ) (out : List ℕ) (e : (schedule_of b unit hop time out).said.refusal ≡ 0) where
  pub schedule_unrefused : schedule_refusal b unit hop time (length out) ≡ 0
  unfolding schedule_of
  schedule_unrefused = sym (unless-number _ _) ∙ e

  pub schedule_allowed : Schedulable b unit hop time (length out)
  schedule_allowed = schedulable b unit hop time (length out) schedule_unrefused

pub image_allowed : (b : Contents) (time : ℕ) (out : List ℕ) → (image_written b time out).said.refusal ≡ 0 → within_rule b ≡ true
unfolding image_written
image_allowed b time out e =
    not-false _ (none-holds (image_reasons b time (length out)) _
    (sym (unless-number _ _) ∙ e)).0
