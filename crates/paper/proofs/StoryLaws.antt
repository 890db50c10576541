-- The story step by step, from one book that is written out to the next.
-- Assumes nothing.
use Rattle.octets.proofs.Words.{◌≡◌, refl, List, [], ◌∷◌, ℕ, replicate}
use Rattle.octets.specs.Lists.{every}
use Rattle.octets.specs.Numbers.{num, digits}
use Rattle.octets.specs.Sums.{xors}
use Rattle.moments.specs.Moments.{age_at, in_order}
use Rattle.frame_kinds.specs.Reading.{is_sealed, read_refusal}
use Rattle.frame_kinds.specs.Shape.{sealed}
use Rattle.slot_sets.specs.Sets.{has, count, is_empty, fill, slotwise, no_slots, all_slots, union, meet, minus, lowest, without_highest, bits, slots_of, firsts}
use Rattle.site_plan.specs.Plans.{slots_in}
use Rattle.book_members.specs.Members.{Row, empty_row, current, place_for, held_slots, vacant, member_with}
use Rattle.book_members.specs.Rules.{rows_rule}
use Rattle.book.specs.Books.{Contents, within_rule, fresh_book, leave_of}
use Rattle.book_joins.specs.Joins.{join_responses, join_of, ask_responses, ask_of}
use Rattle.book_history.specs.Calls.{Call, leave, next}
use Rattle.paper.specs.Story.{told, run, plan_of_site, joins, asks, story}

-- a call on a book says this and leaves that book
pub record Happens (b : Contents) (c : Call) (said : List ℕ) (after : Contents) : Type 0 where
  pub says : told b c ≡ said
  pub leaves : next b c ≡ after

step : (b : Contents) (c : Call) (said : List ℕ) (after : Contents) (cs : List Call) → Happens b c said after → run b (c ∷ cs) ≡ said ∷ run after cs
step b c said after cs h = rw (h.says, h.leaves)

-- ---- the books, at time 0
-- a member with the data slots whose bits are set in a mask: 14 is 1 to 3, 16 is 4, 32 is 5, 22 is 1, 2 and 4, 8 is 3
unfoldable pub member : ℕ → ℕ → Row
member unit mask = member_with unit (slots_of mask) 0

unfoldable pub nobody : Row
nobody = empty_row

-- the manager with its lowest data slot, and three rows
unfoldable pub site : Row → Row → Row → Contents
site a b c = record { plan = plan_of_site; time = 0; places = member 0x0100 1 ∷ a ∷ b ∷ c ∷ replicate 17 empty_row }

unfoldable pub one : Contents
one = site (member 0x0201 14) nobody nobody

unfoldable pub two : Contents
two = site (member 0x0201 14) (member 0x0202 16) nobody

unfoldable pub full : Contents
full = site (member 0x0201 14) (member 0x0202 16) (member 0x0203 32)

unfoldable pub left : Contents
left = site nobody (member 0x0202 16) (member 0x0203 32)

unfoldable pub grown : Contents
grown = site nobody (member 0x0202 22) (member 0x0203 32)

unfoldable pub settled : Contents
settled = site (member 0x0204 8) (member 0x0202 22) (member 0x0203 32)

-- each call, computed
happened :
    Happens (fresh_book plan_of_site 0) (joins 0x0201 4) (0 ∷ 5 ∷ 9 ∷ 10 ∷ 11 ∷ []) one
    × Happens one (joins 0x0202 2) (0 ∷ 6 ∷ 12 ∷ []) two
    × Happens two (joins 0x0203 0) (0 ∷ 7 ∷ 13 ∷ []) full
    × Happens full (joins 0x0204 4) (12 ∷ []) full
    × Happens full (leave 0x0201 0) (0 ∷ []) left
    × Happens left (asks 0x0202 3) (0 ∷ 6 ∷ 9 ∷ 10 ∷ 12 ∷ []) grown
    × Happens grown (joins 0x0204 4) (0 ∷ 5 ∷ 11 ∷ []) settled
unfolding member site nobody one two full left grown settled join_responses join_of ask_responses ask_of leave_of within_rule rows_rule every place_for current held_slots vacant count is_empty has fill slotwise no_slots all_slots union meet minus lowest without_highest bits slots_of firsts slots_in num digits xors is_sealed read_refusal sealed age_at in_order
happened = (record { says = refl; leaves = refl }, record { says = refl; leaves = refl }, record { says = refl; leaves = refl }, record { says = refl; leaves = refl }, record { says = refl; leaves = refl }, record { says = refl; leaves = refl }, record { says = refl; leaves = refl })

pub story-told :
    story ≡
    (0 ∷ 5 ∷ 9 ∷ 10 ∷ 11 ∷ []) ∷ (0 ∷ 6 ∷ 12 ∷ []) ∷ (0 ∷ 7 ∷ 13 ∷ []) ∷ (12 ∷ []) ∷ (0 ∷ []) ∷ (0 ∷ 6 ∷ 9 ∷ 10 ∷ 12 ∷ []) ∷ (0 ∷ 5 ∷ 11 ∷ []) ∷ []
unfolding story
story-told =
    let (a, b, c, d, e, f, g) = happened in
    rw (step _ _ _ _ _ a, step _ _ _ _ _ b, step _ _ _ _ _ c, step _ _ _ _ _ d, step _ _ _ _ _ e, step _ _ _ _ _ f, step _ _ _ _ _ g)
