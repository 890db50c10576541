-- What the answers of the story grant to each unit, call by call.
-- Assumes nothing.
use Rattle.octets.proofs.Words.{◌≡◌, refl, ap, ◌∙◌, List, [], ◌∷◌, map, ℕ, drop}
use Rattle.octets.specs.Lists.{every}
use Rattle.octets.specs.Numbers.{num, digits}
use Rattle.octets.specs.Sums.{xors}
use Rattle.moments.specs.Elapsed.{Clock, started, now_at, moved, clock_after}
use Rattle.moments.specs.Moments.{age_at, in_order}
use Rattle.frame_kinds.specs.Reading.{is_sealed, read_refusal}
use Rattle.frame_kinds.specs.Shape.{sealed}
use Rattle.slot_sets.specs.Sets.{has, count, is_empty, fill, slotwise, no_slots, all_slots, union, meet, minus, lowest, without_highest, bits, slots_of, firsts}
use Rattle.site_plan.specs.Plans.{slots_in}
use Rattle.book_members.specs.Members.{current, place_for, held_slots, vacant}
use Rattle.book_members.specs.Rules.{rows_rule}
use Rattle.book.specs.Books.{Contents, within_rule, fresh_book, fresh_of, leave_of}
use Rattle.book_joins.specs.Joins.{join_responses, join_of, ask_responses, ask_of}
use Rattle.book_joins.specs.Responses.{told_in}
use Rattle.book_history.specs.Calls.{Call, leave, next, time_of}
use Rattle.book_history.specs.Histories.{answer, recorded, step_of, Grant, grant, changed_by, granted, granting, counts}
use Rattle.paper.specs.Story.{plan_of_site, joins, asks, calls, GrantsInTheStory}
use Rattle.paper.proofs.StoryLaws.{member, nobody, site, one, two, full, left, grown, settled}

-- of the manager and of the four units
record Grants : Type 0 where
  pub manager : Grant
  pub first : Grant
  pub second : Grant
  pub third : Grant
  pub fourth : Grant

abbrev of_each : (ℕ → Grant) → Grants
of_each f = record { manager = f 0x0100; first = f 0x0201; second = f 0x0202; third = f 0x0203; fourth = f 0x0204 }

abbrev on_each : (ℕ → Grant → Grant) → Grants → Grants
on_each f g = record { manager = f 0x0100 g.manager; first = f 0x0201 g.first; second = f 0x0202 g.second; third = f 0x0203 g.third; fourth = f 0x0204 g.fourth }

-- the slots told, all at time 0
abbrev told : List ℕ → List ℕ → List ℕ → List ℕ → List ℕ → Grants
told m a b c d = record { manager = grant m 0; first = grant a 0; second = grant b 0; third = grant c 0; fourth = grant d 0 }

-- nothing elapses from the first call to the last
abbrev none_passed : Clock
none_passed = started 0

-- after one call on a book
abbrev once : Contents → Call → Grants → Grants
once b c = on_each (λ unit g. changed_by told_in unit c (answer b c) (now_at none_passed (time_of c)) g)

-- what counts at time 0
abbrev counted : Clock → Grants → List (List ℕ)
counted k g =
    counts plan_of_site 0x0100 (now_at k 0) g.manager ∷
    counts plan_of_site 0x0201 (now_at k 0) g.first ∷
    counts plan_of_site 0x0202 (now_at k 0) g.second ∷
    counts plan_of_site 0x0203 (now_at k 0) g.third ∷
    counts plan_of_site 0x0204 (now_at k 0) g.fourth ∷
    []

-- after several
abbrev all : Contents → List Call → Clock → Grants → List (List ℕ)
all b cs k g =
    let hs = recorded b cs in
    counted (clock_after k (map step_of hs)) (on_each (λ unit x. granted unit k x hs) g)

-- a call on a book leaves that book, and each unit what it grants
record Happens (b : Contents) (c : Call) (new : Contents) (g g' : Grants) : Type 0 where
  pub leaves : next b c ≡ new
  pub grants : once b c g ≡ g'
  pub passes : moved none_passed (step_of (record { call = c; answer = answer b c })) ≡ none_passed

step : {b new : Contents} {c : Call} {g g' : Grants} (cs : List Call) → Happens b c new g g' → all b (c ∷ cs) none_passed g ≡ all new cs none_passed g'
step cs h = λ i. all (h.leaves i) cs (h.passes i) (h.grants i)

begun : of_each (granting (fresh_book plan_of_site 0)) ≡ told (4 ∷ 8 ∷ []) [] [] [] []
unfolding place_for has no_slots all_slots fill lowest firsts
begun = refl

-- each call, computed
happened :
    Happens (fresh_book plan_of_site 0) (joins 0x0201 4) one (told (4 ∷ 8 ∷ []) [] [] [] []) (told (4 ∷ 8 ∷ []) (5 ∷ 9 ∷ 10 ∷ 11 ∷ []) [] [] [])
    × Happens one (joins 0x0202 2) two (told (4 ∷ 8 ∷ []) (5 ∷ 9 ∷ 10 ∷ 11 ∷ []) [] [] []) (told (4 ∷ 8 ∷ []) (5 ∷ 9 ∷ 10 ∷ 11 ∷ []) (6 ∷ 12 ∷ []) [] [])
    × Happens two (joins 0x0203 0) full (told (4 ∷ 8 ∷ []) (5 ∷ 9 ∷ 10 ∷ 11 ∷ []) (6 ∷ 12 ∷ []) [] []) (told (4 ∷ 8 ∷ []) (5 ∷ 9 ∷ 10 ∷ 11 ∷ []) (6 ∷ 12 ∷ []) (7 ∷ 13 ∷ []) [])
    × Happens full (joins 0x0204 4) full (told (4 ∷ 8 ∷ []) (5 ∷ 9 ∷ 10 ∷ 11 ∷ []) (6 ∷ 12 ∷ []) (7 ∷ 13 ∷ []) []) (told (4 ∷ 8 ∷ []) (5 ∷ 9 ∷ 10 ∷ 11 ∷ []) (6 ∷ 12 ∷ []) (7 ∷ 13 ∷ []) [])
    × Happens full (leave 0x0201 0) left (told (4 ∷ 8 ∷ []) (5 ∷ 9 ∷ 10 ∷ 11 ∷ []) (6 ∷ 12 ∷ []) (7 ∷ 13 ∷ []) []) (told (4 ∷ 8 ∷ []) [] (6 ∷ 12 ∷ []) (7 ∷ 13 ∷ []) [])
    × Happens left (asks 0x0202 3) grown (told (4 ∷ 8 ∷ []) [] (6 ∷ 12 ∷ []) (7 ∷ 13 ∷ []) []) (told (4 ∷ 8 ∷ []) [] (6 ∷ 9 ∷ 10 ∷ 12 ∷ []) (7 ∷ 13 ∷ []) [])
    × Happens grown (joins 0x0204 4) settled (told (4 ∷ 8 ∷ []) [] (6 ∷ 9 ∷ 10 ∷ 12 ∷ []) (7 ∷ 13 ∷ []) []) (told (4 ∷ 8 ∷ []) [] (6 ∷ 9 ∷ 10 ∷ 12 ∷ []) (7 ∷ 13 ∷ []) (5 ∷ 11 ∷ []))
unfolding member site nobody one two full left grown settled join_responses join_of ask_responses ask_of leave_of within_rule rows_rule every place_for current held_slots vacant count is_empty has fill slotwise no_slots all_slots union meet minus lowest without_highest bits slots_of firsts slots_in num digits xors is_sealed read_refusal sealed age_at in_order
happened = (record { leaves = refl; grants = refl; passes = refl }, record { leaves = refl; grants = refl; passes = refl }, record { leaves = refl; grants = refl; passes = refl }, record { leaves = refl; grants = refl; passes = refl }, record { leaves = refl; grants = refl; passes = refl }, record { leaves = refl; grants = refl; passes = refl }, record { leaves = refl; grants = refl; passes = refl })

-- all of them, one after the other
all_told : all (fresh_book plan_of_site 0) calls none_passed (of_each (granting (fresh_book plan_of_site 0)))
    ≡ counted none_passed (told (4 ∷ 8 ∷ []) [] (6 ∷ 9 ∷ 10 ∷ 12 ∷ []) (7 ∷ 13 ∷ []) (5 ∷ 11 ∷ []))
all_told =
    let (a, b, c, d, e, f, g) = happened in
    ap (all (fresh_book plan_of_site 0) calls none_passed) begun
    ∙ (step (drop 1 calls) a ∙ (step (drop 2 calls) b ∙ (step (drop 3 calls) c ∙ (step (drop 4 calls) d ∙ (step (drop 5 calls) e ∙ (step (drop 6 calls) f ∙ step [] g))))))

pub grants_in_the_story : GrantsInTheStory
unfolding fresh_of slots_in age_at
grants_in_the_story = all_told
