-- The response frames that answer a join or a slot request: the control slot, then each data slot held.
-- Assumes nothing.
use Rattle.std.specs.Prelude.{ℕ, zero, suc, cond, List, [], ◌∷◌, ◌++◌, map, drop}
use Rattle.frame_kinds.specs.Shape.{frame_of, values_in}
use Rattle.frame_requests.specs.Requests.{join_response, join_response_from}
use Rattle.slot_sets.specs.Sets.{Slots, has}
use Rattle.site_plan.specs.declared.plan.Plan.{Plan}
use Rattle.site_plan.specs.Schedules.{control_slot, data_slot}

-- the slots of a set that are at least i and below i + n, ascending
abbrev pub listed : {w : ℕ} → Slots w → ℕ → ℕ → List ℕ
listed s i zero = []
listed s i (suc n) = cond (has s i) (i ∷ listed s (suc i) n) (listed s (suc i) n)

-- the slots that a member is told of: the control slot of its row, then its data slots, ascending
abbrev pub slots_told : Plan → ℕ → Slots 64 → List ℕ
slots_told p row own = control_slot p row ∷ map (data_slot p) (listed own 0 64)

-- an accepted response for one slot: status 0, the call's time as superframe time, the plan's network
abbrev pub response : Plan → ℕ → ℕ → ℕ → List ℕ
response p unit time slot = frame_of join_response (unit ∷ 0 ∷ slot ∷ time ∷ p.network ∷ []) []

-- one after the other
abbrev pub responses_for : Plan → ℕ → ℕ → List ℕ → List ℕ
responses_for p unit time [] = []
responses_for p unit time (slot ∷ slots) = response p unit time slot ++ responses_for p unit time slots

abbrev pub responses : Plan → ℕ → ℕ → ℕ → Slots 64 → List ℕ
responses p unit time row own = responses_for p unit time (slots_told p row own)

-- the slots that so many responses, one after the other, tell
abbrev pub told_in : ℕ → List ℕ → List ℕ
told_in zero s = []
told_in (suc n) s = (join_response_from (values_in join_response s)).slot ∷ told_in n (drop 13 s)
