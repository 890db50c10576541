-- The walk over the entries of a routing update: what a step from a position answers.
-- Assumes nothing.
use Rattle.std.specs.Prelude.{ℕ, ◌+◌, cond, List, [], ◌∷◌, ltb, get_or, drop, Option, Some, None, Result}
use Rattle.octets.specs.Answers.{Said, accepted, unless}
use Rattle.octets.specs.Refusals.{told_by}
use Rattle.octets.specs.declared.refusals.Refusal.{Refusal}
use Rattle.frame_kinds.specs.Shape.{values_in, part_in}
use Rattle.frame_kinds.specs.Reading.{refusal_as}
use Rattle.frame_traffic.specs.Traffic.{update, update_from, entry_at, entry_values}
use Rattle.frame_entries.specs.declared.walking.Step.{Step}

-- how many entries an update says that it has
abbrev pub count_in : List ℕ → ℕ
count_in s = (update_from (values_in update s)).count

-- the step from a position, counted from 0: the next position, which is never 0 behind an entry, and the entry's values; at the end 0 alone. Bytes that
-- are no update are refused as reading refuses them
unfoldable pub walk_of : List ℕ → ℕ → Said
walk_of s position =
    unless (refusal_as update s)
    (accepted (cond (ltb position (count_in s)) ((position + 1) ∷ entry_values (entry_at (part_in update s) position)) (0 ∷ [])))

-- the next position in what a step says, and the values of the entry behind it
abbrev pub position_in : Said → ℕ
position_in said = get_or said.values 0 0

abbrev pub entry_in : Said → List ℕ
entry_in said = drop 1 said.values

-- what a step that is not refused says, and what each case of an answer says
abbrev pub step_values : Option Step → List ℕ
step_values (Some s) = s.next ∷ entry_values s.entry
step_values None = 0 ∷ []

abbrev pub told_walked : Result (Option Step) Refusal → Said
told_walked answer = told_by step_values answer
