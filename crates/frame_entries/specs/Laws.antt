-- What holds of a walk, and of what its answers say.
-- Assumes nothing.
use Rattle.std.specs.Prelude.{◌≡◌, ℕ, zero, suc, cond, List, [], ◌∷◌, map, eqb, get_or, drop}
use Rattle.octets.specs.Answers.{OneToOne}
use Rattle.frame_kinds.specs.Shape.{part_in}
use Rattle.frame_kinds.specs.Reading.{refusal_as}
use Rattle.frame_traffic.specs.Traffic.{update, entries_of, entry_values}
use Rattle.frame_entries.specs.Walks.{count_in, walk_of, told_walked}

-- the values of the entries that a walk meets from a position on, in at most so many steps: each step goes on at the next position that the one
-- before it gave, and one whose next position is 0 or that is refused is the last
abbrev pub met : ℕ → List ℕ → ℕ → List (List ℕ)
met zero s position = []
met (suc steps) s position =
    let values = (walk_of s position).values in
    let next = get_or values 0 0 in
    cond (eqb next 0) [] (drop 1 values ∷ met steps s next)

-- a walk from 0 over an update meets each entry once, in order, and then the end
abbrev pub MeetsEveryEntry : Type 0
MeetsEveryEntry =
    (s : List ℕ) → refusal_as update s ≡ 0
    → met (suc (count_in s)) s 0 ≡ map entry_values (entries_of (count_in s) (part_in update s))

-- what answers say tells them apart
abbrev pub WalkedOneToOne : Type 0
WalkedOneToOne = OneToOne told_walked
