-- `lowest`: what the turns leave is the mask without its k lowest slots, and the rest of it is those.
-- Assumes nothing.
use mathlib.Core.Path.{◌≡◌}
use Rattle.slot_sets.specs.Sets.{slots_of}
use Rattle.slot_sets.proofs.DropLaws.{without_lowest}
use Rattle.slot_sets.proofs.masks.lowest.Given as goal

abbrev pub invariant-loop : goal.invariant-loop
invariant-loop l = slots_of l.left ≡ without_lowest l.counter (slots_of l.m)
