-- `entries_good`'s loop: whether the entries passed keep their rules.
-- Assumes nothing.
use Rattle.octets.proofs.Words.{◌≡◌}
use Rattle.octets.specs.Lists.{every}
use Rattle.frame_traffic.specs.Traffic.{entry_rule, entries_of}
use Rattle.frame_traffic.proofs.entry.entries_good.Given as goal

abbrev pub invariant-loop-position : goal.invariant-loop-position
invariant-loop-position l = l.good ≡ every entry_rule (entries_of l.position l.part)
