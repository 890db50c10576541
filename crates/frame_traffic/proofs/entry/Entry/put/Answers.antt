-- `Entry::put`: the fields, one behind the other.
-- Assumes nothing.
use Rattle.octets.proofs.StoreLaws.{all_laid}
use Rattle.frame_traffic.specs.Traffic.{entry_widths, entry_values}
use Rattle.frame_traffic.proofs.entry.Entry.put.Goals as goal

pub returns : goal.returns
returns c =
    all_laid _ 0 entry_widths (entry_values _) _ (rw (
      c.store-5.ensures,
      c.store-4.ensures,
      c.store-3.ensures,
      c.store-2.ensures,
      c.store.ensures,
    ))
