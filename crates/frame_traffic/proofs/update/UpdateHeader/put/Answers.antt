-- `UpdateHeader::put`: the type and the fields, one behind the other.
-- Assumes nothing.
use Rattle.octets.proofs.Words.{◌∷◌}
use Rattle.octets.proofs.StoreLaws.{all_laid}
use Rattle.frame_traffic.specs.Traffic.{update, update_values}
use Rattle.frame_traffic.proofs.update.UpdateHeader.put.Goals as goal

pub returns : goal.returns
returns c =
    all_laid _ 0 (1 ∷ update.widths) (update.code ∷ update_values _) _ (rw (
      c.store-4.ensures,
      c.store-3.ensures,
      c.store-2.ensures,
      c.store.ensures,
    ))
