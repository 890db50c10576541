-- `entries_good`'s loop: whether the entries passed keep their rules.
-- Assumes nothing.
use Rattle.octets.proofs.Words.{refl}
use Rattle.octets.specs.Lists.{every, tab}
use Rattle.octets.proofs.ListLaws.{tab_snoc, every_snoc}
use Rattle.frame_traffic.specs.Traffic.{entry_at}
use Rattle.frame_traffic.proofs.entry.entries_good.Goals as goal

pub loop-position-init : goal.loop-position-init
unfolding every tab
loop-position-init c = refl

pub loop-position-preserved : goal.loop-position-preserved
loop-position-preserved c =
    let l = c.loop-position in
    let part = c.args.part.now in
    rw (tab_snoc l.position (entry_at part), every_snoc) (cc)
