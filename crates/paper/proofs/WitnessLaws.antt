-- The frames of the ten kinds, read by computing.
-- Assumes nothing.
use mathlib.Core.Path.{refl}
use Rattle.octets.specs.Lists.{tab, every}
use Rattle.octets.specs.Numbers.{num}
use Rattle.octets.specs.Sums.{xors}
use Rattle.frame_kinds.specs.Reading.{is_sealed, read_refusal}
use Rattle.frame_traffic.specs.Traffic.{entry_at}
use Rattle.frames.specs.Frames.{read_frame}
use Rattle.paper.specs.Witnesses.{kinds_read, EveryKindRead, OneOfEachKind}

pub every_kind_read : EveryKindRead
unfolding kinds_read read_frame read_refusal is_sealed num xors entry_at tab every
every_kind_read = refl

pub one_of_each_kind : OneOfEachKind
unfolding kinds_read
one_of_each_kind = refl
