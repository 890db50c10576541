-- `put_copy_of`: the copy of the kind that the type says.
-- Assumes nothing.
use Rattle.octets.proofs.Words.{sym, ◌∙◌}
use Rattle.route_forwards.proofs.CopyLaws.{short_fitting, short_copied, beacon-fitting, beacon_copied}
use Rattle.route_forwards.proofs.copying.put_copy_of.Goals as goal

pub put_short_copy-requires : goal.put_short_copy-requires
put_short_copy-requires c =
    short_fitting _ _ _ c.requires (sym c.is_short.ensures ∙ c.if-is_short.true) _ c.of.ensures

pub returns-then-is_short : goal.returns-then-is_short
returns-then-is_short c =
    c.put_short_copy.ensures ∙ rw (short_copied _ _ _ c.requires (sym c.is_short.ensures ∙ c.if-is_short.true) _ c.of.ensures _)

pub put_copy-requires : goal.put_copy-requires
put_copy-requires c =
    beacon-fitting _ _ _ c.requires (sym c.is_short.ensures ∙ c.if-is_short.false) _ c.of-2.ensures

pub returns : goal.returns
returns c =
    c.put_copy.ensures ∙ rw (beacon_copied _ _ _ c.requires (sym c.is_short.ensures ∙ c.if-is_short.false) _ c.of-2.ensures _)
