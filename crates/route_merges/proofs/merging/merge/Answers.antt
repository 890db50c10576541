-- `merge`: the table as it was, or every candidate learned over the rows that stand.
-- Assumes nothing.
use Rattle.octets.proofs.Words.{◌≡◌, refl, sym, ap, true, false, arith, rules}
use Rattle.std.specs.Prelude.{Err}
use Rattle.octets.specs.Parts.{Lent}
use Rattle.octets.specs.declared.refusals.Refusal.TheVariants.{Rule}
use Rattle.route_table.specs.Rows.{pad, standing}
use Rattle.route_table.specs.Tables.{rows_of, within_rule}
use Rattle.route_merges.specs.Merges.{update_in, merge_refusal}
use Rattle.route_merges.proofs.MergeLaws.{Mergeable, mergeable, header_in, stand_places, learnable, merged_by, counted-by, broken, in_rule, unmerged, merges}
use Rattle.route_merges.proofs.merging.merge.Goals as goal
use Rattle.route_merges.proofs.merging.merge.Goals.{After-entries}

-- none of the reasons holds
accepted : (d : After-entries) → merge_refusal d.args.table d.args.frame.now d.args.quality d.args.time ≡ 0
accepted d =
    let a = d.args in
    let right : within_rule a.table ≡ true = search rules in
    sym (in_rule a.table a.frame.now a.quality a.time right 0 (search rules))

-- what is known once the entries are at hand
able : (d : After-entries) → Mergeable d.args.table d.args.frame.now d.args.quality d.args.time
able d = mergeable _ _ _ _ (accepted d)

header : (d : After-entries) → d.of-header.result ≡ update_in d.args.frame.now
header d = header_in d.of-header.result _ d.of-header.ensures

stand : (d : After-entries) → d.standing_places-rows.result ≡ pad (standing d.args.time (rows_of d.args.table))
stand d = stand_places _ _ d.standing_places-rows.ensures.1 (able d).rule _ d.standing_places-rows.ensures.0

pub returns-in_err-refuse_if : goal.returns-in_err-refuse_if
returns-in_err-refuse_if c =
    let a = c.args in
    let e : c.from_residual.result ≡ Err Rule = grind arith in
    let wrong : within_rule a.table ≡ false = search rules in
    rw e (unmerged a.table a.frame.now a.quality a.time Rule (broken a.table a.frame.now a.quality a.time wrong))

pub returns-in_err-why_unmerged : goal.returns-in_err-why_unmerged
returns-in_err-why_unmerged c =
    let a = c.args in
    let r = c.in_err-why_unmerged.field-0.0 in
    let e : c.from_residual-in_err-why_unmerged.result ≡ Err r = grind arith in
    let right : within_rule a.table ≡ true = search rules in
    rw e (unmerged a.table a.frame.now a.quality a.time r (in_rule a.table a.frame.now a.quality a.time right _ c.in_err-why_unmerged.ensures))

pub learn_all-tally-requires : goal.learn_all-tally-requires
learn_all-tally-requires c = learnable _ _ _ _ (able c) _ (stand c) c.args.table.own c.of-header.result _ refl (header c) (ap (λ (l : Lent). l.bytes) c.entries.ensures)

pub returns : goal.returns
returns c =
    let d = (goal.at.returns c).After-entries in
    let part = ap (λ (l : Lent). l.bytes) d.entries.ensures in
    let (all, counts, placed) = c.learn_all-tally.ensures in
    merges _ _ _ _ c.learn_all-tally.result _ _ _ (accepted d)
    (merged_by _ _ _ _ (able d) _ (stand d) d.args.table.own d.of-header.result _ refl (header d) part _ all)
    (counted-by _ _ _ _ (able d) _ (stand d) d.args.table.own d.of-header.result _ refl (header d) part _ counts) placed.held refl refl
