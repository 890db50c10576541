-- `learn_all`'s loop: what was learned so far, with what the entries left offer, is the whole.
-- Assumes nothing.
use Rattle.octets.proofs.Words.{sym, ◌∙◌, arith}
use Rattle.route_merges.proofs.LoopLaws.{going_start, going_past, going_on, for_unit, going_end}
use Rattle.route_merges.proofs.learning.learn_all.Goals as goal

pub loop-position-init : goal.loop-position-init
loop-position-init c =
    let h = c.args.heard in
    going_start h.own h.origin h.quality h.time c.args.part.now c.args.count c.args.rows.now _ _ _ (rw (← c.neighbour.ensures) c.learn-tally.ensures)

pub loop-position-preserved-in_default : goal.loop-position-preserved-in_default
loop-position-preserved-in_default c =
    let h = c.args.heard in
    let l = c.loop-position in
    going_past h.own h.origin h.quality h.time c.args.part.now c.args.count c.args.rows.now l.rows l.position l.tally.skipped l.tally.compared l.invariant c.loop-position-test.true
    (sym c.in_default.is ∙ c.at.ensures)

pub learn-one-requires : goal.learn-one-requires
learn-one-requires c =
    let h = c.args.heard in
    let l = c.loop-position in (
      l.invariant.placed,
      for_unit h.own h.origin h.quality h.time c.args.part.now c.args.count c.args.rows.now l.rows l.position l.tally.skipped l.tally.compared l.invariant c.loop-position-test.true
          c.in-Some.candidate (sym c.in-Some.is ∙ c.at.ensures) c.requires.3,
    )

pub loop-position-preserved : goal.loop-position-preserved
loop-position-preserved c =
    let h = c.args.heard in
    let l = c.loop-position in
    going_on h.own h.origin h.quality h.time c.args.part.now c.args.count c.args.rows.now l.rows l.position l.tally.skipped l.tally.compared l.invariant c.loop-position-test.true
    c.in-Some.candidate (sym c.in-Some.is ∙ c.at.ensures) _ _ _ c.learn-one.ensures

pub returns : goal.returns
returns c =
    let h = c.args.heard in
    let l = c.loop-position in
    going_end h.own h.origin h.quality h.time c.args.part.now c.args.count c.args.rows.now l.rows l.position l.tally.skipped l.tally.compared l.invariant (omega arith)
