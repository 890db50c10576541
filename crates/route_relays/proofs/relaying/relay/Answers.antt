-- `relay`: a table out of rule, or what its row for the destination makes of the frame.
-- Assumes nothing.
use Rattle.octets.proofs.Words.{◌≡◌, ◌∙◌, true, false, arith, rules}
use Rattle.std.specs.Prelude.{Err}
use Rattle.octets.specs.declared.refusals.Refusal.TheVariants.{Rule}
use Rattle.route_table.specs.Tables.{within_rule}
use Rattle.route_relays.proofs.RelayLaws.{header_in, relayed-by, unrelayed}
use Rattle.route_relays.proofs.relaying.relay.Goals as goal

pub returns-in_err-refuse_if : goal.returns-in_err-refuse_if
returns-in_err-refuse_if c =
    let a = c.args in
    let e : c.from_residual.result ≡ Err Rule = grind arith in
    let wrong : within_rule a.table ≡ false = search rules in
    rw e (unrelayed a.table a.frame.now a.time a.least a.out.now wrong)

pub returns : goal.returns
returns c =
    let a = c.args in
    let right : within_rule a.table ≡ true = search rules in
    c.relay_by.ensures ∙
    rw (c.head.ensures, c.route_to-route.ensures, header_in c.of-to.result a.frame.now c.of-to.ensures)
    (relayed-by a.table a.frame.now a.time a.least a.out.now right)
