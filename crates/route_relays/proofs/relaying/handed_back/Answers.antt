-- `handed_back`: the payload where it is relayed to this unit.
-- Assumes nothing.
use Rattle.octets.proofs.Words.{◌≡◌, sym, ap, ◌∙◌, true, false, rules}
use Rattle.octets.specs.Parts.{lent}
use Rattle.octets.specs.Refusals.{status_of}
use Rattle.route_table.specs.Tables.{within_rule}
use Rattle.octets.specs.Answers.{first}
use Rattle.route_table.specs.Rows.{row_for}
use Rattle.route_table.specs.Tables.{rows_of, found_by}
use Rattle.std.specs.Prelude.{Ok, Some, None}
use Rattle.octets.proofs.RefusalLaws.{refusal_some}
use Rattle.route_relays.specs.Ways.{LeadsOn}
use Rattle.route_relays.specs.Relays.{is_for, data_in, unrelayed_reasons}
use Rattle.route_relays.proofs.RelayLaws.{header_in, handed_to_none, handed_part, handed_none}
use Rattle.route_relays.proofs.relaying.handed_back.Goals as goal
use Rattle.route_relays.proofs.relaying.handed_back.Goals.{After-way}

pub returns-then-not-within_rule : goal.returns-then-not-within_rule
returns-then-not-within_rule c =
    let a = c.args in
    let wrong : within_rule a.table ≡ false = search rules in
    c.part.ensures ∙ handed_to_none a.table (lent a.frame) a.time wrong

-- why it is not relayed, by the fields of the frame
number : (c : After-way) → within_rule c.args.table ≡ true
    → status_of c.way.result ≡ first (unrelayed_reasons c.args.table.own c.args.table.time (found_by c.args.table.time (row_for (data_in c.args.frame.now).destination (rows_of c.args.table)) (data_in c.args.frame.now).destination c.args.time) c.args.frame.now c.args.time 0 0)
number c right =
    c.way.ensures.0 ∙ rw (c.head.ensures, c.route_to-route.ensures, header_in c.of-to.result c.args.frame.now c.of-to.ensures)

pub returns-in-Ok-None : goal.returns-in-Ok-None
returns-in-Ok-None c =
    let a = c.args in
    let d = (goal.at.returns-in-Ok-None c).After-way in
    let right : within_rule a.table ≡ true = search rules in
    let none : c.way.result ≡ Ok None = c.in-Ok-None.is ∙ ap Ok c.in-Ok-None.field-0-is in
    let ours : is_for a.table.own a.frame.now ≡ true = rw (none, c.head.ensures) at c.way.ensures.1 in
    c.payload.ensures ∙ handed_part a.table (lent a.frame) a.time right _ (number d right) (ap status_of none) ours

pub returns-in-Ok-Some : goal.returns-in-Ok-Some
returns-in-Ok-Some c =
    let a = c.args in
    let d = (goal.at.returns-in-Ok-Some c).After-way in
    let right : within_rule a.table ≡ true = search rules in
    let on : c.way.result ≡ Ok (Some c.in-Ok-Some.field-0-0) = c.in-Ok-Some.is ∙ ap Ok c.in-Ok-Some.field-0-is in
    let way : LeadsOn a.table.own c.route_to-route.result a.frame.now (Some c.in-Ok-Some.field-0-0) = rw (on, c.head.ensures) at c.way.ensures.1 in
    c.part-in-Ok-Some.ensures ∙ handed_none a.table (lent a.frame) a.time right _ (number d right) (λ z. way.0)

pub returns-in-Err : goal.returns-in-Err
returns-in-Err c =
    let a = c.args in
    let d = (goal.at.returns-in-Err c).After-way in
    let right : within_rule a.table ≡ true = search rules in
    c.part-in-Err.ensures ∙
    handed_none a.table (lent a.frame) a.time right _ (number d right) (λ z. absurd (refusal_some c.in-Err.field-0 (sym (ap status_of c.in-Err.is) ∙ z)))
