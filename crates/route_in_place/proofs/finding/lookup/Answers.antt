-- `lookup`: no table, or what the row for the destination answers.
-- Assumes nothing.
use Rattle.octets.proofs.Words.{refl, sym, ◌∙◌, false, true}
use Rattle.route_bytes.specs.TableBytes.{table_in}
use Rattle.route_in_place.proofs.FindLaws.{lookup-none, lookup-by}
use Rattle.route_in_place.proofs.JudgedLaws.{judged-holds, judged-found}
use Rattle.route_in_place.proofs.finding.lookup.Goals as goal

pub returns-in_default : goal.returns-in_default
returns-in_default c =
    let a = c.args in
    sym (lookup-none a.s.now a.destination a.time (judged-holds a.s.now a.destination _ c.in_default.ensures false refl))

pub returns : goal.returns
unfolding table_in
returns c =
    let a = c.args in
    c.found_by.ensures ∙
    rw (judged-found a.s.now a.destination _ c.in-Some.ensures refl, c.read.ensures)
    (sym (lookup-by a.s.now a.destination a.time (judged-holds a.s.now a.destination _ c.in-Some.ensures true refl)))
