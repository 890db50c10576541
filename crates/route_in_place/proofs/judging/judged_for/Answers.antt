-- `judged_for`: the length, the rows in front, the head, the zeros behind the rows, and the row that was found.
-- Assumes nothing.
use Rattle.octets.proofs.Words.{◌∙◌, sym}
use Rattle.route_in_place.proofs.JudgedLaws.{no_length, judged-none, judged-some, rows-bad, all-judged, judged-row}
use Rattle.route_in_place.proofs.judging.judged_for.Goals as goal

pub returns-then-s-ne539 : goal.returns-then-s-ne539
returns-then-s-ne539 c = judged-none c.args.s.now c.args.wanted (no_length c.args.s.now c.if-s-ne539.true)

pub returns-in_err-front : goal.returns-in_err-front
returns-in_err-front c =
    let a = c.args in
    rw c.from_residual.ensures
    (judged-none a.s.now a.wanted (rows-bad a.s.now c.if-s-ne539.false c.head_of-head.result c.head_of-head.ensures a.wanted c.in_err-front.ensures))

pub returns-then-not-holds : goal.returns-then-not-holds
returns-then-not-holds c =
    let a = c.args in
    let all = all-judged a.s.now c.if-s-ne539.false c.head_of-head.result c.head_of-head.ensures a.wanted c.in_ok-front.front c.in_ok-front.ensures _ _ _ c.read.ensures c.pair_ok-pair.ensures c.zeros_from-zeros.ensures in
    judged-none a.s.now a.wanted (sym c.if-not-holds.true ∙ rw c.is_address-address.ensures all)

pub row_ending-requires : goal.row_ending-requires
row_ending-requires c = rw c.if-s-ne539.false c.in_ok-front.ensures.1.0

pub returns : goal.returns
returns c =
    let a = c.args in
    let h = c.head_of-head in
    let front = c.in_ok-front.front in
    let all = all-judged a.s.now c.if-s-ne539.false h.result h.ensures a.wanted front c.in_ok-front.ensures _ _ _ c.read.ensures c.pair_ok-pair.ensures c.zeros_from-zeros.ensures in
    let holds = sym c.if-not-holds.false ∙ rw c.is_address-address.ensures all in
    judged-some a.s.now a.wanted c.row_ending.result holds
    (c.row_ending.ensures ∙ judged-row a.s.now c.if-s-ne539.false h.result h.ensures a.wanted front c.in_ok-front.ensures holds)
