-- `why_unmerged_in`: no table, or the first reason that holds of the one that is there.
-- Assumes nothing.
use Rattle.octets.proofs.Words.{◌≡◌, ◌∙◌, true, false, rules}
use Rattle.octets.specs.Refusals.{status_of}
use Rattle.route_bytes.specs.TableBytes.{holds_table}
use Rattle.route_merges.proofs.StoredLaws.{none-held, one-held}
use Rattle.route_merges.proofs.stored.why_unmerged_in.Goals as goal

pub returns-in_err-refuse_if : goal.returns-in_err-refuse_if
returns-in_err-refuse_if c =
    let e : status_of c.from_residual.result ≡ 14 = search rules in
    let none : holds_table c.args.s.now ≡ false = search rules in
    e ∙ none-held _ _ _ _ none

pub returns : goal.returns
returns c =
    let one : holds_table c.args.s.now ≡ true = search rules in
    one-held _ _ _ _ one c.head_of-head.result c.head_of-head.ensures _ c.why_unmerged.ensures
