-- `response`: the record put, and its checksum behind it.
-- Assumes nothing.
use Rattle.octets.proofs.Words.{ℕ, refl, ◌∙◌, [], ◌∷◌, arith, replicate}
use Rattle.octets.proofs.StoreLaws.{sets-whole}
use Rattle.frame_kinds.proofs.StoredLaws.{frame-put}
use Rattle.frame_requests.specs.Requests.{join_response}
use Rattle.book_joins.proofs.ResponseLaws.{length-response}
use Rattle.book_joins.proofs.responses.response.Goals as goal

pub returns : goal.returns
returns c =
    let a = c.args in
    let room = replicate {A = ℕ} 13 0 in
    frame-put join_response (a.member.unit ∷ 0 ∷ a.slot ∷ a.member.time ∷ a.plan.network ∷ []) [] room refl _ _ _ (omega arith) c.put.ensures refl c.seal.ensures
    ∙ sets-whole room _ (length-response a.plan a.member.unit a.member.time a.slot)
