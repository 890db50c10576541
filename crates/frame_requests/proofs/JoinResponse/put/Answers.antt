-- `JoinResponse::put`: the type and the fields, one behind the other.
-- Assumes nothing.
use Rattle.octets.proofs.Words.{◌∷◌}
use Rattle.octets.proofs.StoreLaws.{all_laid}
use Rattle.frame_requests.specs.Requests.{join_response, join_response_values}
use Rattle.frame_requests.proofs.JoinResponse.put.Goals as goal

pub returns : goal.returns
returns c =
    all_laid _ 0 (1 ∷ join_response.widths) (join_response.code ∷ join_response_values _) _ (rw (
      c.store-6.ensures,
      c.store-5.ensures,
      c.store-4.ensures,
      c.store-3.ensures,
      c.store-2.ensures,
      c.store.ensures,
    ))
