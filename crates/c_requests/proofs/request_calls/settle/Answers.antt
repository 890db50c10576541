-- `settle`: the book that was granted, over as many bytes as it has.
-- Assumes nothing.
use Rattle.octets.proofs.Words.{refl}
use Rattle.c_requests.proofs.RequestCallLaws.{stored}
use Rattle.c_requests.proofs.request_calls.settle.Goals as goal

pub returns : goal.returns
returns c =
    let a = c.args in
    let w = c.write_back.ensures in
    λ b held. rw w.0 (stored b held a.book.now _ a.written.now a.granted c.in_ok-granted.granted c.in_ok-granted.was c.requires.size (w.2 b refl) w.1)
