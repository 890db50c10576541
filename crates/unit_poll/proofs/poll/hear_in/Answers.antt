-- `hear_in`: the message sifted in.
-- Assumes nothing.
use Rattle.std.proofs.Common.{arith}
use Rattle.std.proofs.lemmas.Grind.{common_steps}
use Rattle.octets.proofs.Words.{◌≡◌, ap, ◌∙◌, true, false, sets}
use Rattle.unit_poll.specs.declared.voter.Voter.{Voter}
use Rattle.unit_poll.specs.Places.{sifted}
use Rattle.unit_poll.specs.PollBytes.{voters_bytes, places_in, poll_in, holds_poll}
use Rattle.unit_poll.specs.Polls.{hear_refusal}
use Rattle.unit_poll.proofs.PollLaws.{message_in, heard-accepted}
use Rattle.unit_poll.proofs.poll.hear_in.Goals as goal

pub returns : goal.returns
returns c =
    let s = c.args.poll.now in
    let frame = c.args.frame.now in
    let held : holds_poll s ≡ true = grind (arith, common_steps) in
    let heard : hear_refusal (poll_in s) frame ≡ 0 = grind (arith, common_steps) in
    let voter = c.from.ensures ∙ message_in c.of.result frame c.of.ensures in
    heard-accepted s frame held heard c.why_unheard.ensures.small _
    (c.sift.ensures ∙ ap (λ (v : Voter). sets s 3 (voters_bytes (sifted false v (places_in s)))) voter)
