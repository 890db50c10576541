-- `way`: the room that a copy needs is that of the frame.
-- Assumes nothing.
use Rattle.octets.proofs.Words.{◌≡◌, length, rules}
use Rattle.frame_kinds.specs.Reading.{refusal_as}
use Rattle.frame_traffic.specs.Traffic.{data_kind}
use Rattle.route_relays.specs.Relays.{copy_of}
use Rattle.route_relays.proofs.RelayLaws.{copy-size}
use Rattle.route_relays.proofs.relaying.way.Goals as goal

pub returns-in_err-refuse_if-5 : goal.returns-in_err-refuse_if-5
returns-in_err-refuse_if-5 c =
    let s = c.args.frame.now in
    let unread : refusal_as data_kind s ≡ 0 = search rules in
    let size : length s ≡ length (copy_of s) = copy-size s unread in
    search rules

pub returns : goal.returns
returns c =
    let s = c.args.frame.now in
    let unread : refusal_as data_kind s ≡ 0 = search rules in
    let size : length s ≡ length (copy_of s) = copy-size s unread in
    search rules
