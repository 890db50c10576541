-- Rows that are gone affect no answer: a table within rule and the same without them are answered alike.
-- Assumes nothing.
use Rattle.octets.proofs.Words.{◌≡◌, true, List, ℕ, length}
use Rattle.frame_beacons.specs.EitherBeacons.{either_in}
use Rattle.route_table.specs.declared.table.Table.{Table}
use Rattle.route_table.specs.Tables.{within_rule, dropped}
use Rattle.route_table.proofs.DroppedLaws.{dropped-within, dropped-standing, dropped-lookup}
use Rattle.route_forwards.specs.Forwards.{origin_of, forward_refusal, forward_of}

module _ (time : ℕ) (t : Table) (e : within_rule t ≡ true) (network manager : ℕ) (s : List ℕ) (delay : ℕ) where
  forward-refusal : (room : ℕ) → forward_refusal (dropped time t) network manager s delay time room ≡ forward_refusal t network manager s delay time room
  unfolding forward_refusal
  forward-refusal room = rw (dropped-within time t e, e, dropped-lookup time t e (origin_of manager (either_in s)))

  module _ (out : List ℕ) where
    pub forward-refused : (forward_of (dropped time t) network manager s delay time out).answer.refused ≡ (forward_of t network manager s delay time out).answer.refused
    unfolding forward_of
    forward-refused = forward-refusal (length out)

    pub forward-written : (forward_of (dropped time t) network manager s delay time out).answer.written ≡ (forward_of t network manager s delay time out).answer.written
    unfolding forward_of
    forward-written = rw (forward-refusal (length out))

    pub forward-held : (forward_of (dropped time t) network manager s delay time out).held ≡ (forward_of t network manager s delay time out).held
    unfolding forward_of
    forward-held = rw (forward-refusal (length out))

    -- where it is accepted
    pub forward-table : (forward_of t network manager s delay time out).answer.refused ≡ 0
        → (forward_of (dropped time t) network manager s delay time out).answer.table ≡ (forward_of t network manager s delay time out).answer.table
    unfolding forward_of
    forward-table z = rw (forward-refusal (length out), z, dropped-standing time t)
