-- Rows that are gone affect no answer: a table within rule and the same without them are answered alike.
-- Assumes nothing.
use Rattle.octets.proofs.Words.{◌≡◌, true, List, ℕ, length}
use Rattle.octets.specs.Parts.{Lent}
use Rattle.route_table.specs.declared.table.Table.{Table}
use Rattle.route_table.specs.Tables.{within_rule, dropped}
use Rattle.route_table.proofs.DroppedLaws.{dropped-within, dropped-lookup}
use Rattle.route_relays.specs.Relays.{data_in, relay_refusal, relay_of, handed_back}

module _ (time : ℕ) (t : Table) (e : within_rule t ≡ true) where
  relay-refusal : (s : List ℕ) (least room : ℕ) → relay_refusal (dropped time t) s time least room ≡ relay_refusal t s time least room
  unfolding relay_refusal
  relay-refusal s least room = rw (dropped-within time t e, e, dropped-lookup time t e (data_in s).destination)

  pub relay_alike : (s : List ℕ) (least : ℕ) (out : List ℕ) → relay_of (dropped time t) s time least out ≡ relay_of t s time least out
  unfolding relay_of
  relay_alike s least out = rw (relay-refusal s least (length out), dropped-lookup time t e (data_in s).destination)

  pub handed_alike : (s : Lent) → handed_back (dropped time t) s time ≡ handed_back t s time
  unfolding handed_back
  handed_alike s = rw (relay-refusal s.bytes 0 0)
