-- What `braidlark_relay` tells: a next hop, and the copy in the buffer; or none, and the payload in the frame.
-- Assumes nothing.
use Rattle.octets.proofs.Words.{◌≡◌, refl, sym, ap, subst, ◌∙◌, Bool, true, false, cond, List, ℕ, eqb-true, length, take, drop, sets}
use Rattle.octets.specs.Calls.{after}
use Rattle.octets.proofs.CallLaws.{stored-none}
use Rattle.frame_kinds.specs.Shape.{place_of}
use Rattle.octets.proofs.AddressLaws.{address-some}
use Rattle.frame_traffic.specs.Traffic.{data_kind}
use Rattle.frames.proofs.KindLaws.{a_data}
use Rattle.frames.proofs.TripLaws.{accepted-read}
use Rattle.route_table.specs.declared.table.Table.{Table}
use Rattle.route_table.specs.Rows.{row_for, row_rule}
use Rattle.route_table.specs.Tables.{rows_of, lookup_of}
use Rattle.route_table.proofs.LookupLaws.{lookup-told, led_every}
use Rattle.route_table.proofs.RuleLaws.{ruled}
use Rattle.route_table.proofs.TableLaws.{within}
use Rattle.route_relays.specs.Relays.{data_in, for_us, copy_of, relay_refusal, Relaying, relayed, unwritten, relay_of}
use Rattle.route_relays.proofs.RelayLaws.{relayed-read, onward, onto, relay-number}
use Rattle.route_bytes.specs.TableBytes.{table_in, is_table}
use Rattle.c_routes.specs.RelayCalls.{RelayLeft, relay_left, relay_call}
use Rattle.c_read_back.specs.FramesRead.{Copied}
use Rattle.c_read_back.specs.CallsRead.{CopiesReadInC, Delivered, PayloadTold}
use Rattle.c_read_back.proofs.CopyReadLaws.{sent}

-- the next hop of a frame that is passed on is never 0
hop_some : (t : Table) (s : List ℕ) (time least room : ℕ) → relay_refusal t s time least room ≡ 0 → for_us t s ≡ false → (lookup_of t (data_in s).destination time).next_hop ≡ 0 → ⊥
hop_some t s time least room z o h =
    let d = (data_in s).destination in
    let row = row_for d (rows_of t) in
    let k = onward t s time least room z o in
    let rule = led_every t d time k.found (row_rule t.own t.time) (within t k.right).rules in
    address-some row.next_hop (ruled t.own t.time row rule).hop (rw (lookup-told t d time k.found) at h)

module _ (s frame : List ℕ) (time least : ℕ) (out : List ℕ) (next_hop place extent left : ℕ) (z : (relay_call s frame time least out next_hop place extent left).status ≡ 0) where
  abbrev t : Table
  t = table_in s

  abbrev here : RelayLeft
  here = relay_call s frame time least out next_hop place extent left

  -- what the call leaves, by whether the bytes are a table, and what relaying gives
  abbrev leaves : Bool → Relaying → RelayLeft
  leaves known relays =
      let a = relays.answer in
      let status = cond known a.refused 14 in
      relay_left status (after status out relays.held) (after status next_hop a.next_hop) (after status place (cond a.ours (place_of data_kind) 0)) (after status extent a.size) (after status left a.left)

  both : (is_table s ≡ true) × ((relay_of t frame time least out).answer.refused ≡ 0)
  unfolding relay_call
  both = stored-none (is_table s) (relay_of t frame time least out).answer.refused z

  unrefused : relay_refusal t frame time least (length out) ≡ 0
  unrefused = sym (relay-number t frame time least out) ∙ both.1

  passed_on_lem : for_us t frame ≡ false → here ≡ relay_left 0 (sets out 0 (copy_of frame)) (lookup_of t (data_in frame).destination time).next_hop 0 (length (copy_of frame)) (lookup_of t (data_in frame).destination time).left
  unfolding relay_call
  passed_on_lem o = λ i. leaves (both.0 i) (sym (onto t frame time least out unrefused o) i)

  handed_over : for_us t frame ≡ true → here ≡ relay_left 0 out 0 (place_of data_kind) (data_in frame).count 0
  unfolding relay_call relay_of
  handed_over o =
      let gives : relay_of t frame time least out ≡ relayed (unwritten 0 (data_in frame).count) out = rw (unrefused, o) in
      λ i. leaves (both.0 i) (gives i)

pub copies_are_read_in_c : CopiesReadInC
copies_are_read_in_c s frame time least out next_hop place extent left b z h = go (for_us (table_in s) frame) refl
  where
    go : (ours : Bool) → for_us (table_in s) frame ≡ ours
        → let r = relay_call s frame time least out next_hop place extent left in
        Copied frame (take r.extent (drop r.place r.out))
    go true o = absurd (h (ap (λ (r : RelayLeft). r.next_hop) (handed_over s frame time least out next_hop place extent left z o)))
    go false o =
        subst (λ (r : RelayLeft). Copied frame (take r.extent (drop r.place r.out))) (sym (passed_on_lem s frame time least out next_hop place extent left z o))
        (sent (table_in s) frame time least out b (unrefused s frame time least out next_hop place extent left z) o)

pub payload_is_told : PayloadTold
payload_is_told s frame time least out next_hop place extent left z h = go (for_us (table_in s) frame) refl
  where
    go : (ours : Bool) → for_us (table_in s) frame ≡ ours
        → let r = relay_call s frame time least out next_hop place extent left in
        Delivered (table_in s).own frame r.place r.extent × (r.out ≡ out) × (r.left ≡ 0)
    go true o =
        let told = handed_over s frame time least out next_hop place extent left z o in
        let unread = relayed-read (table_in s) frame time least (length out) (unrefused s frame time least out next_hop place extent left z) in
        rw told (
          record {
            frame = data_in frame;
            received = accepted-read data_kind a_data frame unread;
            ours = eqb-true (data_in frame).destination (table_in s).own o;
            placed = refl;
            sized = refl;
            payload = refl;
          },
          refl,
          refl,
        )
    go false o =
        let told = passed_on_lem s frame time least out next_hop place extent left z o in
        absurd (hop_some (table_in s) frame time least (length out) (unrefused s frame time least out next_hop place extent left z) o (sym (ap (λ (r : RelayLeft). r.next_hop) told) ∙ h))
