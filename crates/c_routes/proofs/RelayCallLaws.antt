-- The calls on frames that go on, from what the core answers.
-- Assumes nothing.
use Rattle.octets.proofs.Words.{◌≡◌, refl, sym, ap, ◌∙◌, Bool, true, false, cond, List, ℕ, ◌≤◌, arith, ne_eqb}
use Rattle.octets.specs.Calls.{after}
use Rattle.frame_kinds.specs.Shape.{place_of}
use Rattle.frame_traffic.specs.Traffic.{data_kind}
use Rattle.std.specs.Prelude.{Ok, Err}
use Rattle.octets.specs.Refusals.{number_of}
use Rattle.octets.specs.declared.refusals.Refusal.{Refusal}
use Rattle.octets.proofs.RefusalLaws.{refusal_some}
use Rattle.route_relays.specs.Outcomes.{Relayed}
use Rattle.route_forwards.specs.Forwards.{ForwardLeft, forward_left, forwarded_in, forward_call}
use Rattle.route_relays.specs.Relays.{Relaying, relay_of, relay_in, relayed, unwritten}
use Rattle.route_relays.proofs.RelayLaws.{relay-kept, relay_short}
use Rattle.route_bytes.specs.TableBytes.{table_in, is_table}
use Rattle.c_routes.specs.RelayCalls.{RelayLeft, relay_left, relay_call}

-- ---- relaying, by bytes that are a table or by others
module _ (s frame : List ℕ) (time least : ℕ) (out : List ℕ) (next_hop place extent left : ℕ) (r : Relayed) (held : List ℕ) (e : relayed r held ≡ relay_in s frame time least out) where
  abbrev inside : Relaying
  inside = relay_of (table_in s) frame time least out

  abbrev leaves : Bool → RelayLeft
  leaves known =
      let a = inside.answer in
      let status = cond known a.refused 14 in
      relay_left status (after status out inside.held) (after status next_hop a.next_hop) (after status place (cond a.ours (place_of data_kind) 0)) (after status extent a.size) (after status left a.left)

  pub relay-size : r.refused ≡ 0 → r.size ≤ 255
  unfolding relay_in
  relay-size z = go (is_table s) e
    where
      go : (b : Bool) → relayed r held ≡ cond b inside (relayed (unwritten 14 0) out) → r.size ≤ 255
      go true q = rw (ap (λ (x : Relaying). x.answer) q) (relay_short (table_in s) frame time least out (ap (λ (x : Relaying). x.answer.refused) (sym q) ∙ z))
      go false q = absurd (omega (arith, z, ap (λ (x : Relaying). x.answer.refused) q))

  pub relay-accepted : r.refused ≡ 0 → relay_left 0 held r.next_hop (cond r.ours (place_of data_kind) 0) r.size r.left ≡ relay_call s frame time least out next_hop place extent left
  unfolding relay_call relay_in
  relay-accepted z = go (is_table s) e
    where
      go : (b : Bool) → relayed r held ≡ cond b inside (relayed (unwritten 14 0) out) → relay_left 0 held r.next_hop (cond r.ours (place_of data_kind) 0) r.size r.left ≡ leaves b
      go true q = rw (← q, z)
      go false q = absurd (omega (arith, z, ap (λ (x : Relaying). x.answer.refused) q))

  pub relay-refused : (r.refused ≡ 0 → ⊥) → relay_left r.refused held next_hop place extent left ≡ relay_call s frame time least out next_hop place extent left
  unfolding relay_call relay_in
  relay-refused z = go (is_table s) e
    where
      go : (b : Bool) → relayed r held ≡ cond b inside (relayed (unwritten 14 0) out) → relay_left r.refused held next_hop place extent left ≡ leaves b
      go true q =
          let kept = ap (λ (x : Relaying). x.held) q ∙ relay-kept (table_in s) frame time least out (λ n. z (ap (λ (x : Relaying). x.answer.refused) q ∙ n)) in
          rw (← q, ne_eqb r.refused 0 z, kept)
      go false q = ap (λ (x : Relaying). relay_left x.answer.refused x.held next_hop place extent left) q

-- ---- forwarding: the call on the bytes says no number where it is refused
module _ (s : List ℕ) (network manager : ℕ) (frame : List ℕ) (delay time : ℕ) (out : List ℕ) (written : ℕ) (last held : List ℕ) where
  abbrev call : ForwardLeft
  call = forward_call s network manager frame delay time out written

  same-status : (forward_call s network manager frame delay time out 0).status ≡ call.status
  unfolding forward_call
  same-status = refl

  pub unforwarded : (r : Refusal) → forwarded_in (Err r) last held ≡ forward_call s network manager frame delay time out 0 → forward_left (number_of r) last held written ≡ call
  unfolding forward_call
  unforwarded r e =
      let n : number_of r ≡ call.status = ap (λ (x : ForwardLeft). x.status) e ∙ same-status in
      rw (ap (λ (x : ForwardLeft). x.table) e, ap (λ (x : ForwardLeft). x.out) e, ← n, ne_eqb (number_of r) 0 (refusal_some r))

  pub forwarded : (size : ℕ) → forwarded_in (Ok size) last held ≡ forward_call s network manager frame delay time out 0 → forward_left 0 last held size ≡ call
  unfolding forward_call
  forwarded size e =
      let n : 0 ≡ call.status = ap (λ (x : ForwardLeft). x.status) e ∙ same-status in
      rw (ap (λ (x : ForwardLeft). x.table) e, ap (λ (x : ForwardLeft). x.out) e, ap (λ (x : ForwardLeft). x.written) e, ← n)
