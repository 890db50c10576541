-- A forwarded beacon is read as the beacon from this unit, one hop further and so much later.
-- Assumes nothing.
use Rattle.octets.proofs.Words.{◌≡◌, refl, sym, ap₂, ◌∙◌, Bool, true, false, List, [], ◌⊎◌, inl, inr, ℕ, ◌+◌, ◌≤◌, ◌<◌, arith, ltb-false, length, take}
use Rattle.octets.specs.Layouts.{Fit, Bytes}
use Rattle.octets.proofs.CallLaws.{after-accepted}
use Rattle.octets.proofs.LayoutLaws.{fields_fit}
use Rattle.octets.proofs.StoreLaws.{take-sets}
use Rattle.octets.proofs.AddressLaws.{address-fits}
use Rattle.frame_kinds.specs.Reading.{refusal_as}
use Rattle.frame_beacons.specs.Beacons.{beacon, beacon_values}
use Rattle.frame_beacons.specs.ShortBeacons.{short_beacon, short_beacon_values}
use Rattle.frame_beacons.specs.EitherBeacons.{of_beacon, of_short, beacon_in, short_in, is_short, either_in}
use Rattle.frame_beacons.proofs.EitherLaws.{short_refused, beacon-refused, short_read, beacon-read}
use Rattle.frames.proofs.KindLaws.{a_beacon, a_short_beacon}
use Rattle.frames.proofs.TripLaws.{accepted-read}
use Rattle.frames.proofs.WholeLaws.{frame-read}
use Rattle.route_table.specs.declared.table.Table.{Table}
use Rattle.route_table.proofs.TableLaws.{within}
use Rattle.route_forwards.specs.Copies.{passed_by, short_passed_by}
use Rattle.route_forwards.specs.Forwards.{copy_of, forward_refusal, forward_of}
use Rattle.route_forwards.proofs.ForwardLaws.{Onward, onward, read_ruled, read_short_ruled, heard_ruled}
use Rattle.c_read_back.specs.FramesRead.{Forwarded, ShortForwarded, ForwardsRead}

module _ (t : Table) (network manager : ℕ) (s : List ℕ) (delay time : ℕ) (out : List ℕ) (b : Bytes s) (e : forward_refusal t network manager s delay time (length out) ≡ 0) where
  known : Onward t network manager s delay time (length out)
  known = onward t network manager s delay time (length out) e

  own-fits : t.own < 0x10000
  own-fits = address-fits t.own (within t known.right).unit

  few : (either_in s).max_hops ≤ 10
  few = (heard_ruled s manager known.manages known.unread).few

  -- ---- a beacon
  module _ (x : is_short s ≡ false) where
    abbrev values : List ℕ
    values = beacon_values (passed_by t.own delay (beacon_in s))

    heard : either_in s ≡ of_beacon (beacon_in s)
    heard = sym (beacon-read s x (beacon_in s) refl)

    unread : refusal_as beacon s ≡ 0
    unread = beacon-refused s x ∙ known.unread

    fits : Fit beacon.widths values
    unfolding passed_by
    fits =
        let f = fields_fit s b beacon.widths 1 in
        let further : (either_in s).hop + 1 < 256 = omega (arith, known.below, few) in
        let hop : (beacon_in s).hop + 1 < 256 = rw heard at further in
        let sum : (beacon_in s).delay + delay ≤ 0xFFFFFFFF = rw (heard, x) at known.sum in
        let delayed : (beacon_in s).delay + delay < 0x100000000 = omega (arith, sum) in
        let f₄ = f.1.1.1.1 in
        let f₈ = f₄.1.1.1.1 in
        let f₁₂ = f₈.1.1.1.1 in (
          f.0,
          (
            own-fits,
            (f.1.1.0, (f.1.1.1.0, (f₄.0, (f₄.1.0, (f₄.1.1.0, (f₄.1.1.1.0, (f₈.0, (hop, (f₈.1.1.0, (delayed, (f₁₂.0, (f₁₂.1.0, tt)))))))))))),
          ),
        )

    forwarded : Forwarded t.own delay s (copy_of t delay s)
    unfolding passed_by
    forwarded =
        let good = (read_ruled s unread).passes t.own delay (within t known.right).unit (rw heard at known.below) in
        record {
          beacon = beacon_in s;
          received = accepted-read beacon a_beacon s unread;
          sent = rw x (frame-read beacon a_beacon values [] fits refl (omega arith) good).0;
        }

  -- ---- a short one
  module _ (x : is_short s ≡ true) where
    abbrev short_values : List ℕ
    short_values = short_beacon_values (short_passed_by t.own delay (short_in s))

    short_heard : either_in s ≡ of_short (short_in s)
    short_heard = sym (short_read s x (short_in s) refl)

    short_unread : refusal_as short_beacon s ≡ 0
    short_unread = short_refused s x ∙ known.unread

    short_fits : Fit short_beacon.widths short_values
    unfolding short_passed_by
    short_fits =
        let f = fields_fit s b short_beacon.widths 1 in
        let further : (either_in s).hop + 1 < 256 = omega (arith, known.below, few) in
        let hop : (short_in s).hop + 1 < 256 = rw short_heard at further in
        let sum : (short_in s).delay + delay ≤ 0xFFFF = rw (short_heard, x) at known.sum in
        let delayed : (short_in s).delay + delay < 0x10000 = omega (arith, sum) in
        let f₄ = f.1.1.1.1 in
        (own-fits, (f.1.0, (f.1.1.0, (f.1.1.1.0, (hop, (f₄.1.0, (delayed, (f₄.1.1.1.0, (f₄.1.1.1.1.0, tt)))))))))

    short_forwarded : ShortForwarded t.own delay s (copy_of t delay s)
    unfolding short_passed_by
    short_forwarded =
        let good = (read_short_ruled s short_unread).passes t.own delay (within t known.right).unit (rw short_heard at known.below) in
        record {
          beacon = short_in s;
          received = accepted-read short_beacon a_short_beacon s short_unread;
          sent = rw x (frame-read short_beacon a_short_beacon short_values [] short_fits refl (omega arith) good).0;
        }

  either_forwarded : Forwarded t.own delay s (copy_of t delay s) ⊎ ShortForwarded t.own delay s (copy_of t delay s)
  either_forwarded = go (is_short s) refl
    where
      go : (x : Bool) → is_short s ≡ x → Forwarded t.own delay s (copy_of t delay s) ⊎ ShortForwarded t.own delay s (copy_of t delay s)
      go true x = inr (short_forwarded x)
      go false x = inl (forwarded x)

  -- it stands first in the buffer
  standing : take (forward_of t network manager s delay time out).answer.written (forward_of t network manager s delay time out).held ≡ copy_of t delay s
  unfolding forward_of
  standing =
      ap₂ {C = List ℕ} take (after-accepted _ 0 _ e) (after-accepted _ out _ e)
      ∙ take-sets out (copy_of t delay s) (length (copy_of t delay s)) refl (ltb-false (length out) (length (copy_of t delay s)) known.fits)

pub forwards_are_read : ForwardsRead
unfolding forward_of
forwards_are_read t network manager s delay time out b e = rw (standing t network manager s delay time out b e) (either_forwarded t network manager s delay time out b e)
