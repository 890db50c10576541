-- The copy of a data frame is read as the frame with its ttl one less.
-- Assumes nothing.
use Rattle.octets.proofs.Words.{◌≡◌, refl, sym, subst, ◌∙◌, false, List, ℕ, arith, length, take, sets}
use Rattle.octets.specs.Layouts.{Fit, Bytes}
use Rattle.octets.proofs.LayoutLaws.{fields_fit}
use Rattle.octets.proofs.StoreLaws.{take-sets}
use Rattle.frame_kinds.specs.Shape.{part_in}
use Rattle.frame_kinds.proofs.ReadingLaws.{passed, part_length}
use Rattle.frame_traffic.specs.Traffic.{data_kind, data_values}
use Rattle.frames.proofs.KindLaws.{a_data}
use Rattle.frames.proofs.TripLaws.{accepted-read}
use Rattle.frames.proofs.WholeLaws.{frame-read}
use Rattle.route_table.specs.declared.table.Table.{Table}
use Rattle.route_relays.specs.Relays.{data_in, for_us, passed_on, copy_of, relay_refusal, Relaying}
use Rattle.route_relays.proofs.RelayLaws.{Onward, onward, onto, relay-number, relay-ours}
use Rattle.c_read_back.specs.FramesRead.{Copied, CopiesRead}

-- ---- a frame that is passed on
module _ (t : Table) (s : List ℕ) (time least : ℕ) (out : List ℕ) (b : Bytes s) (e : relay_refusal t s time least (length out) ≡ 0) (o : for_us t s ≡ false) where
  known : Onward t s time least (length out)
  known = onward t s time least (length out) e o

  abbrev values : List ℕ
  values = data_values (passed_on (data_in s))

  fits : Fit data_kind.widths values
  fits =
      let f = fields_fit s b data_kind.widths 1 in
      (f.0, (f.1.0, (omega (arith, f.1.1.0), (f.1.1.1.0, (f.1.1.1.1.0, tt)))))

  copied : Copied s (copy_of s)
  copied =
      let p = passed _ _ _ s known.unread in
      let read = frame-read data_kind a_data values (part_in data_kind s) fits (part_length data_kind s known.unread) (omega (arith, p.sized, p.short)) p.kept in
      record { frame = data_in s; received = accepted-read data_kind a_data s known.unread; lives = known.lives; sent = read.0; payload = read.1 }

  -- it stands first in the buffer
  pub sent : Copied s (take (length (copy_of s)) (sets out 0 (copy_of s)))
  sent = rw (take-sets out (copy_of s) (length (copy_of s)) refl known.fits) copied

pub copies_are_read : CopiesRead
copies_are_read t s time least out b z o =
    let unrefused = sym (relay-number t s time least out) ∙ z in
    let other = sym (relay-ours t s time least out z) ∙ o in
    subst (λ (w : Relaying). Copied s (take w.answer.size w.held)) (onto t s time least out unrefused other) (sent t s time least out b unrefused other)
