-- A call on a book whose numbers fit their bytes leaves such a book: where it is accepted, one row is written, of a unit with an address or of none.
-- Assumes nothing.
use Rattle.octets.proofs.Words.{◌≡◌, sym, subst, ℕ, ◌<◌}
use Rattle.octets.proofs.AddressLaws.{address-fits}
use Rattle.slot_sets.specs.Sets.{Slots}
use Rattle.book_members.specs.Members.{empty_row, place_for, member_with}
use Rattle.book.specs.Books.{Contents, rows_at}
use Rattle.book_bytes.specs.Trips.{Sized}
use Rattle.book_bytes.proofs.SizeLaws.{row_fits, empty_fits, sized-written}
use Rattle.book_history.specs.Calls.{Call, join, ask, heard, leave, schedule, image, refusal_of, next, unit_of, time_of}
use Rattle.book_history.specs.Laws.{KeepsSize}
use Rattle.book_history.proofs.HoldingLaws.{by-refusal}
use Rattle.book_history.proofs.TakingLaws.{Taken, join-taken, ask-taken, heard-taken, leave_freed}

taken-sized : {b : Contents} {c : Call} {at : ℕ} {own : Slots 64} → Taken b c at own → time_of c < 0x100000000 → Sized b → Sized (next b c)
taken-sized {b} {c} {at} {own} t h z =
    let fits = row_fits (unit_of c) own (time_of c) (address-fits (unit_of c) t.allowed.of-unit) h in
    subst Sized (sym t.book) (sized-written b (time_of c) at (member_with (unit_of c) own (time_of c)) z h fits)

accepted-sized : (b : Contents) (c : Call) → time_of c < 0x100000000 → Sized b → refusal_of b c ≡ 0 → Sized (next b c)
accepted-sized b (join s time out) h z e = taken-sized (join-taken b s time out e) h z
accepted-sized b (ask s time out) h z e = taken-sized (ask-taken b s time out e) h z
accepted-sized b (heard unit time) h z e = taken-sized (heard-taken b unit time e) h z
accepted-sized b (leave unit time) h z e =
    subst Sized (sym (leave_freed b unit time e).book) (sized-written b time (place_for unit (rows_at b time)) empty_row z h empty_fits)
accepted-sized b (schedule unit hop time out) h z e = z
accepted-sized b (image time out) h z e = z

pub keeps_size : KeepsSize
keeps_size b c h z = by-refusal Sized b c z (accepted-sized b c h z)
