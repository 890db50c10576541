-- What is read as a page is merged as the page's rows.
-- Assumes nothing.
use Rattle.octets.proofs.Words.{◌≡◌, ap, ◌∙◌, [], ◌∷◌, map, length}
use Rattle.frame_kinds.specs.Shape.{part_in}
use Rattle.frame_traffic.specs.declared.update.UpdateHeader.{UpdateHeader}
use Rattle.frame_traffic.specs.Traffic.{update, update_from, entries_of}
use Rattle.frames.proofs.KindLaws.{an_update}
use Rattle.frames.proofs.WholeLaws.{taken_as_read}
use Rattle.route_merges.specs.Merges.{update_in, merge_refusal, merged_rows}
use Rattle.route_pages.specs.Pages.{entry_for}
use Rattle.c_read_back.specs.FramesRead.{PagesOffer}

pub pages_offer : PagesOffer
unfolding merge_refusal merged_rows
pages_offer own time rows frame p =
    let (taken, values) = taken_as_read update an_update frame (own ∷ length rows ∷ time ∷ []) p.header in
    let header : update_in frame ≡ record { origin = own; count = length rows; time = time } = ap update_from values in
    let origin : (update_in frame).origin ≡ own = ap (λ (h : UpdateHeader). h.origin) header in
    let entries : entries_of (update_in frame).count (part_in update frame) ≡ map (entry_for time) rows =
    ap (λ (h : UpdateHeader). entries_of h.count (part_in update frame)) header ∙ p.entries in
    record {
      taken = taken;
      origin = origin;
      made = ap (λ (h : UpdateHeader). h.time) header;
      entries = entries;
      refusals = λ other quality at. rw (taken, origin);
      learnt = λ other quality at. rw (entries, origin);
    }
