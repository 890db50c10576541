-- The loops that look for a reason to refuse a sheet.
-- Assumes nothing.
use Rattle.octets.proofs.Words.{◌≡◌, ap, ap₂, ◌∙◌, Bool, true, ◌&&◌, List, ℕ, ◌-◌, ◌/◌, ◌<◌, ◌≤◌, length, drop}
use Rattle.octets.specs.Addresses.{address}
use Rattle.octets.specs.Lists.{every}
use Rattle.site_sheet.specs.declared.rows.Row.{Row}
use Rattle.site_sheet.specs.declared.rows.Ends.{Ends}
use Rattle.site_sheet.specs.Seen.{row_at, ends_at}
use Rattle.site_sheet.specs.SheetBytes.{row_size, link_size, proposed_at, sheet_in, link_at, links_in}
use Rattle.site_sheet.specs.Sheets.{unit_addressed, link_addressed}
use Rattle.site_sheet.proofs.RowLaws.{none_left, one_more}

module _ (s : List ℕ) (i : ℕ) where
  pub units-none : i ≡ length s / row_size → true ≡ every unit_addressed (drop i (sheet_in s))
  unfolding sheet_in every
  units-none e = none_left (length s / row_size) (proposed_at s) (every unit_addressed) i e

  pub units_more : (row : Row) (a good : Bool) → 0 < i → i ≤ length s / row_size → good ≡ every unit_addressed (drop i (sheet_in s))
      → row ≡ row_at s (i - 1) → a ≡ address row.unit → (a && good) ≡ every unit_addressed (drop (i - 1) (sheet_in s))
  unfolding sheet_in every
  units_more row a good z h e r p =
      one_more (length s / row_size) (proposed_at s) (every unit_addressed) i _ z h
      (ap₂ ◌&&◌ (p ∙ ap (λ (x : Row). address x.unit) r) e)

  pub links-none : i ≡ length s / link_size → true ≡ every link_addressed (drop i (links_in s))
  unfolding links_in every
  links-none e = none_left (length s / link_size) (link_at s) (every link_addressed) i e

  pub links_more : (ends : Ends) (a b good : Bool) → 0 < i → i ≤ length s / link_size → good ≡ every link_addressed (drop i (links_in s))
      → ends ≡ ends_at s (i - 1) → a ≡ address ends.one → b ≡ address ends.other
      → ((a && b) && good) ≡ every link_addressed (drop (i - 1) (links_in s))
  unfolding links_in every
  links_more ends a b good z h e r p q =
      one_more (length s / link_size) (link_at s) (every link_addressed) i _ z h
      (ap₂ ◌&&◌ (ap₂ ◌&&◌ (p ∙ ap (λ (x : Ends). address x.one) r) (q ∙ ap (λ (x : Ends). address x.other) r)) e)
