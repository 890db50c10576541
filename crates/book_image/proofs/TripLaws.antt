-- The round trips: an accepted image written again, and a book written and restored.
-- Assumes nothing.
use Rattle.octets.proofs.Words.{◌≡◌, refl, sym, ap, ◌∙◌, Bool, true, false, and-eq-true_iff, List, [], ◌∷◌, ◌++◌, map, append_assoc, ℕ, zero, suc, ◌+◌, ◌*◌, ◌≤◌, ◌<◌, arith, eqb-true, leb-true, leb, lit<, length, get_or, take, drop, length-append, length-take, take_all, take-add}
use Rattle.octets.specs.Layouts.{fields, bytes, Fit, Bytes}
use Rattle.octets.specs.Lists.{tab, every}
use Rattle.octets.specs.Numbers.{num}
use Rattle.octets.proofs.LayoutLaws.{fields-bytes, bytes-fields}
use Rattle.octets.proofs.ListLaws.{get_or-tab, length-tab, tab-same, map-tab, every-at}
use Rattle.octets.proofs.NumberLaws.{num_lt}
use Rattle.octets.proofs.RunLaws.{run_length, run-read, run-kept}
use Rattle.moments.specs.Moments.{in_order}
use Rattle.slot_sets.specs.Sets.{slots_of, mask_of}
use Rattle.slot_sets.proofs.BitLaws.{set_of_mask}
use Rattle.slot_sets.proofs.MaskLaws.{mask_back, set_back}
use Rattle.site_plan.specs.Plans.{long_beacons}
use Rattle.site_plan.proofs.PlanByteLaws.{section-fit}
use Rattle.site_plan.proofs.PlanLaws.{rule_bounds}
use Rattle.book_members.specs.Members.{Row, empty_row, vacant_row, kept, current, restored_at, member_with}
use Rattle.book_members.specs.Rules.{row_rule}
use Rattle.book_members.proofs.RowLaws.{length-current, kept_empty, kept_now}
use Rattle.book_members.proofs.RowRuleLaws.{rule-zeros, rule-either}
use Rattle.book.specs.Books.{Contents, rows_in, rows_at}
use Rattle.book.proofs.WithinLaws.{RowsRuled, Within, within, rows_then}
use Rattle.site_plan.specs.PlanBytes.{section_widths, section_values, plan_from, section_at, section_bytes}
use Rattle.book_image.specs.Forms.{head_widths, head_values, head_bytes, form_size}
use Rattle.book_image.specs.Images.{row_widths, row_values, sections, rows_bytes, image_of, plan_in, row_in, image_book}
use Rattle.book_image.specs.Laws.{WrittenAgain, Sized, RestoredAs, Restored}
use Rattle.book_image.proofs.ImageLaws.{rows_run, length-head, length_front}
use Rattle.book_image.proofs.RenewedLaws.{ruled_renewed}
use Rattle.book_image.proofs.AcceptedLaws.{fits-parts, parts-fit, rows_from, Good, rows_used, good, accepted}

-- ---- what was read, written
-- rows of which none is silent
current-tab : (time n : ℕ) (f : ℕ → Row) → ((k : ℕ) → k < n → kept time (f k) ≡ f k) → current time (tab n f) ≡ tab n f
unfolding current tab
current-tab time zero f h = refl
current-tab time (suc n) f h =
    let rest : ℕ → Row = λ k. f (suc k) in
    ap (λ (rs : List Row). f 0 ∷ rs) (map-tab (kept time) n rest ∙ tab-same n (λ k. kept time (rest k)) rest (λ k l. h (suc k) (omega (arith, l))))

time_in : (s : List ℕ) (time i : ℕ) → vacant_row (row_in s time i) ≡ false → (row_in s time i).time ≡ time
unfolding row_in
time_in s time i e = rw e

module _ (s : List ℕ) (time : ℕ) (g : Good s time) where
  row-rule : (i : ℕ) → i < (plan_in s).rows → row_rule (plan_in s).data_slots (row_in s time i) ≡ true
  row-rule i h =
      let rule = row_rule (plan_in s).data_slots in
      rw (get_or-tab (plan_in s).rows (row_in s time) i empty_row h) at (every-at rule (rows_from s time) i empty_row g.rows.each (omega (arith, h, length-tab (plan_in s).rows (row_in s time))))

  -- none is silent at the time of its restore
  row_stays : (i : ℕ) → i < (plan_in s).rows → kept time (row_in s time i) ≡ row_in s time i
  row_stays i h = go (vacant_row (row_in s time i)) refl
    where
      go : (b : Bool) → vacant_row (row_in s time i) ≡ b → kept time (row_in s time i) ≡ row_in s time i
      go true t = rw (rule-zeros (plan_in s).data_slots (row_in s time i) (row-rule i h) t) (kept_empty time)
      go false t = kept_now time (row_in s time i) (time_in s time i t)

  rows_stay : rows_at (image_book s time) time ≡ rows_from s time
  rows_stay = ap (current time) (rows_used s time g.plan) ∙ current-tab time (plan_in s).rows (row_in s time) row_stays

module _ (s : List ℕ) (b : Bytes s) where
  row_kept : (at : ℕ) → at + 10 ≤ length s → bytes row_widths (num 2 s at ∷ mask_of (slots_of (num 8 s (at + 2))) ∷ []) ≡ take 10 (drop at s)
  row_kept at l = rw (mask_back (num 8 s (at + 2)) (num_lt s b 8 (at + 2))) (bytes-fields s b row_widths at l)

  module _ (rows : ℕ) (long : length s ≡ 20 + 10 * rows) where
    head-kept : fields (head_widths (sections rows)) s 0 ≡ head_values (sections rows) → head_bytes (sections rows) ≡ take 11 s
    head-kept e = ap (bytes (head_widths (sections rows))) (sym e) ∙ bytes-fields s b (head_widths (sections rows)) 0 (omega (arith, long))

    plan-kept : section_bytes (plan_in s) ≡ take 9 (drop 11 s)
    unfolding section_at section_bytes
    plan-kept = bytes-fields s b section_widths 11 (omega (arith, long))

    rows-kept : (time : ℕ) → rows_bytes (tab rows (row_in s time)) ≡ take (10 * rows) (drop 20 s)
    unfolding row_in
    rows-kept time = run-kept rows_run s rows 20 (row_in s time) (λ i h. row_kept (20 + 10 * i) (omega (arith, h, long)))

    all-kept : take 11 s ++ take 9 (drop 11 s) ++ take (10 * rows) (drop 20 s) ≡ s
    all-kept = rw (← take-add 11 9 s, ← take-add 20 (10 * rows) s) (take_all (20 + 10 * rows) s (omega (arith, long)))

pub written-again : WrittenAgain
unfolding image_of image_book
written-again s time b e =
    let g = good s time e in
    let rows = (plan_in s).rows in
    let (head, size) = fits-parts s rows g.fit in
    let long : length s ≡ 20 + 10 * rows = omega (arith, size) in
    rw (rows_stay s time g, head-kept s b rows long head, plan-kept s b rows long, rows-kept s b rows long time) (all-kept s b rows long)

-- ---- what was written, read
row_fits : (dataSlots : ℕ) (r : Row) → row_rule dataSlots r ≡ true → Fit row_widths (row_values r)
row_fits dataSlots r e = (
  rule-either dataSlots r e
      (λ t none. omega (arith, eqb-true r.unit 0 t))
      (λ t m. omega (arith, leb-true r.unit 0xFFFE ((and-eq-true_iff (leb 1 r.unit) (leb r.unit 0xFFFE)).0 m.unit).1)),
  ((set_of_mask 64 r.slots).1, tt),
)

each_fits : (dataSlots : ℕ) (r : Row) (rs : List Row) → every (row_rule dataSlots) (r ∷ rs) ≡ true → Fit row_widths (row_values r) × (every (row_rule dataSlots) rs ≡ true)
unfolding every
each_fits dataSlots r rs e =
    let (here, later) = (and-eq-true_iff (row_rule dataSlots r) (every (row_rule dataSlots) rs)).0 e in
    (row_fits dataSlots r here, later)

abbrev row_from : ℕ → List ℕ → Row
row_from time vs = restored_at time (member_with (get_or vs 0 0) (slots_of (get_or vs 1 0)) 0)

rows_back : (time : ℕ) (rs : List Row) → map (λ r. row_from time (row_values r)) rs ≡ map (restored_at time) rs
rows_back time [] = refl
rows_back time (r ∷ rs) = rw (set_back r.slots, rows_back time rs)

module _ (b : Contents) (time : ℕ) (z : Sized b) (w : Within b) (h : in_order b.time time ≡ true) (k : b.plan.beacon_type ≡ long_beacons) where
  abbrev count : ℕ
  count = b.plan.rows

  abbrev image : List ℕ
  image = image_of b time

  abbrev rows : List Row
  rows = rows_at b time

  rows_ruled : RowsRuled b time rows
  rows_ruled = rows_then b w time

  length-rows : length rows ≡ count
  length-rows = omega (arith, length-current time (rows_in b), length-take count b.places, z.places, (rule_bounds b.plan w.plan).few-rows)

  plan-read : plan_in image ≡ b.plan
  unfolding image_of section_at section_bytes
  plan-read =
      let head = head_bytes (sections count) in
      rw (append_assoc head (section_bytes b.plan) (rows_bytes rows)) (ap (λ (vs : List ℕ). plan_from (vs ++ (long_beacons ∷ []))) (fields-bytes section_widths (section_values b.plan) head (rows_bytes rows) 11 (length-head count) (section-fit b.plan z.plan)) ∙ ap (λ (kind : ℕ). plan_from (section_values b.plan ++ (kind ∷ []))) (sym k))

  head_read : fields (head_widths (sections count)) image 0 ≡ head_values (sections count)
  unfolding image_of
  head_read =
      let rest = section_bytes b.plan ++ rows_bytes rows in
      let fit : Fit (head_widths (sections count)) (head_values (sections count)) =
      (lit< tt, (lit< tt, (lit< tt, (lit< tt, (lit< tt, (lit< tt, (omega (arith, z.plan.1.1.1.0), tt))))))) in
      rw (append_assoc (head_bytes (sections count)) (section_bytes b.plan) (rows_bytes rows)) (fields-bytes (head_widths (sections count)) (head_values (sections count)) [] rest 0 refl fit)

  size-read : length image ≡ form_size (sections count)
  unfolding image_of
  size-read =
      rw (length-append (head_bytes (sections count) ++ section_bytes b.plan) (rows_bytes rows), length_front b.plan, run_length rows_run rows, length-rows) (omega arith)

  rows-read : tab count (row_in image time) ≡ map (restored_at time) rows
  unfolding image_of row_in
  rows-read =
      let rule = row_rule b.plan.data_slots in
      let front = head_bytes (sections count) ++ section_bytes b.plan in
      let read = run-read rows_run (λ rs. every rule rs ≡ true) (each_fits b.plan.data_slots) (row_from time) (row_in image time) rows front 20 (length_front b.plan) rows_ruled.each (λ i. refl) in
      (rw length-rows at read) ∙ rows_back time rows

  good-read : Good image time
  good-read = record {
    fit = rw plan-read (parts-fit image count head_read size-read);
    plan = rw plan-read w.plan;
    rows = rw (plan-read, rows-read) (ruled_renewed time rows_ruled);
  }

  restored_as : RestoredAs b time
  unfolding image_book
  restored_as = record {
    accepted = accepted image time good-read;
    plan = plan-read;
    began = refl;
    rows = rows_used image time good-read.plan ∙ rw plan-read rows-read;
  }

pub restored : Restored
restored b time z e h k = restored_as b time z (within b e) h k
