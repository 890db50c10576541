-- An accepted image in its parts, and that these are document 01's list.
-- Assumes nothing.
use Rattle.octets.proofs.Words.{◌≡◌, refl, ap, ap₂, ◌∙◌, true, false≢true, and-eq-true_iff, List, [], ◌∷◌, map, ◌⊎◌, inl, inr, ℕ, ◌<◌, arith, eq-eqb, eqb-true, lt-ltb, le-ltb, le-leb, eqb, length, get_or, drop}
use Rattle.octets.specs.Layouts.{fields}
use Rattle.octets.specs.Lists.{tab, every}
use Rattle.octets.proofs.ListLaws.{length-tab, get_or-tab, tab-same, take-tab, map-tab, every-at, every-tab, every_behind_tab}
use Rattle.site_plan.specs.Plans.{plan_rule}
use Rattle.site_plan.proofs.PlanLaws.{rule_bounds, kept}
use Rattle.slot_sets.specs.Sets.{count}
use Rattle.book_members.specs.Members.{Row, empty_row, free, vacant, restored_at}
use Rattle.book_members.specs.Rules.{empty_is, row_rule, Used, past_time, rows_rule}
use Rattle.book_members.proofs.RowSums.{tally_distinct, tally_apart}
use Rattle.book_members.proofs.RowRuleLaws.{rule-either, rule-zeros, rule_empty, empty_is_lem, Ruled, ruled, vacant-free, used_rule}
use Rattle.book_members.proofs.PairLaws.{led_first, first_led, distinct-pairs, pairs-distinct, apart-pairs, pairs-apart}
use Rattle.book.specs.Books.{rows_in, within_rule}
use Rattle.book.proofs.WithinLaws.{within, by_parts}
use Rattle.book_image.specs.Forms.{head_widths, head_values, form_size, same, fits}
use Rattle.book_image.specs.Images.{sections, plan_in, row_in, image_book, accepted_image}
use Rattle.book_image.specs.Laws.{Acceptable, AcceptedExactly}
use Rattle.book_image.proofs.RestoringLaws.{place_in}
use Rattle.book_image.proofs.RenewedLaws.{renewed-past, ruled_renewed}

-- ---- the head
pub same_true : (xs ys : List ℕ) → same xs ys ≡ true → xs ≡ ys
same_true [] [] e = refl
same_true [] (y ∷ ys) e = absurd (false≢true e)
same_true (x ∷ xs) [] e = absurd (false≢true e)
same_true (x ∷ xs) (y ∷ ys) e =
    let (here, later) = (and-eq-true_iff (eqb x y) (same xs ys)).0 e in
    ap₂ ◌∷◌ (eqb-true x y here) (same_true xs ys later)

same_self : (xs : List ℕ) → same xs xs ≡ true
same_self [] = refl
same_self (x ∷ xs) = rw (eq-eqb x x refl) (same_self xs)

module _ (s : List ℕ) (rows : ℕ) where
  abbrev heads : List ℕ
  heads = fields (head_widths (sections rows)) s 0

  pub fits-parts : fits (sections rows) s ≡ true → (heads ≡ head_values (sections rows)) × (length s ≡ form_size (sections rows))
  fits-parts e =
      let (head, long) = (and-eq-true_iff (same heads (head_values (sections rows))) (eqb (length s) (form_size (sections rows)))).0 e in
      (same_true heads (head_values (sections rows)) head, eqb-true (length s) (form_size (sections rows)) long)

  pub parts-fit : heads ≡ head_values (sections rows) → length s ≡ form_size (sections rows) → fits (sections rows) s ≡ true
  parts-fit head long =
      let values = head_values (sections rows) in
      (and-eq-true_iff (same heads values) (eqb (length s) (form_size (sections rows)))).1
      (ap (λ (vs : List ℕ). same vs values) head ∙ same_self values, eq-eqb (length s) (form_size (sections rows)) long)

-- ---- the rows
-- those of an image restored at a time
abbrev pub rows_from : List ℕ → ℕ → List Row
rows_from s time = tab (plan_in s).rows (row_in s time)

abbrev RowsRuled : List ℕ → ℕ → Type 0
RowsRuled s time = Ruled (plan_in s).manager (plan_in s).data_slots time (rows_from s time)

pub record Good (s : List ℕ) (time : ℕ) : Type 0 where
  pub fit : fits (sections (plan_in s).rows) s ≡ true
  pub plan : plan_rule (plan_in s) ≡ true
  pub rows : RowsRuled s time

module _ (s : List ℕ) (time : ℕ) where
  pub rows_used : plan_rule (plan_in s) ≡ true → rows_in (image_book s time) ≡ rows_from s time
  unfolding image_book
  rows_used h =
      let count = (plan_in s).rows in
      take-tab count 21 (place_in s time count) (omega (arith, (rule_bounds (plan_in s) h).few-rows)) ∙
      tab-same count (place_in s time count) (row_in s time) (λ k l. rw (lt-ltb k count l))

  zeros-behind : every empty_is (drop (plan_in s).rows (image_book s time).places) ≡ true
  unfolding image_book
  zeros-behind =
      let count = (plan_in s).rows in
      every_behind_tab empty_is count 21 (place_in s time count) (λ k l. rw (le-ltb k count l) empty_is_lem)

  pub good : accepted_image s time ≡ true → Good s time
  unfolding accepted_image image_book
  good e =
      let (fit, ok) = (and-eq-true_iff (fits (sections (plan_in s).rows) s) (within_rule (image_book s time))).0 e in
      let w = within (image_book s time) ok in
      record { fit = fit; plan = w.plan; rows = rw (rows_used w.plan) at w.rows }

  pub accepted : Good s time → accepted_image s time ≡ true
  unfolding accepted_image image_book
  accepted g =
      rw g.fit (by_parts (image_book s time) (record {
        plan = g.plan;
        few = omega (arith, (rule_bounds (plan_in s) g.plan).few_data_slots);
        rows = rw (rows_used g.plan) g.rows;
        behind = zeros-behind;
      }))

  -- at another time
  rows_then : (then : ℕ) → map (restored_at then) (rows_from s time) ≡ rows_from s then
  unfolding row_in
  rows_then then = map-tab (restored_at then) (plan_in s).rows (row_in s time)

  good_then : (then : ℕ) → Good s time → Good s then
  good_then then g = record { fit = g.fit; plan = g.plan; rows = rw (rows_then then) at (ruled_renewed then g.rows) }

-- ---- document 01's list
module _ (s : List ℕ) where
  abbrev count-rows : ℕ
  count-rows = (plan_in s).rows

  abbrev all : List Row
  all = rows_from s 0

  row_at : (i : ℕ) → i < count-rows → get_or all i empty_row ≡ row_in s 0 i
  row_at i h = get_or-tab count-rows (row_in s 0) i empty_row h

  there : (i : ℕ) → i < count-rows → i < length all
  there i h = omega (arith, h, length-tab count-rows (row_in s 0))

  among : (i : ℕ) → i < length all → i < count-rows
  among i h = omega (arith, h, length-tab count-rows (row_in s 0))

  acceptable : Good s 0 → Acceptable s
  acceptable g =
      let (head, long) = fits-parts s count-rows g.fit in
      let plan = plan_in s in
      let dataSlots = plan.data_slots in
      let some = (kept plan g.plan).rows in
      record {
        contents = head;
        size = omega (arith, long);
        plan = g.plan;
        manager = rw (row_at 0 (omega (arith, some))) at (led_first plan.manager all g.rows.led);
        rows = λ i h. rule-either dataSlots (row_in s 0 i) (rule i h) (λ t none. inl (rule-zeros dataSlots (row_in s 0 i) (rule i h) t)) (λ t m. inr m);
        distinct = λ i j h k. rw (row_at i h, row_at j k) at (distinct-pairs all (tally_distinct all g.rows.units) i j (there i h) (there j k));
        disjoint = λ i j h k. rw (row_at i h, row_at j k) at (apart-pairs all (tally_apart all g.rows.owners) i j (there i h) (there j k));
        room = vacant-free (omega (arith, (rule_bounds plan g.plan).few_data_slots)) g.rows;
      }
    where
      rule : (i : ℕ) → i < count-rows → row_rule (plan_in s).data_slots (row_in s 0 i) ≡ true
      rule i h = rw (row_at i h) at (every-at (row_rule (plan_in s).data_slots) all i empty_row g.rows.each (there i h))

  listed-rule : (dataSlots i : ℕ) → (row_in s 0 i ≡ empty_row) ⊎ Used dataSlots (row_in s 0 i) → row_rule dataSlots (row_in s 0 i) ≡ true
  listed-rule dataSlots i (inl e) = rw e (rule_empty dataSlots)
  listed-rule dataSlots i (inr u) = used_rule dataSlots (row_in s 0 i) u

  past-rule : (manager i : ℕ) → past_time manager 0 (row_in s 0 i) ≡ true
  unfolding row_in
  past-rule manager i = renewed-past manager 0 (row_in s 0 i)

  rows-listed : Acceptable s → rows_rule (plan_in s).manager (plan_in s).data_slots 0 all ≡ true
  unfolding rows_rule
  rows-listed a =
      let manager = (plan_in s).manager in
      let dataSlots = (plan_in s).data_slots in
      let some = (kept (plan_in s) a.plan).rows in
      rw (
        first_led manager all (there 0 (omega (arith, some))) (rw (row_at 0 (omega (arith, some))) a.manager),
        every-tab (row_rule dataSlots) count-rows (row_in s 0) (λ i h. listed-rule dataSlots i (a.rows i h)),
        every-tab (past_time manager 0) count-rows (row_in s 0) (λ i h. past-rule manager i),
        pairs-distinct all (λ i j h k. rw (row_at i (among i h), row_at j (among j k)) (a.distinct i j (among i h) (among j k))),
        pairs-apart all (λ i j h k. rw (row_at i (among i h), row_at j (among j k)) (a.disjoint i j (among i h) (among j k))),
        le-leb (vacant all) (count (free dataSlots all)) a.room,
      )

  listed : Acceptable s → Good s 0
  listed a = record {
    fit = parts-fit s count-rows a.contents (omega (arith, a.size));
    plan = a.plan;
    rows = ruled (omega (arith, (rule_bounds (plan_in s) a.plan).few_data_slots)) (rows-listed a);
  }

pub accepted-exactly : AcceptedExactly
accepted-exactly s time = (
  λ e. acceptable s (good_then s time 0 (good s time e)),
  λ a. accepted s time (good_then s 0 time (listed s a)),
)
