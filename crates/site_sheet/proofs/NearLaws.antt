-- Masks of neighbours by place say who is near whom, so that the pairs that offend by them are those that offend.
-- Assumes nothing.
use Rattle.octets.proofs.Words.{◌++◌, ◌||◌, ◌≡◌, refl, sym, ap, ap₂, ◌∙◌, Bool, true, not, ◌&&◌, and-eq-true_iff, false≢true, List, ℕ, zero, suc, ◌/◌, ◌<◌, le_of_suc-le-suc, arith, lt-ltb, ltb-true, ltb, length, get_or}
use Rattle.octets.specs.Lists.{tab, some}
use Rattle.octets.proofs.TestLaws.{or_elim, or_left, or_right, by_bool}
use Rattle.slot_sets.specs.Sets.{slots_of, has, disjoint}
use Rattle.slot_sets.proofs.SetLaws.{disjoint_is_apart}
use Rattle.site_sheet.specs.Seen.{row_at, Neighbouring, known_at, known_in, near_places, clashing, known_unit}
use Rattle.site_sheet.specs.SheetBytes.{row_size, proposed_at, sheet_in}
use Rattle.site_sheet.specs.Sheets.{Link, linked, between, common, near}
use Rattle.site_sheet.specs.Verdicts.{clash, Named, both, gather, only, pairs_with, pairs, unit_of, bad_pairs}

-- ---- lists that a function of the place makes
module _ {A : Type 0} (test : A → Bool) where
  tab-some : (n : ℕ) (f : ℕ → A) → some test (tab n f) ≡ true → (k : ℕ) × (k < n) × (test (f k) ≡ true)
  unfolding tab some
  tab-some zero f e = absurd (false≢true e)
  tab-some (suc n) f e =
      or_elim _ (test (f 0)) (some test (tab n (λ k. f (suc k)))) e (λ t. (0, omega arith, t))
      (λ t. let (k, h, s) = tab-some n (λ k. f (suc k)) t in (suc k, omega (arith, h), s))

  some-tab : (n : ℕ) (f : ℕ → A) (k : ℕ) → k < n → test (f k) ≡ true → some test (tab n f) ≡ true
  unfolding tab some
  some-tab zero f k h t = absurd (omega arith)
  some-tab (suc n) f zero h t = or_left (test (f 0)) (some test (tab n (λ k. f (suc k)))) t
  some-tab (suc n) f (suc k) h t = or_right (test (f 0)) (some test (tab n (λ k. f (suc k)))) (some-tab n (λ k. f (suc k)) k (le_of_suc-le-suc h) t)

gather-same : {A B : Type 0} (F : A → List Named) (G : B → List Named) (n : ℕ) (f : ℕ → A) (g : ℕ → B) → ((k : ℕ) → k < n → F (f k) ≡ G (g k))
    → gather F (tab n f) ≡ gather G (tab n g)
unfolding gather tab
gather-same F G zero f g same = refl
gather-same F G (suc n) f g same = ap₂ ◌++◌ (same 0 (omega arith)) (gather-same F G n (λ k. f (suc k)) (λ k. g (suc k)) (λ k h. same (suc k) (omega (arith, h))))

-- ---- by the masks of a sheet
module _ (s masks : List ℕ) (links : List Link) (so : Neighbouring links (length s / row_size) (λ k. (row_at s k).unit) masks) (i j : ℕ) (hi : i < length s / row_size)
    (hj : j < length s / row_size) where
  abbrev u : ℕ
  u = (row_at s i).unit

  abbrev v : ℕ
  v = (row_at s j).unit

  abbrev ours : ℕ
  ours = get_or masks i 0

  abbrev theirs : ℕ
  theirs = get_or masks j 0

  -- a place is a neighbour's where the masks have it
  in_mask : (k w : ℕ) → w < length s / row_size → k < length s / row_size → linked links (row_at s w).unit (row_at s k).unit ≡ true → has (slots_of (get_or masks w 0)) k ≡ true
  in_mask k w hw hk e = so.known w k hw ∙ rw (lt-ltb k (length s / row_size) hk, e)

  mask_in : (k w : ℕ) → w < length s / row_size → has (slots_of (get_or masks w 0)) k ≡ true → (k < length s / row_size) × (linked links (row_at s w).unit (row_at s k).unit ≡ true)
  mask_in k w hw e =
      let (a, b) = (and-eq-true_iff (ltb k (length s / row_size)) (linked links (row_at s w).unit (row_at s k).unit)).0 (sym (so.known w k hw) ∙ e) in
      (ltb-true k (length s / row_size) a, b)

  common-masks : not (disjoint (slots_of ours) (slots_of theirs)) ≡ common links (sheet_in s) u v
  unfolding common sheet_in
  common-masks =
      by_bool _ (some (between links u v) (sheet_in s))
      (λ e.
      let (k, h, t) = tab-some (between links u v) (length s / row_size) (proposed_at s) e in
      let (p, q) = (and-eq-true_iff (linked links u (row_at s k).unit) (linked links v (row_at s k).unit)).0 t in
      by_bool _ (disjoint (slots_of ours) (slots_of theirs))
      (λ d. absurd ((disjoint_is_apart 64 (slots_of ours) (slots_of theirs)).0 d k (in_mask k i hi h p) (in_mask k j hj h q)))
      (λ d. ap not d ∙ sym e))
      (λ e.
      ap not ((disjoint_is_apart 64 (slots_of ours) (slots_of theirs)).1
      (λ k a b.
      let (h, p) = mask_in k i hi a in
      let (h', q) = mask_in k j hj b in
      false≢true (sym e ∙ some-tab (between links u v) (length s / row_size) (proposed_at s) k h (rw (p, q)))))
      ∙ sym e)

  near-masks : near_places (known_at s masks i) (known_at s masks j) ≡ near links (sheet_in s) u v
  near-masks =
      let linked-masks : has (slots_of ours) j ≡ linked links u v = so.known i j hi ∙ ap (λ (b : Bool). b && linked links u v) (lt-ltb j (length s / row_size) hj) in
      ap₂ ◌||◌ linked-masks common-masks

  pub clash-masks : clashing (known_at s masks i) (known_at s masks j) ≡ clash links (sheet_in s) (proposed_at s i) (proposed_at s j)
  clash-masks = ap (λ (b : Bool). ltb u v && not (disjoint (slots_of (row_at s i).slots) (slots_of (row_at s j).slots)) && b) near-masks

pub pairs-masks : (s masks : List ℕ) (links : List Link) → Neighbouring links (length s / row_size) (λ k. (row_at s k).unit) masks
    → pairs clashing known_unit (known_in s masks) ≡ bad_pairs links (sheet_in s)
unfolding known_in sheet_in bad_pairs
pairs-masks s masks links so =
    let n = length s / row_size in
    gather-same (λ g. pairs_with clashing known_unit g (known_in s masks)) (λ g. pairs_with (clash links (sheet_in s)) unit_of g (sheet_in s)) n (known_at s masks) (proposed_at s)
    (λ i hi.
    gather-same (λ h. only (clashing (known_at s masks i) h) (both (row_at s i).unit (known_unit h))) (λ h. only (clash links (sheet_in s) (proposed_at s i) h) (both (row_at s i).unit (unit_of h))) n (known_at s masks) (proposed_at s)
    (λ j hj. ap (λ (b : Bool). only b (both (row_at s i).unit (row_at s j).unit)) (clash-masks s masks links so i j hi hj)))
