-- Links that join the same units give the same verdict, and a link that is given again joins no others.
-- Assumes nothing.
use Rattle.octets.proofs.Words.{◌≡◌, refl, ap, ap₂, ◌∙◌, Bool, true, false, not, ◌&&◌, ◌||◌, or_comm, List, [], ◌∷◌, ◌++◌, ℕ, eqb, ltb}
use mathlib.Core.Bool.{and_comm}
use Rattle.octets.specs.Lists.{some}
use Rattle.slot_sets.specs.Sets.{disjoint}
use Rattle.site_sheet.specs.Laws.{ByWhoIsLinked, LinkAgain}
use Rattle.site_sheet.specs.Sheets.{Proposed, Link, joins, linked, between, common, near}
use Rattle.site_sheet.specs.Verdicts.{Named, both, gather, only, clash, pairs_with, unit_of, bad_units, bad_pairs, soonest, judged, verdict}

same_some : {A : Type 0} (test test' : A → Bool) → ((a : A) → test a ≡ test' a) → (l : List A) → some test l ≡ some test' l
unfolding some
same_some test test' same [] = refl
same_some test test' same (a ∷ l) = ap₂ ◌||◌ (same a) (same_some test test' same l)

same-gather : {A : Type 0} (f g : A → List Named) → ((a : A) → f a ≡ g a) → (l : List A) → gather f l ≡ gather g l
unfolding gather
same-gather f g same [] = refl
same-gather f g same (a ∷ l) = ap₂ ◌++◌ (same a) (same-gather f g same l)

module _ (links links' : List Link) (sheet : List Proposed) (same : (u v : ℕ) → linked links u v ≡ linked links' u v) where
  same-near : (u v : ℕ) → near links sheet u v ≡ near links' sheet u v
  unfolding common
  same-near u v =
      ap₂ ◌||◌ (same u v) (same_some (between links u v) (between links' u v) (λ g. ap₂ ◌&&◌ (same u g.unit) (same v g.unit)) sheet)

  same-clash : (g h : Proposed) → clash links sheet g h ≡ clash links' sheet g h
  same-clash g h = ap (λ (b : Bool). ltb g.unit h.unit && not (disjoint g.slots h.slots) && b) (same-near g.unit h.unit)

  same-pairs : bad_pairs links sheet ≡ bad_pairs links' sheet
  unfolding bad_pairs
  same-pairs =
      same-gather (λ g. pairs_with (clash links sheet) unit_of g sheet) (λ g. pairs_with (clash links' sheet) unit_of g sheet)
      (λ g.
      same-gather (λ h. only (clash links sheet g h) (both g.unit h.unit)) (λ h. only (clash links' sheet g h) (both g.unit h.unit))
      (λ h. ap (λ (b : Bool). only b (both g.unit h.unit)) (same-clash g h)) sheet)
      sheet

pub by_who_is_linked : ByWhoIsLinked
unfolding verdict
by_who_is_linked d links links' sheet same = ap (λ (l : List Named). judged (soonest (bad_units d sheet)) (soonest l)) (same-pairs links links' sheet same)

-- ---- a link again
once : (a b : Bool) → (a || (a || b)) ≡ (a || b)
once true b = refl
once false b = refl

pub link_again : LinkAgain
unfolding linked some
link_again l links u v = (
  once (joins u v l) (linked links u v),
  ap (λ (b : Bool). b || linked links u v)
      (or_comm (eqb l.other u && eqb l.one v) (eqb l.other v && eqb l.one u)
      ∙ ap₂ ◌||◌ (and_comm (eqb l.other v) (eqb l.one u)) (and_comm (eqb l.other u) (eqb l.one v))),
)
