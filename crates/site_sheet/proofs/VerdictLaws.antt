-- The verdict on a sheet: that it is fine exactly if the sentence holds, and that who is named is the first that offends.
-- Assumes nothing.
use Rattle.octets.proofs.Words.{◌≡◌, sym, ap, ap₂, subst, ◌∙◌, true, not, false≢true, List, Memᴰ, ℕ, ◌<◌, arith, ltb-true, ltb-false, not-true, not-false, ltb}
use Rattle.octets.specs.Answers.{Said, accepted, first}
use Rattle.octets.specs.Lists.{every}
use Rattle.octets.proofs.AnswerLaws.{unless-none, none-holds}
use Rattle.octets.proofs.AnsweredLaws.{said-none}
use Rattle.octets.proofs.TestLaws.{by_bool}
use Rattle.slot_sets.specs.Sets.{has}
use Rattle.site_plan.specs.declared.plan.Plan.{Plan}
use Rattle.site_sheet.specs.Sheets.{Proposed, Link, link_rule, reasons}
use Rattle.site_sheet.specs.Verdicts.{unit_rule, clash, Named, both, alone, gather, only, bad_unit, bad_units, bad_pairs, Found, nobody, found, soonest, Verdict, fine, unit, pair, judged, verdict, verdict_values, check_sheet}
use Rattle.site_sheet.specs.Laws.{Says, Allotted, Near, Sound, Clash, FineExactly, FirstUnit, FirstPair, NamesFirst}
use Rattle.site_sheet.proofs.FindLaws.{in_gather, gather_in, UpTo, in_only, only_in, Leads, leads, nobody-found}
use Rattle.site_sheet.proofs.RuleLaws.{rule_allotted, allotted_rule, near_back, clash-says, says-clash}
use Rattle.site_sheet.proofs.ToldLaws.{verdict-one}

-- ---- who offends is named, and nobody else
module _ (d : ℕ) (sheet : List Proposed) where
  bad-unit : {n : Named} → Memᴰ n (bad_units d sheet)
      → (g : Proposed) × Memᴰ g sheet × (n ≡ alone g.unit) × (Allotted d g → ⊥)
  unfolding bad_units
  bad-unit k =
      let (g, m, o) = in_gather (bad_unit d) sheet k in
      let (t, e) = in_only (not (unit_rule d g)) (alone g.unit) o in
      (g, m, e, λ a. false≢true (sym (not-true (unit_rule d g) t) ∙ allotted_rule d g a))

  good-unit : (g : Proposed) → Memᴰ g sheet → (Memᴰ (alone g.unit) (bad_units d sheet) → ⊥) → Allotted d g
  unfolding bad_units
  good-unit g m h =
      by_bool _ (unit_rule d g) (rule_allotted d g)
      (λ e. absurd (h (gather_in (bad_unit d) sheet m (only_in (not (unit_rule d g)) (alone g.unit) (ap not e)))))

module _ (links : List Link) (sheet : List Proposed) where
  abbrev pair_of : Proposed → Proposed → List Named
  pair_of g h = only (clash links sheet g h) (both g.unit h.unit)

  abbrev pairs_of : Proposed → List Named
  pairs_of g = gather (pair_of g) sheet

  bad-pair : {n : Named} → Memᴰ n (bad_pairs links sheet)
      → (g : Proposed) × (h : Proposed) × Clash links sheet g h × (n ≡ both g.unit h.unit)
  unfolding bad_pairs
  bad-pair k =
      let (g, m, o) = in_gather pairs_of sheet k in
      let (h, n, t) = in_gather (pair_of g) sheet o in
      let (c, e) = in_only (clash links sheet g h) (both g.unit h.unit) t in
      (g, h, clash-says links sheet g h m n c, e)

  pair-bad : every (link_rule sheet) links ≡ true
      → (g h : Proposed) → Clash links sheet g h → Memᴰ (both g.unit h.unit) (bad_pairs links sheet)
  unfolding bad_pairs
  pair-bad good g h c =
      let given = only_in (clash links sheet g h) (both g.unit h.unit) (says-clash links sheet g h good c) in
      gather_in pairs_of sheet c.lower-there (gather_in (pair_of g) sheet c.higher-there given)

  -- two that are near and have one slot clash, the lower first
  a_clash : (g h : Proposed) → Memᴰ g sheet → Memᴰ h sheet → Near links g.unit h.unit
      → (i : ℕ) → has g.slots i ≡ true → has h.slots i ≡ true → g.unit < h.unit → Clash links sheet g h
  a_clash g h m n near i p q below = record { lower-there = m; higher-there = n; ascending = below; near = near; shared = λ apart. apart i p q }

-- ---- what each verdict means
module _ (d : ℕ) (links : List Link) (sheet : List Proposed) where
  abbrev pub Means : Verdict → Type 0
  Means fine = Sound d links sheet
  Means (unit u) = FirstUnit d sheet u
  Means (pair u v) = FirstPair d links sheet u v

  module _ (good : every (link_rule sheet) links ≡ true) where
    judged_means : (f t : Found) → Leads f (bad_units d sheet) → Leads t (bad_pairs links sheet) → Means (judged f t)
    judged_means (found n) t (k, before) _ =
        let (g, m, e, offends) = bad-unit d sheet k in
        record {
          offends = (g, m, sym (ap (λ (x : Named). x.lower) e), offends);
          none_below = λ h m' l. good-unit d sheet h m' (λ b. omega (arith, l, (before (alone h.unit) b).lower));
        }
    judged_means nobody (found n) none (k, before) =
        let (g, h, c, e) = bad-pair links sheet k in
        let up_to : (g h : Proposed) → Clash links sheet g h → UpTo n (both g.unit h.unit) =
        λ g h c. before _ (pair-bad links sheet good g h c) in
        record {
          units-fine = λ g m. good-unit d sheet g m (none (alone g.unit));
          offends = (g, h, c, sym (ap (λ (x : Named). x.lower) e), sym (ap (λ (x : Named). x.higher) e));
          none-lower = λ g h c l. omega (arith, l, (up_to g h c).lower);
          none_between = λ g h c q l. omega (arith, l, (up_to g h c).higher (sym q));
        }
    judged_means nobody nobody none none' =
        let never : (g h : Proposed) → Clash links sheet g h → ⊥ = λ g h c. none' _ (pair-bad links sheet good g h c) in
        record {
          each = λ g m. good-unit d sheet g m (none (alone g.unit));
          any_two = λ g h m n other near i p q.
              by_bool ⊥ (ltb g.unit h.unit)
              (λ t. never g h (a_clash links sheet g h m n near i p q (ltb-true g.unit h.unit t)))
              (λ t.
              let above : h.unit < g.unit = omega (arith, other, ltb-false g.unit h.unit t) in
              never h g (a_clash links sheet h g n m (near_back links g.unit h.unit near) i q p above));
        }

    verdict_means : Means (verdict d links sheet)
    unfolding verdict
    verdict_means =
        let units = bad_units d sheet in
        let pairs = bad_pairs links sheet in
        judged_means (soonest units) (soonest pairs) (leads units) (leads pairs)

  sound_fine : Sound d links sheet → verdict d links sheet ≡ fine
  unfolding verdict
  sound_fine s =
      ap₂ judged
      (nobody-found (bad_units d sheet) (λ n k. let (g, m, e, offends) = bad-unit d sheet k in offends (s.each g m)))
      (nobody-found (bad_pairs links sheet)
      (λ n k.
      let (g, h, c, e) = bad-pair links sheet k in
      c.shared (s.any_two g h c.lower-there c.higher-there (λ q. omega (arith, c.ascending, q)) c.near)))

-- ---- what is said of a sheet
module _ (p : Plan) (links : List Link) (sheet : List Proposed) where
  abbrev d : ℕ
  d = p.data_slots

  abbrev number : ℕ
  number = first (reasons p links sheet)

  abbrev told : Said
  told = accepted (verdict_values (verdict d links sheet))

  links-good : number ≡ 0 → every (link_rule sheet) links ≡ true
  links-good z = not-false _ (none-holds (reasons p links sheet) _ z).1.1.1.1.1.0

  pub says_means : (v : Verdict) → Says p links sheet v → Means d links sheet v
  unfolding check_sheet
  says_means v e =
      let (z, said) = said-none number told (ap (λ (s : Said). s.refusal) e) in
      subst (Means d links sheet) (verdict-one (verdict d links sheet) v (sym said ∙ e)) (verdict_means d links sheet (links-good z))

  sound_says : number ≡ 0 → Sound d links sheet → Says p links sheet fine
  unfolding check_sheet
  sound_says z s = unless-none number told z ∙ ap (λ (v : Verdict). accepted (verdict_values v)) (sound_fine d links sheet s)

pub fine-exactly : FineExactly
fine-exactly p links sheet z = (says_means p links sheet fine, sound_says p links sheet z)

pub names_first : NamesFirst
names_first p links sheet = (λ u. says_means p links sheet (unit u), λ u v. says_means p links sheet (pair u v))
