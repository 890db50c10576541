-- Who sends near a receiver, on a sheet that is fine.
-- Assumes nothing.
use Rattle.octets.proofs.Words.{◌≡◌, refl, sym, ◌∙◌, true, false≢true, List, [], ◌∷◌, Memᴰ, mem_head, mem_tail, inl, inr, ⊎_elim, ℕ, ◌-◌, eqb-true, eqb}
use Rattle.octets.proofs.TestLaws.{by_bool}
use Rattle.slot_sets.specs.Sets.{has, Apart}
use Rattle.slot_sets.proofs.SetLaws.{never_both, nothing-has}
use Rattle.site_plan.specs.Plans.{data_slot_at}
use Rattle.site_plan.specs.Schedules.{sends}
use Rattle.site_plan.proofs.SendingLaws.{units_send_in_own}
use Rattle.site_sheet.specs.Sheets.{Proposed, Link, slots_for}
use Rattle.site_sheet.specs.Verdicts.{fine}
use Rattle.site_sheet.specs.Laws.{Near, Sound, OneSenderNearby, OneSenderNearbyOfUnits}
use Rattle.site_sheet.proofs.VerdictLaws.{says_means}

-- a slot that a sheet proposes for a unit is one of a row of this unit
slot_in : (sheet : List Proposed) (u i : ℕ) → has (slots_for sheet u) i ≡ true
    → (g : Proposed) × Memᴰ g sheet × (g.unit ≡ u) × (has g.slots i ≡ true)
unfolding slots_for
slot_in [] u i h = absurd (false≢true (sym (nothing-has 64 i) ∙ h))
slot_in (g ∷ sheet) u i h =
    by_bool _ (eqb g.unit u)
    (λ e. (g, mem_head refl, eqb-true g.unit u e, rw e at h))
    (λ e. let (k, m, q, t) = slot_in sheet u i (rw e at h) in (k, mem_tail m, q, t))

-- of two units that are near, listed or not, the slots are apart
apart_nearby : (d : ℕ) (links : List Link) (sheet : List Proposed) → Sound d links sheet
    → (u v : ℕ) → (u ≡ v → ⊥) → Near links u v → Apart (slots_for sheet u) (slots_for sheet v)
apart_nearby d links sheet sound u v other near i a b =
    let (g, m, p, a') = slot_in sheet u i a in
    let (h, n, q, b') = slot_in sheet v i b in
    sound.any_two g h m n (λ e. other (sym p ∙ (e ∙ q))) (rw (p, q) near) i a' b'

pub one_sender_nearby : OneSenderNearby
one_sender_nearby p links sheet says u v receiver other l heard row row' hop hop' kinds kinds' own own' s inside =
    let near : Near links u v = ⊎_elim (λ e. inl (rw e l)) (λ k. inr (receiver, l, k)) heard in
    let apart = apart_nearby p.data_slots links sheet (says_means p links sheet fine says) u v other near in
    never_both (sends (kinds s)) (sends (kinds' s)) (λ x y. apart (s - data_slot_at p) (own.data_slots s inside x) (own'.data_slots s inside y))

pub one_sender_nearby_of_units : OneSenderNearbyOfUnits
one_sender_nearby_of_units p links sheet says u v receiver other l heard row row' hop hop' =
    one_sender_nearby p links sheet says u v receiver other l heard row row' hop hop' _ _
    (units_send_in_own p row hop (slots_for sheet u)) (units_send_in_own p row' hop' (slots_for sheet v))
