-- A neighbour's page: what it offers, and that each of its rows stands on one.
-- Assumes nothing.
use Rattle.octets.proofs.Words.{◌≡◌, refl, Bool, true, false, cond, List, [], ◌∷◌, map, ⊎_elim, ℕ, ◌≤◌, arith}
use Rattle.octets.specs.Lists.{Some, Each}
use Rattle.octets.proofs.TestLaws.{of-cond}
use Rattle.route_table.specs.declared.row.Row.{Row}
use Rattle.route_merges.specs.declared.candidate.Candidate.{Candidate}
use Rattle.route_merges.specs.Candidates.{offered, passed_over_of, offers, candidates}
use Rattle.route_pages.specs.Pages.{entry_for}
use Rattle.route_pages.proofs.EntryLaws.{entry-hops, entry-quality, entry_destination}
use Rattle.site_converges.specs.Sites.{Site}
use Rattle.site_converges.specs.Courses.{Course}
use Rattle.site_converges.proofs.SiteLaws.{fewest_self}
use Rattle.site_converges.proofs.StepLaws.{Good, Offer, Reaches, good-usable}

-- ---- what a page offers
module _ (s : Site) (c : Course) (u r o : ℕ) (near : s.linked u o ≡ true) (quality : ℕ) (clear : 40 ≤ quality) (byte : quality ≤ 255) (now written : ℕ) (t : Reaches c o now written) where
  row_offer : (x : Row) → Good s c o now r x → passed_over_of u o (entry_for written x) ≡ false → Offer s u r o (offered quality (entry_for written x))
  row_offer x g q =
      let live = good-usable s c o now r written x g t in
      let hops = entry-hops written x live in
      let best = entry-quality written x live in
      record {
        near = near;
        other = grind (arith, q);
        less = x.hops;
        down = omega (arith, hops);
        low = g.low;
        fewest = rw (entry_destination written x) g.fewest;
        clear = omega (arith, best, g.clear);
        byte = omega (arith, best, g.byte);
      }

  offers-fit : (rs : List Row) → Each (Good s c o now r) rs → Each (Offer s u r o) (offers u o quality (map (entry_for written) rs))
  offers-fit [] e = tt
  offers-fit (x ∷ rs) e =
      let later = offers-fit rs e.1 in
      of-cond (Each (Offer s u r o)) (passed_over_of u o (entry_for written x)) _ _ (λ q. later) (λ q. (row_offer x e.0 q, later))

  pub candidates-fit : (o ≡ u → ⊥) → (rs : List Row) → Each (Good s c o now r) rs → Each (Offer s u r o) (candidates u o quality (map (entry_for written) rs))
  candidates-fit n rs e =
      (record { near = near; other = n; less = 0; down = refl; low = omega arith; fewest = fewest_self s o; clear = clear; byte = byte }, offers-fit rs e)

-- what holds of each destination offered holds of a row's that is not passed over
pub offer_found : (P : ℕ → Type 0) (u o quality written : ℕ) (x : Row) → passed_over_of u o (entry_for written x) ≡ false → (rs : List Row)
    → Each (λ k. P k.destination) (offers u o quality (map (entry_for written) rs)) → Some (λ y. y ≡ x) rs → P x.destination
offer_found P u o quality written x q [] e i = absurd i
offer_found P u o quality written x q (y ∷ rs) e i =
    ⊎_elim (λ z. here z (rw z at e)) (λ j. go (passed_over_of u o (entry_for written y)) e (λ l. offer_found P u o quality written x q rs l j)) i
  where
    rest : List Candidate
    rest = offers u o quality (map (entry_for written) rs)

    here : y ≡ x → Each (λ k. P k.destination) (cond (passed_over_of u o (entry_for written x)) rest (offered quality (entry_for written x) ∷ rest)) → P x.destination
    here z f =
        let both : Each (λ k. P k.destination) (offered quality (entry_for written x) ∷ rest) = rw q at f in
        rw (entry_destination written x) at both.0

    go : (b : Bool) → Each (λ k. P k.destination) (cond b rest (offered quality (entry_for written y) ∷ rest)) → (Each (λ k. P k.destination) rest → P x.destination) → P x.destination
    go true f ih = ih f
    go false f ih = ih f.1
