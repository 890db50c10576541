-- Candidates, good and bad, and those of an update's entries.
-- Assumes nothing.
use Rattle.octets.proofs.Words.{◌≡◌, refl, ap, Bool, true, false, ◌&&◌, ◌||◌, cond, and-eq-true_iff, List, [], ◌∷◌, ℕ, ◌*◌, ◌≤◌, ◌<◌, ltb-false, eqb, leb, ltb, take, drop}
use Rattle.std.specs.Prelude.{Some, None}
use Rattle.octets.specs.Lists.{every, Each}
use Rattle.octets.proofs.LayoutLaws.{fields-part}
use Rattle.octets.proofs.TestLaws.{neither}
use Rattle.octets.specs.Addresses.{address}
use Rattle.octets.proofs.AddressLaws.{address-least}
use Rattle.frame_traffic.specs.declared.entry.Entry.{Entry}
use Rattle.frame_traffic.specs.Traffic.{entry_widths, entry_from, entry_rule, entry_at}
use Rattle.route_merges.specs.declared.candidate.Candidate.{Candidate}
use Rattle.route_merges.specs.Candidates.{offered, passed_over_of, offers, bad}
use Rattle.route_merges.specs.Offering.{offer_of}

-- a good candidate has at most 16 hops, and a quality of at least 40
pub good-hops : (c : Candidate) → bad c ≡ false → c.hops ≤ 16
good-hops c e = ltb-false 16 c.hops (neither (ltb 16 c.hops) (ltb c.quality 40) e).0

pub good-quality : (c : Candidate) → bad c ≡ false → 40 ≤ c.quality
good-quality c e = ltb-false c.quality 40 (neither (ltb 16 c.hops) (ltb c.quality 40) e).1

-- ---- entries
-- an entry within rule is for a unit
pub entry-unit : (e : Entry) → entry_rule e ≡ true → address e.destination ≡ true
entry-unit e r =
    let (both, hops) = (and-eq-true_iff (address e.destination && address e.next_hop) (leb 1 e.hops && leb e.hops 16 || eqb e.hops 255)).0 r in
    ((and-eq-true_iff (address e.destination) (address e.next_hop)).0 both).0

pub entry-some : (e : Entry) → entry_rule e ≡ true → 0 < e.destination
entry-some e r = address-least e.destination (entry-unit e r)

-- an entry in a part that has all its bytes
pub entry-part : (s : List ℕ) (position k : ℕ) → 10 ≤ k → entry_at (take k (drop (10 * position) s)) 0 ≡ entry_at s position
unfolding entry_at
entry-part s position k h = ap entry_from (fields-part entry_widths s (10 * position) k h)

-- ---- what an entry offers, by whether it is passed over
module _ (own origin quality : ℕ) (e : Entry) where
  pub over : None ≡ offer_of own origin quality e → passed_over_of own origin e ≡ true
  over q = go (passed_over_of own origin e) q
    where
      go : (b : Bool) → None ≡ cond b None (Some (offered quality e)) → b ≡ true
      go true q = refl
      go false q = cc

  pub not_over : (c : Candidate) → Some c ≡ offer_of own origin quality e → (passed_over_of own origin e ≡ false) × (c ≡ offered quality e)
  not_over c q = go (passed_over_of own origin e) q
    where
      go : (b : Bool) → Some c ≡ cond b None (Some (offered quality e)) → (b ≡ false) × (c ≡ offered quality e)
      go true q = cc
      go false q = (refl, cc)

-- ---- what holds of each of some candidates
-- what holds of every entry's candidate that is not passed over holds of each that the entries offer
module _ (own origin quality : ℕ) (P : Candidate → Type 0) (test : Entry → Bool)
    (h : (e : Entry) → test e ≡ true → passed_over_of own origin e ≡ false → P (offered quality e)) where
  pub offers-each : (es : List Entry) → every test es ≡ true → Each P (offers own origin quality es)
  unfolding every
  offers-each [] r = tt
  offers-each (e ∷ es) r =
      let (here, later) = (and-eq-true_iff (test e) (every test es)).0 r in
      go (passed_over_of own origin e) (h e here) (offers-each es later)
    where
      go : (b : Bool) → (b ≡ false → P (offered quality e)) → Each P (offers own origin quality es)
          → Each P (cond b (offers own origin quality es) (offered quality e ∷ offers own origin quality es))
      go true here later = later
      go false here later = (here refl, later)
