-- The loop over an update's entries: what is learned so far, with what is left to learn, is the whole.
-- Assumes nothing.
use Rattle.octets.proofs.Words.{◌≡◌, sym, ap, ◌∙◌, true, List, [], ◌∷◌, ℕ, ◌+◌, ◌*◌, ◌≤◌, ◌<◌, zero-add, add-one, arith, get_or, drop, drop_of_length-le, drop-cons}
use Rattle.std.specs.Prelude.{Some, None}
use Rattle.octets.specs.Lists.{every}
use Rattle.octets.proofs.ListLaws.{length-tab, get_or-tab, every-at}
use Rattle.frame_traffic.specs.declared.entry.Entry.{Entry}
use Rattle.frame_traffic.specs.Traffic.{entry_rule, entry_at, entries_of}
use Rattle.route_table.specs.declared.row.Row.{Row}
use Rattle.route_table.specs.Rows.{in_use}
use Rattle.route_merges.specs.declared.candidate.Candidate.{Candidate}
use Rattle.route_merges.specs.Candidates.{neighbour, offers, candidates}
use Rattle.route_merges.specs.Comparing
use Rattle.route_merges.specs.Comparing.{compared_all}
use Rattle.route_merges.specs.Learning.{Learned, learned, learn_all}
use Rattle.route_merges.specs.Offering.{offer_of}
use Rattle.route_merges.specs.Searching.{Placed, Learns}
use Rattle.route_merges.proofs.CandidateLaws.{over, not_over, entry-some}

module _ (own origin quality time : ℕ) where
  -- what is compared for a candidate that is learned, and for those behind it
  first-learned : (c : Candidate) (cs : List Candidate) (old new : List Row) (so_far skipped compared : ℕ) → Learns origin time c old new skipped compared
      → (learn_all origin time (c ∷ cs) (learned (in_use old) so_far) ≡ learn_all origin time cs (learned (in_use new) (so_far + skipped)))
      × (compared_all origin time (c ∷ cs) (learned (in_use old) so_far) ≡ compared + compared_all origin time cs (learned (in_use new) (so_far + skipped)))
  first-learned c cs old new so_far skipped compared l = (
    ap (learn_all origin time cs) (l.rows so_far),
    rw l.count (ap (λ (x : Learned). Comparing.compared c.destination (in_use old) + compared_all origin time cs x) (l.rows so_far)),
  )

  module _ (part : List ℕ) (count : ℕ) (start : List Row) where
    abbrev entries : List Entry
    entries = entries_of count part

    abbrev all : List Candidate
    all = candidates own origin quality entries

    abbrev left : ℕ → List Candidate
    left position = offers own origin quality (drop position entries)

    -- before the entry at a position
    pub record Going (out : List Row) (position skipped compared : ℕ) : Type 0 where
      pub placed : Placed out
      pub rest : learn_all origin time (left position) (learned (in_use out) skipped) ≡ learn_all origin time all (learned (in_use start) 0)
      pub tally : compared + compared_all origin time (left position) (learned (in_use out) skipped) ≡ compared_all origin time all (learned (in_use start) 0)
      pub small : skipped ≤ position + 1
      pub bounded : compared ≤ 48 * (position + 1)

    pub going_start : (out : List Row) (skipped compared : ℕ) → Learns origin time (neighbour origin quality) start out skipped compared → Going out 0 skipped compared
    going_start out skipped compared l =
        let (rest, tally) = first-learned (neighbour origin quality) (left 0) start out 0 skipped compared l in
        record {
          placed = l.placed;
          rest = sym (rest ∙ ap (λ (n : ℕ). learn_all origin time (left 0) (learned (in_use out) n)) (zero-add skipped));
          tally = sym (tally ∙ ap (λ (n : ℕ). compared + compared_all origin time (left 0) (learned (in_use out) n)) (zero-add skipped));
          small = omega (arith, l.few);
          bounded = omega (arith, l.most);
        }

    module _ (out : List Row) (position skipped compared : ℕ) (g : Going out position skipped compared) where
      pub going_end : count ≤ position
          → (learned (in_use out) skipped ≡ learn_all origin time all (learned (in_use start) 0)) × (compared ≡ compared_all origin time all (learned (in_use start) 0)) × Placed out
      going_end h =
          let none_left : drop position entries ≡ [] = drop_of_length-le entries {i = position} (omega (arith, length-tab count (entry_at part))) in
          let rest : learned (in_use out) skipped ≡ learn_all origin time all (learned (in_use start) 0) = rw none_left at g.rest in
          let tally : compared + 0 ≡ compared_all origin time all (learned (in_use start) 0) = rw none_left at g.tally in
          (rest, omega (arith, tally), g.placed)

      module _ (h : position < count) where
        abbrev here : Entry
        here = entry_at part position

        tail : drop position entries ≡ here ∷ drop (position + 1) entries
        tail =
            drop-cons entries position here (omega (arith, length-tab count (entry_at part))) ∙
            rw (get_or-tab count (entry_at part) position here h, add-one)

        -- one that is passed over
        pub going_past : None ≡ offer_of own origin quality here → Going out (position + 1) skipped compared
        going_past e =
            let same : left position ≡ left (position + 1) = rw (tail, over own origin quality here e) in
            record {
              placed = g.placed;
              rest = rw (← same) g.rest;
              tally = rw (← same) g.tally;
              small = omega (arith, g.small);
              bounded = omega (arith, g.bounded);
            }

        -- one that offers a candidate, for a unit where the entries are within rule
        module _ (c : Candidate) (e : Some c ≡ offer_of own origin quality here) where
          pub for_unit : every entry_rule entries ≡ true → 0 < c.destination
          for_unit r =
              let there : get_or entries position here ≡ here = get_or-tab count (entry_at part) position here h in
              let good : entry_rule here ≡ true = rw (← there) (every-at entry_rule entries position here r (omega (arith, length-tab count (entry_at part)))) in
              rw (not_over own origin quality here c e).1 (entry-some here good)

          pub going_on : (new : List Row) (skip count_here : ℕ) → Learns origin time c out new skip count_here → Going new (position + 1) (skipped + skip) (compared + count_here)
          going_on new skip count_here l =
              let (kept, same) = not_over own origin quality here c e in
              let more : left position ≡ c ∷ left (position + 1) = rw (tail, kept, same) in
              let (rest, tally) = first-learned c (left (position + 1)) out new skipped skip count_here l in
              record {
                placed = l.placed;
                rest = sym rest ∙ (rw more at g.rest);
                tally = omega (arith, tally, (rw more at g.tally));
                small = omega (arith, g.small, l.few);
                bounded = omega (arith, g.bounded, l.most);
              }
