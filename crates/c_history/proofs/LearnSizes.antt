-- What an update in bytes teaches has a quality that fits a byte, and the time of the call.
-- Assumes nothing.
use Rattle.octets.proofs.Words.{◌≡◌, Bool, true, List, ℕ, ◌+◌, ◌*◌, ◌≤◌, ◌<◌, arith, leb}
use Rattle.octets.specs.Layouts.{Bytes}
use Rattle.octets.specs.Lists.{every, Each}
use Rattle.octets.proofs.ListLaws.{every-tab}
use Rattle.octets.proofs.NumberLaws.{num_lt}
use Rattle.octets.proofs.LayoutLaws.{bytes-part}
use Rattle.frame_kinds.specs.Shape.{place_of, values_in, part_in}
use Rattle.frame_traffic.specs.declared.entry.Entry.{Entry}
use Rattle.frame_traffic.specs.Traffic.{entry_at, entries_of, update}
use Rattle.route_merges.specs.declared.candidate.Candidate.{Candidate}
use Rattle.route_merges.specs.Candidates.{neighbour, offered, candidates}
use Rattle.route_merges.proofs.CandidateLaws.{offers-each}
use Rattle.route_merges.proofs.LearnLaws.{Kept}
use Rattle.route_bytes.proofs.SizeLaws.{modest}

-- an entry's quality is a byte
abbrev plain : Entry → Bool
plain e = leb e.quality 255

entries-plain : (s : List ℕ) → Bytes s → (count : ℕ) → every plain (entries_of count (part_in update s)) ≡ true
unfolding entry_at
entries-plain s b count =
    let part = part_in update s in
    every-tab plain count (entry_at part)
    (λ k h. grind (arith, num_lt part (bytes-part s b (update.extent (values_in update s)) (place_of update)) 1 (10 * k + 2 + 1)))

-- so is that of every candidate, and a row keeps it when it is withdrawn; its time is then the call's
module _ (own origin quality time : ℕ) (q : quality ≤ 255) (t : time < 0x100000000) where
  candidate_modest : (c : Candidate) → c.quality ≤ 255 → Kept modest origin time c
  candidate_modest c h = record { new = λ b. grind (arith, h, t); back = λ r m. grind (arith, m, t) }

  pub candidates_modest : (s : List ℕ) → Bytes s → (count : ℕ) → Each (Kept modest origin time) (candidates own origin quality (entries_of count (part_in update s)))
  candidates_modest s b count = (
    candidate_modest (neighbour origin quality) q,
    offers-each own origin quality (Kept modest origin time) plain
        (λ e p o. candidate_modest (offered quality e) (grind (arith, p, q)))
        (entries_of count (part_in update s)) (entries-plain s b count),
  )
