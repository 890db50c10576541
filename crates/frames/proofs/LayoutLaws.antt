-- The layout of a type: at most 15 fields, and where the array has them.
-- Assumes nothing.
use Rattle.octets.proofs.Words.{◌≡◌, refl, sym, ap, ◌∙◌, Bool, true, List, [], ◌∷◌, ◌++◌, ⊎_elim, ℕ, ◌+◌, ◌-◌, ◌≤◌, arith, leb-true, leb, length, take, replicate, length-append, take_at}
use Rattle.octets.specs.Layouts.{total, bytes}
use Rattle.octets.specs.Lists.{every}
use Rattle.octets.specs.Told.{Wrote}
use Rattle.frame_kinds.specs.Shape.{sealed}
use Rattle.frame_kinds.specs.Writing.{writing}
use Rattle.frames.specs.declared.layouts.Layout.{Layout}
use Rattle.frames.specs.Frames.{kinds}
use Rattle.frames.specs.Layout.{widths_of, layout_of}
use Rattle.frames.proofs.KindLaws.{asked, known_or_not, of-each}

-- a test that holds of no widths, and of those of every kind, holds of those of any type
pub of-widths : (test : List ℕ → Bool) → test [] ≡ true → every (λ k. test (1 ∷ k.widths)) kinds ≡ true → (t : ℕ) → test (widths_of t) ≡ true
of-widths test n h t =
    ⊎_elim
    (λ r. ap test (asked (λ k. 1 ∷ k.widths) [] r.1 t r.2) ∙ of-each (λ k. test (1 ∷ k.widths)) h r.1)
    (λ r. ap test (r (List ℕ) (λ k. 1 ∷ k.widths) []) ∙ n)
    (known_or_not t)

-- no kind has more than 14 fields: with its type a frame is at most 15 numbers
pub widths-few : (t : ℕ) → length (widths_of t) ≤ 15
unfolding every
widths-few t = leb-true _ _ (of-widths (λ ws. leb (length ws) 15) refl refl t)

-- nor are they longer than 64 bytes
heads_small : (t : ℕ) → total (widths_of t) ≤ 64
unfolding every
heads_small t = leb-true _ _ (of-widths (λ ws. leb (total ws) 64) refl refl t)

-- a layout that holds these widths: in the first places of its array
pub record Laid (l : Layout) (ws : List ℕ) : Type 0 where
  pub counted : l.count ≡ length ws
  pub summed : l.head ≡ total ws
  pub firsts : take l.count l.widths ≡ ws
  pub within : l.count ≤ length l.widths
  pub few : l.count ≤ 15
  pub small : l.head ≤ 64

pub laid_out_lem : (l : Layout) (t : ℕ) → l ≡ layout_of t → Laid l (widths_of t)
unfolding layout_of
laid_out_lem l t e =
    let ws = widths_of t in
    let rest : List ℕ = replicate (15 - length ws) 0 in
    rw e (record {
      counted = refl;
      summed = refl;
      firsts = take_at ws rest (length ws) refl;
      within = omega (arith, length-append ws rest);
      few = widths-few t;
      small = heads_small t;
    })

-- so many of its places are lent
pub laid-count : {l : Layout} {ws : List ℕ} → Laid l ws → l.count ≡ length (take l.count l.widths)
laid-count h = h.counted ∙ sym (ap length h.firsts)

-- what is written by a layout is written by its widths
pub laid-written : {l : Layout} {ws : List ℕ} → Laid l ws → (extent : ℕ) (good : Bool) (ns part out : List ℕ) (w : Wrote)
    → w ≡ writing (l.head + 1 + extent) good (sealed (bytes (take l.count l.widths) ns ++ part)) out
    → w ≡ writing (total ws + 1 + extent) good (sealed (bytes ws ns ++ part)) out
laid-written h extent good ns part out w e = e ∙ rw (h.summed, h.firsts)
