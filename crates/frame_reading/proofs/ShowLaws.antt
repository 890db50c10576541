-- Showing a frame as numbers: each answer from what led to it, and the loop's fields as the layout's.
-- Assumes nothing.
use Rattle.octets.proofs.Words.{◌≡◌, refl, ap, ap₂, Bool, true, false, ◌&&◌, false≢true, List, [], ◌∷◌, ℕ, ◌+◌, ◌≤◌, ◌<◌, add-one, ne_eqb, lt-ltb, le-ltb, eqb-true, eqb, length, get_or, drop, set, sets, drop-cons}
use Rattle.octets.specs.Layouts.{fields}
use Rattle.octets.specs.Lists.{every}
use Rattle.octets.specs.Numbers.{num}
use Rattle.frames.specs.Layout.{widths_of}
use Rattle.frames.specs.Listed.{show_refusal, shown}
use Rattle.frames.specs.Frames.{read_frame}
use Rattle.frames.proofs.LayoutLaws.{of-widths}
use Rattle.frame_reading.specs.Seen.{seen_width, seen_fields}

module _ (s held : List ℕ) where
  pub refused-shown : (n : ℕ) → n ≡ (read_frame s).refusal → (n ≡ 0 → ⊥) → (n ≡ show_refusal s (length held)) × (held ≡ shown s held)
  unfolding show_refusal shown
  refused-shown n e z = (simp (← e, ne_eqb n 0 z), simp (← e, ne_eqb n 0 z))

  module _ (z : (read_frame s).refusal ≡ 0) where
    pub short_shown : length held < length (read_frame s).values → (5 ≡ show_refusal s (length held)) × (held ≡ shown s held)
    unfolding show_refusal shown
    short_shown h = (simp (z, lt-ltb _ _ h), simp (z, lt-ltb _ _ h))

    pub whole-shown : (out : List ℕ) → length (read_frame s).values ≤ length held → out ≡ sets held 0 (read_frame s).values
        → (0 ≡ show_refusal s (length held)) × (out ≡ shown s held)
    unfolding show_refusal shown
    whole-shown out h e = (simp (z, le-ltb _ _ h), simp (z, le-ltb _ _ h) e)

-- a turn of the loop
pub seen_turn : (l ws s : List ℕ) (place k : ℕ) → k < length ws
    → sets l k (seen_fields (drop k ws) s place)
    ≡ sets (set l k (num (seen_width (get_or ws k 0)) s place)) (k + 1) (seen_fields (drop (k + 1) ws) s (place + get_or ws k 0))
seen_turn l ws s place k h = rw (drop-cons ws k 0 h, add-one)

-- every width of a kind is seen as it is
abbrev plain : ℕ → Bool
plain w = eqb (seen_width w) w

seen_plain : (ws s : List ℕ) (at : ℕ) → every plain ws ≡ true → seen_fields ws s at ≡ fields ws s at
unfolding every
seen_plain [] s at h = refl
seen_plain (w ∷ ws) s at h = go (plain w) refl h (seen_plain ws s (at + w))
  where
    go : (b : Bool) → plain w ≡ b → (b && every plain ws) ≡ true → (every plain ws ≡ true → seen_fields ws s (at + w) ≡ fields ws s (at + w))
        → seen_fields (w ∷ ws) s at ≡ fields (w ∷ ws) s at
    go true q r ih = ap₂ {C = List ℕ} (λ x xs. x ∷ xs) (ap (λ (v : ℕ). num v s at) (eqb-true (seen_width w) w q)) (ih r)
    go false q r ih = absurd (false≢true r)

pub seen_fields_lem : (t : ℕ) (s : List ℕ) → seen_fields (widths_of t) s 0 ≡ fields (widths_of t) s 0
unfolding every
seen_fields_lem t s = seen_plain (widths_of t) s 0 (of-widths (every plain) refl refl t)
