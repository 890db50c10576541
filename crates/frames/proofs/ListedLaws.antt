-- Numbers written as a frame: none at all, those of a kind, and those of no kind.
-- Assumes nothing.
use Rattle.octets.proofs.Words.{◌≡◌, refl, sym, subst, List, [], ◌∷◌, Memᴰ, ⊎_elim, ℕ, ◌<◌, arith, ltb-true, ltb, length, get_or}
use Rattle.octets.specs.Answers.{refused}
use Rattle.octets.specs.Lists.{every}
use Rattle.octets.specs.Told.{Wrote}
use Rattle.frame_kinds.specs.Shape.{Kind}
use Rattle.frames.specs.Frames.{kinds}
use Rattle.frames.specs.Listed.{write_listed, write_numbers}
use Rattle.frames.proofs.KindLaws.{asked, known_or_not, of-each}

-- no kind has type 0, which is what a missing number reads as
code-some : {k : Kind} → Memᴰ k kinds → 0 < k.code
unfolding every
code-some {k} m = ltb-true 0 k.code (of-each (λ x. ltb 0 x.code) refl m)

module _ (part out : List ℕ) where
  pub none-listed : (ns : List ℕ) → length ns ≡ 0 → record { said = refused 1; held = out } ≡ write_numbers ns part out
  unfolding write_numbers
  none-listed [] e = refl
  none-listed (t ∷ fields) e = absurd (omega (arith, e))

  -- numbers that have a kind's type are written as that kind
  pub listed_as : {k : Kind} → Memᴰ k kinds → (ns : List ℕ) → get_or ns 0 0 ≡ k.code → write_numbers ns part out ≡ write_listed k ns part out
  unfolding write_numbers
  listed_as m [] c = absurd (omega (arith, c, code-some m))
  listed_as m (t ∷ fields) c = asked (λ k. write_listed k (t ∷ fields) part out) _ m t c

  -- what holds of no numbers, of those of a kind and of those of no kind holds of all
  pub by_type : (ns : List ℕ) (P : Wrote → Type 0) → (length ns ≡ 0 → P (record { said = refused 1; held = out }))
      → ((k : Kind) → Memᴰ k kinds → get_or ns 0 0 ≡ k.code → P (write_listed k ns part out)) → P (record { said = refused 2; held = out })
      → P (write_numbers ns part out)
  unfolding write_numbers
  by_type [] P none one other = none refl
  by_type (t ∷ fields) P none one other =
      ⊎_elim (λ r. subst P (sym (listed_as r.1 (t ∷ fields) r.2)) (one r.0 r.1 r.2))
      (λ r. subst P (sym (r Wrote (λ k. write_listed k (t ∷ fields) part out) (record { said = refused 2; held = out }))) other)
      (known_or_not t)
