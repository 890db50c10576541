-- What is known of a frame that its writer does not refuse, and that such a frame is written whole.
-- Assumes nothing.
use Rattle.octets.proofs.Words.{◌≡◌, refl, Bool, true, false, not, ◌||◌, cond, List, [], ◌∷◌, ℕ, ◌≤◌, ◌<◌, arith, eq-eqb, le-ltb, lt-ltb, eqb-true, ltb-false, eqb, ltb, length, sets}
use Rattle.octets.specs.Answers.{accepted, refused}
use Rattle.octets.proofs.AnswerLaws.{unless-none}
use Rattle.octets.proofs.CallLaws.{after-accepted}
use Rattle.frame_kinds.specs.Writing.{write_refusal, writing}

-- a frame of this size, where its count gives the length `due`, its field rules are kept or not, and the buffer has this room
pub record Put (due size : ℕ) (good : Bool) (room : ℕ) : Type 0 where
  pub sized : size ≡ due
  pub short : size ≤ 255
  pub kept : good ≡ true
  pub fits : size ≤ room

module _ (due size : ℕ) (good : Bool) (room : ℕ) where
  pub put : write_refusal due size good room ≡ 0 → Put due size good room
  unfolding write_refusal
  put e = go (eqb size due) (ltb 255 size) good (ltb room size) refl refl refl refl e
    where
      go : (d l g r : Bool) → eqb size due ≡ d → ltb 255 size ≡ l → good ≡ g → ltb room size ≡ r
          → ◌≡◌ {A = ℕ} (cond (not d || l) 1 (cond (not g) 4 (cond r 5 0))) 0 → Put due size good room
      go false l g r o p q t z = absurd (omega arith)
      go true true g r o p q t z = absurd (omega arith)
      go true false false r o p q t z = absurd (omega arith)
      go true false true true o p q t z = absurd (omega arith)
      go true false true false o p q t z = record { sized = eqb-true _ _ o; short = ltb-false _ _ p; kept = q; fits = ltb-false _ _ t }

  pub unrefused : Put due size good room → write_refusal due size good room ≡ 0
  unfolding write_refusal
  unrefused k = rw (eq-eqb size due k.sized, le-ltb 255 size k.short, k.kept, le-ltb room size k.fits)

pub written-whole : (due : ℕ) (good : Bool) (frame out : List ℕ) → Put due (length frame) good (length out)
    → writing due good frame out ≡ record { said = accepted (length frame ∷ []); held = sets out 0 frame }
unfolding writing
written-whole due good frame out k =
    let z = unrefused due (length frame) good (length out) k in
    rw (unless-none (write_refusal due (length frame) good (length out)) (accepted (length frame ∷ [])) z, after-accepted (write_refusal due (length frame) good (length out)) out (sets out 0 frame) z)

-- one that breaks no rule, and has no room, is refused with 5
pub written_short : (due : ℕ) (good : Bool) (frame out : List ℕ) → length frame ≡ due → length frame ≤ 255 → good ≡ true → length out < length frame
    → writing due good frame out ≡ record { said = refused 5; held = out }
unfolding writing write_refusal
written_short due good frame out d s g r = rw (eq-eqb (length frame) due d, le-ltb 255 (length frame) s, g, lt-ltb (length out) (length frame) r)
