-- The calls on frames, from what the core answers.
-- Assumes nothing.
use Rattle.octets.proofs.Words.{◌≡◌, refl, ap, ◌∙◌, Bool, true, false, not, ◌||◌, cond, List, [], ◌∷◌, ◌⊎◌, inl, inr, ⊎_elim, ℕ, ◌-◌, ◌≤◌, ℕ_discrete, arith, ltb-false, eqb-true, eqb, ltb, length, get_or}
use Rattle.octets.specs.Answers.{Said, accepted, refused}
use Rattle.octets.specs.Calls.{write_left}
use Rattle.std.specs.Prelude.{Ok, Err}
use Rattle.octets.specs.Refusals.{number_of}
use Rattle.octets.specs.declared.refusals.Refusal.{Refusal}
use Rattle.octets.specs.Told.{Wrote, wrote}
use Rattle.octets.proofs.RefusalLaws.{refusal_some}
use Rattle.octets.proofs.AnswerLaws.{unless-none, unless-some}
use Rattle.octets.proofs.CallLaws.{after-refused}
use Rattle.frames.specs.Listed.{show_refusal, shown, write_numbers}
use Rattle.frames.specs.Frames.{read_frame}
use Rattle.frame_kinds.specs.Writing.{write_refusal, writing}
use Rattle.frames.proofs.ListedLaws.{by_type}
use Rattle.c_frames.specs.FrameCalls.{read_left, place_in, read_call, write_call}

-- ---- reading
module _ (s fields : List ℕ) (place extent : ℕ) (n : ℕ) (last : List ℕ) (e : n ≡ show_refusal s (length fields)) (h : last ≡ shown s fields) where
  pub unread : (n ≡ 0 → ⊥) → read_left n last place extent ≡ read_call s fields place extent
  unfolding read_call
  unread z = rw (← e, h, after-refused n place (place_in s) z, after-refused n extent (length s - 1 - place_in s) z)

  pub read_left_lem : n ≡ 0 → (p x : ℕ) → p ≡ place_in s → x ≡ length s - 1 - place_in s → read_left 0 last p x ≡ read_call s fields place extent
  unfolding read_call
  read_left_lem z p x q r = rw (← e, h, z, q, r)

-- what is shown was read
pub shown_read : (s : List ℕ) (room : ℕ) → show_refusal s room ≡ 0 → (read_frame s).refusal ≡ 0
unfolding show_refusal
shown_read s room e = go (eqb (read_frame s).refusal 0) refl e
  where
    go : (b : Bool) → eqb (read_frame s).refusal 0 ≡ b → cond (not b) (read_frame s).refusal (cond (ltb room (length (read_frame s).values)) 5 0) ≡ 0 → (read_frame s).refusal ≡ 0
    go true q z = eqb-true _ _ q
    go false q z = z

-- ---- writing: a number of bytes that a frame can have, or a refusal
abbrev Answered : Said → Type 0
Answered said = ((n : ℕ) × (n ≤ 255) × (said ≡ accepted (n ∷ []))) ⊎ ((n : ℕ) × (n ≡ 0 → ⊥) × (said ≡ refused n))

not_long : (due size : ℕ) (good : Bool) (room : ℕ) → write_refusal due size good room ≡ 0 → size ≤ 255
unfolding write_refusal
not_long due size good room e = go (eqb size due) (ltb 255 size) refl e
  where
    go : (a b : Bool) → ltb 255 size ≡ b → ◌≡◌ {A = ℕ} (cond (not a || b) 1 (cond (not good) 4 (cond (ltb room size) 5 0))) 0 → size ≤ 255
    go true true q z = absurd (omega arith)
    go true false q z = ltb-false 255 size q
    go false b q z = absurd (omega arith)

writing_answers : (due : ℕ) (good : Bool) (frame out : List ℕ) → Answered (writing due good frame out).said
unfolding writing
writing_answers due good frame out = go (ℕ_discrete (write_refusal due (length frame) good (length out)) 0)
  where
    go : Dec (write_refusal due (length frame) good (length out) ≡ 0) → Answered (writing due good frame out).said
    go (yes z) = inl (length frame, not_long due (length frame) good (length out) z, unless-none _ (accepted (length frame ∷ [])) z)
    go (no z) = inr (write_refusal due (length frame) good (length out), z, unless-some _ (accepted (length frame ∷ [])) z)

module _ (ns part out : List ℕ) where
  answers : Answered (write_numbers ns part out).said
  answers =
      by_type part out ns (λ w. Answered w.said) (λ e. inr (1, λ z. omega arith, refl)) (λ k m c. writing_answers _ _ _ out) (inr (2, λ z. omega arith, refl))

  module _ (last : List ℕ) (written : ℕ) where
    pub written_short : (n : ℕ) → wrote (Ok n) last ≡ write_numbers ns part out → n ≤ 255
    written_short n e =
        let said = ap (λ (w : Wrote). w.said) e in
        ⊎_elim
        (λ r. let z : n ≡ r.0 = ap (λ (x : Said). get_or x.values 0 0) (said ∙ r.2) in omega (arith, r.1))
        (λ r. let z : ◌≡◌ {A = ℕ} 1 0 = ap (λ (x : Said). length x.values) (said ∙ r.2) in absurd (omega arith))
        answers

    pub done : (n : ℕ) → wrote (Ok n) last ≡ write_numbers ns part out → write_left 0 last n ≡ write_call ns part out written
    unfolding write_call
    done n e = rw (← e)

    pub undone : (r : Refusal) → wrote (Err r) last ≡ write_numbers ns part out → write_left (number_of r) last written ≡ write_call ns part out written
    unfolding write_call
    undone r e = rw (← e, after-refused (number_of r) written 0 (refusal_some r))
