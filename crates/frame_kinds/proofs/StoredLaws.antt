-- A writer that is refused, one that is not, and a frame that is stored with its checksum.
-- Assumes nothing.
use Rattle.octets.proofs.Words.{◌≡◌, refl, sym, ap, ◌∙◌, Bool, List, [], ◌∷◌, ◌++◌, ℕ, suc, ◌+◌, ◌<◌, zero-add, arith, length, take, set, length-append, sets}
use Rattle.octets.specs.Layouts.{total, bytes}
use Rattle.octets.specs.Sums.{xors}
use Rattle.octets.specs.Answers.{accepted}
use Rattle.std.specs.Prelude.{Ok, Err}
use Rattle.octets.specs.Refusals.{number_of}
use Rattle.octets.specs.Told.{wrote}
use Rattle.octets.specs.declared.refusals.Refusal.{Refusal}
use Rattle.octets.proofs.AnswerLaws.{unless-some}
use Rattle.octets.proofs.CallLaws.{after-refused}
use Rattle.octets.proofs.LayoutLaws.{length-bytes}
use Rattle.octets.proofs.StoreLaws.{sets_append, take-sets}
use Rattle.octets.proofs.RefusalLaws.{refusal_some}
use Rattle.frame_kinds.proofs.SealLaws.{length-sealed}
use Rattle.frame_kinds.specs.Shape.{Kind, place_of, sealed, frame_of}
use Rattle.frame_kinds.specs.Writing.{write_refusal, writing}

module _ (due : ℕ) (good : Bool) (frame out : List ℕ) where
  pub unwritten : (r : Refusal) → number_of r ≡ write_refusal due (length frame) good (length out) → wrote (Err r) out ≡ writing due good frame out
  unfolding writing
  unwritten r e =
      let h = refusal_some r in
      rw (← e, unless-some (number_of r) (accepted (length frame ∷ [])) h, after-refused (number_of r) out (sets out 0 frame) h)

  pub stored : (size : ℕ) (held : List ℕ) → 0 ≡ write_refusal due (length frame) good (length out) → size ≡ length frame → held ≡ sets out 0 frame
      → wrote (Ok size) held ≡ writing due good frame out
  unfolding writing
  stored size held e l p = rw (← e, l, p)

-- the numbers, the bytes behind them and the checksum, one after the other, are the frame
module _ (ws vs part out : List ℕ) (head : ℕ) (lengths : length ws ≡ length vs) (heads : total ws ≡ head) where
  abbrev body : List ℕ
  body = bytes ws vs ++ part

  body_length : length body ≡ head + length part
  body_length = length-append (bytes ws vs) part ∙ simp (length-bytes ws vs lengths, heads)

  pub frame-length : length (sealed body) ≡ head + length part + 1
  frame-length = length-sealed body ∙ simp body_length

  pub sealed-stored : (sum : ℕ) → head + length part < length out → sum ≡ xors 0 (take (head + length part) (sets (sets out 0 (bytes ws vs)) head part))
      → set (sets (sets out 0 (bytes ws vs)) head part) (head + length part) sum ≡ sets out 0 (sealed body)
  unfolding sealed
  sealed-stored sum h e =
      let l : length (bytes ws vs) ≡ head = length-bytes ws vs lengths ∙ heads in
      let p : sets (sets out 0 (bytes ws vs)) head part ≡ sets out 0 body = sym (sets_append (bytes ws vs) part out 0 ∙ rw (zero-add, l)) in
      let t : take (head + length part) (sets out 0 body) ≡ body = take-sets out body _ body_length (omega arith) in
      let s : sum ≡ xors 0 body = e ∙ rw (p, t) in
      rw (p, s) (sym (sets_append body (xors 0 body ∷ []) out 0 ∙ rw (zero-add, body_length)))

-- the fields of a kind put from the buffer's start, the bytes behind them, and the checksum, are the frame
module _ (k : Kind) (vs part out : List ℕ) (lengths : length k.widths ≡ length vs) where
  pub frame-put : (one two three : List ℕ) → place_of k + length part < length out → one ≡ sets out 0 (bytes (1 ∷ k.widths) (k.code ∷ vs)) → two ≡ sets one (place_of k) part
      → three ≡ set two (place_of k + length part) (xors 0 (take (place_of k + length part) two)) → three ≡ sets out 0 (frame_of k vs part)
  frame-put one two three h a b c = c ∙ rw (b, a) (sealed-stored (1 ∷ k.widths) (k.code ∷ vs) part out (place_of k) (ap suc lengths) refl _ h refl)
