-- A frame from a list of numbers: the loop over its widths, and the reader's word for its rules.
-- Assumes nothing.
use Rattle.octets.proofs.Words.{◌≡◌, refl, sym, ap, ◌∙◌, Bool, true, false, not, ◌&&◌, ◌||◌, cond, or-true, false≢true, List, [], ◌∷◌, ◌++◌, append_assoc, Memᴰ, ℕ, suc, ◌+◌, ◌^◌, ◌≤◌, ◌<◌, dec_le, ℕ_discrete, lt_of_lt_of_le, pow-le-pow_right, add-one, arith, eq-eqb, ne_eqb, le-ltb, lt-ltb, ltb-true, le-leb, eqb, ltb, length, get_or, take, drop, length-append, length-take, sets, drop-cons, get_or_at}
use Rattle.octets.specs.Answers.{Said, accepted, refused}
use Rattle.octets.specs.Layouts.{Fit}
use Rattle.std.specs.Prelude.{Result, Ok, Err}
use Rattle.std.specs.Result.{is_ok}
use Rattle.octets.specs.Refusals.{number_of, status_of}
use Rattle.octets.proofs.RefusalLaws.{refusal_some}
use Rattle.octets.specs.declared.refusals.Refusal.{Refusal}
use Rattle.octets.specs.Told.{Wrote, told_written, wrote}
use Rattle.octets.proofs.StoreLaws.{take-sets}
use Rattle.frames.specs.Frames.{kinds}
use Rattle.frames.specs.Listed.{given, fitting}
use Rattle.frame_kinds.specs.Shape.{Kind, length_of, frame_of}
use Rattle.frame_kinds.specs.Writing.{write_refusal, writing}
use Rattle.frames.proofs.TripLaws.{refused_alike}
use Rattle.frame_writing.specs.Sizes.{size_refusal}
use Rattle.frame_writing.specs.Taking.{takes}

-- a turn of the loop
pub fitting-turn : (ws ns : List ℕ) (k : ℕ) → k < length ws
    → fitting (drop k ws) ns k ≡ (ltb k (length ns) && ltb (get_or ns k 0) (256 ^ get_or ws k 0) && fitting (drop (k + 1) ws) ns (k + 1))
fitting-turn ws ns k h = rw (drop-cons ws k 0 h, add-one)

-- four bytes and more hold every number of 32 bits
pub wide_fits : (n w : ℕ) → n < 2 ^ 32 → 4 ≤ w → ltb n (256 ^ w) ≡ true
wide_fits n w h k = lt-ltb n (256 ^ w) (lt_of_lt_of_le h (pow-le-pow_right (omega arith) k))

pub cond_same : {A : Type 0} (b : Bool) (a : A) → cond b a a ≡ a
cond_same true a = refl
cond_same false a = refl

-- an answer that is accepted has the status 0
pub ok_number : (r : Result Unit Refusal) → is_ok r ≡ eqb (status_of r) 0
ok_number (Ok u) = refl
ok_number (Err r) = sym (ne_eqb (number_of r) 0 (refusal_some r))

-- a frame that was to be written apart, in 255 bytes: it was if it is no longer
module _ (size : ℕ) (frame room last : List ℕ) (r : Result ℕ Refusal) (l : length room ≡ 255) (s : length frame ≡ size) (e : wrote r last ≡ writing size true frame room) where
  short : length frame ≤ 255 → (told_written r ≡ accepted (length frame ∷ [])) × (last ≡ sets room 0 frame)
  unfolding writing write_refusal
  short h =
      let w = simp (eq-eqb _ _ s, le-ltb _ _ h, l) at e in
      (ap (λ (x : Wrote). x.said) w, ap (λ (x : Wrote). x.held) w)

  long : 255 < length frame → told_written r ≡ refused 1
  unfolding writing write_refusal
  long h = ap (λ (x : Wrote). x.said) (simp (lt-ltb _ _ h, or-true) at e)

  pub apart-done : (n : ℕ) → r ≡ Ok n → (n ≡ length frame) × (length frame ≤ 255) × (take n last ≡ frame)
  apart-done n d = go (dec_le (length frame) 255)
    where
      go : Dec (length frame ≤ 255) → (n ≡ length frame) × (length frame ≤ 255) × (take n last ≡ frame)
      go (yes h) =
          let p = short h in
          let m : n ≡ length frame = ap (λ (x : Said). get_or x.values 0 0) (sym (ap told_written d) ∙ p.0) in
          (m, h, rw p.1 (take-sets room frame n (sym m) (omega arith)))
      go (no h) =
          let z : ◌≡◌ {A = ℕ} 1 0 = ap (λ (x : Said). length x.values) (sym (ap told_written d) ∙ long (omega arith)) in
          absurd (omega arith)

  pub apart-refused : (x : Refusal) → r ≡ Err x → 255 < length frame
  apart-refused x d = go (dec_le (length frame) 255)
    where
      go : Dec (length frame ≤ 255) → 255 < length frame
      go (yes h) =
          let z : ◌≡◌ {A = ℕ} 0 1 = ap (λ (y : Said). length y.values) (sym (ap told_written d) ∙ (short h).0) in
          absurd (omega arith)
      go (no h) = omega arith

-- ---- numbers that are given for a layout
pub length-given : (ws ns : List ℕ) (i : ℕ) → length (given ws ns i) ≡ length ws
length-given [] ns i = refl
length-given (w ∷ ws) ns i = ap suc (length-given ws ns (i + 1))

fitting_cons : (a b c : Bool) → (a && b && c) ≡ true → (a ≡ true) × (b ≡ true) × (c ≡ true)
fitting_cons true true c h = (refl, refl, h)
fitting_cons true false c h = absurd (false≢true h)
fitting_cons false b c h = absurd (false≢true h)

pub fitting-fit : (ws ns : List ℕ) (i : ℕ) → fitting ws ns i ≡ true → Fit ws (given ws ns i)
fitting-fit [] ns i h = tt
fitting-fit (w ∷ ws) ns i h =
    let p = fitting_cons (ltb i (length ns)) (ltb (get_or ns i 0) (256 ^ w)) (fitting ws ns (i + 1)) h in
    (ltb-true (get_or ns i 0) (256 ^ w) p.1, fitting-fit ws ns (i + 1) p.2)

-- they are those that stand in the list
pub fitting_stand : (ws ns : List ℕ) (i : ℕ) → fitting ws ns i ≡ true → take (length ws) (drop i ns) ≡ given ws ns i
fitting_stand [] ns i h = refl
fitting_stand (w ∷ ws) ns i h =
    let p = fitting_cons (ltb i (length ns)) (ltb (get_or ns i 0) (256 ^ w)) (fitting ws ns (i + 1)) h in
    let k : i < length ns = ltb-true i (length ns) p.0 in
    rw (drop-cons ns i 0 k, ← add-one i, fitting_stand ws ns (i + 1) p.2)

pub fitting-within : (ws ns : List ℕ) → fitting ws ns 0 ≡ true → length ws ≤ length ns
fitting-within ws ns h = omega (arith, ap length (fitting_stand ws ns 0 h), length-take (length ws) ns, length-given ws ns 0)

-- numbers that stand in a list and fit a layout are those that are given for it, whatever stands before and behind them
pub standing-given : (ws vs p q : List ℕ) (n : ℕ) → length p ≡ n → Fit ws vs → (given ws (p ++ (vs ++ q)) n ≡ vs) × (fitting ws (p ++ (vs ++ q)) n ≡ true)
standing-given [] [] p q n e f = (refl, refl)
standing-given [] (v ∷ vs) p q n e f = absurd f
standing-given (w ∷ ws) [] p q n e f = absurd f
standing-given (w ∷ ws) (v ∷ vs) p q n e f =
    let l : length (p ++ (v ∷ [])) ≡ n + 1 = length-append p (v ∷ []) ∙ ap (λ (k : ℕ). k + 1) e in
    let later = rw (append_assoc p (v ∷ []) (vs ++ q)) at (standing-given ws vs (p ++ (v ∷ [])) q (n + 1) l f.1) in
    let there : n < length (p ++ (v ∷ (vs ++ q))) = omega (arith, e, length-append p (v ∷ (vs ++ q))) in
    rw (get_or_at p v (vs ++ q) 0 n e, lt-ltb n (length (p ++ (v ∷ (vs ++ q)))) there, lt-ltb v (256 ^ w) f.0, later.0, later.1) (refl, refl)

-- ---- a frame that has no such size, and one that has it
module _ (due size : ℕ) where
  pub sized-first : (good : Bool) (room : ℕ) → (size_refusal due size ≡ 0 → ⊥) → size_refusal due size ≡ write_refusal due size good room
  unfolding size_refusal write_refusal
  sized-first good room = go (not (eqb size due) || ltb 255 size)
    where
      go : (b : Bool) → (◌≡◌ {A = ℕ} (cond b 1 0) 0 → ⊥) → ◌≡◌ {A = ℕ} (cond b 1 0) (cond b 1 (cond (not good) 4 (cond (ltb room size) 5 0)))
      go true h = refl
      go false h = absurd (h refl)

  pub sized-unkept : (room : ℕ) → 0 ≡ size_refusal due size → 4 ≡ write_refusal due size false room
  unfolding size_refusal write_refusal
  sized-unkept room = go (not (eqb size due) || ltb 255 size)
    where
      go : (b : Bool) → ◌≡◌ {A = ℕ} 0 (cond b 1 0) → ◌≡◌ {A = ℕ} 4 (cond b 1 4)
      go true e = absurd (omega arith)
      go false e = refl

-- ---- a writer whose rules are told only of frames that are not too long
pub told_late : (due : ℕ) (g good : Bool) (frame out : List ℕ) → (length frame ≡ due → length frame ≤ 255 → g ≡ good) → writing due g frame out ≡ writing due good frame out
unfolding writing write_refusal
told_late due g good frame out h = go (ℕ_discrete (length frame) due) (dec_le (length frame) 255)
  where
    go : Dec (length frame ≡ due) → Dec (length frame ≤ 255) → writing due g frame out ≡ writing due good frame out
    go (yes d) (yes l) = rw (h d l)
    go (yes d) (no l) = simp (lt-ltb 255 (length frame) (omega arith), or-true)
    go (no d) r = simp (ne_eqb (length frame) due d)

-- what the reader takes keeps the rules
module _ (k : Kind) (m : Memᴰ k kinds) (vs part : List ℕ) (f : Fit k.widths vs) where
  pub takes-kept : length (frame_of k vs part) ≡ length_of k (k.extent vs) → length (frame_of k vs part) ≤ 255 → takes (frame_of k vs part) ≡ k.rule vs part
  unfolding takes write_refusal
  takes-kept d l =
      simp (le-leb _ _ l, ← refused_alike k m vs part f, eq-eqb _ _ d, le-ltb _ _ l, le-ltb (length (frame_of k vs part)) (length (frame_of k vs part)) (omega arith))
      (go (k.rule vs part))
    where
      go : (g : Bool) → eqb (cond (not g) 4 0) 0 ≡ g
      go true = refl
      go false = refl
