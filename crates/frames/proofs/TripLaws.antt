-- The round trips, proved once over a kind.
-- Assumes nothing.
use Rattle.octets.proofs.Words.{◌≡◌, refl, sym, ap, ◌∙◌, Bool, true, false, not, ◌||◌, cond, List, [], ◌∷◌, ◌++◌, append_assoc, Memᴰ, ⊎_elim, ℕ, ◌≤◌, ◌<◌, arith, eq-eqb, ne_eqb, le-ltb, eqb-true, eqb, ltb, length, take, drop, length-append, take_at, drop_at}
use Rattle.octets.specs.Answers.{Said, accepted, unless}
use Rattle.octets.specs.Layouts.{total, fields, bytes, Fit}
use Rattle.octets.specs.Numbers.{num}
use Rattle.octets.specs.Sums.{xors}
use Rattle.octets.proofs.AnswerLaws.{unless-none, unless-number}
use Rattle.octets.proofs.LayoutLaws.{fit_length, length-bytes, fields-bytes, fields_fit}
use Rattle.frames.specs.Frames.{kinds, refusal_typed, read_frame}
use Rattle.frames.specs.Layout.{widths_of}
use Rattle.frame_kinds.specs.Reading.{is_sealed, misfit, read_refusal, refusal_as, unknown_refusal, read_as, read_unknown}
use Rattle.frame_kinds.specs.Shape.{Kind, place_of, length_of, values_in, part_in, sealed, frame_of}
use Rattle.frames.specs.Trips.{refusal_with, RefusedAlike, ReadsBack, WritesBack}
use Rattle.frame_kinds.specs.Writing.{write_refusal}
use Rattle.frames.proofs.KindLaws.{asked, known_or_not, code_fits, of_type}
use Rattle.frame_kinds.proofs.FrameLaws.{rewritten}
use Rattle.frame_kinds.proofs.ReadingLaws.{passed}
use Rattle.frame_kinds.proofs.SealLaws.{length-sealed, sealed_is}
use Rattle.frame_kinds.proofs.WritingLaws.{put}

-- the two orders of the length tests give the same number, if a frame of the right length has the right part
in_order_lem : (size due : ℕ) (good seen : Bool) → (size ≡ due → seen ≡ good)
    → ◌≡◌ {A = ℕ} (cond (not (eqb size due) || ltb 255 size) 1 (cond (not good) 4 0))
    (cond (ltb 255 size) 1 (cond (not (eqb size due)) 1 (cond (not seen) 4 0)))
in_order_lem size due good seen h = go (eqb size due) (ltb 255 size) refl
  where
    go : (a b : Bool) → eqb size due ≡ a
        → ◌≡◌ {A = ℕ} (cond (not a || b) 1 (cond (not good) 4 0)) (cond b 1 (cond (not a) 1 (cond (not seen) 4 0)))
    go true true q = refl
    go true false q = rw (h (eqb-true size due q))
    go false true q = refl
    go false false q = refl

-- ---- the bytes of a record, read
module _ (k : Kind) (vs part : List ℕ) (small : k.code < 256) (f : Fit k.widths vs) where
  abbrev head : List ℕ
  head = bytes (1 ∷ k.widths) (k.code ∷ vs)

  abbrev frame : List ℕ
  frame = frame_of k vs part

  fit-head : Fit (1 ∷ k.widths) (k.code ∷ vs)
  fit-head = (small, f)

  head-length : length head ≡ place_of k
  head-length = length-bytes (1 ∷ k.widths) (k.code ∷ vs) (fit_length (1 ∷ k.widths) (k.code ∷ vs) fit-head)

  pub frame-length : length frame ≡ length_of k (length part)
  frame-length = omega (arith, length-sealed (head ++ part), length-append head part, head-length)

  frame-split : frame ≡ head ++ (part ++ (xors 0 (head ++ part) ∷ []))
  unfolding sealed
  frame-split = append_assoc head part (xors 0 (head ++ part) ∷ [])

  frame-fields : fields (1 ∷ k.widths) frame 0 ≡ k.code ∷ vs
  frame-fields = rw frame-split (fields-bytes (1 ∷ k.widths) (k.code ∷ vs) [] (part ++ (xors 0 (head ++ part) ∷ [])) 0 refl fit-head)

  pub frame_type : num 1 frame 0 ≡ k.code
  frame_type = cc frame-fields

  pub frame-values : values_in k frame ≡ vs
  frame-values = cc frame-fields

  frame-part : k.extent vs ≡ length part → take (k.extent vs) (drop (place_of k) frame) ≡ part
  frame-part e =
      rw (e, frame-split, drop_at head (part ++ (xors 0 (head ++ part) ∷ [])) (place_of k) head-length)
      (take_at part (xors 0 (head ++ part) ∷ []) (length part) refl)

  frame-sealed : is_sealed frame ≡ true
  frame-sealed = sealed_is (head ++ part)

  -- the reader meets the writer's reasons in the writer's order
  pub alike : refusal_with k vs part ≡ refusal_as k frame
  unfolding write_refusal read_refusal
  alike =
      simp (frame_type, frame-values, frame-sealed, eq-eqb k.code k.code refl, ne_eqb (length frame) 0 (λ z. omega (arith, frame-length)), le-ltb (length frame) (length frame) (omega arith))
      (in_order_lem (length frame) (length_of k (k.extent vs)) (k.rule vs part) _
      (λ e. ap (k.rule vs) (frame-part (omega (arith, frame-length)))))

-- ---- over the ten kinds
module _ (k : Kind) (m : Memᴰ k kinds) (s : List ℕ) where
  -- bytes of a kind's type are read as that kind
  as_known : num 1 s 0 ≡ k.code → read_frame s ≡ read_as k s
  as_known c = of_type s (num 1 s 0) refl ∙ asked (λ x. read_as x s) (read_unknown s) m (num 1 s 0) c

  -- they are refused as the kind refuses them
  pub refused-read : num 1 s 0 ≡ k.code → (read_frame s).refusal ≡ refusal_as k s
  refused-read c = ap (λ (x : Said). x.refusal) (as_known c) ∙ unless-number (refusal_as k s) (k.code ∷ values_in k s)

  -- bytes that a kind does not refuse are read as its values
  pub accepted-read : refusal_as k s ≡ 0 → read_frame s ≡ accepted (k.code ∷ values_in k s)
  accepted-read z = as_known (passed _ _ _ s z).typed ∙ unless-none (refusal_as k s) (accepted (k.code ∷ values_in k s)) z

-- the number that reading gives is why the bytes are refused as a frame of their type
pub typed_refusal : (s : List ℕ) → refusal_typed (num 1 s 0) s ≡ (read_frame s).refusal
unfolding refusal_typed read_frame
typed_refusal s =
    ⊎_elim (λ r. asked (λ k. refusal_as k s) (unknown_refusal s) r.1 (num 1 s 0) r.2 ∙ sym (refused-read r.0 r.1 s r.2))
    (λ r. r ℕ (λ k. refusal_as k s) (unknown_refusal s) ∙ sym (ap (λ (x : Said). x.refusal) (r Said (λ k. read_as k s) (read_unknown s)) ∙ unless-number (unknown_refusal s) []))
    (known_or_not (num 1 s 0))

pub refused_alike : RefusedAlike
refused_alike k m vs part f =
    let c = code_fits m in
    alike k vs part c f ∙ sym (refused-read k m (frame_of k vs part) (frame_type k vs part c f))

pub reads_back : ReadsBack
reads_back k m vs part f e =
    let c = code_fits m in
    let s : List ℕ = frame_of k vs part in
    let d = (put (length_of k (k.extent vs)) (length s) (k.rule vs part) (length s) e).sized in (
      accepted-read k m s (sym (alike k vs part c f) ∙ e) ∙ ap (λ (us : List ℕ). accepted (k.code ∷ us)) (frame-values k vs part c f),
      rw (frame-values k vs part c f) (frame-part k vs part c f (omega (arith, frame-length k vs part c f))),
    )

-- what is known of bytes that are read: they are of one of the kinds, and it does not refuse them
pub record Read (s : List ℕ) : Type 0 where
  pub kind : Kind
  pub known : Memᴰ kind kinds
  pub typed : num 1 s 0 ≡ kind.code
  pub taken : refusal_as kind s ≡ 0

pub read_of : (s : List ℕ) → (read_frame s).refusal ≡ 0 → Read s
unfolding read_frame
read_of s e =
    ⊎_elim (λ r. record { kind = r.0; known = r.1; typed = r.2; taken = sym (refused-read r.0 r.1 s r.2) ∙ e })
    (λ r. absurd (unknown (misfit s) (rw (r Said (λ k. read_as k s) (read_unknown s)) at e))) (known_or_not (num 1 s 0))
  where
    unknown : (b : Bool) → (unless (cond b 1 2) (accepted [])).refusal ≡ 0 → ⊥
    unknown true z = omega arith
    unknown false z = omega arith

-- its values stand where the layout of its type says
pub values-read : (s : List ℕ) → (read_frame s).refusal ≡ 0 → (read_frame s).values ≡ fields (widths_of (num 1 s 0)) s 0
values-read s e =
    let r = read_of s e in
    rw (accepted-read r.kind r.known s r.taken, asked (λ x. 1 ∷ x.widths) [] r.known (num 1 s 0) r.typed, ← r.typed)

-- it has at most 255 bytes, and its checksum behind its fields
pub read-size : (s : List ℕ) → (read_frame s).refusal ≡ 0 → (length s ≤ 255) × (total (widths_of (num 1 s 0)) < length s)
read-size s e =
    let r = read_of s e in
    let p = passed _ _ _ s r.taken in
    (p.short, rw (asked (λ x. 1 ∷ x.widths) [] r.known (num 1 s 0) r.typed) (omega (arith, p.sized)))

pub writes_back : WritesBack
writes_back s b e =
    let r = read_of s e in
    let k = r.kind in
    let f = fields_fit s b k.widths 1 in
    let same = rewritten k s b r.taken in
    record {
      kind = k;
      known = r.known;
      said = accepted-read k r.known s r.taken;
      fit = f;
      writable = alike k (values_in k s) (part_in k s) (code_fits r.known) f ∙ (ap (refusal_as k) same ∙ r.taken);
      same = same;
    }
