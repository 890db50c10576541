-- Numbers whose type is that of a kind: what the writer does with them is what the kind's definition says.
-- Assumes nothing.
use Rattle.octets.proofs.Words.{◌≡◌, refl, sym, ap, ap₂, ◌∙◌, Bool, true, false, ◌&&◌, List, [], ◌∷◌, ◌++◌, Memᴰ, ⊎_elim, ℕ, suc, ◌+◌, ◌≤◌, ◌<◌, arith, length, get_or, take}
use Rattle.octets.specs.Layouts.{total, bytes, Fit}
use Rattle.std.specs.Prelude.{Result, Err}
use Rattle.octets.specs.Refusals.{number_of}
use Rattle.octets.specs.declared.refusals.Refusal.{Refusal}
use Rattle.octets.specs.declared.refusals.Refusal.TheVariants.{WrongType, Field}
use Rattle.octets.specs.Told.{Wrote, wrote}
use Rattle.frames.specs.declared.layouts.Layout.{Layout}
use Rattle.frames.specs.Frames.{kinds}
use Rattle.frames.specs.Layout.{widths_of, layout_of}
use Rattle.frames.specs.Listed.{given, fitting, extent_of, write_listed, write_numbers}
use Rattle.frame_kinds.specs.Shape.{Kind, place_of, length_of, sealed, frame_of}
use Rattle.frame_kinds.specs.Writing.{writing, write_as}
use Rattle.frames.proofs.KindLaws.{asked, known_or_not, code_fits}
use Rattle.frames.proofs.LayoutLaws.{laid_out_lem}
use Rattle.frames.proofs.ListedLaws.{listed_as, by_type}
use Rattle.octets.proofs.RefusalLaws.{refusal_some}
use Rattle.frame_writing.specs.Sizes.{size_refusal}
use Rattle.frame_writing.specs.Taking.{takes}
use Rattle.frame_writing.proofs.ListedLaws.{length-given, fitting-fit, fitting_stand, standing-given, told_late, takes-kept, sized-first, sized-unkept}
use Rattle.frame_kinds.proofs.StoredLaws.{frame-length, unwritten}

-- the kind that numbers of this type are of, and what its layout holds
pub record Known (code : ℕ) (layout : Layout) : Type 0 where
  pub kind : Kind
  pub member : Memᴰ kind kinds
  pub typed : code ≡ kind.code
  pub counted : layout.count ≡ length (1 ∷ kind.widths)
  pub widths : take layout.count layout.widths ≡ 1 ∷ kind.widths
  pub head : layout.head ≡ place_of kind
  pub within : layout.count ≤ length layout.widths
  pub small : layout.head ≤ 64

pub known : (code : ℕ) (layout : Layout) → layout ≡ layout_of code → (layout.count ≡ 0 → ⊥) → Known code layout
known code layout e z =
    let l = laid_out_lem layout code e in
    ⊎_elim
    (λ r.
    let w : widths_of code ≡ 1 ∷ r.0.widths = asked (λ k. 1 ∷ k.widths) [] r.1 code r.2 in
    record {
      kind = r.0;
      member = r.1;
      typed = r.2;
      counted = l.counted ∙ ap length w;
      widths = l.firsts ∙ w;
      head = l.summed ∙ ap total w;
      within = l.within;
      small = l.small;
    })
    (λ r. absurd (z (l.counted ∙ ap length (r (List ℕ) (λ k. 1 ∷ k.widths) []))))
    (known_or_not code)

module _ (code : ℕ) (layout : Layout) (k : Known code layout) (ns part out : List ℕ) (t : get_or ns 0 0 ≡ code) where
  abbrev vs : List ℕ
  vs = given k.kind.widths ns 1

  abbrev frame : List ℕ
  frame = frame_of k.kind vs part

  pub due : layout.head + 1 + extent_of code ns ≡ length_of k.kind (k.kind.extent vs)
  unfolding extent_of
  due = rw (k.head, asked (λ x. x.extent (given x.widths ns 1)) 0 k.member code k.typed)

  same : write_numbers ns part out ≡ write_listed k.kind ns part out
  same = listed_as part out k.member ns (t ∙ k.typed)

  size : length frame ≡ layout.head + length part + 1
  size = frame-length (1 ∷ k.kind.widths) (k.kind.code ∷ vs) part [] layout.head (ap suc (sym (length-given k.kind.widths ns 1))) (sym k.head)

  -- it has no such size, whether its numbers fit or not; or it has, and they do not
  pub unsized : (r : Refusal) → number_of r ≡ size_refusal (layout.head + 1 + extent_of code ns) (layout.head + length part + 1) → wrote (Err r) out ≡ write_numbers ns part out
  unsized r e =
      rw same
      (unwritten (length_of k.kind (k.kind.extent vs)) _ frame out r
      (rw (size, ← due) (e ∙ sized-first _ _ _ (length out) (λ z. refusal_some r (e ∙ z)))))

  pub unfit : 0 ≡ size_refusal (layout.head + 1 + extent_of code ns) (layout.head + length part + 1) → fitting (1 ∷ k.kind.widths) ns 0 ≡ false
      → wrote (Err Field) out ≡ write_numbers ns part out
  unfit e f = rw (same, f) (unwritten (length_of k.kind (k.kind.extent vs)) false frame out Field (rw (size, ← due) (sized-unkept _ _ (length out) e)))

  pub fit : (r : Result ℕ Refusal) (last : List ℕ) (good : Bool) → fitting (1 ∷ k.kind.widths) ns 0 ≡ true
      → good ≡ takes (sealed (bytes (take layout.count layout.widths) (take layout.count ns) ++ part))
      → wrote r last ≡ writing (layout.head + 1 + extent_of code ns) good (sealed (bytes (take layout.count layout.widths) (take layout.count ns) ++ part)) out
      → wrote r last ≡ write_numbers ns part out
  fit r last good f g e =
      let s : take layout.count ns ≡ k.kind.code ∷ vs = ap (λ (n : ℕ). take n ns) k.counted ∙ (fitting_stand (1 ∷ k.kind.widths) ns 0 f ∙ ap (λ (c : ℕ). c ∷ vs) (t ∙ k.typed)) in
      let w : sealed (bytes (take layout.count layout.widths) (take layout.count ns) ++ part) ≡ frame = rw (k.widths, s) in
      let h = fitting-fit (1 ∷ k.kind.widths) ns 0 f in
      (rw (due, w) at e) ∙
      (told_late (length_of k.kind (k.kind.extent vs)) good (k.kind.rule vs part) frame out
      (λ d l. (rw w at g) ∙ takes-kept k.kind k.member vs part h.1 d l)
      ∙ sym (rw (same, f)))

-- numbers that fit a kind are written as the frame with these values, whatever stands behind them
pub written_as : (k : Kind) → Memᴰ k kinds → (vs more part out : List ℕ) → Fit k.widths vs → write_numbers (k.code ∷ (vs ++ more)) part out ≡ write_as k vs part out
written_as k m vs more part out f =
    listed_as part out m (k.code ∷ (vs ++ more)) refl
    ∙ ap₂ {C = Wrote} (λ (b : Bool) (us : List ℕ). writing (length_of k (k.extent us)) (b && k.rule us part) (frame_of k us part) out)
    (standing-given (1 ∷ k.widths) (k.code ∷ vs) [] more 0 refl (code_fits m, f)).1 (standing-given k.widths vs (k.code ∷ []) more 1 refl f).0

-- numbers whose type is that of no kind
module _ (ns part out : List ℕ) (some : length ns ≡ 0 → ⊥) where
  refused_two : ((k : Kind) → Memᴰ k kinds → get_or ns 0 0 ≡ k.code → ⊥) → wrote (Err WrongType) out ≡ write_numbers ns part out
  refused_two h =
      by_type part out ns (λ w. wrote (Err WrongType) out ≡ w) (λ z. absurd (some z)) (λ k m c. absurd (h k m c)) refl

  pub too_large : 255 < get_or ns 0 0 → wrote (Err WrongType) out ≡ write_numbers ns part out
  too_large h = refused_two (λ k m e. omega (arith, code_fits m))

  pub unknown : (layout : Layout) → layout ≡ layout_of (get_or ns 0 0) → layout.count ≡ 0 → wrote (Err WrongType) out ≡ write_numbers ns part out
  unknown layout e z =
      refused_two
      (λ k m c.
      let w = (laid_out_lem layout (get_or ns 0 0) e).counted ∙ ap length (asked (λ x. 1 ∷ x.widths) [] m (get_or ns 0 0) c) in
      omega arith)
