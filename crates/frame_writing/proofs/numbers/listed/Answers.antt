-- `listed`: numbers that do not fit are refused, the others are written as their kind.
-- Assumes nothing.
use Rattle.octets.proofs.Words.{◌≡◌, sym, ap, ◌∙◌, true, false, List, ◌∷◌, ℕ, ◌≤◌, arith, rules, length, take, length-take}
use Rattle.std.specs.Prelude.{Err}
use Rattle.octets.specs.declared.refusals.Refusal.TheVariants.{Field}
use Rattle.octets.specs.Layouts.{total}
use Rattle.frames.specs.Listed.{fitting}
use Rattle.frames.specs.declared.layouts.Layout.{Layout}
use Rattle.frame_writing.proofs.KnownLaws.{Known, known, unsized, unfit, fit}
use Rattle.frame_writing.proofs.ListedLaws.{fitting-within}
use Rattle.frame_writing.proofs.numbers.listed.Goals as goal
use Rattle.frame_writing.proofs.numbers.listed.Goals.{In_ok-refuse_if}

widths-count : {code : ℕ} {layout : Layout} → Known code layout → layout.count ≡ length (take layout.count layout.widths)
widths-count k = k.counted ∙ sym (ap length k.widths)

here : (d : In_ok-refuse_if) → Known d.args.code d.args.layout
here d = known d.args.code d.args.layout d.requires.0 d.requires.1

fits : (d : In_ok-refuse_if) → fitting (1 ∷ (here d).kind.widths) d.args.numbers.now 0 ≡ true
fits d =
    let h : d.all_fit.result ≡ true = search rules in
    sym (d.all_fit.ensures ∙ ap (λ (ws : List ℕ). fitting ws d.args.numbers.now 0) (here d).widths) ∙ h

numbers-count : (d : In_ok-refuse_if) → d.args.layout.count ≡ length (take d.args.layout.count d.args.numbers.now)
numbers-count d =
    let ns = d.args.numbers.now in
    omega (
      arith,
      length-take d.args.layout.count ns,
      fitting-within (1 ∷ (here d).kind.widths) ns (fits d),
      (here d).counted,
    )

-- what a draft asks
asks : (d : In_ok-refuse_if) → (length (take d.args.layout.count d.args.layout.widths) ≡ length (take
    d.args.layout.count d.args.numbers.now))
    × (total (take d.args.layout.count d.args.layout.widths) ≡ d.args.layout.head)
    × (d.args.layout.head ≤ 64)
asks d =
    let k = here d in
    (sym (widths-count k) ∙ numbers-count d, ap total k.widths ∙ sym k.head, k.small)

pub returns-in_err-sized : goal.returns-in_err-sized
returns-in_err-sized c =
    let a = c.args in
    let k = known a.code a.layout c.requires.0 c.requires.1 in
    let e : c.from_residual.result ≡ Err c.in_err-sized.field-0.0 = search rules in
    rw e (unsized a.code a.layout k a.numbers.now a.part.now a.out.now c.requires.2 c.in_err-sized.field-0.0
    (rw (← c.extent.ensures.0) c.in_err-sized.ensures))

pub slice_bounds-widths-end : goal.slice_bounds-widths-end
slice_bounds-widths-end c = (known _ _ c.requires.0 c.requires.1).within

pub slice_bounds-widths-end-2 : goal.slice_bounds-widths-end-2
slice_bounds-widths-end-2 c = widths-count (known _ _ c.requires.0 c.requires.1)

pub returns-in_err-refuse_if : goal.returns-in_err-refuse_if
returns-in_err-refuse_if c =
    let a = c.args in
    let k = known a.code a.layout c.requires.0 c.requires.1 in
    let e : c.from_residual-in_err-refuse_if.result ≡ Err Field = search rules in
    let h : c.all_fit.result ≡ false = search rules in
    let f = sym (c.all_fit.ensures ∙ ap (λ (ws : List ℕ). fitting ws a.numbers.now 0) k.widths) ∙ h in
    rw e (unfit a.code a.layout k a.numbers.now a.part.now a.out.now c.requires.2 (rw (← c.extent.ensures.0) c.in_ok-sized.ensures) f)

pub slice_bounds-draft-end : goal.slice_bounds-draft-end
slice_bounds-draft-end c = numbers-count (goal.at.slice_bounds-draft-end c).In_ok-refuse_if

pub invariant_of-draft : goal.invariant_of-draft
invariant_of-draft c = record { laid = asks (goal.at.invariant_of-draft c).In_ok-refuse_if }

pub returns : goal.returns
returns c =
    let d = (goal.at.returns c).In_ok-refuse_if in
    fit c.args.code c.args.layout (here d) c.args.numbers.now c.args.part.now c.args.out.now c.requires.2
    c.emit.result c.emit.new.out c.taken.result (fits d) c.taken.ensures
    (rw (← c.extent.ensures.0) c.emit.ensures)
