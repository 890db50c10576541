-- `taken`: the frame that was written apart is read, unless it was too long to be written.
-- Assumes nothing.
use Rattle.octets.proofs.Words.{◌≡◌, refl, sym, ap, ◌∙◌, List, [], ◌++◌, ℕ, ◌+◌, ◌≤◌, arith, le-leb, lt-leb, length, take}
use Rattle.octets.specs.Layouts.{bytes}
use Rattle.std.specs.Prelude.{Ok}
use Rattle.frames.specs.Frames.{read_frame}
use Rattle.frame_kinds.specs.Shape.{sealed}
use Rattle.frame_writing.specs.Taking.{takes}
use Rattle.frame_writing.proofs.ListedLaws.{ok_number, apart-done, apart-refused}
use Rattle.frame_kinds.proofs.StoredLaws.{frame-length}
use Rattle.frame_writing.proofs.numbers.taken.Goals as goal
use Rattle.frame_writing.proofs.numbers.taken.Goals.{After-emit}

abbrev frame : After-emit → List ℕ
frame d = sealed (bytes d.args.draft.widths.now d.args.draft.values.now ++ d.args.draft.part.now)

sized : (d : After-emit) → length (frame d) ≡ d.args.draft.head + length d.args.draft.part.now + 1
sized d =
    let a = d.args.draft in
    frame-length a.widths.now a.values.now a.part.now [] a.head a.laid.0 a.laid.1

-- what was written apart is the frame
here : (d : After-emit) (n : ℕ) → d.emit.result ≡ Ok n → (n ≡ length (frame d)) × (length (frame d) ≤
    255) × (take n d.emit.new.out ≡ frame d)
here d = apart-done _ (frame d) _ _ _ refl (sized d) d.emit.ensures

pub slice_bounds-apart-end : goal.slice_bounds-apart-end
slice_bounds-apart-end c =
    let h = here (goal.at.slice_bounds-apart-end c).After-emit c.in-Ok.n c.in-Ok.is in
    omega (arith, h, c.emit.auto.out)

pub slice_bounds-refusal-end : goal.slice_bounds-refusal-end
slice_bounds-refusal-end c =
    let h = here (goal.at.slice_bounds-refusal-end c).After-emit c.in-Ok.n c.in-Ok.is in
    h.0 ∙ sym (ap length h.2)

pub returns-in-Ok : goal.returns-in-Ok
unfolding takes
returns-in-Ok c =
    let h = here (goal.at.returns-in-Ok c).After-emit c.in-Ok.n c.in-Ok.is in
    let e = c.refusal.ensures ∙ ap (λ (s : List ℕ). (read_frame s).refusal) h.2 in
    c.is_ok.ensures.value ∙ (ok_number c.refusal.result ∙ rw (e, le-leb _ _ h.1))

pub returns-in-Err : goal.returns-in-Err
unfolding takes
returns-in-Err c =
    let d = (goal.at.returns-in-Err c).After-emit in
    let h = apart-refused _ (frame d) _ _ _ refl (sized d) c.emit.ensures _ c.in-Err.is in
    rw (lt-leb _ _ h)
