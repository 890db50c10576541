-- The turns that drop a mask's lowest slots one by one: what is left after one more, and what was dropped where none is left.
-- Assumes nothing.
use mathlib.Core.Path.{◌≡◌, refl, sym, ap, ◌∙◌}
use mathlib.Core.Bool.{true, false}
use Prim.Native.Nat.{ℕ, ◌+◌, ◌-◌, ◌<◌}
use native.Mathlib.Numerals.{add-one}
use native.Mathlib.Omega.{arith}
use lib.Bits.{bit_and}
use Rattle.slot_sets.specs.Sets.{Slots, [], ◌∷◌, is_empty, fill, slotwise, no_slots, minus, lowest, slots_of}
use Rattle.slot_sets.proofs.SetLaws.{cons, empty_is-nothing}
use Rattle.slot_sets.proofs.DropLaws.{without_lowest, one_more, none_left, minus-left}
use Rattle.slot_sets.proofs.MaskLaws.{mask-nothing, mask-drop}

pub turned : (m left dropped : ℕ) → slots_of left ≡ without_lowest dropped (slots_of m) → (left ≡ 0 → ⊥)
    → slots_of (bit_and left (left - 1)) ≡ without_lowest (dropped + 1) (slots_of m)
turned m left dropped rest some =
    mask-drop left (omega (arith, some)) ∙ ap (without_lowest 1) rest ∙ rw add-one (one_more dropped (slots_of m))

minus-nothing : {n : ℕ} (s : Slots n) → minus s no_slots ≡ s
unfolding minus slotwise no_slots fill
minus-nothing [] = refl
minus-nothing (true ∷ s) = cons refl (minus-nothing s)
minus-nothing (false ∷ s) = cons refl (minus-nothing s)

-- where none is left before k turns are made, all slots are the k lowest
pub all_dropped : (m k left dropped : ℕ) → slots_of left ≡ without_lowest dropped (slots_of m) → left ≡ 0 → dropped < k
    → slots_of m ≡ lowest k (slots_of m)
all_dropped m k left dropped rest none l =
    let set = slots_of m in
    let gone : without_lowest dropped set ≡ no_slots = sym rest ∙ ap slots_of none ∙ mask-nothing in
    let empty : is_empty (without_lowest dropped set) ≡ true = (empty_is-nothing 64 (without_lowest dropped set)).1 gone in
    let later : no_slots ≡ without_lowest k set = sym gone ∙ none_left dropped k set (omega arith) empty in
    sym (minus-nothing set) ∙ ap (minus set) later ∙ minus-left k set
