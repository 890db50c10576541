-- The words of the kit's library that proofs here are written in, from one place.
-- Assumes nothing.
pub use mathlib.Core.Path.{◌∙◌, ◌≡◌, ap, ap₂, refl, subst, sym, transport}
pub use mathlib.Core.Bool.{Bool, ◌&&◌, ◌||◌, and_assoc, and-eq-true_iff, and-false, and-true, cond, false, false≢true, not, or_comm, or-false, or-true, true}
pub use mathlib.Core.List.Memᴰ.{head as mem_head}
pub use mathlib.Core.List.Memᴰ.{tail as mem_tail}
pub use mathlib.Core.List.{List, Memᴰ, [], ◌++◌, ◌∷◌, append_assoc, append-nil, map, map-append}
pub use mathlib.Core.Logic.{◌⊎◌, inl, inr, ⊎_elim}
pub use Prim.Native.Nat.{◌%◌, ◌*◌, ◌+◌, ◌-◌, ◌/◌, ◌<◌, ◌^◌, ◌≤◌, min, suc, zero, ℕ}
pub use native.Mathlib.Decide.{dec_le, dec_lt, ℕ_discrete}
pub use native.Mathlib.Nat.{add_assoc, add_comm, add-sub_cancel, add-suc, add-zero, div-div-eq-div-mul, div-one, le_of_suc-le-suc, lt_of_lt_of_le, mul-add, mul_assoc, mul_comm, mul-le-mul, mul-le-mul_right, mul-suc, mul-zero, not-suc-le-zero, one-mul, pow-le-pow_right, pow-succ', sub_self, suc-add, suc_inj, suc-ne-zero, zero-add}
pub use native.Mathlib.Numerals.{add-one, one-add}
pub use native.Mathlib.Omega.{arith}
pub use borrow.Author.Rules.{Fits-under, rules}
pub use borrow.Author.Tests.{eq-eqb, eqb-false, eqb-true, le-leb, le-ltb, leb-false, leb-true, lt-leb, lt-ltb, ltb-false, ltb-true, ne_eqb, not-false, not-true}
pub use lib.Dec.{eqb, eqb-suc-suc, leb, leb-suc-suc, leb→le, le→leb, lit<, ltb}
pub use lib.ListN.{get_or-append, get_or-eq_default, get_or-map, drop, drop_of_length-le, get_or, length, length-append, length-drop, length-map, length-replicate, length-set, length-take, replicate, set, take, take-append-drop}
pub use lib.Seq.{append_snoc, drop-append-le, drop-append_seam, drop_at, drop-cons, drop-drop, drop-length, drop-nil, drop-set-lt, get_or_at, get_or-drop, get_or-set_other, get_or-set_same, get_or-take, length-sets, length-take-le, set-append_left, set-append_seam, set_out, set_split, sets, sets-eq, take-add, take_all, take-append-le, take_at, take-nil, take-set-lt, take-suc, take-suc-set, take-take}
pub use denote.Ref.{NamedLft, Bor, MutBor}
