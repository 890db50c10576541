-- The calls on a plan, from what the core answers.
-- Assumes nothing.
use Rattle.octets.proofs.Words.{◌≡◌, sym, ◌∙◌, List, ℕ, eq-eqb, length, sets}
use Rattle.std.proofs.Common.{Result, Ok}
use Rattle.octets.specs.declared.refusals.Refusal.{Refusal}
use Rattle.octets.proofs.StoreLaws.{sets-whole}
use Rattle.site_plan.specs.declared.plan.Plan.{Plan}
use Rattle.site_plan.specs.Plans.{told_plan, plan_of}
use Rattle.site_plan.specs.PlanBytes.{plan_size, bytes_of_plan}
use Rattle.site_plan.proofs.PlanByteLaws.{length-plan}
use Rattle.c_book.specs.BookCalls.{book_left}
use Rattle.c_book.specs.PlanCalls.{plan_call}

-- a plan that is made, over as many bytes as it has
module _ (s : List ℕ) (network manager hops rows dataSlots ms beacon : ℕ) (l : length s ≡ plan_size) (made : Result Plan Refusal)
    (e : told_plan made ≡ plan_of network manager hops rows dataSlots ms beacon) where
  pub planned : (p : Plan) (last : List ℕ) → made ≡ Ok p → last ≡ sets s 0 (bytes_of_plan p) → book_left 0 last ≡ plan_call s network manager hops rows dataSlots ms beacon
  unfolding plan_call
  planned p last q h = rw (eq-eqb (length s) plan_size l, ← e, q, h, sets-whole s (bytes_of_plan p) (length-plan p ∙ sym l))
