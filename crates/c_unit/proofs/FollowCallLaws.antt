-- The call that chooses, from what the core answers.
-- Assumes nothing.
use Rattle.octets.proofs.Words.{◌≡◌, sym, ap, ℕ}
use Rattle.octets.proofs.CallLaws.{after-refused}
use Rattle.unit_choice.specs.Outcomes.{Chosen}
use Rattle.unit_choice.specs.Choices.{Heard, chosen_of}
use Rattle.c_unit.specs.FollowCalls.{follow_left, follow_call}

module _ (a b : Heard) (network which : ℕ) (c : Chosen) (e : c ≡ chosen_of network a b) where
  pub unfollowed : (c.refused ≡ 0 → ⊥) → follow_left c.refused which ≡ follow_call a b network which
  unfolding follow_call
  unfollowed z = rw (← e) (ap (follow_left c.refused) (sym (after-refused c.refused which c.which z)))
