-- What the answer to making a plan says is said by no other answer, and no two kinds of slots have one number.
-- Assumes nothing.
use Rattle.octets.proofs.Words.{◌≡◌, refl, sym, ap, ◌∙◌, cond, ℕ, eqb}
use Rattle.octets.specs.Answers.{OneToOne}
use Rattle.octets.proofs.RefusalLaws.{told_one}
use Rattle.site_plan.specs.declared.schedules.SlotKind.{SlotKind}
use Rattle.site_plan.specs.declared.schedules.SlotKind.TheVariants.{Tx, Rx, BeaconTx, BeaconRx, ControlTx, ControlRx, DiscoveryTx, DiscoveryRx, Sleep}
use Rattle.site_plan.specs.Plans.{plan_values, told_plan}
use Rattle.site_plan.specs.Schedules.{tx, rx, beacon_tx, beacon_rx, control_tx, control_rx, discovery_tx, discovery_rx, slot_number}
use Rattle.site_plan.specs.PlanBytes.{plan_from}

pub told_plan-one : OneToOne told_plan
told_plan-one = told_one plan_values plan_from (λ p. refl)

-- the kind with a number
kind_with : ℕ → SlotKind
kind_with n =
    cond (eqb n tx) Tx
    (cond (eqb n rx) Rx
    (cond (eqb n beacon_tx) BeaconTx
    (cond (eqb n beacon_rx) BeaconRx
    (cond (eqb n control_tx) ControlTx
    (cond (eqb n control_rx) ControlRx
    (cond (eqb n discovery_tx) DiscoveryTx
    (cond (eqb n discovery_rx) DiscoveryRx Sleep)))))))

kind_back : (k : SlotKind) → kind_with (slot_number k) ≡ k
unfolding kind_with
kind_back Tx = refl
kind_back Rx = refl
kind_back BeaconTx = refl
kind_back BeaconRx = refl
kind_back ControlTx = refl
kind_back ControlRx = refl
kind_back DiscoveryTx = refl
kind_back DiscoveryRx = refl
kind_back Sleep = refl

-- no two kinds have one number
pub slot_number-one : (a b : SlotKind) → slot_number a ≡ slot_number b → a ≡ b
slot_number-one a b e = sym (kind_back a) ∙ (ap kind_with e ∙ kind_back b)
