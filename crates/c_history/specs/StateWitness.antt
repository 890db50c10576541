-- Lives that are not empty, through their 13 bytes: a fresh state is brought to Normal, and silence for more than three superframes is found, also where the
-- times pass their top; and beacons alone, without ticks, that leave a state out of rule.
-- Assumes nothing.
use Rattle.std.specs.Prelude.{◌≡◌, false, List, [], ◌∷◌, ℕ, ◌+◌, replicate}
use Rattle.unit_life.specs.States.{Normal, Recovery, ready, beacon, join_accepted}
use Rattle.unit_life.specs.Calls.{within_rule}
use Rattle.unit_life.specs.Histories.{Call, event}
use Rattle.unit_life.specs.Laws.{beacons_alone}
use Rattle.unit_life.specs.StateBytes.{state_in}
use Rattle.c_unit.specs.StateCalls.{StateLeft, fresh_call, tick_call}
use Rattle.c_history.specs.HeldStates.{leaves, buffer_after}

abbrev pub fresh_at : ℕ → StateLeft
fresh_at began = fresh_call (replicate 13 7) began

-- ---- silence
-- A state that is fresh at a time and comes to Normal by some calls, with `heard` as the last time, the time of entry and that of the last beacon: with a
-- superframe of 1,000 ms it is Normal still at a tick 3,000 ms later, and after one 1 ms later in Recovery
abbrev pub ThenFindsSilence : ℕ → List Call → ℕ → Type 0
ThenFindsSilence began calls heard =
    let normally = buffer_after (fresh_at began).state calls in
    let ticked = tick_call normally 1000 (heard + 3000) in
    let late = tick_call ticked.state 1000 (heard + 3001) in
    ((fresh_at began).status ≡ 0)
    × (normally ≡ Normal ∷ heard ∷ 0 ∷ 0 ∷ 0 ∷ heard ∷ 0 ∷ 0 ∷ 0 ∷ heard ∷ 0 ∷ 0 ∷ 0 ∷ [])
    × (ticked.status ≡ 0)
    × ((state_in ticked.state).kind ≡ Normal)
    × (late.status ≡ 0)
    × ((state_in late.state).kind ≡ Recovery)

abbrev pub FindsSilence : Type 0
FindsSilence = ThenFindsSilence 0 (event ready 10 ∷ event beacon 20 ∷ event join_accepted 30 ∷ []) 30

-- the times pass their top between the beacon and the acceptance
abbrev pub FindsSilencePastTheTop : Type 0
FindsSilencePastTheTop = ThenFindsSilence 0xFFFFFFEC (event ready 0xFFFFFFF0 ∷ event beacon 0xFFFFFFF8 ∷ event join_accepted 4 ∷ []) 4

-- ---- why ticks are asked for
abbrev pub out_of_rule : List ℕ
out_of_rule = buffer_after (fresh_at 0).state beacons_alone

-- after beacons alone the state in the buffer is out of rule, and each call answers 14, whatever calls are made
abbrev pub LeavesRuleInC : Type 0
LeavesRuleInC = (within_rule (state_in out_of_rule) ≡ false) × ((cs : List Call) (c : Call) → (leaves (buffer_after out_of_rule cs) c).status ≡ 14)
