-- The lives that are not empty, computed.
-- Assumes nothing.
use Rattle.octets.proofs.Words.{◌≡◌, refl, ap, ◌∙◌, false, List, [], ◌∷◌, ℕ, arith}
use Rattle.octets.specs.Numbers.{num, digits}
use Rattle.moments.specs.Moments.{age_at, in_order}
use Rattle.unit_life.specs.States.{kind_after, tick_to}
use Rattle.unit_life.specs.Calls.{within_rule, moved_on, on_event, on_tick}
use Rattle.unit_life.specs.Histories.{Call, event, tick}
use Rattle.unit_life.specs.StateBytes.{state_in, state_over}
use Rattle.c_unit.specs.StateCalls.{fresh_call, event_call, tick_call}
use Rattle.c_history.specs.HeldStates.{leaves, buffer_after}
use Rattle.c_history.specs.StateWitness.{FindsSilence, FindsSilencePastTheTop, out_of_rule, LeavesRuleInC}
use Rattle.c_history.proofs.StateStored.{refused-leaves}

pub finds_silence : FindsSilence
unfolding num digits age_at in_order kind_after tick_to moved_on on_event on_tick state_in state_over fresh_call event_call tick_call
finds_silence = (refl, refl, refl, refl, refl, refl)

pub finds_silence_past_the_top : FindsSilencePastTheTop
unfolding num digits age_at in_order kind_after tick_to moved_on on_event on_tick state_in state_over fresh_call event_call tick_call
finds_silence_past_the_top = (refl, refl, refl, refl, refl, refl)

-- ---- out of rule
all-refused : (c : Call) → (leaves out_of_rule c).status ≡ 14
unfolding num digits age_at in_order kind_after tick_to moved_on on_event on_tick state_in state_over fresh_call event_call tick_call
all-refused (event number time) = refl
all-refused (tick ms time) = refl

-- where each call is refused, no call changes the buffer
stays_as_it_was : (s : List ℕ) → ((c : Call) → (leaves s c).status ≡ 14) → (cs : List Call) → buffer_after s cs ≡ s
stays_as_it_was s h [] = refl
stays_as_it_was s h (c ∷ cs) = ap (λ (b : List ℕ). buffer_after b cs) (refused-leaves s c (λ z. omega (arith, h c, z))) ∙ stays_as_it_was s h cs

out_of_rule_lem : within_rule (state_in out_of_rule) ≡ false
unfolding num digits age_at in_order kind_after moved_on on_event state_in state_over fresh_call event_call
out_of_rule_lem = refl

pub leaves_rule_in_c : LeavesRuleInC
leaves_rule_in_c = (out_of_rule_lem, λ cs c. ap (λ (b : List ℕ). (leaves b c).status) (stays_as_it_was out_of_rule all-refused cs) ∙ all-refused c)
