-- The kinds and the events that the code names, by their numbers.
-- Assumes nothing.
use Rattle.std.specs.Prelude.{◌≡◌, ◌<◌, ℕ, Option, Some, None, Result, MatchResult}
use Rattle.octets.specs.declared.refusals.Refusal.{Refusal}
use Rattle.octets.specs.declared.refusals.Refusal.TheVariants as Refusals
use Rattle.unit_life.specs.declared.kinds.Event.{Event}
use Rattle.unit_life.specs.declared.kinds.Kind.{Kind}
use Rattle.unit_life.specs.States.{Initializing, Discovery, Joining, Normal, Manager, Recovery, Stopped, Nowhere, ready, failed, beacon, join_accepted, join_denied, fault, elected, role_change, recovered}

abbrev pub kind_number : Kind → ℕ
kind_number Kind.Initializing = Initializing
kind_number Kind.Discovery = Discovery
kind_number Kind.Joining = Joining
kind_number Kind.Normal = Normal
kind_number Kind.Manager = Manager
kind_number Kind.Recovery = Recovery
kind_number Kind.Stopped = Stopped

abbrev pub event_number : Event → ℕ
event_number Event.Ready = ready
event_number Event.Failed = failed
event_number Event.Beacon = beacon
event_number Event.Accepted = join_accepted
event_number Event.Denied = join_denied
event_number Event.Fault = fault
event_number Event.Elected = elected
event_number Event.RoleChange = role_change
event_number Event.Recovered = recovered

-- where an event leads: nowhere if it is not listed
abbrev pub leads_to : Option Kind → ℕ
leads_to (Some kind) = kind_number kind
leads_to None = Nowhere

-- what a number says: the kind or the event that has it, or that none has it
abbrev pub SaysKind : ℕ → Result Kind Refusal → Type 0
SaysKind number r = MatchResult r (λ kind. kind_number kind ≡ number) (λ e. (e ≡ Refusals.Rule) × (Stopped < number))

abbrev pub SaysEvent : ℕ → Result Event Refusal → Type 0
SaysEvent number r = MatchResult r (λ event. event_number event ≡ number) (λ e. (e ≡ Refusals.Event) × (recovered < number))
