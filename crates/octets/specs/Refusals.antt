-- A refusal's number in document 01, and what an answer says: its status, 0 where it is accepted, else that number; and what then stands of a value that
-- the call was to change.
-- Assumes nothing.
use Rattle.std.specs.Prelude.{ℕ, List, Result, Ok, Err}
use Rattle.octets.specs.Answers.{Said, accepted, refused}
use Rattle.octets.specs.declared.refusals.Refusal.{Refusal}
use Rattle.octets.specs.declared.refusals.Refusal.TheVariants.{Length, WrongType, Checksum, Field, Room, Own, Event, Earlier, Quality, Ttl, NoRoute, Full, NoMember, Rule, Network, NotOurs}

abbrev pub number_of : Refusal → ℕ
number_of Length = 1
number_of WrongType = 2
number_of Checksum = 3
number_of Field = 4
number_of Room = 5
number_of Own = 6
number_of Event = 7
number_of Earlier = 8
number_of Quality = 9
number_of Ttl = 10
number_of NoRoute = 11
number_of Full = 12
number_of NoMember = 13
number_of Rule = 14
number_of Network = 15
number_of NotOurs = 16

abbrev pub status_of : {A : Type 0} → Result A Refusal → ℕ
status_of (Ok a) = 0
status_of (Err r) = number_of r

-- what an answer says, by the values of what it gives
abbrev pub told_by : {A : Type 0} → (A → List ℕ) → Result A Refusal → Said
told_by values (Ok a) = accepted (values a)
told_by values (Err r) = refused (number_of r)

-- the value that stands after a call which gives a new one, or is refused and leaves the old one
abbrev pub held_after : {A : Type 0} → A → Result A Refusal → A
held_after old (Ok new) = new
held_after old (Err r) = old
