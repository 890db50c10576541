-- The seven states of a unit and document 01's table of them: which event leads where, and which time runs out into what.
-- Assumes nothing.
use Rattle.std.specs.Prelude.{ℕ, ◌*◌, Bool, ◌&&◌, cond, List, [], ◌∷◌, eqb, leb, ltb}

-- ---- the states
abbrev pub Initializing : ℕ
Initializing = 0

abbrev pub Discovery : ℕ
Discovery = 1

abbrev pub Joining : ℕ
Joining = 2

abbrev pub Normal : ℕ
Normal = 3

abbrev pub Manager : ℕ
Manager = 4

abbrev pub Recovery : ℕ
Recovery = 5

abbrev pub Stopped : ℕ
Stopped = 6

-- what is no state
abbrev pub Nowhere : ℕ
Nowhere = 7

-- ---- the events
abbrev pub ready : ℕ
ready = 0

abbrev pub failed : ℕ
failed = 1

abbrev pub beacon : ℕ
beacon = 2

abbrev pub join_accepted : ℕ
join_accepted = 3

abbrev pub join_denied : ℕ
join_denied = 4

abbrev pub fault : ℕ
fault = 5

abbrev pub elected : ℕ
elected = 6

abbrev pub role_change : ℕ
role_change = 7

abbrev pub recovered : ℕ
recovered = 8

-- the events are these nine
abbrev pub known : ℕ → Bool
known event = leb event recovered

-- ---- what an event does in a state
pub record Line : Type 0 where
  pub from : ℕ
  pub event : ℕ
  pub to : ℕ

abbrev pub line : ℕ → ℕ → ℕ → Line
line from event to = record { from = from; event = event; to = to }

-- a beacon in Joining or in Normal leads nowhere else: it only records its time
abbrev pub events : List Line
events =
    line Initializing ready Discovery ∷
    line Initializing failed Stopped ∷
    line Discovery beacon Joining ∷
    line Discovery fault Recovery ∷
    line Joining join_accepted Normal ∷
    line Joining join_denied Discovery ∷
    line Joining beacon Joining ∷
    line Normal elected Manager ∷
    line Normal beacon Normal ∷
    line Manager role_change Normal ∷
    line Manager fault Recovery ∷
    line Recovery recovered Discovery ∷
    []

-- the state that an event leads to; Nowhere where it is not listed
abbrev pub along : List Line → ℕ → ℕ → ℕ
along [] state event = Nowhere
along (l ∷ ls) state event = cond (eqb state l.from && eqb event l.event) l.to (along ls state event)

unfoldable pub kind_after : ℕ → ℕ → ℕ
kind_after state event = along events state event

-- ---- what a time that has run out does on a tick
pub record Limit : Type 0 where
  pub within : ℕ
  pub ms : ℕ
  pub to : ℕ

abbrev pub limit : ℕ → ℕ → ℕ → Limit
limit within ms to = record { within = within; ms = ms; to = to }

-- counted from entry, and reached at equality
abbrev pub limits : List Limit
limits = limit Discovery 30000 Manager ∷ limit Joining 10000 Recovery ∷ limit Recovery 60000 Stopped ∷ []

abbrev pub run_out : List Limit → ℕ → ℕ → ℕ
run_out [] state age = state
run_out (l ∷ ls) state age = cond (eqb state l.within && leb l.ms age) l.to (run_out ls state age)

-- the state after a tick, `age` ms after entry and `silence` ms after the last beacon, where a superframe has `ms`: Normal is left
-- more than three superframes after the last beacon
unfoldable pub tick_to : ℕ → ℕ → ℕ → ℕ → ℕ
tick_to state age silence ms = cond (eqb state Normal && ltb (3 * ms) silence) Recovery (run_out limits state age)
