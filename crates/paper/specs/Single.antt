-- Each promise admits a single answer. A public contract says `view of the answer ≡ what the definitions give`: the answer is the result with the exit
-- contents of every lent buffer, and the view one of those below, or one for each part. No two answers have one view, so no two meet the contract.
-- `contracts/check` holds every public contract against this list, and the list against the contracts.
-- Assumes nothing.
use Rattle.std.specs.Prelude.{◌≡◌, List, [], ◌∷◌, ℕ, ◌^◌, ◌<◌, Option, Result, Ok, Err}
use Rattle.std.specs.Borrow.{Bor}
use Rattle.octets.specs.Calls.{write_left}
use Rattle.octets.specs.Parts.{lent}
use Rattle.octets.specs.Refusals.{number_of, status_of}
use Rattle.octets.specs.declared.refusals.Refusal.{Refusal}
use Rattle.octets.specs.Told.{wrote}
use Rattle.slot_sets.specs.Sets.{Slots, slots_of}
use Rattle.frame_traffic.specs.Traffic.{data_values, update_values}
use Rattle.frame_requests.specs.Requests.{join_request_values, join_response_values, slot_request_values, discovery_request_values, discovery_response_values, election_values}
use Rattle.frame_beacons.specs.Beacons.{beacon_values}
use Rattle.frame_beacons.specs.ShortBeacons.{short_beacon_values}
use Rattle.frames.specs.Told.{told}
use Rattle.frame_entries.specs.declared.reader.Entries.{Entries}
use Rattle.frame_entries.specs.Walks.{told_walked}
use Rattle.unit_life.specs.declared.state.State.{State}
use Rattle.unit_life.specs.Outcomes.{lived_by}
use Rattle.unit_clock.specs.Outcomes.{stepped_by}
use Rattle.unit_choice.specs.Outcomes.{chosen_by}
use Rattle.unit_poll.specs.Outcomes.{named}
use Rattle.route_table.specs.declared.table.Table.{Table}
use Rattle.route_table.specs.Outcomes.{changed as changed_table, found}
use Rattle.route_in_place.specs.Outcomes.{judged}
use Rattle.route_merges.specs.declared.learning.Tally.{Tally}
use Rattle.route_merges.specs.declared.merging.Merging.{Merging}
use Rattle.route_merges.specs.Outcomes.{merged}
use Rattle.route_forwards.specs.declared.forwarding.Forwarded.{Forwarded}
use Rattle.route_forwards.specs.Outcomes.{forwarded}
use Rattle.route_forwards.specs.Forwards.{passed, forward_left, forwarded_in}
use Rattle.route_relays.specs.declared.relaying.Relayed.{Relayed}
use Rattle.route_relays.specs.Outcomes.{told as told_relayed}
use Rattle.route_relays.specs.Relays.{relayed}
use Rattle.site_plan.specs.Plans.{told_plan}
use Rattle.site_plan.specs.Schedules.{slot_number}
use Rattle.site_sheet.specs.Verdicts.{told_checked}
use Rattle.book_members.specs.declared.census.Census.{Census}
use Rattle.book_members.specs.declared.member.Member.{Member}
use Rattle.book_members.specs.Members.{rows_of, lent_rows}
use Rattle.book.specs.declared.book.Book.{Book}
use Rattle.book.specs.Books.{Contents, contents, changed as changed_book}
use Rattle.book_joins.specs.declared.grants.Granted.{Granted}
use Rattle.book_joins.specs.Joins.{answered_by}
use Rattle.c_unit.specs.ClockCalls.{clock_left}
use Rattle.c_unit.specs.FollowCalls.{follow_left}
use Rattle.unit_poll.specs.PollBytes.{poll_left, winner_left}
use Rattle.c_frames.specs.EntryCalls.{entry_left}
use Rattle.c_frames.specs.FrameCalls.{read_left}
use Rattle.c_unit.specs.StateCalls.{state_left}
use Rattle.c_routes.specs.RelayCalls.{relay_left}
use Rattle.route_bytes.specs.StoredTables.{table_left}
use Rattle.c_routes.specs.TableCalls.{lookup_left}
use Rattle.route_merges.specs.StoredMerges.{merge_left, merged_in}
use Rattle.c_book.specs.BookCalls.{book_left}
use Rattle.c_book.specs.PlanCalls.{numbers_left}
use Rattle.c_requests.specs.RequestCalls.{request_left}
use Rattle.c_sheet.specs.SheetCalls.{sheet_left}

-- a view tells apart the answers that the code can give
abbrev pub TellsApart : {A B : Type 0} → (A → Type 0) → (A → B) → Type 0
TellsApart {A} possible view = (a a' : A) → possible a → possible a' → view a ≡ view a' → a ≡ a'

-- two answers that meet a contract are equal
abbrev pub SingleAnswer : Type 1
SingleAnswer =
    (A B : Type 0) (possible : A → Type 0) (view : A → B) → TellsApart possible view
    → (given : B) (a a' : A) → possible a → possible a' → view a ≡ given → view a' ≡ given → a ≡ a'

-- a contract that fixes one part of the answer by one view and the rest by another fixes the whole
abbrev pub PartsTellApart : Type 1
PartsTellApart =
    (A A' B B' : Type 0) (possible : A → Type 0) (possible' : A' → Type 0) (view : A → B) (view' : A' → B')
    → TellsApart possible view → TellsApart possible' view'
    → TellsApart {B = B × B'} (λ (a : A × A'). possible a.0 × possible' a.1) (λ a. (view a.0, view' a.1))

-- ---- which answers the code can give
abbrev pub any : {A : Type 0} → A → Type 0
any a = Unit

-- a mask is a number of 64 bits, and so are those of rows and of a book
abbrev pub mask : ℕ → Type 0
mask m = m < 2 ^ 64

abbrev pub mask_row : Member → Type 0
mask_row m = mask m.slots

abbrev pub mask_rows : List Member → Type 0
mask_rows [] = Unit
mask_rows (m ∷ ms) = mask_row m × mask_rows ms

abbrev pub mask_book : Book → Type 0
mask_book b = mask_rows b.rows

abbrev pub mask_change : Result Book Refusal → Type 0
mask_change (Ok b) = mask_book b
mask_change (Err r) = Unit

abbrev pub mask_grant : Result Granted Refusal → Type 0
mask_grant (Ok g) = mask_book g.book
mask_grant (Err r) = Unit

-- ---- the views
pub record ViewsTellApart : Type 1 where
  -- most contracts say `answer ≡ definition`, of the result, of a buffer, or of each
  pub itself : {A : Type 0} → TellsApart any (λ (a : A). a)
  -- a call that gives nothing else, and a refusal: its number in document 01, 0 where there is none
  pub statuses : TellsApart any (λ (a : Result Unit Refusal). status_of a)
  pub refusals : TellsApart any number_of
  -- the values of a record of fields: `of` of the ten kinds
  pub data_headers : TellsApart any data_values
  pub update_headers : TellsApart any update_values
  pub join_requests : TellsApart any join_request_values
  pub join_responses : TellsApart any join_response_values
  pub slot_requests : TellsApart any slot_request_values
  pub discovery_requests : TellsApart any discovery_request_values
  pub discovery_responses : TellsApart any discovery_response_values
  pub elections : TellsApart any election_values
  pub beacons : TellsApart any beacon_values
  pub short_beacons : TellsApart any short_beacon_values
  -- what an answer says, alone and with a buffer
  pub frames : TellsApart any told
  pub plans : TellsApart any told_plan
  pub steps : TellsApart any told_walked
  pub checks : TellsApart any told_checked
  pub kinds_of_slots : TellsApart any slot_number
  pub choices : TellsApart any chosen_by
  pub winners_named : TellsApart any named
  pub findings : TellsApart any found
  pub judgings : TellsApart any judged
  pub writings_into : TellsApart any (λ (a : Result ℕ Refusal × List ℕ). wrote a.0 a.1)
  pub relayings : TellsApart any (λ (a : Result Relayed Refusal × List ℕ). relayed (told_relayed a.0) a.1)
  -- .. beside what stood before the call, which a refusal leaves
  pub lives : (old : State) → TellsApart any (λ (a : Result State Refusal). lived_by old a)
  pub clock_steps : (old : ℕ) → TellsApart any (λ (a : Result ℕ Refusal). stepped_by old a)
  pub tables_changed : (old : Table) → TellsApart any (λ (a : Result Table Refusal). changed_table old a)
  pub tables_merged : (old : Table) → TellsApart any (λ (a : Result Merging Refusal). merged old a)
  pub forwardings : (old : Table) → TellsApart any (λ (a : Result Forwarded Refusal × List ℕ). passed (forwarded old a.0) a.1)
  -- a part of lent bytes: where it lies, and what it holds
  pub parts : TellsApart {A = Bor (List ℕ)} any lent
  -- a reader of entries: the bytes that it was lent, and its position
  pub readers : TellsApart {B = Bor (List ℕ) × ℕ} any (λ (e : Entries). (e.frame, e.position))
  -- sets for masks
  pub masks : TellsApart mask slots_of
  pub rows : TellsApart mask_rows rows_of
  pub rows_lent : TellsApart (λ (s : Bor (List Member)). mask_rows s.now) lent_rows
  pub census : TellsApart {B = Option ℕ × Option ℕ × Slots 64 × ℕ} (λ c. mask c.slots) (λ (c : Census). (c.own, c.place, slots_of c.slots, c.vacant))
  pub books : TellsApart mask_book contents
  pub changes : (old : Contents) → TellsApart mask_change (λ (a : Result Book Refusal). changed_book old a)
  pub grants : (old : Contents) → TellsApart (λ (a : Result Granted Refusal × List ℕ). mask_grant a.0) (λ a. answered_by old a.0 a.1)
  -- what a call leaves to C: its status, and each buffer and out parameter
  pub reads : TellsApart any (λ (a : ℕ × List ℕ × ℕ × ℕ). read_left a.0 a.1 a.2 a.3)
  pub entries : TellsApart any (λ (a : ℕ × List ℕ × ℕ). entry_left a.0 a.1 a.2)
  pub writes : TellsApart any (λ (a : ℕ × List ℕ × ℕ). write_left a.0 a.1 a.2)
  pub tables : TellsApart any (λ (a : ℕ × List ℕ). table_left a.0 a.1)
  pub lookups : TellsApart any (λ (a : ℕ × ℕ × ℕ × ℕ). lookup_left a.0 a.1 a.2 a.3)
  pub merges : TellsApart any (λ (a : ℕ × List ℕ × ℕ × ℕ). merge_left a.0 a.1 a.2 a.3)
  pub relays : TellsApart any (λ (a : ℕ × List ℕ × ℕ × ℕ × ℕ × ℕ). relay_left a.0 a.1 a.2 a.3 a.4 a.5)
  pub tables_left : TellsApart any (λ (a : Result Unit Refusal × List ℕ). table_left (status_of a.0) a.1)
  pub merges_in : TellsApart any (λ (a : Result Tally Refusal × List ℕ). merged_in a.0 a.1)
  pub forwards_in : TellsApart any (λ (a : Result ℕ Refusal × List ℕ × List ℕ). forwarded_in a.0 a.1 a.2)
  pub forwards : TellsApart any (λ (a : ℕ × List ℕ × List ℕ × ℕ). forward_left a.0 a.1 a.2 a.3)
  pub states : TellsApart any (λ (a : ℕ × List ℕ). state_left a.0 a.1)
  pub clocks : TellsApart any (λ (a : ℕ × ℕ). clock_left a.0 a.1)
  pub follows : TellsApart any (λ (a : ℕ × ℕ). follow_left a.0 a.1)
  pub polls : TellsApart any (λ (a : ℕ × List ℕ). poll_left a.0 a.1)
  pub polls_left : TellsApart any (λ (a : Result Unit Refusal × List ℕ). poll_left (status_of a.0) a.1)
  pub winners : TellsApart any (λ (a : ℕ × ℕ). winner_left a.0 a.1)
  pub calls_of_book : TellsApart any (λ (a : ℕ × List ℕ). book_left a.0 a.1)
  pub plan_numberings : TellsApart any (λ (a : ℕ × List ℕ). numbers_left a.0 a.1)
  pub requests : TellsApart any (λ (a : ℕ × List ℕ × List ℕ × ℕ). request_left a.0 a.1 a.2 a.3)
  pub sheets : TellsApart any (λ (a : ℕ × ℕ × ℕ × ℕ). sheet_left a.0 a.1 a.2 a.3)
