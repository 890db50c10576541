-- Each call once, computed.
-- Assumes nothing.
use mathlib.Core.Path.{refl}
use Rattle.octets.specs.Lists.{tab, every}
use Rattle.octets.specs.Numbers.{num, digits}
use Rattle.octets.specs.Sums.{xors}
use Rattle.moments.specs.Moments.{age_at, in_order}
use Rattle.frame_kinds.specs.Reading.{is_sealed, read_refusal}
use Rattle.frame_kinds.specs.Shape.{sealed}
use Rattle.frame_kinds.specs.Writing.{write_refusal, writing}
use Rattle.frames.specs.Frames.{read_frame}
use Rattle.frames.specs.Listed.{show_refusal, shown, write_numbers}
use Rattle.frame_traffic.specs.Traffic.{entry_at}
use Rattle.route_table.specs.Rows.{pad}
use Rattle.route_table.specs.Tables.{within_rule, lookup_of}
use Rattle.route_merges.specs.Learning.{learn}
use Rattle.route_merges.specs.Merges.{merge_refusal, merged_rows, merged_count, merge_of}
use Rattle.route_forwards.specs.Forwards.{forward_refusal, forward_of, forward_call}
use Rattle.route_forwards.specs.Copies.{passed_by, short_passed_by}
use Rattle.frame_beacons.specs.EitherBeacons.{either_refusal, either_in}
use Rattle.route_pages.specs.Pages.{entry_for, page_of}
use Rattle.route_relays.specs.Relays.{relay_refusal, relay_of}
use Rattle.route_bytes.specs.TableBytes.{row_at, table_in, table_bytes, is_table}
use Rattle.slot_sets.specs.Sets.{has, count, is_empty, fill, slotwise, no_slots, all_slots, union, meet, minus, lowest, without_highest, bits, slots_of, mask_of, firsts}
use Rattle.site_plan.specs.Plans.{slots_in}
use Rattle.book_members.specs.Members.{current, place_for, held_slots, vacant}
use Rattle.book_members.specs.Rules.{rows_rule}
use Rattle.book.specs.Books as books
use Rattle.book_joins.specs.Joins.{join_responses, join_of, ask_responses, ask_of}
use Rattle.book_bytes.specs.BookBytes as ledgers
use Rattle.book_bytes.specs.BookBytes.{book_in, bytes_of_book}
use Rattle.site_plan.specs.PlanBytes.{plan_at, bytes_of_plan}
use Rattle.c_frames.specs.FrameCalls.{read_call, write_call}
use Rattle.c_routes.specs.RelayCalls.{relay_call}
use Rattle.route_merges.specs.StoredMerges.{merge_call}
use Rattle.c_routes.specs.UpdateCalls.{page_call}
use Rattle.c_requests.specs.RequestCalls.{join_call, slot_request_call}
use Rattle.c_read_back.specs.CallsWitness.{ReadOnce, RelayedOnce, DeliveredOnce, ForwardedOnce, ShortForwardedOnce, PagedOnce, MergedOnce, JoinedOnce, AskedOnce}

pub read-once : ReadOnce
unfolding num digits xors is_sealed read_refusal sealed write_refusal writing read_frame show_refusal shown write_numbers read_call write_call
read-once = (refl, refl)

pub relayed-once : RelayedOnce
unfolding tab every num digits xors age_at in_order is_sealed read_refusal sealed pad within_rule lookup_of relay_refusal relay_of row_at table_in table_bytes is_table relay_call
relayed-once = (refl, refl)

pub delivered_once : DeliveredOnce
unfolding tab every num digits xors age_at in_order is_sealed read_refusal sealed pad within_rule lookup_of relay_refusal relay_of row_at table_in table_bytes is_table relay_call
delivered_once = refl

pub forwarded_once : ForwardedOnce
unfolding tab every num digits xors age_at in_order is_sealed read_refusal sealed either_refusal either_in pad within_rule lookup_of passed_by forward_refusal forward_of row_at table_in table_bytes is_table forward_call
forwarded_once = (refl, refl, refl)

pub short_forwarded_once : ShortForwardedOnce
unfolding tab every num digits xors age_at in_order is_sealed read_refusal sealed either_refusal either_in pad within_rule lookup_of short_passed_by forward_refusal forward_of row_at table_in table_bytes is_table forward_call
short_forwarded_once = (refl, refl, refl)

pub paged_once : PagedOnce
unfolding tab every num digits xors age_at in_order sealed pad within_rule entry_for page_of row_at table_in table_bytes is_table page_call
paged_once = refl

pub merged-once : MergedOnce
unfolding tab every num digits xors age_at in_order is_sealed read_refusal sealed pad within_rule entry_at learn merge_refusal merged_rows merged_count merge_of row_at table_in table_bytes is_table merge_call
merged-once = refl

pub joined_once : JoinedOnce
unfolding tab every num digits xors age_at in_order is_sealed read_refusal sealed has count is_empty fill slotwise no_slots all_slots union meet minus lowest without_highest bits slots_of mask_of firsts slots_in current place_for held_slots vacant rows_rule books.within_rule join_responses join_of ledgers.row_at book_in bytes_of_book plan_at bytes_of_plan join_call
joined_once = (refl, refl, refl)

pub asked_once : AskedOnce
unfolding tab every num digits xors age_at in_order is_sealed read_refusal sealed has count is_empty fill slotwise no_slots all_slots union meet minus lowest without_highest bits slots_of mask_of firsts slots_in current place_for held_slots vacant rows_rule books.within_rule join_responses join_of ask_responses ask_of ledgers.row_at book_in bytes_of_book plan_at bytes_of_plan join_call slot_request_call
asked_once = (refl, refl, refl)
