-- The history of a book that is not empty, computed.
-- Assumes nothing.
use mathlib.Core.Path.{refl}
use Rattle.octets.specs.Lists.{tab, every}
use Rattle.octets.specs.Numbers.{num, digits}
use Rattle.octets.specs.Sums.{xors}
use Rattle.moments.specs.Moments.{age_at, in_order}
use Rattle.frame_kinds.specs.Reading.{is_sealed, read_refusal}
use Rattle.frame_kinds.specs.Shape.{sealed}
use Rattle.frames.specs.Frames.{read_frame}
use Rattle.slot_sets.specs.Sets.{has, count, is_empty, fill, slotwise, no_slots, all_slots, union, meet, minus, lowest, without_highest, bits, slots_of, mask_of, firsts}
use Rattle.site_plan.specs.Plans.{slots_in}
use Rattle.book_members.specs.Members.{current, place_for, held_slots, vacant}
use Rattle.book_members.specs.Rules.{rows_rule}
use Rattle.book.specs.Books.{within_rule, fresh_of, heard_of}
use Rattle.book_joins.specs.Joins.{join_responses, join_of, ask_responses, ask_of}
use Rattle.book_bytes.specs.BookBytes.{row_at, book_in, bytes_of_book}
use Rattle.site_plan.specs.PlanBytes.{section_at, section_bytes, plan_at, bytes_of_plan}
use Rattle.book_image.specs.Images as images
use Rattle.book_image.specs.Images.{image_of, image_written, row_in, accepted_image, restore_of}
use Rattle.c_book.specs.BookCalls.{fresh_call, heard_call, restore_call, image_call}
use Rattle.c_requests.specs.RequestCalls.{join_call, slot_request_call}
use Rattle.c_history.specs.BookWitness.{Grants, GrantsMore, GrantsAgain, GrantsOn}

pub grants : Grants
unfolding tab every num digits xors age_at in_order is_sealed read_refusal sealed read_frame has count is_empty fill slotwise no_slots all_slots union meet minus lowest without_highest bits slots_of mask_of firsts slots_in current place_for held_slots vacant rows_rule within_rule fresh_of join_responses join_of ask_responses ask_of heard_of row_at book_in bytes_of_book plan_at bytes_of_plan fresh_call join_call slot_request_call heard_call
grants = (refl, refl, refl, refl)

pub grants_more : GrantsMore
unfolding tab every num digits xors age_at in_order is_sealed read_refusal sealed read_frame has count is_empty fill slotwise no_slots all_slots union meet minus lowest without_highest bits slots_of mask_of firsts slots_in current place_for held_slots vacant rows_rule within_rule fresh_of join_responses join_of ask_responses ask_of heard_of row_at book_in bytes_of_book plan_at bytes_of_plan fresh_call join_call slot_request_call heard_call
grants_more = refl

pub grants-again : GrantsAgain
unfolding tab every num digits xors age_at in_order is_sealed read_refusal sealed read_frame has count is_empty fill slotwise no_slots all_slots union meet minus lowest without_highest bits slots_of mask_of firsts slots_in current place_for held_slots vacant rows_rule within_rule fresh_of join_responses join_of ask_responses ask_of heard_of row_at book_in bytes_of_book section_at section_bytes plan_at bytes_of_plan fresh_call join_call slot_request_call heard_call image_of image_written row_in images.image_book accepted_image restore_of restore_call image_call
grants-again = (refl, refl, refl)

pub grants-on : GrantsOn
unfolding tab every num digits xors age_at in_order is_sealed read_refusal sealed read_frame has count is_empty fill slotwise no_slots all_slots union meet minus lowest without_highest bits slots_of mask_of firsts slots_in current place_for held_slots vacant rows_rule within_rule fresh_of join_responses join_of ask_responses ask_of heard_of row_at book_in bytes_of_book section_at section_bytes plan_at bytes_of_plan fresh_call join_call slot_request_call heard_call image_of image_written row_in images.image_book accepted_image restore_of restore_call image_call
grants-on = (refl, refl, refl, refl)
