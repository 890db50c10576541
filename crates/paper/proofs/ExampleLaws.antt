-- The table of examples, computed; the story by its steps.
-- Assumes nothing.
use Rattle.octets.proofs.Words.{refl, ap, ◌∙◌, List, ℕ}
use Rattle.octets.specs.Numbers.{num, digits}
use Rattle.octets.specs.Sums.{xors}
use Rattle.frame_kinds.specs.Reading.{is_sealed, read_refusal}
use Rattle.frame_kinds.specs.Shape.{sealed}
use Rattle.frames.specs.Frames.{read_frame}
use Rattle.octets.specs.Lists.{every, some, tab}
use Rattle.route_table.specs.Rows.{pad}
use Rattle.route_table.specs.Tables.{within_rule, lookup_of}
use Rattle.site_plan.specs.Plans.{slots_in, plan_of}
use Rattle.moments.specs.Moments.{age_at, in_order}
use Rattle.frame_beacons.specs.EitherBeacons.{either_refusal, either_in, refusal_for}
use Rattle.unit_choice.specs.Choices.{rank_of, chosen_of}
use Rattle.unit_poll.specs.Polls.{hear_refusal}
use Rattle.slot_sets.specs.Sets.{slots_of, bits, is_empty, count, meet, minus, slotwise, fill, all_slots, lowest, firsts}
use Rattle.site_plan.specs.PlanBytes.{plan_at}
use Rattle.site_sheet.specs.SheetBytes.{sheet_in, links_in}
use Rattle.site_sheet.specs.Sheets.{linked, common, listed, distinct}
use Rattle.site_sheet.specs.Verdicts.{gather, bad_units, bad_pairs, soonest, verdict, check_sheet}
use Rattle.c_sheet.specs.SheetCalls.{sheet_call}
use Rattle.unit_clock.specs.Clock.{signed, wrapped, drift, halved, correction, corrected}
use Rattle.paper.specs.Examples.{examples_with, all_same, AsInThePaper}
use Rattle.paper.proofs.StoryLaws.{story-told}

pub as_in_the_paper : AsInThePaper
unfolding read_frame read_refusal is_sealed sealed num digits xors plan_of slots_in age_at in_order signed wrapped drift halved correction corrected either_refusal either_in refusal_for rank_of chosen_of every pad within_rule lookup_of hear_refusal sheet_call check_sheet verdict soonest bad_units bad_pairs gather linked common listed distinct sheet_in links_in plan_at tab some slots_of bits is_empty count meet minus slotwise fill all_slots lowest firsts
as_in_the_paper = ap (λ (told : List (List ℕ)). all_same (examples_with told)) story-told ∙ refl
