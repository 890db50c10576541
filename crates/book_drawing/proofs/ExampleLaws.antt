-- Document 01's example of what slotview prints, byte for byte.
-- Assumes nothing.
use Rattle.octets.proofs.Words.{◌≡◌, refl, [], ◌∷◌, ℕ, replicate}
use Rattle.octets.specs.Lists.{tab}
use Rattle.slot_sets.specs.Sets.{has, bits, slots_of}
use Rattle.site_plan.specs.Plans.{slots_in}
use Rattle.site_plan.specs.Schedules.{kind_of}
use Rattle.book_members.specs.Members.{Row, empty_row, member_with}
use Rattle.book.specs.Books.{Contents}
use Rattle.book_drawing.specs.Views.{book_text}

-- a member with the data slots whose bits are set in a mask
abbrev member : ℕ → ℕ → Row
member unit mask = member_with unit (slots_of mask) 0

-- the manager with data slot 0, and 0x0201 with data slot 1
abbrev shown : Contents
shown =
    record {
      plan = record { network = 1; manager = 0x0100; max_hops = 1; rows = 2; data_slots = 2; slot_ms = 1000; beacon_type = 0x46 };
      time = 0;
      places = member 0x0100 1 ∷ member 0x0201 2 ∷ replicate 19 empty_row;
    }

pub example_shown :
    book_text shown ≡
    -- slots 27 active 8
    115 ∷ 108 ∷ 111 ∷ 116 ∷ 115 ∷ 32 ∷ 50 ∷ 55 ∷ 32 ∷ 97 ∷ 99 ∷ 116 ∷ 105 ∷ 118 ∷ 101 ∷ 32 ∷ 56 ∷ 10 ∷
    -- 0100 B.CcTRDD...................
    48 ∷ 49 ∷ 48 ∷ 48 ∷ 32 ∷ 66 ∷ 46 ∷ 67 ∷ 99 ∷ 84 ∷ 82 ∷ 68 ∷ 68 ∷ 46 ∷ 46 ∷ 46 ∷ 46 ∷ 46 ∷
    46 ∷ 46 ∷ 46 ∷ 46 ∷ 46 ∷ 46 ∷ 46 ∷ 46 ∷ 46 ∷ 46 ∷ 46 ∷ 46 ∷ 46 ∷ 46 ∷ 10 ∷
    -- 0201 bBcCRTdd...................
    48 ∷ 50 ∷ 48 ∷ 49 ∷ 32 ∷ 98 ∷ 66 ∷ 99 ∷ 67 ∷ 82 ∷ 84 ∷ 100 ∷ 100 ∷ 46 ∷ 46 ∷ 46 ∷ 46 ∷ 46 ∷
    46 ∷ 46 ∷ 46 ∷ 46 ∷ 46 ∷ 46 ∷ 46 ∷ 46 ∷ 46 ∷ 46 ∷ 46 ∷ 46 ∷ 46 ∷ 46 ∷ 10 ∷
    []
unfolding book_text tab kind_of slots_in slots_of has bits
example_shown = refl
