-- The theorems speak of frames that there are: one of each of the ten kinds, in the papers' order, byte by byte, and what reading says of it. One
-- statement covers the table.
-- Assumes nothing.
use Rattle.std.specs.Prelude.{◌≡◌, true, List, [], ◌∷◌, map, ℕ, get_or}
use Rattle.frames.specs.Frames.{kinds, read_frame}
use Rattle.paper.specs.Examples.{Example, listed, join_bytes, data_bytes, short_bytes, all_same}

-- these bytes, and what reading says of them: 0, the type, and the fields
abbrev pub reads : List ℕ → List ℕ → Example
reads bytes says = record { computed = listed (read_frame bytes); paper = says }

unfoldable pub kinds_read : List Example
kinds_read =
    -- data from 0x0201 to 0x0300, ttl 8, sequence 77, a payload of two bytes
    reads (data_bytes 8 0x46) (0 ∷ 0x11 ∷ 0x0201 ∷ 0x0300 ∷ 8 ∷ 77 ∷ 2 ∷ []) ∷
    -- the paper's join request
    reads join_bytes (0 ∷ 0x21 ∷ 0x0201 ∷ 0 ∷ 1 ∷ 4 ∷ []) ∷
    -- the response that gives slot 9 to 0x0201
    reads (0x22 ∷ 0x01 ∷ 0x02 ∷ 0x00 ∷ 0x09 ∷ 0x00 ∷ 0x40 ∷ 0x42 ∷ 0x0F ∷ 0x00 ∷ 0x01 ∷ 0x00 ∷ 0x24 ∷ [])
    (0 ∷ 0x22 ∷ 0x0201 ∷ 0 ∷ 9 ∷ 1000000 ∷ 1 ∷ []) ∷
    -- 0x0201 asks for three slots, with priority 1 and reason 2
    reads (0x23 ∷ 0x01 ∷ 0x02 ∷ 0x03 ∷ 0x01 ∷ 0x02 ∷ 0x20 ∷ []) (0 ∷ 0x23 ∷ 0x0201 ∷ 3 ∷ 1 ∷ 2 ∷ []) ∷
    -- 0x0201 looks for a site within three hops
    reads (0x24 ∷ 0x01 ∷ 0x02 ∷ 0x0B ∷ 0x01 ∷ 0x03 ∷ 0x2E ∷ []) (0 ∷ 0x24 ∷ 0x0201 ∷ 0x0B ∷ 1 ∷ 3 ∷ []) ∷
    -- manager 0x0100 answers for network 1
    reads (0x25 ∷ 0x00 ∷ 0x01 ∷ 0x01 ∷ 0x00 ∷ 0x04 ∷ 0x02 ∷ 0xC8 ∷ 0x40 ∷ 0x42 ∷ 0x0F ∷ 0x00 ∷ 0xE6 ∷ [])
    (0 ∷ 0x25 ∷ 0x0100 ∷ 1 ∷ 4 ∷ 2 ∷ 200 ∷ 1000000 ∷ []) ∷
    -- 0x0201 stands for manager, with priority 70
    reads (0x26 ∷ 0x01 ∷ 0x02 ∷ 0x46 ∷ 0x63 ∷ []) (0 ∷ 0x26 ∷ 0x0201 ∷ 70 ∷ []) ∷
    -- an update of 0x0100 with one entry: 0x0300 is one hop away
    reads (0x31 ∷ 0x00 ∷ 0x01 ∷ 0x01 ∷ 0x40 ∷ 0x42 ∷ 0x0F ∷ 0x00 ∷ 0x00 ∷ 0x03 ∷ 0x01 ∷ 0xC8 ∷ 0x00 ∷ 0x03 ∷ 0x58 ∷ 0x3E ∷ 0x0F ∷ 0x00 ∷ 0x9C ∷ [])
    (0 ∷ 0x31 ∷ 0x0100 ∷ 1 ∷ 1000000 ∷ []) ∷
    -- a beacon of 0x0100 that 0x0201 sends on, 54 slots of 1,000 ms
    reads (0x46 ∷ 0xFF ∷ 0xFF ∷ 0x01 ∷ 0x02 ∷ 0x1B ∷ 0x01 ∷ 0x00 ∷ 0x39 ∷ 0x30 ∷ 0x00 ∷ 0x00 ∷ 0xF0 ∷ 0xD2 ∷ 0x36 ∷ 0xE8 ∷ 0x03 ∷ 0x00 ∷ 0x00 ∷
    0x00 ∷ 0x01 ∷ 0x01 ∷ 0x40 ∷ 0x42 ∷ 0x0F ∷ 0x00 ∷ 0x14 ∷ 0x00 ∷ 0x00 ∷ 0x00 ∷ 0x03 ∷ 0x4D ∷ 0x00 ∷ 0xFE ∷ [])
    (0 ∷ 0x46 ∷ 0xFFFF ∷ 0x0201 ∷ 27 ∷ 1 ∷ 12345 ∷ 54000 ∷ 54 ∷ 1000 ∷ 0x0100 ∷ 1 ∷ 1000000 ∷ 20 ∷ 3 ∷ 77 ∷ []) ∷
    -- document 02's short one, of 70 slots
    reads short_bytes (0 ∷ 0x47 ∷ 0x0201 ∷ 1 ∷ 70 ∷ 1000 ∷ 1 ∷ 5000 ∷ 20 ∷ 1 ∷ 9 ∷ []) ∷
    []

-- every frame is read so
abbrev pub EveryKindRead : Type 0
EveryKindRead = all_same kinds_read ≡ true

-- and there is one of each kind
abbrev pub OneOfEachKind : Type 0
OneOfEachKind = map (λ e. get_or e.paper 1 0) kinds_read ≡ map (λ k. k.code) kinds
