-- What the two calls on frames return and leave.
-- Assumes nothing.
use Rattle.std.specs.Prelude.{ℕ, ◌-◌, List, length}
use Rattle.octets.specs.Calls.{after, WriteLeft, write_left}
use Rattle.octets.specs.Layouts.{total}
use Rattle.octets.specs.Numbers.{num}
use Rattle.octets.specs.Told.{written_in}
use Rattle.frames.specs.Layout.{widths_of}
use Rattle.frames.specs.Listed.{show_refusal, shown, write_numbers}

-- reading: the status, the numbers, the place behind the fields and the number of bytes from there to the checksum
pub record ReadLeft : Type 0 where
  pub status : ℕ
  pub fields : List ℕ
  pub place : ℕ
  pub extent : ℕ

abbrev pub read_left : ℕ → List ℕ → ℕ → ℕ → ReadLeft
read_left status fields place extent = record { status = status; fields = fields; place = place; extent = extent }

-- where the bytes behind the fields start
abbrev pub place_in : List ℕ → ℕ
place_in s = total (widths_of (num 1 s 0))

unfoldable pub read_call : List ℕ → List ℕ → ℕ → ℕ → ReadLeft
read_call s fields place extent =
    let status = show_refusal s (length fields) in
    read_left status (shown s fields) (after status place (place_in s)) (after status extent (length s - 1 - place_in s))

unfoldable pub write_call : List ℕ → List ℕ → List ℕ → ℕ → WriteLeft
write_call ns part out written =
    let wrote = write_numbers ns part out in
    write_left wrote.said.refusal wrote.held (after wrote.said.refusal written (written_in wrote))
