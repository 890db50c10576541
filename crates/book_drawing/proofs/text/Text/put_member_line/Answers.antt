-- `put_member_line`: the address, a space, a letter per slot, and a newline.
-- Assumes nothing.
use Rattle.octets.proofs.Words.{arith}
use Rattle.book_drawing.proofs.TextLaws.{then_put}
use Rattle.book_drawing.proofs.text.Text.put_member_line.Goals as goal

pub returns : goal.returns
returns c =
    let start = c.args.self.now in
    let head = then_put _ _ start _ _ c.put_hex.ensures c.put_byte.ensures in
    let drawn = then_put _ _ start _ _ head c.put_drawn.ensures.0 in
    (then_put _ _ start _ _ drawn c.put_byte-2.ensures, omega (arith, c.put_hex.ensures.behind, c.put_byte.ensures.behind, c.put_drawn.ensures.1, c.put_byte-2.ensures.behind))
