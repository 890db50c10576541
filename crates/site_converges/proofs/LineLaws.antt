-- Three units in a line, computed.
-- Assumes nothing.
use Rattle.octets.proofs.Words.{◌≡◌, refl, true, false, ◌&&◌, ◌||◌, or_comm, ℕ, arith, eqb}
use Rattle.octets.specs.Numbers.{num, digits}
use Rattle.octets.specs.Sums.{xors}
use Rattle.octets.specs.Lists.{tab, every, some}
use Rattle.moments.specs.Moments.{age_at, in_order}
use Rattle.frame_kinds.specs.Reading.{is_sealed, read_refusal}
use Rattle.frame_kinds.specs.Shape.{sealed}
use Rattle.frame_traffic.specs.Traffic.{entry_at}
use Rattle.route_table.specs.Rows.{pad}
use Rattle.route_table.specs.Tables.{within_rule, fresh_of, lookup_of}
use Rattle.route_merges.specs.Learning.{learn}
use Rattle.route_merges.specs.Merges.{merge_refusal, merged_rows, merge_of}
use Rattle.route_pages.specs.Pages.{entry_for, page_of}
use Rattle.site_converges.specs.Sites.{Sited, among, within}
use Rattle.site_converges.specs.Rounds.{table_after}
use Rattle.site_converges.specs.Line.{line, LineTells}
use Rattle.site_converges.proofs.SiteLaws.{among-every, within_more}

line-inside : (a b : ℕ) → line.linked a b ≡ true → among b line.units ≡ true
unfolding among some
line-inside a b e = grind (arith, e)

line-apart : (a : ℕ) → line.linked a a ≡ false
line-apart a = grind arith

-- any two units are within two links
line_short : every (λ a. every (λ b. within line 2 a b) line.units) line.units ≡ true
unfolding every within some
line_short = refl

line_sited : Sited line
unfolding every
line_sited =
    record {
      few = omega arith;
      addresses = refl;
      inside = line-inside;
      apart = line-apart;
      both = λ a b. or_comm (eqb a 2 && (eqb b 1 || eqb b 3)) (eqb b 2 && (eqb a 1 || eqb a 3));
      across =
          λ a b m n.
          within_more line 2 _ a b (omega arith)
          (among-every (within line 2 a) line.units (among-every (λ x. every (within line 2 x) line.units) line.units line_short a m) b n);
    }

pub line_tells : LineTells
unfolding tab every num digits xors age_at in_order is_sealed read_refusal sealed entry_at pad within_rule fresh_of lookup_of learn merge_refusal merged_rows merge_of entry_for page_of table_after
line_tells = (line_sited, refl, refl, refl, refl, refl)
