-- Tables whose numbers fit their bytes: those that bytes hold, and those that are made of rows within rule, if the numbers fit of which the rule says nothing.
-- Assumes nothing.
use Rattle.octets.proofs.Words.{◌≡◌, refl, Bool, true, false, ◌&&◌, cond, and-eq-true_iff, List, [], ◌∷◌, ◌++◌, ℕ, ◌+◌, ◌*◌, ◌-◌, ◌≤◌, ◌<◌, arith, leb-true, le-leb, ltb-true, lt-ltb, eqb, leb, ltb, length, replicate}
use Rattle.octets.specs.Layouts.{Bytes}
use Rattle.octets.specs.Lists.{every, Each}
use Rattle.octets.proofs.LayoutLaws.{fields_fit}
use Rattle.octets.proofs.ListLaws.{length-tab}
use Rattle.octets.proofs.AddressLaws.{address-fits}
use Rattle.octets.proofs.EachLaws.{each-replicate, each-tab}
use Rattle.route_table.specs.declared.row.Row.{Row}
use Rattle.route_table.specs.Rows.{none, row_rule, in_use, pad}
use Rattle.route_table.proofs.RuleLaws.{ruled}
use Rattle.route_table.proofs.StandingLaws.{pad-length}
use Rattle.route_bytes.specs.TableBytes.{flag, row_widths, row_at, head_widths, table_in}
use Rattle.route_bytes.specs.TableTrips.{RowFits, Sized}

pub flag-fits : (b : Bool) → flag b < 256
flag-fits true = omega arith
flag-fits false = omega arith

-- ---- rows
-- the two numbers of a row that its rule does not bound
abbrev pub modest : Row → Bool
modest r = leb r.quality 255 && ltb r.time 0x100000000

row_fits : (own last : ℕ) (r : Row) → row_rule own last r ≡ true → modest r ≡ true → RowFits r
row_fits own last r e m =
    let k = ruled own last r e in
    let hops = leb-true r.hops 16 ((and-eq-true_iff (leb 1 r.hops) (leb r.hops 16)).0 k.hops).1 in
    let (quality, time) = (and-eq-true_iff (leb r.quality 255) (ltb r.time 0x100000000)).0 m in (
      address-fits r.destination k.destination,
      (
        address-fits r.next_hop k.hop,
        (omega (arith, hops), (omega (arith, leb-true r.quality 255 quality), (ltb-true r.time 0x100000000 time, (flag-fits r.withdrawn, tt)))),
      ),
    )

pub none-fit : (k : ℕ) → Each RowFits (replicate k none)
none-fit k = each-replicate RowFits k none (omega arith)

rows_fit : (own last k : ℕ) (rs : List Row) → every (row_rule own last) rs ≡ true → every modest rs ≡ true → Each RowFits (rs ++ replicate k none)
unfolding every
rows_fit own last k [] e m = none-fit k
rows_fit own last k (r ∷ rs) e m =
    let (e₀, e₁) = (and-eq-true_iff (row_rule own last r) (every (row_rule own last) rs)).0 e in
    let (m₀, m₁) = (and-eq-true_iff (modest r) (every modest rs)).0 m in
    (row_fits own last r e₀ m₀, rows_fit own last k rs e₁ m₁)

-- rows that fit their bytes are modest
pub rows_modest : (rs : List Row) → Each RowFits rs → every modest (in_use rs) ≡ true
unfolding every
rows_modest [] f = refl
rows_modest (r ∷ rs) f = go (eqb r.destination 0) (rows_modest rs f.1)
  where
    go : (b : Bool) → every modest (in_use rs) ≡ true → every modest (cond b [] (r ∷ in_use rs)) ≡ true
    go true h = refl
    go false h =
        let q = f.0.1.1.1.0 in
        rw (le-leb r.quality 255 (omega (arith, q)), lt-ltb r.time 0x100000000 f.0.1.1.1.1.0) h

-- ---- a table
pub sized-pad : (own time : ℕ) (forwarded : Bool) (origin sequence : ℕ) (rs : List Row) → own < 0x10000 → time < 0x100000000 → origin < 0x10000 → sequence < 0x10000
    → length rs ≤ 48 → every (row_rule own time) rs ≡ true → every modest rs ≡ true
    → Sized (record { own = own; time = time; forwarded = forwarded; origin = origin; sequence = sequence; rows = pad rs })
unfolding pad
sized-pad own time forwarded origin sequence rs a t o s l e m =
    record {
      places = pad-length rs l;
      head = (a, (t, (flag-fits forwarded, (o, (s, tt)))));
      fit = rows_fit own time (48 - length rs) rs e m;
    }

-- ---- what was read fits
pub sized-read : (s : List ℕ) → Bytes s → Sized (table_in s)
unfolding table_in row_at
sized-read s b =
    let head = fields_fit s b head_widths 0 in
    record {
      places = length-tab 48 (row_at s);
      head = (head.0, (head.1.0, (flag-fits (table_in s).forwarded, (head.1.1.1.0, (head.1.1.1.1.0, tt)))));
      fit =
          each-tab RowFits 48 (row_at s)
          (λ i.
          let row = fields_fit s b row_widths (11 + 11 * i) in
          (row.0, (row.1.0, (row.1.1.0, (row.1.1.1.0, (row.1.1.1.1.0, (flag-fits (row_at s i).withdrawn, tt)))))));
    }
