-- One candidate: what it does to the list of rows is what it does at the place where its search stopped.
-- Assumes nothing.
use Rattle.octets.proofs.Words.{◌≡◌, refl, sym, ap, ◌∙◌, Bool, true, false, not, ◌&&◌, cond, false≢true, List, [], ◌∷◌, ◌++◌, ℕ, zero, suc, ◌+◌, ◌≤◌, ◌<◌, dec_lt, add-zero, add-one, arith, eq-eqb, ne_eqb, lt-ltb, ltb-true, ltb-false, ltb, length, get_or, take, drop, set, length-set}
use mir.Val.{bool_byte}
use Rattle.std.specs.Prelude.{Some, None}
use Rattle.std.specs.List.{position, position_or_len}
use Rattle.std.proofs.lemmas.List.Quantifiers.{position-Some}
use Rattle.octets.proofs.OrderLaws.{put-every, put-length, put-ascending}
use Rattle.octets.proofs.TestLaws.{of_choice}
use Rattle.route_table.specs.declared.row.Row.{Row}
use Rattle.route_table.specs.Rows.{leading_to, none, withdrawn_at, in_use, pad, row_for}
use Rattle.route_table.proofs.StandingLaws.{used, in_use_used, in_use-fits, in_use-pad}
use Rattle.route_merges.specs.declared.candidate.Candidate.{Candidate}
use Rattle.route_merges.specs.Candidates.{bad}
use Rattle.route_merges.specs.Comparing.{compared}
use Rattle.route_merges.specs.Learning.{put, row_by, Learned, learned, met, new_to, learn}
use Rattle.route_merges.specs.Searching.{Placed, stops, alters, made, moved_in, Learns}
use Rattle.route_merges.proofs.CompareLaws.{Sound, lower-row, stop-row, compared-few, counted_all, counted}
use Rattle.route_merges.proofs.PadLaws.{pad-at, used_within, within_used, full, set-pad, moved-pad}
use Rattle.route_merges.proofs.SearchLaws.{Searched, searched_start, searched_on, stop_end, put_end, stop-same, set_same, put-higher, stop-higher}

-- rows in use of places as a table has them
pub sound_of : (places : List Row) → length places ≡ 48 → Placed places → Sound (in_use places)
sound_of places long p =
    record { in_use = in_use_used places; ascends = p.ascends; fits = in_use-fits places long }

in_use-held : (places rows : List Row) → places ≡ pad rows → Sound rows → in_use places ≡ rows
in_use-held places rows e s = ap in_use e ∙ in_use-pad rows s.in_use

placed : (places rows : List Row) → places ≡ pad rows → Sound rows → Placed places
placed places rows e s =
    let same = in_use-held places rows e s in
    record { held = e ∙ ap pad (sym same); ascends = rw same s.ascends }

-- ---- where a search ended
all_below : (p : Row → Bool) (rows : List Row) (k : ℕ) → k < position_or_len p rows → p (get_or rows k none) ≡ false
all_below p [] k h = absurd (omega arith)
all_below p (r ∷ rows) k h = go (p r) refl k h (all_below p rows)
  where
    go : (b : Bool) → p r ≡ b → (k : ℕ) → k < cond (not b) (1 + position_or_len p rows) 0 → ((j : ℕ) → j < position_or_len p rows → p (get_or rows j none) ≡ false)
        → p (get_or (r ∷ rows) k none) ≡ false
    go true e k h later = absurd (omega arith)
    go false e zero h later = e
    go false e (suc k) h later = later k (omega arith)

nowhere : (p : Row → Bool) (rows : List Row) → position p rows ≡ None → (k : ℕ) → k < length rows → p (get_or rows k none) ≡ false
nowhere p rows e k h = go (ltb (position_or_len p rows) (length rows)) refl e
  where
    go : (b : Bool) → ltb (position_or_len p rows) (length rows) ≡ b → cond b (Some (position_or_len p rows)) None ≡ None → p (get_or rows k none) ≡ false
    go true q e = cc
    go false q e = all_below p rows k (omega (arith, ltb-false (position_or_len p rows) (length rows) q))

module _ (d : ℕ) (some : 0 < d) (rows : List Row) (sound : Sound rows) where
  searched_to : (n : ℕ) → ((k : ℕ) → k < n → stops d (get_or (pad rows) k none) ≡ false) → Searched d rows n
  searched_to zero h = searched_start d rows
  searched_to (suc n) h =
      let low = lower-row d some (get_or (pad rows) n none) (h n (omega arith)) in
      let within = used_within rows sound.in_use n low.0 in
      rw (← add-one) (searched_on d rows n (searched_to n (λ k l. h k (omega arith))) within (rw (← pad-at rows n) low.1))

-- what a candidate makes is for its destination
module _ (via time : ℕ) (c : Candidate) where
  abbrev d : ℕ
  d = c.destination

  -- a row that is met changes or stays
  met_by : (r : Row) (rows : List Row) (skipped : ℕ)
      → met via time c r (learned rows skipped) ≡ cond (alters via time c r) (learned (put (made via time c r) rows) skipped) (learned rows skipped)
  met_by r rows skipped = go (bad c) refl
    where
      go : (b : Bool) → bad c ≡ b → met via time c r (learned rows skipped) ≡ cond (alters via time c r) (learned (put (made via time c r) rows) skipped) (learned rows skipped)
      go true q = rw q
      go false q = rw q

  made_for : (r : Row) → r.destination ≡ d → (made via time c r).destination ≡ d
  made_for r e = of_choice (λ x. x.destination ≡ d) (bad c) {x = withdrawn_at time r} {y = row_by via time c} e refl

  module _ (rows : List Row) (sound : Sound rows) (some : 0 < d) where
    abbrev after : ℕ → Learned
    after skipped = learn via time c (learned rows skipped)

    learn-met : (skipped : ℕ) (r : Row) → row_for d rows ≡ r → r.destination ≡ d
        → after skipped ≡ cond (alters via time c r) (learned (put (made via time c r) rows) skipped) (learned rows skipped)
    unfolding learn
    learn-met skipped r e q = rw (e, eq-eqb r.destination d q) (met_by r rows skipped)

    learn-new : row_for d rows ≡ none → (skipped : ℕ) → after skipped ≡ new_to via time c (learned rows skipped)
    unfolding learn
    learn-new e skipped = rw (e, ne_eqb 0 d (omega arith))

    -- no room for it, or it is bad
    no_room : (few filled : Bool) → ltb (length rows) 48 ≡ few → filled ≡ not few → (not (bad c) && not filled) ≡ false → (skipped : ℕ)
        → new_to via time c (learned rows skipped) ≡ learned rows (skipped + bool_byte (not (bad c) && filled))
    no_room few filled l f e skipped = go (bad c) few refl l f e
      where
        go : (b few : Bool) → bad c ≡ b → ltb (length rows) 48 ≡ few → filled ≡ not few → (not b && not filled) ≡ false
            → cond b (learned rows skipped) (cond (ltb (length rows) 48) (learned (put (row_by via time c) rows) skipped) (learned rows (skipped + 1)))
            ≡ learned rows (skipped + bool_byte (not b && filled))
        go true few q l f e = rw add-zero
        go false true q l f e = absurd (false≢true (sym e ∙ ap not f))
        go false false q l f e = rw (l, f)

    -- ---- every place holds a lower row
    module _ (h : (k : ℕ) → k < 48 → stops d (get_or (pad rows) k none) ≡ false) where
      whole : length rows ≡ 48
      whole = omega (arith, (searched_to d some rows sound 48 h).within, sound.fits)

      pub learns_none : (skipped : ℕ) → after skipped ≡ learned rows (skipped + bool_byte (not (bad c)))
      learns_none skipped =
          learn-new (stop_end d rows 48 (searched_to d some rows sound 48 h) (sym whole)) skipped ∙
          go (bad c) refl
        where
          go : (b : Bool) → bad c ≡ b
              → cond b (learned rows skipped) (cond (ltb (length rows) 48) (learned (put (row_by via time c) rows) skipped) (learned rows (skipped + 1)))
              ≡ learned rows (skipped + bool_byte (not b))
          go true q = rw add-zero
          go false q = rw whole

      pub counts_none : 48 ≡ compared d rows
      counts_none = counted_all d rows (searched_to d some rows sound 48 h) whole

    -- ---- or the search stopped at a place
    module _ (at : ℕ) (h : (k : ℕ) → k < at → stops d (get_or (pad rows) k none) ≡ false) (stop : stops d (get_or (pad rows) at none) ≡ true) where
      abbrev row : Row
      row = get_or (pad rows) at none

      s : Searched d rows at
      s = searched_to d some rows sound at h

      no_lower : at < length rows → d ≤ row.destination
      no_lower k = stop-row d some row stop (within_used rows sound.in_use at k)

      pub counts : at + bool_byte (ltb 0 row.destination) ≡ compared d rows
      counts = sym (counted d some rows at sound s stop)

      -- a row for its destination stands here
      module _ (e : row.destination ≡ d) where
        there-within : at < length rows
        there-within = used_within rows sound.in_use at (omega arith)

        there-learns : (skipped : ℕ) → after skipped ≡ cond (alters via time c row) (learned (put (made via time c row) rows) skipped) (learned rows skipped)
        there-learns skipped =
            learn-met skipped row (stop-same d rows at s there-within (sym (ap (λ (r : Row). r.destination) (pad-at rows at)) ∙ e) ∙ sym (pad-at rows at)) e

        there-put : put (made via time c row) rows ≡ set rows at (made via time c row)
        there-put =
            set_same d rows at s there-within (sym (ap (λ (r : Row). r.destination) (pad-at rows at)) ∙ e) (made via time c row) (made_for row e)

        pub stays : alters via time c row ≡ false → (skipped : ℕ) → after skipped ≡ learned rows (skipped + 0)
        stays q skipped = there-learns skipped ∙ rw (q, add-zero)

        pub changes : alters via time c row ≡ true → (skipped : ℕ) → after skipped ≡ learned (put (made via time c row) rows) (skipped + 0)
        changes q skipped = there-learns skipped ∙ rw (q, add-zero)

        pub changed-places : set (pad rows) at (made via time c row) ≡ pad (put (made via time c row) rows)
        changed-places = set-pad rows at (made via time c row) there-within ∙ ap pad (sym there-put)

        pub changed-sound : Sound (put (made via time c row) rows)
        changed-sound =
            let new = made via time c row in
            let size : length (put new rows) ≡ length rows = ap length there-put ∙ length-set rows at new in
            record {
              in_use = put-every leading_to used new rows (lt-ltb 0 new.destination (omega (arith, made_for row e))) sound.in_use;
              ascends = put-ascending leading_to new rows sound.ascends;
              fits = omega (arith, size, sound.fits);
            }

      -- there is none
      module _ (e : row.destination ≡ d → ⊥) where
        above : at < length rows → d < row.destination
        above k = omega (arith, no_lower k, e)

        absent : row_for d rows ≡ none
        absent = go (dec_lt at (length rows))
          where
            go : Dec (at < length rows) → row_for d rows ≡ none
            go (no k) = stop_end d rows at s (omega (arith, s.within))
            go (yes k) = stop-higher d rows at s k sound.ascends (rw (← pad-at rows at) (above k))

        new-put : (w : Row) → w.destination ≡ d → put w rows ≡ take at rows ++ (w ∷ drop at rows)
        new-put w m = go (dec_lt at (length rows))
          where
            go : Dec (at < length rows) → put w rows ≡ take at rows ++ (w ∷ drop at rows)
            go (no k) = put_end d rows at s (omega (arith, s.within)) w m
            go (yes k) = put-higher d rows at s k (rw (← pad-at rows at) (above k)) w m

        abbrev filled : Bool
        filled = ltb 0 (get_or (pad rows) 47 none).destination

        pub skips : (not (bad c) && not filled) ≡ false → (skipped : ℕ) → after skipped ≡ learned rows (skipped + bool_byte (not (bad c) && filled))
        skips q skipped =
            learn-new absent skipped ∙ no_room (ltb (length rows) 48) filled refl (full rows sound.in_use sound.fits) q skipped

        module _ (q : (not (bad c) && not filled) ≡ true) where
          abbrev new : Row
          new = made via time c row

          good-room : (b few : Bool) → filled ≡ not few → (not b && not filled) ≡ true → (b ≡ false) × (few ≡ true)
          good-room true few f e = absurd (false≢true e)
          good-room false true f e = (refl, refl)
          good-room false false f e = absurd (false≢true (sym (ap not f) ∙ e))

          fit : (bad c ≡ false) × (ltb (length rows) 48 ≡ true)
          fit = good-room (bad c) (ltb (length rows) 48) (full rows sound.in_use sound.fits) q

          target : new.destination ≡ d
          target = ap (λ (b : Bool). (cond b (withdrawn_at time row) (row_by via time c)).destination) fit.0

          -- a good candidate that found room was not skipped
          pub unskipped : bool_byte (not (bad c) && filled) ≡ 0
          unskipped = rw (fit.0, full rows sound.in_use sound.fits, fit.1)

          pub moves : (skipped : ℕ) → after skipped ≡ learned (put new rows) (skipped + 0)
          moves skipped = learn-new absent skipped ∙ rw (fit.0, fit.1, add-zero)

          pub moved-places : moved_in (pad rows) at new ≡ pad (put new rows)
          moved-places =
              moved-pad rows at new sound.in_use s.within (ltb-true (length rows) 48 fit.1) ∙ ap pad (sym (new-put new target))

          pub moved-sound : Sound (put new rows)
          moved-sound =
              record {
                in_use = put-every leading_to used new rows (lt-ltb 0 new.destination (omega (arith, target))) sound.in_use;
                ascends = put-ascending leading_to new rows sound.ascends;
                fits = omega (arith, ltb-true (length rows) 48 fit.1, put-length leading_to new rows);
              }

-- ---- the same, of the places
module _ (via time : ℕ) (c : Candidate) (places rows : List Row) (held : places ≡ pad rows) (sound : Sound rows) (some : 0 < c.destination) where
  bit : (b : Bool) → bool_byte b ≤ 1
  bit true = omega arith
  bit false = omega arith

  seen : (k : ℕ) → get_or places k none ≡ get_or (pad rows) k none
  seen k = ap (λ (l : List Row). get_or l k none) held

  test : (k : ℕ) (b : Bool) → stops c.destination (get_or places k none) ≡ b → stops c.destination (get_or (pad rows) k none) ≡ b
  test k b e = rw (← seen k) e

  -- the places then hold other rows, or the same
  to_rows : (out rows' : List Row) (skip count : ℕ) → out ≡ pad rows' → Sound rows'
      → ((skipped : ℕ) → learn via time c (learned rows skipped) ≡ learned rows' (skipped + skip)) → count ≡ compared c.destination rows → skip ≤ 1
      → Learns via time c places out skip count
  to_rows out rows' skip count held' sound' e n h =
      let before = in_use-held places rows held sound in
      let behind = in_use-held out rows' held' sound' in
      record {
        rows = λ skipped. rw (before, behind) (e skipped);
        count = rw before n;
        placed = placed out rows' held' sound';
        few = h;
        most = omega (arith, n, compared-few c.destination rows, sound.fits);
      }

  pub learned_none : length places ≡ 48 → position (stops c.destination) places ≡ None → (skip : ℕ) → skip ≡ bool_byte (not (bad c)) → Learns via time c places places skip 48
  learned_none long e skip q =
      let h : (k : ℕ) → k < 48 → stops c.destination (get_or (pad rows) k none) ≡ false =
      λ k l. test k false (nowhere (stops c.destination) places e k (omega (arith, long))) in
      to_rows places rows skip 48 held sound (λ n. learns_none via time c rows sound some h n ∙ ap (λ (m : ℕ). learned rows (n + m)) (sym q))
      (counts_none via time c rows sound some h) (omega (arith, q, bit (not (bad c))))

  module _ (at : ℕ) (e : position (stops c.destination) places ≡ Some at) where
    found : (at < length places) × (stops c.destination (get_or places at none) ≡ true) × ((k : ℕ) → k < at → stops c.destination (get_or places k none) ≡ false)
    found = position-Some (stops c.destination) places at none e

    pub place : at < length places
    place = found.0

    passed : (k : ℕ) → k < at → stops c.destination (get_or (pad rows) k none) ≡ false
    passed k l = test k false (found.2 k l)

    stop : stops c.destination (get_or (pad rows) at none) ≡ true
    stop = test at true found.1

    abbrev here : Row
    here = get_or places at none

    number : (count : ℕ) → count ≡ at + bool_byte (ltb 0 here.destination) → count ≡ compared c.destination rows
    number count n =
        n ∙ (ap (λ (r : Row). at + bool_byte (ltb 0 r.destination)) (seen at) ∙ counts via time c rows sound some at passed stop)

    module _ (t : here.destination ≡ c.destination) where
      same : (get_or (pad rows) at none).destination ≡ c.destination
      same = sym (ap (λ (r : Row). r.destination) (seen at)) ∙ t

      change : (b : Bool) → alters via time c here ≡ b → alters via time c (get_or (pad rows) at none) ≡ b
      change b a = rw (← seen at) a

      pub learned_same : alters via time c here ≡ false → (count : ℕ) → count ≡ at + bool_byte (ltb 0 here.destination) → Learns via time c places places 0 count
      learned_same a count n =
          to_rows places rows 0 count held sound (stays via time c rows sound some at passed stop same (change false a)) (number count n) (omega arith)

      pub learned_changed : alters via time c here ≡ true → (count : ℕ) → count ≡ at + bool_byte (ltb 0 here.destination) → (new : Row) → new ≡ made via time c here
          → Learns via time c places (set places at new) 0 count
      learned_changed a count n new m =
          let stored : set places at new ≡ set (pad rows) at (made via time c (get_or (pad rows) at none)) = rw (m, held) in
          to_rows (set places at new) _ 0 count (stored ∙ changed-places via time c rows sound some at passed stop same)
          (changed-sound via time c rows sound some at passed stop same)
          (changes via time c rows sound some at passed stop same (change true a)) (number count n) (omega arith)

    module _ (t : here.destination ≡ c.destination → ⊥) where
      other : (get_or (pad rows) at none).destination ≡ c.destination → ⊥
      other q = t (ap (λ (r : Row). r.destination) (seen at) ∙ q)

      abbrev room : Row → Bool
      room last = not (bad c) && not (ltb 0 last.destination)

      abbrev skips_by : Row → ℕ
      skips_by last = bool_byte (not (bad c) && ltb 0 last.destination)

      pub learned_off : room (get_or places 47 none) ≡ false → (count : ℕ) → count ≡ at + bool_byte (ltb 0 here.destination) → (skip : ℕ) → skip ≡ skips_by (get_or places 47 none)
          → Learns via time c places places skip count
      learned_off a count n skip q =
          let full : room (get_or (pad rows) 47 none) ≡ false = sym (ap room (seen 47)) ∙ a in
          let by : skip ≡ skips_by (get_or (pad rows) 47 none) = q ∙ ap skips_by (seen 47) in
          to_rows places rows skip count held sound
          (λ k. skips via time c rows sound some at passed stop other full k ∙ ap (λ (m : ℕ). learned rows (k + m)) (sym by))
          (number count n) (omega (arith, by, bit (not (bad c) && ltb 0 (get_or (pad rows) 47 none).destination)))

      pub learned_new : room (get_or places 47 none) ≡ true → (count : ℕ) → count ≡ at + bool_byte (ltb 0 here.destination) → (skip : ℕ) → skip ≡ skips_by (get_or places 47 none)
          → (new : Row) → new ≡ made via time c here → Learns via time c places (moved_in places at new) skip count
      learned_new a count n skip q new m =
          let free : room (get_or (pad rows) 47 none) ≡ true = sym (ap room (seen 47)) ∙ a in
          let none-skipped : skip ≡ 0 = q ∙ (ap skips_by (seen 47) ∙ unskipped via time c rows sound some at passed stop other free) in
          let stored : moved_in places at new ≡ moved_in (pad rows) at (made via time c (get_or (pad rows) at none)) = rw (m, held) in
          to_rows (moved_in places at new) _ skip count (stored ∙ moved-places via time c rows sound some at passed stop other free)
          (moved-sound via time c rows sound some at passed stop other free)
          (λ k. moves via time c rows sound some at passed stop other free k ∙ ap (λ (j : ℕ). learned (put (made via time c (get_or (pad rows) at none)) rows) (k + j)) (sym none-skipped)) (number count n) (omega (arith, none-skipped))
