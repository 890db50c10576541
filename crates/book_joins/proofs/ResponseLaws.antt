-- Response frames: their lengths, and a turn of the loop that stores them.
-- Assumes nothing.
use Rattle.octets.proofs.Words.{◌≡◌, refl, sym, ap, ap₂, ◌∙◌, Bool, true, false, cond, List, [], ◌∷◌, ◌++◌, map, append-nil, append_assoc, ℕ, zero, suc, ◌+◌, ◌*◌, ◌-◌, ◌/◌, ◌^◌, ◌≤◌, ◌<◌, zero-add, add-one, arith, length, drop, length-append, length-map, sets, sets-eq, drop_at}
use Rattle.octets.specs.Layouts.{bytes}
use Rattle.octets.specs.Numbers.{num, digits}
use Rattle.octets.specs.Sums.{xors}
use Rattle.octets.proofs.NumberLaws.{length_digits, num-digits}
use Rattle.octets.proofs.StoreLaws.{sets_append}
use Rattle.frame_kinds.proofs.SealLaws.{length-sealed}
use Rattle.frame_kinds.specs.Shape.{values_in, sealed}
use Rattle.frame_requests.specs.Requests.{join_response, join_response_from}
use Rattle.slot_sets.specs.Sets.{Slots, has, count, [] as []ˢ, ◌∷◌ as ◌∷ˢ◌}
use Rattle.site_plan.specs.declared.plan.Plan.{Plan}
use Rattle.site_plan.specs.Plans.{control_slot_at, data_slot_at}
use Rattle.site_plan.specs.Schedules.{control_slot, data_slot}
use Rattle.book_joins.specs.Responses.{listed, slots_told, response, responses_for, responses, told_in}

-- ---- how many bytes
pub length-response : (p : Plan) (unit time slot : ℕ) → length (response p unit time slot) ≡ 13
length-response p unit time slot = length-sealed _ ∙ simp (length-append, length_digits)

-- one frame a slot
pub length_for : (p : Plan) (unit time : ℕ) (slots : List ℕ) → length (responses_for p unit time slots) ≡ 13 * length slots
length_for p unit time [] = refl
length_for p unit time (slot ∷ slots) =
    let h = length_for p unit time slots in
    length-append (response p unit time slot) (responses_for p unit time slots) ∙ omega (arith, length-response p unit time slot)

-- a set lists as many slots as it has
listed-later : {w : ℕ} (b : Bool) (s : Slots w) (i n : ℕ) → length (listed (b ∷ˢ s) (suc i) n) ≡ length (listed s i n)
unfolding has
listed-later b s i zero = refl
listed-later b s i (suc n) = go (has s i) _ _ (listed-later b s (suc i) n)
  where
    go : (h : Bool) (l m : List ℕ) → length l ≡ length m → length (cond h (suc i ∷ l) l) ≡ length (cond h (i ∷ m) m)
    go true l m e = ap suc e
    go false l m e = e

listed-all : (w : ℕ) (s : Slots w) → length (listed s 0 w) ≡ count s
unfolding has count
listed-all zero []ˢ = refl
listed-all (suc w) (true ∷ˢ s) = ap suc (listed-later true s 0 w ∙ listed-all w s)
listed-all (suc w) (false ∷ˢ s) = listed-later false s 0 w ∙ listed-all w s

-- a member is told of as many data slots as it holds
told-many : (w : ℕ) (p : Plan) (own : Slots w) → length (map (data_slot p) (listed own 0 w)) ≡ count own
told-many w p own = length-map (listed own 0 w) (data_slot p) ∙ listed-all w own

pub slots-told : (p : Plan) (row : ℕ) (own : Slots 64) → length (drop 1 (slots_told p row own)) ≡ count own
slots-told p row own = told-many 64 p own

-- how many of a set's slots are left from one on; said of any width, since the list of 64 slots would be computed
unfoldable pub left : (w : ℕ) → Slots w → ℕ → ℕ
left w s i = length (listed s i (w - i))

pub left-all : (w : ℕ) (s : Slots w) → count s ≡ left w s 0
unfolding left
left-all w s = let e : w - 0 ≡ w = omega arith in sym (ap (λ (n : ℕ). length (listed s 0 n)) e ∙ listed-all w s)

module _ (w : ℕ) (s : Slots w) (i : ℕ) where
  pub none_left : left w s i ≡ 0 → listed s i (w - i) ≡ []
  unfolding left
  none_left = go (listed s i (w - i))
    where
      go : (l : List ℕ) → length l ≡ 0 → l ≡ []
      go [] e = refl
      go (x ∷ l) e = absurd (omega (arith, e))

  pub none-behind : w ≤ i → listed s i (w - i) ≡ []
  none-behind h =
      let e : w - i ≡ 0 = omega (arith, h) in
      ap (listed s i) e

  pub left-on : i < w → left w s i ≡ cond (has s i) 1 0 + left w s (i + 1)
  unfolding left
  left-on h =
      let e : w - i ≡ suc (w - (i + 1)) = omega arith in
      ap (λ (k : ℕ). length (listed s i k)) e ∙ rw add-one (go (has s i) (listed s (suc i) (w - suc i)))
    where
      go : (b : Bool) (l : List ℕ) → length (cond b (i ∷ l) l) ≡ cond b 1 0 + length l
      go true l = omega arith
      go false l = omega arith

-- the control slot and each data slot are told in 13 bytes; said of any width first, since the list of 64 slots would be computed
length-told : (w : ℕ) (p : Plan) (unit time row : ℕ) (own : Slots w) → length (responses_for p unit time (control_slot p row ∷ map (data_slot p) (listed own 0 w))) ≡ 13 * (1 + count own)
length-told w p unit time row own =
    let l = length_for p unit time (control_slot p row ∷ map (data_slot p) (listed own 0 w)) in
    omega (arith, told-many w p own)

pub length-responses : (p : Plan) (unit time row : ℕ) (own : Slots 64) → length (responses p unit time row own) ≡ 13 * (1 + count own)
length-responses p unit time row own = length-told 64 p unit time row own

-- ---- read back
-- each slot is below a bound
abbrev pub Below : ℕ → List ℕ → Type 0
Below bound [] = Unit
Below bound (slot ∷ slots) = (slot < bound) × Below bound slots

-- the slot of a frame stands behind its type, its node and its status
slot_behind : (slot : ℕ) (a b c e x r : List ℕ) → length (a ++ (b ++ c)) ≡ 4 → slot < 256 ^ 2
    → num 2 ((((a ++ (b ++ (c ++ (digits 2 slot ++ e)))) ++ []) ++ x) ++ r) 4 ≡ slot
slot_behind slot a b c e x r l h =
    let d = digits 2 slot in
    let same : (((a ++ (b ++ (c ++ (d ++ e)))) ++ []) ++ x) ++ r ≡ (a ++ (b ++ c)) ++ (d ++ (e ++ (x ++ r))) = simp (append_assoc, append-nil) in
    ap (λ (s : List ℕ). num 2 s 4) same ∙ num-digits 2 slot (a ++ (b ++ c)) (e ++ (x ++ r)) 4 l h

slot_told : (p : Plan) (unit time slot : ℕ) (rest : List ℕ) → slot < 256 ^ 2 → (join_response_from (values_in join_response (response p unit time slot ++ rest))).slot ≡ slot
unfolding sealed
slot_told p unit time slot rest h =
    let fields-all = bytes (1 ∷ join_response.widths) (join_response.code ∷ unit ∷ 0 ∷ slot ∷ time ∷ p.network ∷ []) in
    slot_behind slot (digits 1 join_response.code) (digits 2 unit) (digits 1 0) (digits 4 time ++ (digits 2 p.network ++ [])) (xors 0 (fields-all ++ []) ∷ []) rest
    (simp (length-append, length_digits)) h

told_for : (p : Plan) (unit time : ℕ) (slots rest : List ℕ) → Below (256 ^ 2) slots → told_in (length slots) (responses_for p unit time slots ++ rest) ≡ slots
told_for p unit time [] rest h = refl
told_for p unit time (slot ∷ slots) rest h =
    let one = response p unit time slot in
    let more = responses_for p unit time slots in
    let behind : drop 13 (one ++ (more ++ rest)) ≡ more ++ rest = drop_at one (more ++ rest) 13 (length-response p unit time slot) in
    ap (λ (s : List ℕ). (join_response_from (values_in join_response s)).slot ∷ told_in (length slots) (drop 13 s)) (append_assoc one more rest)
    ∙ ap₂ {C = List ℕ} ◌∷◌ (slot_told p unit time slot (more ++ rest) h.0) (ap (told_in (length slots)) behind ∙ told_for p unit time slots rest h.1)

-- of responses in a buffer that has room for them, so many as there are tell their slots, if these fit their two bytes
pub told_back : (p : Plan) (unit time : ℕ) (slots out : List ℕ) → Below (256 ^ 2) slots → let all = responses_for p unit time slots in
    length all ≤ length out → told_in (length all / 13) (sets out 0 all) ≡ slots
told_back p unit time slots out h l =
    let all = responses_for p unit time slots in
    let many : length all / 13 ≡ length slots = omega (arith, length_for p unit time slots) in
    let whole : sets out 0 all ≡ all ++ drop (0 + length all) out = sets-eq all out 0 (omega (arith, l)) in
    ap₂ {C = List ℕ} told_in many whole ∙ told_for p unit time slots (drop (0 + length all) out) h

-- the slots that a member is told of are below a bound that its control slot and the 64 that may be data slots are below
below-listed : (bound : ℕ) {w : ℕ} (p : Plan) (own : Slots w) (i n : ℕ) → data_slot_at p + i + n ≤ bound → Below bound (map (data_slot p) (listed own i n))
below-listed bound p own i zero h = tt
below-listed bound p own i (suc n) h =
    go (has own i) (map (data_slot p) (listed own (suc i) n)) refl (below-listed bound p own (suc i) n (omega (arith, h)))
  where
    go : (t : Bool) (l : List ℕ) → map (data_slot p) (listed own (suc i) n) ≡ l → Below bound l
        → Below bound (map (data_slot p) (cond t (i ∷ listed own (suc i) n) (listed own (suc i) n)))
    go true l e s = (omega (arith, h), rw e s)
    go false l e s = rw e s

pub below-told : (bound w : ℕ) (p : Plan) (row : ℕ) (own : Slots w) → control_slot p row < bound → data_slot_at p + w ≤ bound
    → Below bound (control_slot p row ∷ map (data_slot p) (listed own 0 w))
below-told bound w p row own h l = (h, below-listed bound p own 0 w (omega (arith, l)))

pub small-told : (w : ℕ) (p : Plan) (row : ℕ) (own : Slots w) → control_slot p row < 256 ^ 2 → data_slot_at p + w ≤ 256 ^ 2
    → Below (256 ^ 2) (control_slot p row ∷ map (data_slot p) (listed own 0 w))
small-told w p row own h l = below-told (256 ^ 2) w p row own h l

-- ---- the loop
-- what is left to tell from a slot on
abbrev pub later : Plan → ℕ → ℕ → Slots 64 → ℕ → List ℕ
later p unit time own slot = responses_for p unit time (map (data_slot p) (listed own slot (64 - slot)))

module _ (p : Plan) (unit time : ℕ) (own : Slots 64) (slot : ℕ) where
  -- nothing is, where no slot of the set is left, or none at all
  pub none-told : left 64 own slot ≡ 0 → later p unit time own slot ≡ []
  none-told e = ap (λ (l : List ℕ). responses_for p unit time (map (data_slot p) l)) (none_left 64 own slot e)

  pub none-later : 64 ≤ slot → later p unit time own slot ≡ []
  none-later h = ap (λ (l : List ℕ). responses_for p unit time (map (data_slot p) l)) (none-behind 64 own slot h)

  module _ (h : slot < 64) where
    listed-on : listed own slot (64 - slot) ≡ cond (has own slot) (slot ∷ listed own (slot + 1) (64 - (slot + 1))) (listed own (slot + 1) (64 - (slot + 1)))
    listed-on =
        let e : 64 - slot ≡ suc (64 - (slot + 1)) = omega arith in
        ap (listed own slot) e ∙ rw add-one

    pub passed_over : has own slot ≡ false → later p unit time own (slot + 1) ≡ later p unit time own slot
    passed_over e = rw (listed-on, e)

    pub told : (out out' frame : List ℕ) (place first : ℕ) → has own slot ≡ true → first ≡ data_slot_at p → frame ≡ response p unit time (first + slot) → out' ≡ sets out place frame
        → sets out' (place + 13) (later p unit time own (slot + 1)) ≡ sets out place (later p unit time own slot)
    told out out' frame place first e d f s =
        rw (listed-on, e, s, f, d)
        (sym (sets_append (response p unit time (data_slot p slot)) (later p unit time own (slot + 1)) out place ∙ rw (length-response p unit time (data_slot p slot))))

-- the control slot's frame, and the others behind it
pub all_told : (p : Plan) (unit time row : ℕ) (rest frame out out' last : List ℕ) (first : ℕ) → first ≡ control_slot_at p → frame ≡ response p unit time (first + row)
    → out' ≡ sets out 0 frame → last ≡ sets out' 13 rest → last ≡ sets out 0 (response p unit time (control_slot p row) ++ rest)
all_told p unit time row rest frame out out' last first e f s t =
    rw (t, s, f, e) (sym (sets_append (response p unit time (control_slot p row)) rest out 0 ∙ rw (zero-add, length-response p unit time (control_slot p row))))
