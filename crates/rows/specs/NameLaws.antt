-- An item that stands with an onset inside is named by its slot: the slot is one of the table's, turned or not, and its cells are the
-- item's.
use Rattle.std.specs.Prelude.{ℕ, ◌+◌, ◌-◌, ◌*◌, ◌/◌, ◌%◌, ◌≤◌, ◌<◌, ◌≡◌, refl, List, length, get_or}
use Rattle.std.proofs.Common.{sym, ap, ◌∙◌, add-zero, mul_comm, mul_assoc, mul-le-mul_right, suc-mul, mod-lt, mod-eq_of_lt, mul-le-mul, arith}
use Rattle.std.proofs.Math.Nat.{mul-add-div_right, div-eq_of_lt, mul-add-mod_self_right, add-mod_right}
use Rattle.std.proofs.Math.Decide.{dec_lt}
use Rattle.sheet.specs.declared.clock.Units.{Units}
use Rattle.sheet.specs.Sheet.{Sheet, bar_units}
use Rattle.sheet.specs.Good.{GoodOnsets}
use Rattle.derivations.specs.Derivation.{Item}
use Rattle.trees.specs.Instance.{onsets_in}
use Rattle.trees.specs.LeastTotal.{carries}
use Rattle.trees.proofs.IntervalLaws.{named}
use Rattle.sizes.specs.Sizes.{most_in_bar}
use Rattle.sizes.specs.SizesLaws.{most_in_bar_most}
use Rattle.expansions.specs.Tables.{last_unit}
use Rattle.expansions.specs.Items.{first_at}
use Rattle.expansions.specs.Places.{first_next}
use Rattle.plan.specs.Plan.{lengths, length_at, length_cell, lengths_cell, nonterminals_cell}
use Rattle.plan.specs.PlanLaws.{lengths_most}
use Rattle.rows.specs.declared.slots.Bar.{Bar}
use Rattle.rows.specs.Vectors.{vec}
use Rattle.rows.specs.VectorLaws.{vec_same}
use Rattle.rows.specs.Memo.{MARK, row_at, stored}
use Rattle.rows.specs.MemoLaws.{memo_store}
use Rattle.rows.specs.OnsetLaws.{unit_at, unit_behind, unit_before, place_before, place_is, first_later, onsets_of_bar}
use Rattle.rows.specs.PackedLaws.{packed_cell, packed_cell_most}
use Rattle.rows.specs.Slots.{item_at, Stands, Inhabited, slots, shift_of, turned, turned_back, slot_of, slot_in, unit_in, named_item}
use Rattle.rows.specs.Slots.{slot_cell, Sound, SlotEntry}
use Rattle.rows.specs.Rows.{Row, SolveEntry}

-- ---- quotients and remainders of a slot

quot : (n k d : ℕ) → k < d → (n * d + k) / d ≡ n
quot n k d h = mul-add-div_right (omega arith) n k ∙ ap (n +◌) (div-eq_of_lt h) ∙ add-zero n

rest : (n k d : ℕ) → k < d → (n * d + k) % d ≡ k
rest n k d h = mul-add-mod_self_right n d k ∙ mod-eq_of_lt h

-- a number below m and a remainder make one below m × d
block : (n k d m : ℕ) → n < m → k < d → n * d + k < m * d
block n k d m h i = omega (arith, mul-le-mul_right d h, suc-mul n d)

-- ---- slots turned

module _ (n k t : ℕ) (hk : k < n) (ht : t < n) where
  -- the sum, or what it is above the number of slots
  turned_low : t + k < n → turned n k t ≡ t + k
  turned_low h = mod-eq_of_lt h

  turned_high : n ≤ t + k → turned n k t ≡ t + k - n
  turned_high h =
      let whole : t + k ≡ t + k - n + n = omega arith in
      ap (◌% n) whole ∙ add-mod_right (t + k - n) n ∙ mod-eq_of_lt (omega arith)

  pub turned_below : turned n k t < n
  turned_below = mod-lt (t + k) (omega arith)

  -- turning back what is turned gives the slot
  pub turned_back_lem : turned_back n k (turned n k t) ≡ t
  turned_back_lem = elim (dec_lt (t + k) n) [
    | yes h ↦
        ap (λ (x : ℕ). (x + n - k) % n) (turned_low h) ∙ ap (◌% n) (omega arith) ∙ add-mod_right t n ∙ mod-eq_of_lt ht
    | no h ↦
        ap (λ (x : ℕ). (x + n - k) % n) (turned_high (omega arith)) ∙ ap (◌% n) (omega arith) ∙ mod-eq_of_lt ht
  ]

pub shift_below : (s : Sheet) (b : ℕ) → 0 < slots s → shift_of s b < slots s
shift_below s b h = mod-lt (b * (slots s / 4 + 1)) h

-- ---- what a slot names

module _ (s : Sheet) (q l i c : ℕ) (hq : q < s.grammar.nonterminals) (hl : l < lengths s) (hc : c < 4)
    (hi : i < most_in_bar s.playing) where
  slot_below : slot_of s q l i c < slots s
  slot_below =
      let n = lengths s in
      let m = s.grammar.nonterminals in
      let e = most_in_bar s.playing in
      let t : e * n * m ≡ m * n * e = ap (◌* m) (mul_comm e n) ∙ mul_comm (n * e) m ∙ sym (mul_assoc m n e) in
      omega (arith, block ((i * n + l) * m + q) c 4 (e * n * m) (block (i * n + l) q m (e * n) (block i l n e hi hl) hq) hc, t)

  slot_turned : (b : ℕ) → turned_back (slots s) (shift_of s b) (slot_in s b q l i c) ≡ slot_of s q l i c
  slot_turned b =
      turned_back_lem (slots s) (shift_of s b) (slot_of s q l i c) (shift_below s b (omega (arith, slot_below))) slot_below

  slot_names : (b x : ℕ) → slot_cell s b (slot_in s b q l i c) x ≡ packed_cell s (named_item s b q l i) c x
  unfolding slot_cell
  slot_names b x =
      let n = lengths s in
      let m = s.grammar.nonterminals in
      rw (
        slot_turned b,
        quot ((i * n + l) * m + q) c 4 hc,
        rest ((i * n + l) * m + q) c 4 hc,
        quot (i * n + l) q m hq,
        rest (i * n + l) q m hq,
        quot i l n hl,
        rest i l n hl,
      )

-- what a slot is made up of fits
pub record SlotFits (i n l m q shift : ℕ) : Type 0 where
  pub onset : i * n ≤ 2688
  pub length : i * n + l < 2688
  pub nonterminal : (i * n + l) * m ≤ 43008
  pub all : (i * n + l) * m + q < 43008
  pub turn : shift < 172032

module _ {s : Sheet} {plan : List ℕ} {bar : Bar} {q l from c n m : ℕ} (h : SlotEntry s plan bar q l from c) (en : n ≡ lengths_cell plan)
    (em : m ≡ nonterminals_cell plan) where
  is_lengths : n ≡ lengths s
  is_lengths = en ∙ h.prepared.lengths_are

  is_nonterminals : m ≡ s.grammar.nonterminals
  is_nonterminals = em ∙ h.prepared.nonterminals

  few_onsets : most_in_bar s.playing ≤ 32
  few_onsets = most_in_bar_most s.playing h.onsets

  slot_in_lem : slot_of s q l (from - bar.first) c < slots s
  slot_in_lem = slot_below s q l (from - bar.first) c h.nonterminal h.length_in h.few h.within

  shift_in : shift_of s bar.number < slots s
  shift_in = shift_below s bar.number (omega (arith, slot_in_lem))

  slots_most : slots s ≤ 172032
  slots_most =
      let e = most_in_bar s.playing in
      let pairs : s.grammar.nonterminals * lengths s ≤ 16 * 84 = mul-le-mul h.prepared.good.sixteen (lengths_most s) in
      let all : s.grammar.nonterminals * lengths s * e ≤ 1344 * 32 = mul-le-mul {n₂ = 1344} (omega (arith, pairs)) few_onsets in
      omega (arith, all)

  pub slot_fits : SlotFits (from - bar.first) n l m q bar.shift
  slot_fits =
      let i = from - bar.first in
      let few : n ≤ 84 = omega (arith, is_lengths, lengths_most s) in
      let sixteen : m ≤ 16 = omega (arith, is_nonterminals, h.prepared.good.sixteen) in
      let low = block i l n 32 (omega (arith, h.within, few_onsets)) (omega (arith, is_lengths, h.length_in)) in
      let more = block (i * n + l) q m 2688 (omega arith) (omega (arith, is_nonterminals, h.nonterminal)) in
      record {
        onset = omega arith;
        length = omega arith;
        nonterminal = omega arith;
        all = omega arith;
        turn = omega (arith, h.shift_is, shift_in, slots_most);
      }

  -- the slot before it is turned, with the shift
  abbrev sum : ℕ
  sum = (((from - bar.first) * n + l) * m + q) * 4 + c + bar.shift

  sum_is : sum ≡ slot_of s q l (from - bar.first) c + shift_of s bar.number
  sum_is = rw (is_lengths, is_nonterminals, h.shift_is) refl

  -- turned, it is the sum or what the sum is above the number of slots
  pub slot_low : sum < bar.slots → 4 * sum ≡ 4 * slot_in s bar.number q l (from - bar.first) c
  slot_low k =
      ap (4 *◌)
      (sum_is ∙ sym (turned_low (slots s) (shift_of s bar.number) (slot_of s q l (from - bar.first) c) shift_in slot_in_lem
      (omega (arith, sum_is, h.slots_are))))

  pub slot_high : bar.slots ≤ sum → 4 * (sum - bar.slots) ≡ 4 * slot_in s bar.number q l (from - bar.first) c
  slot_high k =
      let less : sum - bar.slots ≡ slot_of s q l (from - bar.first) c + shift_of s bar.number - slots s =
      omega (arith, sum_is, h.slots_are) in
      ap (4 *◌)
      (less ∙ sym (turned_high (slots s) (shift_of s bar.number) (slot_of s q l (from - bar.first) c) shift_in slot_in_lem
      (omega (arith, sum_is, h.slots_are))))

-- ---- an item that stands

module _ {s : Sheet} {plan units : List ℕ} {bar : Bar} {q l : ℕ} {left : Units} {from : ℕ}
    (t : Stands s plan units bar q l left from) where
  abbrev start : ℕ
  start = bar.number * bar_units

  abbrev good : GoodOnsets s.playing
  good = t.in_bar_lem.onsets.good

  -- the bar is one of 64, the length one of 84, the nonterminal one of 16
  pub stands_bar : bar.number < 64
  stands_bar = omega (arith, t.in_bar_lem.bar_in, good.sixty_four)

  pub stands-length : l < 84
  stands-length = omega (arith, t.length_in, lengths_most s)

  pub stands_head : q < 16
  stands_head = omega (arith, t.nonterminal, t.in_bar_lem.prepared.good.sixteen)

  pub stands_len : {n : ℕ} → n ≡ length_cell plan l → n ≡ length_at s l
  stands_len e = e ∙ t.in_bar_lem.prepared.length-at l stands-length

  -- it ends in the longest piece, and begins no earlier than its bar
  pub stands_near : left.0 + length_at s l ≤ last_unit
  stands_near = omega (arith, t.aligned.ends, t.in_bar_lem.bar_in, good.sixty_four)

  stands_behind : bar.first ≤ from
  stands_behind =
      omega (arith, t.first, t.in_bar_lem.bar_first, first_later s good start left.0 (omega (arith, t.aligned.is)))

  -- the first onset behind it
  pub stands_next : first_at s (left.0 + length_at s l) ≡ from + onsets_in s left.0 (length_at s l)
  stands_next = first_next s good left.0 (length_at s l) ∙ ap (◌+ onsets_in s left.0 (length_at s l)) (sym t.first)

  cells : (i : ℕ) → get_or units i 0 ≡ unit_at s i
  cells i = ap (λ xs. get_or xs i 0) t.in_bar_lem.onsets.cells

  -- an onset lies inside where the first at or behind the left bound is before the right bound, and nowhere else
  pub stands_some : get_or units from 0 < left.0 + length_at s l → Inhabited s l left
  stands_some h =
      omega (
        arith,
        stands_next,
        place_before s good (left.0 + length_at s l) from stands_near (omega (arith, stands_next)) (omega (arith, cells from)),
      )

  pub stands_none : left.0 + length_at s l ≤ get_or units from 0 → onsets_in s left.0 (length_at s l) ≡ 0
  stands_none h =
      omega (
        arith,
        stands_next,
        place_is s good (left.0 + length_at s l) from stands_near (omega (arith, stands_next)) (omega (arith, cells from)),
      )

  module _ (some_onset : Inhabited s l left) where
    -- it is one of the bar's onsets
    in_fullest : from - bar.first < most_in_bar s.playing
    in_fullest =
        omega (
          arith,
          stands_next,
          stands_behind,
          first_later s good (left.0 + length_at s l) (start + bar_units) t.aligned.ends,
          first_next s good start bar_units,
          t.in_bar_lem.bar_first,
          onsets_of_bar s bar.number t.in_bar_lem.bar_in,
        )

    pub slot_entry : {c : ℕ} → c < carries → SlotEntry s plan bar q l from c
    slot_entry h = record {
      prepared = t.in_bar_lem.prepared;
      onsets = good;
      shift_is = t.in_bar_lem.shift_is;
      slots_are = t.in_bar_lem.slots_are;
      nonterminal = t.nonterminal;
      length_in = t.length_in;
      behind = stands_behind;
      within = in_fullest;
      few = h;
    }

    -- so the slot of its row names it
    unit_is : unit_in s bar.number (from - bar.first) ≡ unit_at s from - start
    unit_is = ap (λ (i : ℕ). unit_at s i - start) (omega (arith, t.in_bar_lem.bar_first, stands_behind))

    left_named : left.0 ≡ start + (unit_at s from - start) / length_at s l * length_at s l
    left_named =
        let low : left.0 ≤ unit_at s from =
        omega (arith, unit_behind s good left.0 (omega (arith, stands_near)), ap (unit_at s) t.first) in
        let high : unit_at s from < left.0 + length_at s l =
        unit_before s good (left.0 + length_at s l) from stands_near (omega (arith, stands_next)) in
        named start (item_at s q l left) (unit_at s from - start) t.aligned (omega (arith, t.aligned.is)) (omega (arith, t.aligned.is))

    item_named : named_item s bar.number q l (from - bar.first) ≡ item_at s q l left
    item_named =
        ap (λ (x : ℕ). record { nonterminal = q; left = start + x / length_at s l * length_at s l; len = length_at s l }) unit_is
        ∙ ap (λ (x : ℕ). record { nonterminal = q; left = x; len = length_at s l }) (sym left_named)

    module _ {c at : ℕ} (few : c < carries) (place : at ≡ 4 * slot_in s bar.number q l (from - bar.first) c) where
      abbrev slot : ℕ
      slot = slot_in s bar.number q l (from - bar.first) c

      slot_there : slot < slots s
      slot_there =
          let i = from - bar.first in
          let before = slot_below s q l i c t.nonterminal t.length_in few in_fullest in
          turned_below (slots s) (shift_of s bar.number) (slot_of s q l i c) (shift_below s bar.number (omega (arith, before))) before

      slot_cells : (x : ℕ) → slot_cell s bar.number slot x ≡ packed_cell s (item_at s q l left) c x
      slot_cells x =
          slot_names s q l (from - bar.first) c t.nonterminal t.length_in few in_fullest bar.number x
          ∙ ap (λ (g : Item). packed_cell s g c x) item_named

      slot_row : vec (slot_cell s bar.number slot) ≡ vec (packed_cell s (item_at s q l left) c)
      slot_row = vec_same _ _ (λ x h. slot_cells x)

      -- its place is in the table
      place_in : {rows : List ℕ} → Sound s rows → at + 4 ≤ length rows
      place_in sound = omega (arith, slot_there, sound.size)

      -- a row that bears the bar's stamp is the item's
      row_loaded : {rows r : List ℕ} → Sound s rows → get_or rows at 0 / MARK ≡ bar.number + 1 → r ≡ row_at rows at
          → Row s rows (item_at s q l left) c r
      row_loaded {rows} sound stamp e = record {
        is = e ∙ rw place (sound.right slot bar.number slot_there (rw place at stamp) ∙ slot_row);
        sound = sound;
      }

      -- and the item's row may be stored with it
      row_stored : {rows after v : List ℕ} {stamp : ℕ} → Row s rows (item_at s q l left) c v → stamp ≡ bar.number + 1
          → after ≡ stored rows at v stamp → Row s after (item_at s q l left) c v
      row_stored {rows} {after} {v} row e f = record {
        is = row.is;
        sound = rw (f, place, e)
            (memo_store (slot_cell s) rows (slots s) slot bar.number v row.sound slot_there
            (rw (slot_cells 0) (omega (arith, packed_cell_most s (item_at s q l left) c 0))) (row.is ∙ sym slot_row));
      }

-- ---- a row that is asked for

module _ {s : Sheet} {plan units rows : List ℕ} {bar : Bar} {q l : ℕ} {left : Units} {from c at : ℕ}
    (e : SolveEntry s plan units rows bar q l left from c at) where
  -- its place is in the table, which keeps its length
  pub solve_room : {now : List ℕ} → Sound s now → at + 4 ≤ length now
  solve_room sound = place_in e.entry.stands e.inhabited e.entry.few e.place sound

  pub solve_loaded : {r : List ℕ} → get_or rows at 0 / MARK ≡ bar.number + 1 → r ≡ row_at rows at → Row s rows (item_at s q l left) c r
  solve_loaded stamp k = row_loaded e.entry.stands e.inhabited e.entry.few e.place e.entry.sound stamp k

  pub solve_stored : {now after v : List ℕ} → Row s now (item_at s q l left) c v → after ≡ stored now at v (bar.number + 1)
      → Row s after (item_at s q l left) c v
  solve_stored row k = row_stored e.entry.stands e.inhabited e.entry.few e.place row refl k
