-- Entering a bar: its record (`enter_bar`), the item over it (`bar_item_lem`), and what is asked of the rows. The products of the sheet's
-- numbers are small (`product_few`, `slots_few`). From an idle carry state a bar has no tree (`pass_idle`), from any other its own row
-- (`pass_rooted`).
use Prim.Native.Nat.{ℕ, ◌+◌, ◌*◌, ◌/◌, ◌%◌, ◌≤◌, ◌<◌}
use mathlib.Core.Path.{◌≡◌, refl, sym, ap, subst, ◌∙◌}
use mathlib.Core.List.{List}
use mathlib.Core.Logic.{inl, inr}
use native.Mathlib.Nat.{mul-le-mul}
use native.Mathlib.Omega.{arith}
use lib.ListN.{length, get_or}
use Rattle.sheet.specs.Sheet.{Sheet, bar_units}
use Rattle.sheet.specs.Good.{GoodRules, GoodOnsets}
use Rattle.sheet.specs.Held.{units}
use Rattle.trees.specs.LeastTotal.{NONE, carries}
use Rattle.sizes.specs.Sizes.{most_in_bar}
use Rattle.sizes.specs.SizesLaws.{length_count_least, length_count_most, most_in_bar_most}
use Rattle.expansions.specs.Tables.{last_unit, UnitsHeld}
use Rattle.expansions.specs.Items.{first_at}
use Rattle.expansions.specs.Places.{first_zero}
use Rattle.plan.specs.Plan.{Prepared, lengths}
use Rattle.plan.specs.PlanLaws.{whole-length}
use Rattle.rows.specs.declared.slots.Bar.{Bar}
use Rattle.rows.specs.Vectors.{vec, Low}
use Rattle.rows.specs.VectorLaws.{vec_at, low_eq}
use Rattle.rows.specs.PackedLaws.{packed_cell}
use Rattle.rows.specs.Slots.{slots, item_at, Stands, Sound}
use Rattle.rows.specs.Rows.{Entry, Row}
use Rattle.rows.specs.IdleLaws.{Idle}
use Rattle.search.specs.Clauses.{bar_item, prefix_costs, bar_of, EnterPre, BarsPre, PassPre, Rooted}
use Rattle.search.proofs.BarLaws.{prefix_low}

-- ---- the number of slots

-- with 16 nonterminals, 84 lengths and 32 onsets in a bar at most
pub product_few : {q l e : ℕ} → q ≤ 16 → l ≤ 84 → e ≤ 32 → (q * l ≤ 1344) × (q * l * e ≤ 43008)
product_few {q} {l} {e} hq hl he = let first : q * l ≤ 1344 = mul-le-mul hq hl in (first, mul-le-mul first he)

pub slots_few : (s : Sheet) → GoodRules s.grammar → GoodOnsets s.playing → slots s ≤ 172032
slots_few s rules onsets =
    let most = product_few {q = s.grammar.nonterminals} {l = lengths s} {e = most_in_bar s.playing} rules.sixteen
    (length_count_most s.grammar.rules) (most_in_bar_most s.playing onsets) in
    omega (arith, most.1)

-- ---- `enter`

module _ {s : Sheet} {us : List ℕ} {b n : ℕ} (h : EnterPre s us b n) where
  pub enter_few : b < 64
  enter_few = omega (arith, h.bar_in, h.onsets.good.sixty_four)

  pub enter_product : b * (n / 4 + 1) ≤ 2752576
  enter_product =
      let bars : b ≤ 64 = omega (arith, enter_few) in
      let most : n / 4 + 1 ≤ 43009 = omega (arith, h.few_slots) in
      mul-le-mul bars most

  -- what `first_behind` is asked
  pub enter_from : 0 ≡ first_at s 0
  enter_from = sym (first_zero s h.onsets.good)

  pub enter_near : 20160 * b ≤ last_unit
  enter_near = omega (arith, enter_few)

  pub enter_bar : {first : ℕ} → first ≡ first_at s (20160 * b)
      → record { number = b; first = first; shift = b * (n / 4 + 1) % n; slots = n } ≡ bar_of s b
  enter_bar e = λ i. record {
    number = b;
    first = (e ∙ ap (first_at s) same) i;
    shift = b * (h.slots_are i / 4 + 1) % h.slots_are i;
    slots = h.slots_are i;
  }
    where
      same : 20160 * b ≡ b * bar_units
      same = omega arith

module _ {s : Sheet} {plan us rows : List ℕ} {start count : ℕ} (e : BarsPre s plan us rows start count) where
  pub few_bars : count ≤ 64
  few_bars = omega (arith, e.count_is, e.onsets.good.sixty_four)

  pub bar_enter : (b : ℕ) → b < count → EnterPre s us b (length rows / 4)
  bar_enter b hb =
      record {
        onsets = e.onsets;
        bar_in = omega (arith, e.count_is);
        slots_are = is;
        some_slot = omega (arith, is, e.some_slot);
        few_slots = omega (arith, is, slots_few s e.prepared.good e.onsets.good);
      }
    where
      is : length rows / 4 ≡ slots s
      is = omega (arith, e.sound.size)

-- ---- the item over a bar

module _ (s : Sheet) {start : ℕ} (es : start ≡ s.grammar.start) (b : ℕ) where
  pub bar_item_lem : item_at s start 0 (units (20160 * b)) ≡ bar_item s b
  bar_item_lem = λ i. record { nonterminal = es i; left = same i; len = whole-length s i }
    where
      same : 20160 * b ≡ b * bar_units
      same = omega arith

  -- it stands
  pub bar_stands : {plan us : List ℕ} {bar : Bar} → Prepared s plan → UnitsHeld s us → b < s.playing.bars → bar ≡ bar_of s b
      → Stands s plan us bar start 0 (units (20160 * b)) bar.first
  bar_stands {plan} {us} {bar} prepared onsets hb eb =
      subst (λ (x : Bar). Stands s plan us x start 0 (units (20160 * b)) x.first) (sym eb) (record {
        in_bar_lem = record {
          prepared = prepared;
          onsets = onsets;
          bar_in = hb;
          bar_first = refl;
          shift_is = refl;
          slots_are = refl;
        };
        nonterminal = rw es prepared.good.start;
        length_in = omega (arith, length_count_least s.grammar.rules);
        aligned = record { times = 0; is = omega arith; ends = omega (arith, whole-length s) };
        first = ap (first_at s) same;
      })
    where
      same : b * bar_units ≡ 20160 * b
      same = omega arith

-- ---- `root_row`

-- a vector by its function
pub at_vec : {v : List ℕ} (f : ℕ → ℕ) → v ≡ vec f → (c : ℕ) → c < carries → get_or v c 0 ≡ f c
at_vec f e c h = ap (λ (x : List ℕ). get_or x c 0) e ∙ vec_at f c h

pub idle_same : (s : Sheet) {n : ℕ} (f g : ℕ → ℕ) (c : ℕ) → f 0 ≡ g 0 → f c ≡ g c → Idle s n f c → Idle s n g c
idle_same s f g c z e (inl h) = inl (omega arith)
idle_same s f g c z e (inr (k, begun, h)) = inr (k, begun, omega arith)

module _ {s : Sheet} {plan us rows : List ℕ} {bar : Bar} {start : ℕ} {v : List ℕ} (h : PassPre s plan us rows bar start v) where
  abbrev b : ℕ
  b = bar.number

  pub pass_few : b < 64
  pass_few = omega (arith, h.bar_in, h.onsets.good.sixty_four)

  pub pass_low : Low v
  pass_low = low_eq v (prefix_costs s b) h.before (prefix_low s b)

  -- once more, with what the table has become
  pub pass_again : {now : List ℕ} → Sound s now → PassPre s plan us now bar start v
  pass_again sound = record {
    prepared = h.prepared;
    onsets = h.onsets;
    start_is = h.start_is;
    bar_in = h.bar_in;
    bar_is = h.bar_is;
    before = h.before;
    sound = sound;
  }

  module _ {c : ℕ} (few : c < carries) where
    pub pass_idle : {now : List ℕ} → Sound s now → Idle s bar.first (λ i. get_or v i 0) c → Rooted s now b c (vec (λ _. 64 * NONE))
    pass_idle sound idle = record {
      is = inr (
        idle_same s (λ i. get_or v i 0) (prefix_costs s b) c (at_vec (prefix_costs s b) h.before 0 (omega arith))
            (at_vec (prefix_costs s b) h.before c few)
            (subst (λ (n : ℕ). Idle s n (λ i. get_or v i 0) c) (ap (λ (x : Bar). x.first) h.bar_is) idle),
        refl,
      );
      sound = sound;
    }

    pub pass_cells : Entry s plan us rows bar start 0 (units (20160 * b)) bar.first c
    pass_cells = record {
      stands = bar_stands s h.start_is b h.prepared h.onsets h.bar_in h.bar_is;
      few = few;
      sound = h.sound;
    }

    pub pass_rooted : {now y : List ℕ} → Row s now (item_at s start 0 (units (20160 * b))) c y → Rooted s now b c y
    pass_rooted row = record {
      is = inl (row.is ∙ ap (λ g. vec (packed_cell s g c)) (bar_item_lem s h.start_is b));
      sound = row.sound;
    }
