-- The rule chosen at an item: of its row, whose cells hold 64 times a total and the first rule that comes to it, the least sum with 64
-- times the suffix costs behind holds the first rule that comes to the least total.
use Rattle.std.specs.Prelude.{ℕ, ◌+◌, ◌*◌, ◌%◌, ◌≤◌, ◌<◌, ◌≡◌, get_or}
use Rattle.std.proofs.Math.Path.{refl, ap}
use Rattle.std.proofs.Common.{sym, ◌∙◌}
use mathlib.Core.List.{List, [], ◌∷◌, append-nil}
use Rattle.std.proofs.Math.Option.{Option, none, some}
use Rattle.std.proofs.Math.Decide.{dec_lt}
use native.Mathlib.Omega.{arith}
use Rattle.sheet.specs.Sheet.{Sheet}
use Rattle.sheet.specs.Good.{GoodRules}
use Rattle.derivations.specs.Derivation.{Item, Expansion}
use Rattle.derivations.specs.Minima.{lowest, lowest_le, lowest_at, only, FirstPlace}
use Rattle.derivations.specs.Folds.{via, forward, backward}
use Rattle.derivations.specs.Rebuild.{rules_backward}
use Rattle.derivations.specs.Interchange.{cut_total}
use Rattle.trees.specs.Instance.{instance_of}
use Rattle.trees.specs.LeastTotal.{NONE, carries, cell_of}
use Rattle.trees.proofs.Laws.{lawful}
use Rattle.trees.proofs.Found.{cells_least}
use Rattle.plan.specs.Plan.{rule_count}
use Rattle.rows.specs.CellLaws.{total_by}
use Rattle.rows.specs.PackedLaws.{packed_cell, packed_cell_is, packed_cell_rule}
use Rattle.building.specs.Clauses.{suffix_costs, rest_total, Chosen}

-- the least sum of a row and 64 times a vector, or 64 times the cap
abbrev pub least_cell : (y v : List ℕ) → ℕ
least_cell y v = lowest (64 * NONE) (λ m. get_or y m 0 + 64 * get_or v m 0) 4

module _ (s : Sheet) (good : GoodRules s.grammar) where
  abbrev a : ℕ
  a = s.grammar.multiplier

  -- items with the suffix costs v behind them, by the forward fold and then the vector
  pub suffix_forward : (gs : List Item) (v : ℕ → ℕ) (c : ℕ) → ((x : ℕ) → v x ≤ NONE) → c < carries
      → suffix_costs s gs v c ≡ lowest NONE (λ m. forward carries NONE (cell_of s) gs (only NONE c) m + v m) carries
  unfolding backward
  suffix_forward gs v c low hc =
      ap (λ (hs : List Item). suffix_costs s hs v c) (sym (append-nil gs)) ∙ cut_total (lawful s) a NONE (cell_of s)
      (cells_least s good) gs [] v c low hc

  module _ (g : Item) (v : ℕ → ℕ) (low : (x : ℕ) → v x ≤ NONE) (c : ℕ) (hc : c < carries) where
    -- what a rule totals with v behind the item is no more than by any carry state left
    rest_below : (r m : ℕ) → m < carries → rest_total s g v c r ≤ total_by s g c m r + v m
    unfolding rest_total total_by via
    rest_below r m hm = go ((instance_of s).expand g c r) refl
      where
        go : (o : Option Expansion) → (instance_of s).expand g c r ≡ o → rest_total s g v c r ≤ total_by s g c m r + v m
        go none e = rw e (omega arith)
        go (some x) e =
            let f = forward carries NONE (cell_of s) x.parts (only NONE x.carry) in
            rw e (omega (
              arith,
              suffix_forward x.parts v x.carry low ((lawful s).fits g c r x hc e),
              lowest_le NONE (λ i. f i + v i) carries m hm,
            ))

    -- and below the cap it is that by one of them
    rest_by : (r : ℕ) → rest_total s g v c r < NONE → (m : ℕ) × (m < carries) × (total_by s g c m r + v m ≡ rest_total s g v c r)
    unfolding rest_total total_by via
    rest_by r h = go ((instance_of s).expand g c r) refl
      where
        go : (o : Option Expansion) → (instance_of s).expand g c r ≡ o
            → (m : ℕ) × (m < carries) × (total_by s g c m r + v m ≡ rest_total s g v c r)
        go none e = absurd (omega (arith, rw e at h))
        go (some x) e =
            let f = forward carries NONE (cell_of s) x.parts (only NONE x.carry) in
            let whole = suffix_forward x.parts v x.carry low ((lawful s).fits g c r x hc e) in
            let h' : a * (instance_of s).weight r + x.distance + suffix_costs s x.parts v x.carry < NONE = rw e at h in
            let (m, hm, is) = lowest_at NONE (λ i. f i + v i) carries (omega (arith, whole)) in
            (m, hm, rw e (omega (arith, whole, is)))

    -- a packed cell is no more than what is packed of a rule
    rule_above : (m r : ℕ) → r < rule_count s → packed_cell s g c m ≤ 64 * total_by s g c m r + r
    unfolding packed_cell
    rule_above m r hr = lowest_le (64 * NONE) (λ j. 64 * total_by s g c m j + j) (rule_count s) r hr

    abbrev goal : ℕ
    goal = suffix_costs s (g ∷ []) v c

    -- the least over the rules
    goal_is : lowest NONE (rest_total s g v c) (rule_count s) ≡ goal
    unfolding rest_total instance_of
    goal_is = rules_backward (lawful s) a NONE (cell_of s) (cells_least s good) g v c hc

    -- the least over the carry states left
    cells_goal : goal ≡ lowest NONE (λ m. cell_of s g c m + v m) carries
    unfolding backward
    cells_goal = refl

    module _ (reached : goal < NONE) (x : ℕ) (is : x ≡ lowest (64 * NONE) (λ m. packed_cell s g c m + 64 * v m) carries) where
      abbrev sum : ℕ → ℕ
      sum m = packed_cell s g c m + 64 * v m

      below : (m : ℕ) → m < carries → x ≤ sum m
      below m hm = omega (arith, is, lowest_le (64 * NONE) sum carries m hm)

      above : (m : ℕ) → m < carries → goal ≤ cell_of s g c m + v m
      above m hm = omega (arith, cells_goal, lowest_le NONE (λ i. cell_of s g c i + v i) carries m hm)

      -- x is 64 times the goal, and a rule
      x_below : x < 64 * goal + 64
      x_below =
          let (m, hm, e) = lowest_at NONE (λ i. cell_of s g c i + v i) carries (omega (arith, cells_goal)) in
          omega (arith, below m hm, packed_cell_is s good g c m hc hm, e, cells_goal)

      record By (m : ℕ) : Type 0 where
        few : m < carries
        is_sum : x ≡ sum m
        total : cell_of s g c m + v m ≡ goal
        rule : x % 64 ≡ packed_cell s g c m % 64

      by : (m : ℕ) × By m
      by =
          let (m, hm, e) = lowest_at (64 * NONE) sum carries (omega (arith, is, x_below)) in
          let total : cell_of s g c m + v m ≡ goal = omega (arith, is, e, x_below, packed_cell_is s good g c m hc hm, above m hm) in
          (m, record { few = hm; is_sum = is ∙ e; total = total; rule = omega (arith, is, e) })

      x_rule : x ≡ 64 * goal + x % 64
      x_rule = go by.0 by.1
        where
          go : (m : ℕ) → By m → x ≡ 64 * goal + x % 64
          go m b = omega (arith, b.is_sum, b.total, packed_cell_is s good g c m hc b.few)

      module _ {m : ℕ} (b : By m) (place : FirstPlace (total_by s g c m) (rule_count s) (x % 64)) (e : cell_of s g c m ≡ total_by s g c m
          (x % 64))
        where
          no_less : (i : ℕ) → i < rule_count s → goal ≤ rest_total s g v c i
          no_less i hi = omega (arith, goal_is, lowest_le NONE (rest_total s g v c) (rule_count s) i hi)

          least : rest_total s g v c (x % 64) ≡ goal
          least = omega (arith, no_less (x % 64) place.0, rest_below (x % 64) m b.few, e, b.total)

          -- an earlier rule would have made the sum less
          earlier : (i : ℕ) → i < x % 64 → rest_total s g v c i ≡ goal → ⊥
          earlier i hi z = by_carry (rest_by i (omega arith))
            where
              by_carry : (n : ℕ) × (n < carries) × (total_by s g c n i + v n ≡ rest_total s g v c i) → ⊥
              by_carry (n, hn, k) =
                  omega (arith, z, x_rule, below n hn, rule_above n i (omega (arith, place.0)))

          chosen_by : Chosen s g v c (x % 64)
          chosen_by = record {
            place = (place.0, (λ i hi. omega (arith, least, no_less i hi)), λ i hi. first i hi);
            total = least;
            reached = reached;
          }
            where
              first : (i : ℕ) → i < x % 64 → rest_total s g v c (x % 64) < rest_total s g v c i
              first i hi = elim (dec_lt (rest_total s g v c (x % 64)) (rest_total s g v c i)) [
                | yes k ↦ k
                | no k ↦ absurd (earlier i hi (omega (arith, least, no_less i (omega (arith, place.0)))))
              ]

      pub cell_chosen : Chosen s g v c (x % 64)
      cell_chosen = go by.0 by.1
        where
          go : (m : ℕ) → By m → Chosen s g v c (x % 64)
          go m b =
              let told = packed_cell_rule s good g c m hc b.few (omega (arith, b.total)) in
              chosen_by b (rw b.rule told.0) (rw b.rule told.1)
