-- The steps of `price_of` and `price_sheet`: how far the list was read decides whether it is a tree (`not_read`, `rules_left`,
-- `onsets_left`, `tree_answer`). The bars are intervals in a row (`bars_entry`), and what is read of them is what `price_of` asks for
-- (`bars_walked`).
use Prim.Native.Nat.{ℕ, zero, suc, ◌+◌, ◌*◌, ◌≤◌, ◌<◌}
use mathlib.Core.Path.{◌≡◌, refl, sym, ap, ◌∙◌}
use mathlib.Core.List.{List, [], ◌∷◌}
use native.Mathlib.Nat.{zero-add, mul-le-mul}
use mathlib.Core.Option.{some}
use native.Mathlib.Omega.{arith}
use lib.ListN.{length, take, drop, get_or, replicate, length-replicate, drop_of_length-le}
use lib.Seq.{drop-cons}
use Rattle.sheet.specs.declared.table.GrammarTable.{GrammarTable}
use Rattle.sheet.specs.declared.table.PlayingTable.{PlayingTable}
use Rattle.sheet.specs.Sheet.{Sheet}
use Rattle.sheet.specs.Held.{grammar_table, playing_table}
use Rattle.sheet.specs.Accepted.{SheetHeld}
use Rattle.derivations.specs.Derivation.{derive}
use Rattle.derivations.specs.Reads.{reads_all, reads_more, stuck_all}
use Rattle.trees.specs.ValidTrees.{bars, total_of}
use Rattle.trees.specs.Instance.{instance_of}
use Rattle.trees.proofs.Theorems.{node_count}
use Rattle.expansions.specs.Tables.{PackedRules, unit_cells}
use Rattle.expansions.specs.Items.{interval}
use Rattle.expansions.specs.Places.{first_zero}
use Rattle.pricing.specs.declared.Progress.{Progress}
use Rattle.std.proofs.Common.{Option, Some, None}
use Rattle.sheet.specs.Outcome.{accepted}
use Rattle.pricing.specs.Pricing.{priced, no_tree, price_sheet, priced_of}
use Rattle.pricing.specs.PricingLaws.{not_derived, carried_out_lem, all_derived, none_refused}
use Rattle.pricing.specs.Clauses.{ForestPre, ForestWalked, unread, BarsWalked}

-- ---- how far the list was read

module _ (s : Sheet) (list : List ℕ) where
  pub not_read : BarsWalked s list None → price_sheet s list ≡ no_tree
  not_read h = not_derived s list (stuck_all (instance_of s) (bars s) 0 list h)

  module _ (p : Progress) (h : BarsWalked s list (Some p)) where
    pub rules_left : (p.at ≡ length list → ⊥) → price_sheet s list ≡ no_tree
    rules_left f =
        let k : p.at < length list = omega (arith, h.sized.in_list) in
        not_derived s list
        (reads_more (instance_of s) (bars s) 0 list (get_or list p.at 0) _ h.price (rw (drop-cons list p.at 0 k) at h.reads))

    all_read : p.at ≡ length list → derive (instance_of s) list (bars s) 0 ≡ some h.price
    all_read e =
        let z : drop p.at list ≡ [] = drop_of_length-le list {i = p.at} (omega arith) in
        reads_all (instance_of s) (bars s) 0 list h.price (rw z at h.reads)

    pub onsets_left : p.at ≡ length list → (p.carried ≡ 0 → ⊥) → price_sheet s list ≡ no_tree
    onsets_left e f = carried_out_lem s list h.price (all_read e) (λ z. f (h.carried ∙ z))

    pub tree_read : p.at ≡ length list → p.carried ≡ 0
        → price_sheet s list ≡ priced (length list) p.weight p.distance (total_of s p.weight p.distance)
    tree_read e z =
        rw (h.weight, h.distance) (simp zero-add (all_derived s list h.price (all_read e) (sym h.carried ∙ z)))

    pub tree_answer : p.at ≡ length list → p.carried ≡ 0 → (nodes a : ℕ) → length list ≡ nodes → s.grammar.multiplier ≡ a
        → accepted (record { nodes = nodes; weight = p.weight; distance = p.distance; total = a * p.weight + p.distance })
        ≡ priced_of (price_sheet s list)
    tree_answer e z nodes a n k =
        sym (ap priced_of (tree_read e z) ∙ (λ i. priced_of (priced (n i) p.weight p.distance (k i * p.weight + p.distance))))

    -- the total fits: a multiplier of two bytes times R, and D
    pub total_fits : (a : ℕ) → a ≤ 65535 → a * p.weight + p.distance < 18446744073709551616
    total_fits a k =
        let w : p.weight ≤ 2688507840 = omega (arith, h.sized.weight, h.sized.in_list, h.sized.short) in
        omega (arith, mul-le-mul {n₂ = 65535} {m₂ = 2688507840} k w, h.sized.distance, h.sized.onsets)

-- ---- a sheet as it is held

take-replicate : (m n a : ℕ) → m ≤ n → take m (replicate n a) ≡ replicate m a
take-replicate zero n a h = refl
take-replicate (suc m) zero a h = let f : ⊥ = omega arith in absurd f
take-replicate (suc m) (suc n) a h = ap (a ∷◌) (take-replicate m n a (omega arith))

module _ {s : Sheet} {g : GrammarTable} {p : PlayingTable} (h : SheetHeld s g p) where
  bars_are : p.bars ≡ s.playing.bars
  unfolding playing_table
  bars_are = ap (λ (x : PlayingTable). x.bars) h.playing

  count_is : p.count ≡ length s.playing.onsets
  unfolding playing_table
  count_is = ap (λ (x : PlayingTable). x.count) h.playing

  pub counts_small : (p.count ≤ 512) × (p.bars ≤ 64)
  counts_small = (omega (arith, count_is, h.good.onsets.most), omega (arith, bars_are, h.good.onsets.sixty_four))

  -- no tree has more nodes than B + 80 × N
  pub too_long : (list : List ℕ) → p.bars + 80 * p.count < length list → price_sheet s list ≡ no_tree
  too_long list k = none_refused s list (λ v. omega (arith, node_count s h.good list v, bars_are, count_is))

  -- the nonterminals of the bars
  starts : (kids : List ℕ) → kids ≡ take p.bars (replicate 64 g.start) → kids ≡ replicate s.playing.bars s.grammar.start
  unfolding grammar_table
  starts kids e =
      e ∙ take-replicate p.bars 64 g.start counts_small.1 ∙ ap (λ n. replicate n g.start) bars_are
      ∙ ap (λ (x : GrammarTable). replicate s.playing.bars x.start) h.grammar

  pub bars_entry : (cells units list kids : List ℕ) → PackedRules s.grammar cells → units ≡ unit_cells s.playing
      → length list ≤ p.bars + 80 * p.count → kids ≡ take p.bars (replicate 64 g.start)
      → ForestPre s cells g.children units list kids (interval 0 20160) unread
  unfolding grammar_table
  bars_entry cells units list kids r u k e =
      let size : length kids ≡ s.playing.bars = ap length (starts kids e) ∙ length-replicate s.playing.bars s.grammar.start in
      let small = counts_small in
      record {
        lent =
            record {
              rules = record { good = h.good.rules; rules = r };
              kids = ap (λ (x : GrammarTable). x.children) h.grammar;
              onsets = record { good = h.good.onsets; cells = u };
            };
        within = omega (arith, size, h.good.onsets.sixty_four);
        in_bar_lem = omega arith;
        from = sym (first_zero s h.good.onsets);
        sized =
            record {
              in_list = omega arith;
              short = omega (arith, small.0, small.1);
              onsets = omega arith;
              few = omega arith;
              weight = omega arith;
              distance = omega arith;
            };
      }

  pub bars_walked : (list kids : List ℕ) → kids ≡ take p.bars (replicate 64 g.start) → (w : Option Progress)
      → ForestWalked s list kids (interval 0 20160) unread w → BarsWalked s list w
  unfolding bars
  bars_walked list kids e None t = rw (starts kids e) at t
  bars_walked list kids e (Some n) t = rw (starts kids e) at t.0

  pub multiplier_is : s.grammar.multiplier ≡ g.multiplier
  unfolding grammar_table
  multiplier_is = sym (ap (λ (x : GrammarTable). x.multiplier) h.grammar)
