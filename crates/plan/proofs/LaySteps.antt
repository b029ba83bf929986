-- Steps of laying a section into the plan, cell after cell.
use Prim.Native.Nat.{ℕ, ◌+◌, ◌*◌, ◌≤◌, ◌<◌}
use mathlib.Core.Path.{◌≡◌, refl, ap, ◌∙◌}
use mathlib.Core.List.{List}
use native.Mathlib.Decide.{dec_lt}
use native.Mathlib.Omega.{arith}
use borrow.Author.Rules.{rules}
use borrow.Rule.Slice.PartMut.{put_mid}
use Rattle.std.proofs.lemmas.List.{places}
use lib.ListN.{length, set, get_or, length-set}
use lib.Seq.{get_or-set_same, get_or-set_other}
use Rattle.groups.specs.Groups.{numbers_most, first_cells}
use Rattle.plan.specs.Layout.{leaf_cells, children_at, leaves_at, lengths_at, part_lengths_at, order_at, first_at}
use Rattle.plan.specs.Layout.{savings_at, multiplier_at, nonterminals_at, length_count_at, plan_cells}
use Rattle.plan.specs.Plan.{saved_cell}
use Rattle.plan.specs.Sections.{MostSaved, Laid, TablesLaid, PartsLaid, GroupsLaid, NumbersLaid, WaysLaid, Sections}

pub laid_none : (f : ℕ → ℕ) (xs : List ℕ) (at : ℕ) → Laid f xs xs at 0
laid_none f xs at = record { size = refl; each = λ i h. absurd (omega arith); kept = λ i h. refl }

module _ {f : ℕ → ℕ} {xs ys : List ℕ} {at m : ℕ} (so_far : Laid f xs ys at m) where
  pub laid_more : {v : ℕ} → at + m < length xs → v ≡ f m → Laid f xs (set ys (at + m) v) at (m + 1)
  laid_more {v} room is = record {
    size = length-set ys (at + m) v ∙ so_far.size;
    each = λ i h. elim (dec_lt i m) [
      | yes l ↦ get_or-set_other ys (at + m) (at + i) v 0 (λ e. omega arith) ∙ so_far.each i l
      | no n ↦
          let here : i ≡ m = omega arith in
          rw here (get_or-set_same ys (at + m) v 0 (omega (arith, so_far.size)) ∙ is)
    ];
    kept = λ i h. get_or-set_other ys (at + m) i v 0 (λ e. omega arith) ∙ so_far.kept i h;
  }

-- a table copied to its place
pub laid_copied : (xs ys table : List ℕ) (at k : ℕ) → ys ≡ table → k ≡ length table → at + length table ≤ length xs
    → Laid (λ i. get_or table i 0) xs (put_mid at k xs ys) at (length table)
laid_copied xs ys table at k is size within = rw (is, size) (record {
  size = search (rules, places);
  each = λ i h. search (rules, places);
  kept = λ i h. search (rules, places);
})

-- ---- sections together

pub tables_laid : {rules children leaves lens plan one two three four : List ℕ} {m n : ℕ} → length plan ≡ plan_cells → m ≡ 64
    → n ≡ leaf_cells
    → Laid (λ i. get_or rules i 0) plan one 0 m → Laid (λ i. get_or children i 0) one two children_at 512
    → Laid (λ i. get_or leaves i 0) two three leaves_at n → Laid (λ i. get_or lens i 0) three four lengths_at 84
    → TablesLaid rules children leaves lens four
tables_laid {one = one} size em en a b c d = record {
  size = d.size ∙ c.size ∙ b.size ∙ a.size ∙ size;
  rule = λ i h. d.kept i (omega arith) ∙ c.kept i (omega arith) ∙ b.kept i (omega arith)
      ∙ ap (λ (j : ℕ). get_or one j 0) (front i) ∙ a.each i (omega arith);
  child = λ i h. d.kept (children_at + i) (omega arith) ∙ c.kept (children_at + i) (omega arith) ∙ b.each i h;
  leaf = λ i h. d.kept (leaves_at + i) (omega arith) ∙ c.each i (omega arith);
  length-at = λ i h. d.each i h;
}
  where
    front : (i : ℕ) → i ≡ 0 + i
    front i = omega arith

pub groups_laid : {order first before middle after : List ℕ} {m n : ℕ} → m ≡ numbers_most → n ≡ first_cells
    → Laid (λ i. get_or order i 0) before middle order_at m → Laid (λ i. get_or first i 0) middle after first_at n
    → GroupsLaid order first before after
groups_laid em en a b = record {
  size = b.size ∙ a.size;
  order_at_lem = λ i h. b.kept (order_at + i) (omega arith) ∙ a.each i (omega arith);
  first_at_lem = λ i h. b.each i (omega arith);
  kept = λ i h. b.kept i (omega arith) ∙ a.kept i h;
}

-- ---- what carry states save, and the three numbers

-- what the first c carry states save
pub record SavedLaid (leaves : List ℕ) (heads : ℕ) (before after : List ℕ) (c : ℕ) : Type 0 where
  pub size : length after ≡ length before
  pub each : (i : ℕ) → i < c → MostSaved leaves heads i (saved_cell after i)
  pub kept : (i : ℕ) → i < savings_at → get_or after i 0 ≡ get_or before i 0

pub saved_none : {leaves : List ℕ} {heads : ℕ} {plan : List ℕ} → SavedLaid leaves heads plan plan 0
saved_none = record { size = refl; each = λ i h. absurd (omega arith); kept = λ i h. refl }

module _ {leaves : List ℕ} {heads : ℕ} {before after : List ℕ} {c : ℕ} (so_far : SavedLaid leaves heads before after c)
    (size : length before ≡ plan_cells) where
  pub saved_more : {x : ℕ} → c < 4 → MostSaved leaves heads c x
      → SavedLaid leaves heads before (set after (savings_at + c) x) (c + 1)
  saved_more {x} less is = record {
    size = length-set after (savings_at + c) x ∙ so_far.size;
    each = λ i h. elim (dec_lt i c) [
      | yes l ↦ rw (get_or-set_other after (savings_at + c) (savings_at + i) x 0 (λ e. omega arith)) (so_far.each i l)
      | no n ↦
          let here : i ≡ c = omega arith in
          rw (here, get_or-set_same after (savings_at + c) x 0 (omega (arith, so_far.size, size))) is
    ];
    kept = λ i h. get_or-set_other after (savings_at + c) i x 0 (λ e. omega arith) ∙ so_far.kept i h;
  }

  pub numbers_laid : {a count : ℕ} → 4 ≤ c
      → NumbersLaid leaves a heads count before (set (set (set after multiplier_at a) nonterminals_at heads) length_count_at count)
  numbers_laid {a} {count} all = record {
    size = length-set two length_count_at count ∙ length-set one nonterminals_at heads ∙ length-set after multiplier_at a ∙ so_far.size;
    saved = λ i h. rw (other (savings_at + i) (omega arith)) (so_far.each i (omega arith));
    multiplier =
        get_or-set_other two length_count_at multiplier_at count 0 (λ e. omega arith)
        ∙ get_or-set_other one nonterminals_at multiplier_at heads 0 (λ e. omega arith)
        ∙ get_or-set_same after multiplier_at a 0 (omega (arith, so_far.size, size));
    nonterminals =
        get_or-set_other two length_count_at nonterminals_at count 0 (λ e. omega arith)
        ∙ get_or-set_same one nonterminals_at heads 0 (omega (arith, length-set after multiplier_at a, so_far.size, size));
    lengths =
        get_or-set_same two length_count_at count 0
        (omega (arith, length-set one nonterminals_at heads, length-set after multiplier_at a, so_far.size, size));
    kept = λ i h. other i (omega arith) ∙ so_far.kept i h;
  }
    where
      one : List ℕ
      one = set after multiplier_at a

      two : List ℕ
      two = set one nonterminals_at heads

      other : (i : ℕ) → i < multiplier_at → get_or (set two length_count_at count) i 0 ≡ get_or after i 0
      other i h =
          get_or-set_other two length_count_at i count 0 (λ e. omega arith)
          ∙ get_or-set_other one nonterminals_at i heads 0 (λ e. omega arith)
          ∙ get_or-set_other after multiplier_at i a 0 (λ e. omega arith)

-- ---- all sections

module _ {rules children leaves lens order first : List ℕ} {a heads count n : ℕ} {one two three four five : List ℕ}
    (tables : TablesLaid rules children leaves lens one) (parts : PartsLaid lens count one two count)
    (groups : GroupsLaid order first two three) (numbers : NumbersLaid leaves a heads count three four)
    (ways : WaysLaid rules children leaves a four five n) (few : count ≤ 84) where
  -- what later sections keep
  from_three : (i : ℕ) → i < savings_at → get_or five i 0 ≡ get_or three i 0
  from_three i h = ways.kept i (omega arith) ∙ numbers.kept i h

  from_two : (i : ℕ) → i < order_at → get_or five i 0 ≡ get_or two i 0
  from_two i h = from_three i (omega arith) ∙ groups.kept i h

  from_one : (i : ℕ) → i < part_lengths_at → get_or five i 0 ≡ get_or one i 0
  from_one i h = from_two i (omega arith) ∙ parts.kept i h

  pub sections_laid : Sections rules children leaves lens order first a heads count n five
  sections_laid = record {
    rule = λ i h. from_one i (omega arith) ∙ tables.rule i h;
    child = λ i h. from_one (children_at + i) (omega arith) ∙ tables.child i h;
    leaf = λ i h. from_one (leaves_at + i) (omega arith) ∙ tables.leaf i h;
    length-at = λ i h. from_one (lengths_at + i) (omega arith) ∙ tables.length-at i h;
    part = λ l k h two nine. rw (from_two (part_lengths_at + 9 * l + k) (omega arith)) (parts.each l k h two nine);
    order_at_lem = λ i h. from_three (order_at + i) (omega arith) ∙ groups.order_at_lem i h;
    first_at_lem = λ k h. from_three (first_at + k) (omega arith) ∙ groups.first_at_lem k h;
    saved = λ c h. rw (ways.kept (savings_at + c) (omega arith)) (numbers.saved c h);
    multiplier = ways.kept multiplier_at (omega arith) ∙ numbers.multiplier;
    nonterminals = ways.kept nonterminals_at (omega arith) ∙ numbers.nonterminals;
    lengths = ways.kept length_count_at (omega arith) ∙ numbers.lengths;
    way = ways.each;
  }
