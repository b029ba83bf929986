-- Steps of reading one rule of the plan: what the rule in a cell tells of the sheet's rule, and so of its cost, of how it divides a length
-- and of whether it is a leaf or a division.
use Prim.Native.Nat.{ℕ, ◌*◌, ◌<◌, ◌≤◌}
use mathlib.Core.Path.{◌≡◌, refl, sym, ap, subst, ◌∙◌}
use mathlib.Core.List.{List}
use mathlib.Core.Logic.{inl, inr}
use mathlib.Core.Option.{Option, none, some, none-ne-some}
use native.Mathlib.Nat.{mul-le-mul}
use native.Mathlib.Omega.{arith}
use lib.ListN.{length, get_or}
use Rattle.groups.specs.Groups.{note_in}
use Rattle.sheet.specs.declared.table.Rule as held
use Rattle.sheet.specs.declared.table.Rule.TheVariants.{Division, Leaf}
use Rattle.sheet.specs.Sheet.{Rule, division, leaf, Sheet}
use Rattle.sheet.specs.Held.{weight_in}
use Rattle.sheet.specs.Good.{GoodRules}
use Rattle.trees.specs.ValidTrees.{rule_at, weight_at}
use Rattle.trees.proofs.RoomLaws.{good_division}
use Rattle.expansions.specs.Tables.{unpacked_of, cell_of, PackedRules}
use Rattle.expansions.specs.RuleCells.{cell_weight, leaf≢division, leaf_rule, DivisionRule, division_rule}
use Rattle.std.specs.declared.option.Option as given
use Rattle.std.specs.declared.option.Option.TheVariants.{None, Some}
use Rattle.plan.specs.declared.Split.{Split}
use Rattle.plan.specs.Plan.{lengths, length_at, part_cell, order_cell, rule_in, multiplier_cell, lengths_cell, Prepared, DivisionAt}
use Rattle.plan.specs.Plan.{arity_of, ShapeAt, Divides, InArities, PartsOf, NoDivision, SplitAt}
use Rattle.plan.specs.PlanLaws.{part_listed}
use Rattle.plan.specs.HeadLaws.{place_division, place_arity}

-- the sheet's rule has the cell that was read
pub cell_read : (s : Sheet) (cells : List ℕ) (r : ℕ) → PackedRules s.grammar cells → r < 64 → (rule x : held.Rule)
    → rule ≡ unpacked_of (get_or cells r 0) → rule ≡ x → cell_of (rule_at s r) ≡ x
cell_read s cells r packed below rule x is e = sym (packed r below) ∙ sym is ∙ e

-- the number of parts in a cell
division_arity : (o : Option Rule) (h w k : ℕ) → cell_of o ≡ Division h w k → k ≡ arity_of o
division_arity none h w k e = cc
division_arity (some (leaf a b n)) h w k e = absurd (leaf≢division _ _ _ _ _ _ e)
division_arity (some (division a b ks)) h w k e = cc

-- how a division divides a length, by the parts of the length
division_split : (s : Sheet) → GoodRules s.grammar → (q l r : ℕ) (x : given.Option Split) → l < lengths s → (w : ℕ) (ks : List ℕ)
    → rule_at s r ≡ some (division q w ks) → PartsOf s l (length ks) x → SplitAt s q l r x
division_split s good q l r None within w ks is idle = none_divides
  where
    none_divides : NoDivision s q l r
    none_divides v js there divided =
        let same : js ≡ ks = let both : some (division q v js) ≡ some (division q w ks) = sym there ∙ is in cc both in
        let fit = good_division s good r q w ks is in
        let (i, less, whole) = part_listed s good r l q v js within there divided in
        idle fit.two fit.eight i less (subst (λ (ms : List ℕ). length_at s l ≡ length ms * length_at s i) same whole)
division_split s good q l r (Some x) within w ks is parts = record {
  weight = w;
  parts = ks;
  rule = is;
  count = sym parts.into;
  shorter = parts.shorter;
  whole = rw parts.into parts.whole;
}

-- a times a weight
pub weighted_most : (a w : ℕ) → a < 65536 → w < 65536 → a * w ≤ 4294836225
weighted_most a w h l = mul-le-mul {n₁ = a} {m₁ = w} {n₂ = 65535} {m₂ = 65535} (omega arith) (omega arith)

pub cost_most : (s : Sheet) (plan : List ℕ) → Prepared s plan → (w : ℕ) → w < 65536 → multiplier_cell plan * w ≤ 4294836225
cost_most s plan p w l = weighted_most (multiplier_cell plan) w (omega (arith, p.multiplier, p.good.multiplier)) l

module _ (s : Sheet) (plan : List ℕ) (r : ℕ) (rule : held.Rule) (below : r < 64) (is : rule ≡ unpacked_of (get_or plan r 0))
    (p : Prepared s plan) where
  cell : (x : held.Rule) → rule ≡ x → cell_of (rule_at s r) ≡ x
  cell x e = cell_read s plan r p.rules below rule x is e

  -- ---- its cost

  pub rule_cost : multiplier_cell plan * weight_in rule ≡ s.grammar.multiplier * weight_at s r
  unfolding weight_at
  rule_cost =
      rw p.multiplier (ap (λ (x : ℕ). s.grammar.multiplier * x) (ap weight_in (sym (cell rule refl)) ∙ cell_weight (rule_at s r)))

  -- ---- what it is as a division

  pub division_shape : (h w k : ℕ) → rule ≡ Division h w k → (k ≡ 0 → ⊥) → ShapeAt s r (Some (record { head = h; arity = k }))
  division_shape h w k e f = record { arity = division_arity (rule_at s r) h w k (cell _ e); some_parts = f; head = same }
    where
      same : (q v : ℕ) (ks : List ℕ) → rule_at s r ≡ some (division q v ks) → h ≡ q
      same q v ks o = let is : Division h w k ≡ Division q v (length ks) = sym (cell _ e) ∙ ap cell_of o in cc is

  -- a cell past the rules is a division without parts
  pub empty_shape : (h w k : ℕ) → rule ≡ Division h w k → k ≡ 0 → ShapeAt s r None
  empty_shape h w k e z = sym (division_arity (rule_at s r) h w k (cell _ e)) ∙ z

  pub leaf_shape : (h w n : ℕ) → rule ≡ Leaf h w n → ShapeAt s r None
  leaf_shape h w n e = sym (ap arity_of (sym (leaf_rule (rule_at s r) h w n (cell _ e))))

  -- ---- how it divides

  pub no_division : (h w n q l : ℕ) → rule ≡ Leaf h w n → SplitAt s q l r None
  no_division h w n q l e = λ v ks o. absurd (leaf≢division _ _ _ _ _ _ (sym (cell _ e) ∙ ap cell_of o))

  pub other_head : (h w k q l : ℕ) → rule ≡ Division h w k → (h ≡ q → ⊥) → SplitAt s q l r None
  other_head h w k q l e f =
      λ v ks o. let same : Division h w k ≡ Division q v (length ks) = sym (cell _ e) ∙ ap cell_of o in absurd (f (cc same))

  -- where there is no rule there are no parts
  no_rule : (k q l : ℕ) (x : given.Option Split) → rule_at s r ≡ none → k ≡ 0 → InArities x → PartsOf s l k x → SplitAt s q l r x
  no_rule k q l None o z _ _ = λ v ks there. absurd (none-ne-some _ (sym o ∙ there))
  no_rule k q l (Some x) o z many parts = absurd (omega (arith, many.0, parts.into, z))

  pub same_head : (h w k q l : ℕ) (x : given.Option Split) → rule ≡ Division h w k → h ≡ q → InArities x → PartsOf s l k x → l < lengths s
      → SplitAt s q l r x
  same_head h w k q l x e head many parts within = go (division_rule (rule_at s r) h w k (cell _ e))
    where
      go : DivisionRule (rule_at s r) h w k → SplitAt s q l r x
      go (inl (o, z)) = no_rule k q l x o z many parts
      go (inr (ks, o, z)) =
          division_split s p.good q l r x within w ks (rw (← head) o) (subst (λ (m : ℕ). PartsOf s l m x) z parts)

-- ---- how the rule at a place divides a length

-- the rule at a place of a nonterminal's divisions, by the parts of the length
pub placed_split : (s : Sheet) (plan : List ℕ) (l i q : ℕ) (x : given.Option Split) → Prepared s plan → DivisionAt plan q i → l < lengths s
    → PartsOf s l (note_in (order_cell plan i)) x → SplitAt s q l (rule_in plan i) x
placed_split s plan l i q x p d within parts =
    let (w, ks, is) = place_division p d.head d.begun d.less in
    let arity : note_in (order_cell plan i) ≡ length ks = place_arity p d.head d.begun d.less ∙ ap arity_of is in
    division_split s p.good q l (rule_in plan i) x within w ks is (subst (λ (m : ℕ). PartsOf s l m x) arity parts)

-- a length in k parts, by the index that the plan has of a part
module _ (s : Sheet) (plan : List ℕ) (l k : ℕ) (p : Prepared s plan) where
  -- fewer than two parts are no division, nor are more than eight
  pub no_arity : (2 ≤ k → k ≤ 8 → ⊥) → PartsOf s l k None
  no_arity f = λ a b. absurd (f a b)

  module _ (within : l < lengths s) (two : 2 ≤ k) (eight : k ≤ 8) where
    pub no_part : lengths_cell plan ≤ part_cell plan l k → PartsOf s l k None
    no_part past = λ a b. (p.part l k within two eight).none (omega (arith, p.lengths_are))

    pub some_part : part_cell plan l k < lengths_cell plan → PartsOf s l k (Some (record { arity = k; part = part_cell plan l k }))
    some_part less =
        let shorter : part_cell plan l k < lengths s = omega (arith, p.lengths_are) in
        record { into = refl; shorter = shorter; whole = (p.part l k within two eight).is shorter }
