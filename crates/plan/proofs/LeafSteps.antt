-- Steps of lowering the packed leaf cells, rule after rule.
use Prim.Native.Nat.{ℕ, ◌+◌, ◌*◌, ◌≤◌, ◌<◌, min}
use mathlib.Core.Path.{◌≡◌, refl, sym, ap, subst, ◌∙◌}
use mathlib.Core.List.{List}
use mathlib.Core.Logic.{inl, inr}
use mathlib.Core.Option.{Option, some}
use native.Mathlib.Decide.{ℕ_discrete}
use native.Mathlib.Omega.{arith}
use borrow.Author.Tests.{eq-eqb, ne_eqb}
use lib.ListN.{length, get_or, set, replicate, get_or-replicate}
use lib.Seq.{get_or-set_same, get_or-set_other}
use Rattle.slices.specs.Every.{every_some}
use Rattle.sheet.specs.declared.table.Rule as held
use Rattle.sheet.specs.declared.table.Rule.TheVariants.{Division, Leaf}
use Rattle.sheet.specs.Sheet.{Rule, leaf, Sheet}
use Rattle.sheet.specs.Good.{GoodRule, GoodRules, GoodLeaf}
use Rattle.derivations.specs.Minima.{lowest}
use Rattle.trees.specs.ValidTrees.{rule_at}
use Rattle.trees.specs.LeastTotal.{NONE}
use Rattle.expansions.specs.Tables.{unpacked_of, cell_of, RulesHeld}
use Rattle.expansions.specs.RuleCells.{leaf_rule, DivisionRule, division_rule}
use Rattle.plan.specs.Layout.{kinds, leaf_cells}
use Rattle.plan.specs.Leaves.{rule_count, leaf_cost}
use Rattle.plan.specs.Packed.{packed, packed_cap, packed_next, packed_leaf}
use Rattle.plan.proofs.RuleSteps.{cell_read}
use Rattle.plan.specs.Sections.{PackedLeaves, PackedUpto}

-- ---- what a rule costs as a leaf

this_cost : (a h w m q n : ℕ) → h ≡ q → m ≡ n → leaf_cost a q n (some (leaf h w m)) ≡ a * w
this_cost a h w m q n e f = rw (eq-eqb h q e, eq-eqb m n f)

other_cost : (a h w m q n : ℕ) → ((h ≡ q) × (m ≡ n) → ⊥) → leaf_cost a q n (some (leaf h w m)) ≡ NONE
other_cost a h w m q n f = elim (ℕ_discrete h q) [
  | yes e ↦ rw (eq-eqb h q e, ne_eqb m n (λ g. f (e, g)))
  | no k ↦ rw (ne_eqb h q k)
]

division_cost : (a q n : ℕ) (o : Option Rule) (h w k : ℕ) → DivisionRule o h w k → leaf_cost a q n o ≡ NONE
division_cost a q n o h w k (inl (e, z)) = rw e
division_cost a q n o h w k (inr (ks, e, z)) = rw e

-- a good grammar's leaf has a place in the table
pub leaf_place : (s : Sheet) → GoodRules s.grammar → (r h w n : ℕ) → rule_at s r ≡ some (leaf h w n)
    → (kinds * h + n < leaf_cells) × (n < kinds)
leaf_place s good r h w n e =
    let g : GoodLeaf s.grammar.nonterminals h w n =
    every_some (GoodRule s.grammar.nonterminals) s.grammar.rules r (leaf h w n) good.rules e in
    (omega (arith, g.head, g.kind, good.sixteen), omega (arith, g.kind))

-- ---- one rule more

-- what costs the cap lowers nothing
idle_packed : (cap : ℕ) (f : ℕ → ℕ) (i : ℕ) → f i ≡ cap → packed cap f (i + 1) ≡ packed cap f i
idle_packed cap f i e = omega (arith, packed_next cap f i, packed_cap cap f i)

module _ (s : Sheet) where
  -- no rule has been looked at
  pub packed_none : PackedUpto s (replicate leaf_cells (64 * NONE)) 0
  unfolding lowest
  packed_none q n h k = get_or-replicate leaf_cells (kinds * q + n) (64 * NONE) 0 (omega arith)

  -- every rule has
  pub packed_all : (leaves : List ℕ) (i : ℕ) → PackedUpto s leaves i → i ≡ rule_count s → PackedLeaves s leaves
  unfolding packed_leaf
  packed_all leaves i so_far e q n h k =
      so_far q n h k ∙ ap (λ (m : ℕ). packed NONE (λ r. leaf_cost s.grammar.multiplier q n (rule_at s r)) m) e

  module _ (leaves : List ℕ) (i : ℕ) (so_far : PackedUpto s leaves i) where
    -- no leaf
    idle : (h w k : ℕ) → DivisionRule (rule_at s i) h w k → PackedUpto s leaves (i + 1)
    idle h w k d q n l m =
        so_far q n l m
        ∙ sym (idle_packed NONE (λ r. leaf_cost s.grammar.multiplier q n (rule_at s r)) i (division_cost _ q n (rule_at s i) h w k d))

    -- a leaf, which may lower the cell at its place and leaves the others
    lower : (more : List ℕ) (h w m : ℕ) → rule_at s i ≡ some (leaf h w m) → m < kinds
        → get_or more (kinds * h + m) 0 ≡ min (get_or leaves (kinds * h + m) 0) (64 * (s.grammar.multiplier * w) + i)
        → ((j : ℕ) → (kinds * h + m ≡ j → ⊥) → get_or more j 0 ≡ get_or leaves j 0) → PackedUpto s more (i + 1)
    lower more h w m e few here there q n l k = elim (ℕ_discrete (kinds * h + m) (kinds * q + n)) [
      | yes same ↦
          let hq : h ≡ q = omega arith in
          let mn : m ≡ n = omega arith in
          let f : ℕ → ℕ = λ r. leaf_cost s.grammar.multiplier q n (rule_at s r) in
          let cost : f i ≡ s.grammar.multiplier * w =
          ap (leaf_cost s.grammar.multiplier q n) e ∙ this_cost s.grammar.multiplier h w m q n hq mn in
          subst (λ (j : ℕ). get_or more j 0 ≡ min (get_or leaves j 0) (64 * (s.grammar.multiplier * w) + i)) same here
          ∙ ap (λ (x : ℕ). min x (64 * (s.grammar.multiplier * w) + i)) (so_far q n l k)
          ∙ ap (λ (x : ℕ). min (packed NONE f i) (64 * x + i)) (sym cost) ∙ sym (packed_next NONE f i)
      | no apart ↦
          let f : ℕ → ℕ = λ r. leaf_cost s.grammar.multiplier q n (rule_at s r) in
          there (kinds * q + n) apart ∙ so_far q n l k
          ∙ sym (idle_packed NONE f i (ap (leaf_cost s.grammar.multiplier q n) e
          ∙ other_cost s.grammar.multiplier h w m q n (λ g. apart (omega (arith, g.0, g.1)))))
    ]

-- ---- one turn of the loop

-- the first i rules' cells, of any sheet that the tables hold
abbrev pub Lowered : (rules : List ℕ) (a : ℕ) (leaves : List ℕ) (i : ℕ) → Type 0
Lowered rules a leaves i = (s : Sheet) → RulesHeld s rules → a ≡ s.grammar.multiplier → PackedUpto s leaves i

module _ (rules : List ℕ) (a : ℕ) (leaves : List ℕ) (i : ℕ) (so_far : Lowered rules a leaves i) (below : i < 64) (rule : held.Rule)
    (is : rule ≡ unpacked_of (get_or rules i 0)) where
  cell : (s : Sheet) → RulesHeld s rules → (x : held.Rule) → rule ≡ x → cell_of (rule_at s i) ≡ x
  cell s t x e = cell_read s rules i t.rules below rule x is e

  lowered_division : (h w k : ℕ) → rule ≡ Division h w k → Lowered rules a leaves (i + 1)
  lowered_division h w k e s t m = idle s leaves i (so_far s t m) h w k (division_rule (rule_at s i) h w k (cell s t _ e))

  pub lowered_other : ((h w n : ℕ) → rule ≡ Leaf h w n → ⊥) → Lowered rules a leaves (i + 1)
  lowered_other other = go rule refl
    where
      go : (x : held.Rule) → rule ≡ x → Lowered rules a leaves (i + 1)
      go (Division h w k) e = lowered_division h w k e
      go (Leaf h w n) e = absurd (other h w n e)

  module _ (h w n : ℕ) (e : rule ≡ Leaf h w n) where
    leaf_there : (s : Sheet) → RulesHeld s rules → rule_at s i ≡ some (leaf h w n)
    leaf_there s t = leaf_rule (rule_at s i) h w n (cell s t _ e)

    -- no good grammar has this leaf
    pub lowered_past : leaf_cells ≤ kinds * h + n → Lowered rules a leaves (i + 1)
    lowered_past past s t m = absurd (omega (arith, past, (leaf_place s t.good i h w n (leaf_there s t)).0))

    -- it costs no less
    pub lowered_kept : get_or leaves (kinds * h + n) 0 ≤ 64 * (a * w) + i → Lowered rules a leaves (i + 1)
    lowered_kept more s t m =
        let r = leaf_there s t in
        lower s leaves i (so_far s t m) leaves h w n r (leaf_place s t.good i h w n r).1
        (rw (← m) (omega (arith, more))) (λ j f. refl)

    -- it costs less
    pub lowered-set : length leaves ≡ leaf_cells → kinds * h + n < leaf_cells → 64 * (a * w) + i < get_or leaves (kinds * h + n) 0
        → Lowered rules a (set leaves (kinds * h + n) (64 * (a * w) + i)) (i + 1)
    lowered-set size within less s t m =
        let r = leaf_there s t in
        lower s leaves i (so_far s t m) (set leaves (kinds * h + n) (64 * (a * w) + i)) h w n r (leaf_place s t.good i h w n r).1
        (get_or-set_same leaves (kinds * h + n) (64 * (a * w) + i) 0 (omega arith) ∙ rw (← m) (omega (arith, less)))
        (λ j f. get_or-set_other leaves (kinds * h + n) j (64 * (a * w) + i) 0 (λ g. f (sym g)))
