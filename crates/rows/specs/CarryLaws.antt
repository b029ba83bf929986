-- No more onsets are carried on from an item than are inside it: every cell to a carry state above that is the cap.
use Rattle.std.specs.Prelude.{ℕ, zero, suc, ◌+◌, ◌-◌, ◌*◌, ◌/◌, ◌≤◌, ◌<◌, ◌≡◌, refl, List, [], ◌∷◌}
use Rattle.std.proofs.Common.{sym, ◌∙◌, inl, inr, mul-le-mul_right, not-suc-le-zero, arith}
use Rattle.std.proofs.Math.Path.{ap}
use Rattle.std.proofs.Math.Option.{Option, none, some}
use Rattle.std.proofs.Math.Nat.{div-lt_self}
use Rattle.std.proofs.Math.ListN.{length}
use Rattle.slices.specs.Every.{Every}
use Rattle.sheet.specs.Sheet.{Sheet}
use Rattle.sheet.specs.Good.{GoodRules}
use Rattle.derivations.specs.Derivation.{Item, Expansion}
use Rattle.derivations.specs.Minima.{lowest, only}
use Rattle.derivations.specs.Folds.{Cells, forward, onward}
use Rattle.trees.specs.ValidTrees.{adjoining}
use Rattle.trees.specs.Instance.{onsets_in, late_count, at_division, instance_of}
use Rattle.trees.specs.LeastTotal.{NONE, carries, cell_of}
use Rattle.trees.specs.Expansions.{Step, DivisionStep, step_of, may_divide_lem, parts_whole}
use Rattle.trees.proofs.Onsets.{onsets-add, divided_long, early_late}
use Rattle.trees.proofs.Laws.{part_of, each_part}
use Rattle.trees.proofs.RoomLaws.{good_division}
use Rattle.plan.specs.Plan.{rule_count}
use Rattle.rows.specs.VectorLaws.{only_other, lowest_none}
use Rattle.rows.specs.CellLaws.{total_by, cell_rules, total_none, total_some, total_leaf}

-- a row of items none of which leaves carry state m
forward_none : (cell : Cells) (g : Item) (gs : List Item) (f : ℕ → ℕ) (m : ℕ)
    → Every (λ (h : Item). (x : ℕ) → x < 4 → cell h x m ≡ NONE) (g ∷ gs) → NONE ≤ forward carries NONE cell (g ∷ gs) f m
unfolding forward lowest
forward_none cell g [] f m e =
    omega (arith, e.0 0 (omega arith), e.0 1 (omega arith), e.0 2 (omega arith), e.0 3 (omega arith))
forward_none cell g (h ∷ gs) f m e = forward_none cell h gs (onward carries NONE f (cell g)) m e.1

module _ (s : Sheet) where
  -- an interval has no more onsets than one that it is a part of
  pub onsets_within : (l a n b : ℕ) → onsets_in s (l + a) n ≤ onsets_in s l (a + (n + b))
  onsets_within l a n b = omega (arith, onsets-add s l a (n + b), onsets-add s (l + a) n b)

  pub onsets_part : (l p k j : ℕ) → j < k → onsets_in s (l + j * p) p ≤ onsets_in s l (k * p)
  onsets_part l p k j h =
      let most : suc j * p ≤ k * p = mul-le-mul_right p h in
      let whole : k * p ≡ j * p + (p + (k * p - (j * p + p))) = omega arith in
      rw whole (onsets_within l (j * p) p (k * p - (j * p + p)))

  -- no more onsets are carried on than are inside
  abbrev CarryMost : Item → Type 0
  CarryMost g = (c m : ℕ) → c < 4 → m < 4 → onsets_in s g.left g.len < m → cell_of s g c m ≡ NONE

  module _ (good : GoodRules s.grammar) where
    carry_step : (g : Item) → ((h : Item) → h.len < g.len → CarryMost h) → CarryMost g
    unfolding at_division
    carry_step g shorter c m hc hm few =
        cell_rules s good g c m hc hm
        ∙ lowest_none NONE (total_by s g c m) (rule_count s) (λ r. by r ((instance_of s).expand g c r) refl)
      where
        parts_none : (r : ℕ) (x : Expansion) → (instance_of s).expand g c r ≡ some x
            → Every (λ (h : Item). (y : ℕ) → y < 4 → cell_of s h y m ≡ NONE) x.parts
        parts_none r x e = each_part s (λ (h : Item). (y : ℕ) → y < 4 → cell_of s h y m ≡ NONE) g c r x e (λ w ks rule may j q i y hy.
            let k = length ks in
            let fewer : onsets_in s (g.left + j * (g.len / k)) (g.len / k) ≤ onsets_in s g.left (k * (g.len / k)) =
            onsets_part g.left (g.len / k) k j i in
            let whole : k * (g.len / k) ≡ g.len = parts_whole k g.len (may_divide_lem s k g.left g.len may).0 in
            shorter (part_of g k j q)
            (div-lt_self (divided_long s k g.left g.len may) (good_division s good r g.nonterminal w ks rule).two)
            y m hy hm
            (omega (arith, fewer, ap (onsets_in s g.left) whole)))

        some_none : (gs : List Item) (f : ℕ → ℕ) → (gs ≡ [] → ⊥)
            → Every (λ (h : Item). (y : ℕ) → y < 4 → cell_of s h y m ≡ NONE) gs → NONE ≤ forward carries NONE (cell_of s) gs f m
        some_none [] f h e = absurd (h refl)
        some_none (x ∷ xs) f h e = forward_none (cell_of s) x xs f m e

        row_some : (l p : ℕ) (ks : List ℕ) → 2 ≤ length ks → adjoining l p ks ≡ [] → ⊥
        row_some l p [] h e = absurd (not-suc-le-zero h)
        row_some l p (k ∷ ks) h e = let no_item : 0 ≡ suc (length (adjoining (l + p) p ks)) = sym (ap length e) in omega arith

        divided : (r : ℕ) (x : Expansion) → (instance_of s).expand g c r ≡ some x → DivisionStep s g c r x → x.parts ≡ [] → ⊥
        divided r x e d k =
            row_some g.left (g.len / length d.kids) d.kids
            (good_division s good r g.nonterminal d.weight d.kids d.rule).two
            (sym (ap (λ (y : Expansion). y.parts) d.is) ∙ k)

        at_step : (r : ℕ) (x : Expansion) → (instance_of s).expand g c r ≡ some x → Step s g c r x → NONE ≤ total_by s g c m r
        at_step r x e (inl l) =
            omega (
              arith,
              total_leaf s g c m r (e ∙ ap some l.is),
              only_other (late_count s g.left g.len) m (λ z. omega (arith, early_late s g.left g.len)),
            )
        at_step r x e (inr d) =
            omega (
              arith,
              total_some s g c m r x e,
              some_none x.parts (only NONE x.carry) (divided r x e d) (parts_none r x e),
            )

        by : (r : ℕ) (o : Option Expansion) → (instance_of s).expand g c r ≡ o → NONE ≤ total_by s g c m r
        by r none e = omega (arith, total_none s g c m r e)
        by r (some x) e = at_step r x e (step_of s g c r x e)

    carry_to : (d : ℕ) (g : Item) → g.len < d → CarryMost g
    carry_to zero g h = absurd (not-suc-le-zero h)
    carry_to (suc d) g h = carry_step g (λ x k. carry_to d x (omega arith))

    pub carry_most : (g : Item) (c m : ℕ) → c < 4 → m < 4 → onsets_in s g.left g.len < m → cell_of s g c m ≡ NONE
    carry_most g = carry_to (suc g.len) g (omega arith)

    -- with one onset inside, to carry states 2 and 3
    pub one_none : (g : Item) → onsets_in s g.left g.len ≡ 1 → (c m : ℕ) → c < 4 → 1 < m → m < 4 → cell_of s g c m ≡ NONE
    one_none g e c m hc h k = carry_most g c m hc k (omega arith)
