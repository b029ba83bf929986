-- The steps of `expand`: what becomes of a rule at an item is the instance's expansion.
use Prim.Native.Nat.{ℕ, ◌+◌, ◌≤◌}
use mathlib.Core.Path.{◌≡◌, refl, sym, ap, ◌∙◌}
use mathlib.Core.Bool.{true, false, cond}
use mathlib.Core.Logic.{inl, inr}
use mathlib.Core.List.{List}
use mathlib.Core.Option.{none, some, Option-elim}
use Rattle.std.proofs.Common.{Option, Some, None}
use native.Mathlib.Decide.{dec_le, ℕ_discrete}
use native.Mathlib.Omega.{arith}
use borrow.Author.Tests.{eq-eqb, ne_eqb, le-leb, lt-leb}
use lib.Dec.{eqb, leb}
use lib.ListN.{length}
use Rattle.slices.specs.Every.{every_some}
use Rattle.sheet.specs.declared.table.Rule.TheVariants as cell
use Rattle.sheet.specs.Sheet.{division, leaf, Sheet}
use Rattle.sheet.specs.Sheet as meaning
use Rattle.sheet.specs.Good.{GoodRule, GoodRules}
use Rattle.trees.specs.ValidTrees.{rule_at, may_divide, token}
use Rattle.trees.specs.Instance.{early_count, late_count, at_leaf, at_division, expand_by, instance_of}
use Rattle.trees.specs.Expansions.{leaf_expands, division_expands}
use Rattle.expansions.specs.declared.Interval.{Interval}
use Rattle.expansions.specs.declared.Expansion.{Expansion}
use Rattle.expansions.specs.declared.Expansion.TheVariants.{Leaf, Division}
use Rattle.expansions.specs.Tables.{cell_of}
use Rattle.expansions.specs.RuleCells.{DivisionRule, division_rule}
use Rattle.expansions.specs.Items.{first_at, item_of, LeafFits, LeafUnfit, AsLeaf, AsDivision, LeafMade, DivisionMade, Expands}

module _ (s : Sheet) (q : ℕ) (over : Interval) (c r : ℕ) where
  expand_by_lem : (ru : meaning.Rule) → rule_at s r ≡ some ru
      → (instance_of s).expand (item_of q over) c r ≡ expand_by s (item_of q over) c ru
  unfolding instance_of Option-elim
  expand_by_lem ru e = rw e

  pub leaf_other : (h w n : ℕ) → rule_at s r ≡ some (leaf h w n) → (h ≡ q → ⊥) → (instance_of s).expand (item_of q over) c r ≡ none
  unfolding expand_by
  leaf_other h w n e d = expand_by_lem (leaf h w n) e ∙ rw (ne_eqb h q d)

  pub division_other : (h w : ℕ) (ks : List ℕ) → rule_at s r ≡ some (division h w ks) → (h ≡ q → ⊥)
      → (instance_of s).expand (item_of q over) c r ≡ none
  unfolding expand_by
  division_other h w ks e d = expand_by_lem (division h w ks) e ∙ rw (ne_eqb h q d)

  -- a leaf of the item's head that does not fit
  leaf_unfit : (w n : ℕ) → rule_at s r ≡ some (leaf q w n) → LeafUnfit s over c n → (instance_of s).expand (item_of q over) c r ≡ none
  unfolding expand_by
  leaf_unfit w n e u = expand_by_lem (leaf q w n) e ∙ rw (eq-eqb q q refl) (go (dec_le l 3) (ℕ_discrete n k))
    where
      l : ℕ
      l = late_count s over.left.0 over.len.0

      k : ℕ
      k = token (c + early_count s over.left.0 over.len.0) (first_at s over.left.0)

      go : Dec (l ≤ 3) → Dec (n ≡ k) → cond (leb l 3) (cond (eqb n k) (some (at_leaf s (item_of q over))) none) none ≡ none
      go (no a) b = rw (lt-leb l 3 (omega arith))
      go (yes a) (no b) = rw (le-leb l 3 a, ne_eqb n k b)
      go (yes a) (yes b) = absurd (u a b)

  leaf_made : (w n e l d : ℕ) → rule_at s r ≡ some (leaf q w n) → LeafFits s over.left.0 over.len.0 c n e l d
      → LeafMade s (item_of q over) c r w e l d
  leaf_made w n e l d f m =
      let few : late_count s over.left.0 over.len.0 ≤ 3 = omega (arith, m.few, m.counts.late) in
      let kind = m.kind ∙ ap (λ x. token (c + x) (first_at s over.left.0)) m.counts.early in
      record {
        n = n;
        rule = f;
        expands =
            leaf_expands s (item_of q over) c r (at_leaf s (item_of q over))
            (record { weight = w; n = n; rule = f; few_late = few; kind_fits = kind; is = refl });
        fits = m;
      }

  pub leaf_as : (h w n : ℕ) (x : Option Expansion) → rule_at s r ≡ some (leaf h w n) → h ≡ q → AsLeaf s over c w n x
      → Expands s (item_of q over) c r x
  leaf_as h w n None e d a = leaf_unfit w n (rw d at e) a
  leaf_as h w n (Some (Leaf v i l f)) e d (av, fit) = rw av (leaf_made w n i l f (rw d at e) fit)
  leaf_as h w n (Some (Division v k)) e d a = absurd a

  -- a division of the item's head that is not allowed
  division_unfit : (w : ℕ) (ks : List ℕ) → rule_at s r ≡ some (division q w ks)
      → may_divide s (length ks) over.left.0 over.len.0 ≡ false → (instance_of s).expand (item_of q over) c r ≡ none
  unfolding expand_by
  division_unfit w ks e u = expand_by_lem (division q w ks) e ∙ rw (eq-eqb q q refl, u)

  division_made : (w k : ℕ) (ks : List ℕ) → rule_at s r ≡ some (division q w ks) → k ≡ length ks
      → may_divide s (length ks) over.left.0 over.len.0 ≡ true → DivisionMade s (item_of q over) c r w k
  division_made w k ks e f a =
      record {
        parts = ks;
        rule = e;
        count = f;
        allowed = a;
        expands =
            division_expands s (item_of q over) c r (at_division (item_of q over) c ks)
            (record { weight = w; kids = ks; rule = e; allowed = a; is = refl });
      }

  -- an accepted sheet's divisions have two parts or more
  some_parts : GoodRules s.grammar → (h w : ℕ) (ks : List ℕ) → rule_at s r ≡ some (division h w ks) → 2 ≤ length ks
  some_parts good h w ks e = (every_some (GoodRule s.grammar.nonterminals) s.grammar.rules r _ good.rules e).two

  division_by_lem : (w k : ℕ) (ks : List ℕ) (x : Option Expansion) → rule_at s r ≡ some (division q w ks) → k ≡ length ks → (k ≡ 0 → ⊥)
      → AsDivision s over w k x → Expands s (item_of q over) c r x
  division_by_lem w k ks None e f z a =
      division_unfit w ks e (ap (λ j. may_divide s j over.left.0 over.len.0) (sym f) ∙ a z)
  division_by_lem w k ks (Some (Leaf v i l d)) e f z a = absurd a
  division_by_lem w k ks (Some (Division v j)) e f z (av, aj, am, az) =
      rw (av, aj) (division_made w k ks e f (ap (λ j. may_divide s j over.left.0 over.len.0) (sym f) ∙ am))

  -- where the table has a division of no parts, the sheet has no rule
  none_by : (w : ℕ) (x : Option Expansion) → rule_at s r ≡ none → AsDivision s over w 0 x → Expands s (item_of q over) c r x
  unfolding instance_of Option-elim
  none_by w None e a = rw e
  none_by w (Some (Leaf v i l d)) e a = absurd a
  none_by w (Some (Division v j)) e (av, aj, am, az) = absurd (az aj)

  pub division_as : GoodRules s.grammar → (h w k : ℕ) (x : Option Expansion) → cell_of (rule_at s r) ≡ cell.Division h w k → h ≡ q
      → AsDivision s over w k x → Expands s (item_of q over) c r x
  division_as good h w k x e d a = go (division_rule (rule_at s r) h w k e)
    where
      go : DivisionRule (rule_at s r) h w k → Expands s (item_of q over) c r x
      go (inl (n, z)) = none_by w x n (rw z at a)
      go (inr (ks, f, z)) =
          division_by_lem w k ks x (rw d at f) z (λ y. omega (arith, some_parts good h w ks f)) a

  pub division_not : (h w k : ℕ) → cell_of (rule_at s r) ≡ cell.Division h w k → (h ≡ q → ⊥)
      → (instance_of s).expand (item_of q over) c r ≡ none
  unfolding instance_of Option-elim
  division_not h w k e d = go (division_rule (rule_at s r) h w k e)
    where
      go : DivisionRule (rule_at s r) h w k → (instance_of s).expand (item_of q over) c r ≡ none
      go (inl (n, z)) = rw n
      go (inr (ks, f, z)) = division_other h w ks f d
