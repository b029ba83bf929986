-- The cells of a sheet by its rules: a cell is the lesser of what a leaf totals and of what the divisions total. The text of the cells is
-- unfolded in the first two laws alone.
use Prim.Native.Nat.{ℕ, ◌+◌, ◌*◌, ◌/◌, ◌%◌, ◌≤◌, ◌<◌, min}
use Rattle.std.specs.Prelude.{◌≡◌, true, false}
use Rattle.std.proofs.Math.Path.{refl, ap}
use Rattle.std.proofs.Common.{sym, ◌∙◌, arith}
use Rattle.std.proofs.lemmas.Bool.{false≢true}
use mathlib.Core.List.{List}
use Rattle.std.proofs.Math.Logic.{inl, inr}
use Rattle.std.proofs.Math.Option.{Option, none, some, Option-elim, none-ne-some}
use Rattle.std.proofs.Math.Nat.{add-zero, mul-mod_right, mul-div_cancel_left}
use Rattle.std.proofs.Math.Decide.{dec_le, ℕ_discrete}
use borrow.Author.Tests.{eq-eqb, ne_eqb, lt-ltb}
use Rattle.std.proofs.Math.ListN.{length}
use Rattle.sheet.specs.Sheet.{Rule, division, leaf, Sheet}
use Rattle.sheet.specs.Good.{GoodRules}
use Rattle.derivations.specs.Derivation.{Item, Expansion}
use Rattle.derivations.specs.Minima.{lowest, only}
use Rattle.derivations.specs.Folds.{via, rule_total, forward}
use Rattle.derivations.specs.Cells.{cell_cap, cell_step}
use Rattle.trees.specs.ValidTrees.{onsets_before, adjoining, rule_at, may_divide, token, weight_of, weight_at}
use Rattle.trees.specs.Instance.{onsets_in, early_count, late_count, own_distance, at_leaf, at_division, instance_of}
use Rattle.trees.specs.LeastTotal.{NONE, carries, cell_of}
use Rattle.trees.specs.Expansions.{Step, step_of, leaf_expands, division_expands, may_divide_lem}
use Rattle.trees.proofs.Onsets.{early_late, own_distance_most}
use Rattle.trees.proofs.Laws.{lawful, falls}
use Rattle.plan.specs.Leaves.{rule_count, leaf_cost, least_leaf}
use Rattle.rows.specs.VectorLaws.{only_other, lowest_capped, lowest_both, lowest_more, lowest_none}

-- what a leaf at an item totals that c onsets are carried into, by carry state behind it: the least leaf rule of the kind of what is placed
-- and lies before
unfoldable pub leaf_total : Sheet → Item → (c m : ℕ) → ℕ
unfolding least_leaf early_count onsets_before own_distance late_count only
leaf_total s g c m =
    min NONE
    (least_leaf s g.nonterminal (token (c + early_count s g.left g.len) (onsets_before s g.left))
    + own_distance s g.left g.len + only NONE (late_count s g.left g.len) m)

-- what rule r totals at an item from carry state c to m, its parts by the cells
unfoldable pub total_by : Sheet → Item → (c m r : ℕ) → ℕ
unfolding cell_of
total_by s g c m r =
    rule_total (instance_of s) s.grammar.multiplier NONE (λ parts k. forward carries NONE (cell_of s) parts (only NONE k) m) g c r

-- the same of a division; the cap of any other rule
abbrev pub division_by : Option Rule → ℕ → ℕ
division_by none x = NONE
division_by (some (leaf h w n)) x = NONE
division_by (some (division h w ks)) x = x

unfoldable pub division_total : Sheet → Item → (c m r : ℕ) → ℕ
division_total s g c m r = division_by (rule_at s r) (total_by s g c m r)

leaf_head : {h w n h' w' n' : ℕ} → some (leaf h w n) ≡ some (leaf h' w' n') → h ≡ h'
leaf_head e = cc

leaf_n : {h w n h' w' n' : ℕ} → some (leaf h w n) ≡ some (leaf h' w' n') → n ≡ n'
leaf_n e = cc

pub leaf_no_division : {h w n h' w' : ℕ} {ks : List ℕ} → some (leaf h w n) ≡ some (division h' w' ks) → ⊥
leaf_no_division e = let f : false ≡ true = cc in false≢true f

pub leaf_total_most : (s : Sheet) (g : Item) (c m : ℕ) → leaf_total s g c m ≤ NONE
unfolding leaf_total
leaf_total_most s g c m = omega arith

module _ (s : Sheet) where
  pub cell_none : (g : Item) (c m : ℕ) → cell_of s g c m ≤ NONE
  unfolding cell_of
  cell_none g c m = cell_cap (instance_of s) s.grammar.multiplier NONE carries (λ g. g.len) g c m

  pub cell_rules : GoodRules s.grammar → (g : Item) (c m : ℕ) → c < 4 → m < 4
      → cell_of s g c m ≡ lowest NONE (total_by s g c m) (rule_count s)
  unfolding total_by cell_of instance_of
  cell_rules good g c m hc hm = cell_step (lawful s) s.grammar.multiplier NONE (λ g. g.len) (falls s good) g c m hc hm

  module _ (g : Item) (c m r : ℕ) where
    -- a rule that makes no expansion, and one that does
    pub total_none : (instance_of s).expand g c r ≡ none → total_by s g c m r ≡ NONE
    unfolding total_by via
    total_none e = rw e

    pub total_some : (x : Expansion) → (instance_of s).expand g c r ≡ some x
        → total_by s g c m r
        ≡ s.grammar.multiplier * weight_at s r + x.distance + forward carries NONE (cell_of s) x.parts (only NONE x.carry) m
    unfolding total_by via instance_of
    total_some x e = rw e

  -- a rule's weight
  pub weight_is : (r : ℕ) (ru : Rule) → rule_at s r ≡ some ru → weight_at s r ≡ weight_of ru
  unfolding weight_at Option-elim
  weight_is r ru e = rw e

  -- ---- a leaf or a division

  -- what a leaf adds to its rule's cost
  abbrev pub behind_leaf : Item → (m : ℕ) → ℕ
  behind_leaf g m = own_distance s g.left g.len + only NONE (late_count s g.left g.len) m

  abbrev pub kind_of : Item → (c : ℕ) → ℕ
  kind_of g c = token (c + early_count s g.left g.len) (onsets_before s g.left)

  abbrev pub cost_as_leaf : Item → (c : ℕ) → Option Rule → ℕ
  cost_as_leaf g c o = leaf_cost s.grammar.multiplier g.nonterminal (kind_of g c) o

  pub total_leaf : (g : Item) (c m r : ℕ) → (instance_of s).expand g c r ≡ some (at_leaf s g)
      → total_by s g c m r ≡ s.grammar.multiplier * weight_at s r + behind_leaf g m
  unfolding at_leaf forward
  total_leaf g c m r e = omega (arith, total_some g c m r (at_leaf s g) e)

  module _ (g : Item) (c m r : ℕ) (hm : m < 4) where
    abbrev pub Splits : Option Rule → Type 0
    Splits o = min NONE (total_by s g c m r) ≡ min NONE (min (cost_as_leaf g c o + behind_leaf g m) (division_by o (total_by s g c m r)))

    -- a leaf rule: more than three late onsets are no carry state
    leaf_splits : (h w n : ℕ) → rule_at s r ≡ some (leaf h w n) → Splits (some (leaf h w n))
    leaf_splits h w n rule = go ((instance_of s).expand g c r) refl
      where
        unfit : (instance_of s).expand g c r ≡ none → NONE ≤ cost_as_leaf g c (some (leaf h w n)) + behind_leaf g m
        unfit e = elim (ℕ_discrete h g.nonterminal) [
          | no k ↦ rw (ne_eqb h g.nonterminal k) (omega arith)
          | yes p ↦ elim (ℕ_discrete n (kind_of g c)) [
            | no k ↦ rw (eq-eqb h g.nonterminal p, ne_eqb n (kind_of g c) k) (omega arith)
            | yes q ↦ elim (dec_le (late_count s g.left g.len) 3) [
              | no k ↦ omega (arith, only_other (late_count s g.left g.len) m (λ x. omega arith))
              | yes l ↦ absurd (none-ne-some _ (sym e ∙ leaf_expands s g c r (at_leaf s g) (record {
                weight = w;
                n = n;
                rule = rule ∙ ap (λ (x : ℕ). some (leaf x w n)) p;
                few_late = l;
                kind_fits = q;
                is = refl;
              })))
            ]
          ]
        ]

        fit : (x : Expansion) → (instance_of s).expand g c r ≡ some x → Step s g c r x → Splits (some (leaf h w n))
        fit x e (inl l) =
            let is-head : h ≡ g.nonterminal = leaf_head (sym rule ∙ l.rule) in
            let is-kind : n ≡ kind_of g c = leaf_n (sym rule ∙ l.rule) ∙ l.kind_fits in
            rw (eq-eqb h g.nonterminal is-head, eq-eqb n (kind_of g c) is-kind)
            (omega (
              arith,
              total_leaf g c m r (e ∙ ap some l.is),
              ap (s.grammar.multiplier *◌) (weight_is r (leaf h w n) rule),
            ))
        fit x e (inr d) = absurd (leaf_no_division (sym rule ∙ d.rule))

        go : (o : Option Expansion) → (instance_of s).expand g c r ≡ o → Splits (some (leaf h w n))
        go none e = omega (arith, total_none g c m r e, unfit e)
        go (some x) e = fit x e (step_of s g c r x e)

    pub split_by : (o : Option Rule) → rule_at s r ≡ o → Splits o
    split_by none e = go ((instance_of s).expand g c r) refl
      where
        go : (o : Option Expansion) → (instance_of s).expand g c r ≡ o → Splits none
        go none k = omega (arith, total_none g c m r k)
        go (some x) k = elim (step_of s g c r x k) [
          | inl l ↦ absurd (none-ne-some _ (sym e ∙ l.rule))
          | inr d ↦ absurd (none-ne-some _ (sym e ∙ d.rule))
        ]
    split_by (some (leaf h w n)) e = leaf_splits h w n e
    split_by (some (division h w ks)) e = omega arith

  -- a cell is the lesser of what a leaf totals and of what the divisions total
  pub cell_split : GoodRules s.grammar → (g : Item) (c m : ℕ) → c < 4 → m < 4
      → cell_of s g c m ≡ min (leaf_total s g c m) (lowest NONE (division_total s g c m) (rule_count s))
  unfolding division_total leaf_total least_leaf
  cell_split good g c m hc hm =
      let n = rule_count s in
      let leaves : ℕ → ℕ = λ r. cost_as_leaf g c (rule_at s r) in
      cell_rules good g c m hc hm ∙ lowest_capped NONE (total_by s g c m) (λ r. min (leaves r + behind_leaf g m) (division_total s g c m r)) n
      (λ r. split_by g c m r hm (rule_at s r) refl)
      ∙ lowest_both NONE (λ r. leaves r + behind_leaf g m) (division_total s g c m) n
      ∙ ap (λ (x : ℕ). min x (lowest NONE (division_total s g c m) n))
      (lowest_more NONE leaves (behind_leaf g m) n ∙ omega arith)

  -- ---- divisions

  -- a division that may not divide the item totals the cap
  module _ (g : Item) (c m r : ℕ) where
    abbrev pub Never : Type 0
    Never =
        (w : ℕ) (ks : List ℕ) → rule_at s r ≡ some (division g.nonterminal w ks) → may_divide s (length ks) g.left g.len ≡ true → ⊥

    pub division_never : Never → division_total s g c m r ≡ NONE
    unfolding division_total
    division_never never = go (rule_at s r) refl
      where
        by : (h w : ℕ) (ks : List ℕ) → rule_at s r ≡ some (division h w ks) → (o : Option Expansion) → (instance_of s).expand g c r ≡ o
            → total_by s g c m r ≡ NONE
        by h w ks e none k = total_none g c m r k
        by h w ks e (some x) k = elim (step_of s g c r x k) [
          | inl l ↦ absurd (leaf_no_division (sym l.rule ∙ e))
          | inr d ↦ absurd (never d.weight d.kids d.rule d.allowed)
        ]

        go : (o : Option Rule) → rule_at s r ≡ o → division_by o (total_by s g c m r) ≡ NONE
        go none e = refl
        go (some (leaf h w n)) e = refl
        go (some (division h w ks)) e = by h w ks e ((instance_of s).expand g c r) refl

    -- one that may, into parts of length p, totals its cost and what the parts total
    pub division_total_lem : (w p : ℕ) (ks : List ℕ) → rule_at s r ≡ some (division g.nonterminal w ks) → 0 < length ks
        → g.len ≡ length ks * p → 0 < onsets_in s g.left g.len
        → division_total s g c m r
        ≡ s.grammar.multiplier * weight_at s r + forward carries NONE (cell_of s) (adjoining g.left p ks) (only NONE c) m
    unfolding division_total at_division may_divide onsets_in
    division_total_lem w p ks e h len on =
        let zero_rest : g.len % length ks ≡ 0 = ap (λ (n : ℕ). n % length ks) len ∙ mul-mod_right (length ks) p in
        let part : g.len / length ks ≡ p = ap (λ (n : ℕ). n / length ks) len ∙ mul-div_cancel_left p h in
        let made = division_expands s g c r (at_division g c ks) (record {
          weight = w;
          kids = ks;
          rule = e;
          allowed = rw (eq-eqb _ _ zero_rest, lt-ltb _ _ on) refl;
          is = refl;
        }) in
        rw e (rw part at (total_some g c m r (at_division g c ks) made) ∙ omega arith)

  -- with no onset inside, an item is not divided, none is early or late, and there is no distance
  pub division_empty : (g : Item) (c m r : ℕ) → onsets_in s g.left g.len ≡ 0 → division_total s g c m r ≡ NONE
  division_empty g c m r e = division_never g c m r (λ w ks rule may. omega (arith, (may_divide_lem s (length ks) g.left g.len may).1))

  module _ (g : Item) (e : onsets_in s g.left g.len ≡ 0) where
    pub none_early : early_count s g.left g.len ≡ 0
    none_early = omega (arith, early_late s g.left g.len)

    pub none_late : late_count s g.left g.len ≡ 0
    none_late = omega (arith, early_late s g.left g.len)

    pub no_distance : own_distance s g.left g.len ≡ 0
    no_distance = omega (arith, rw e at (own_distance_most s g.left g.len))

  -- so it is a leaf
  pub cell_leaf : GoodRules s.grammar → (g : Item) (c m : ℕ) → c < 4 → m < 4 → onsets_in s g.left g.len ≡ 0
      → cell_of s g c m ≡ leaf_total s g c m
  cell_leaf good g c m hc hm e =
      omega (
        arith,
        cell_split good g c m hc hm,
        lowest_none NONE (division_total s g c m) (rule_count s) (λ r. omega (arith, division_empty g c m r e)),
        leaf_total_most s g c m,
      )

  -- of what is carried in, with nothing carried on, and no distance
  pub cell_empty : GoodRules s.grammar → (g : Item) (c m : ℕ) → c < 4 → m < 4 → onsets_in s g.left g.len ≡ 0
      → cell_of s g c m ≡ min NONE (least_leaf s g.nonterminal (token c (onsets_before s g.left)) + only NONE 0 m)
  unfolding leaf_total
  cell_empty good g c m hc hm e =
      cell_leaf good g c m hc hm e
      ∙ rw (none_early g e, none_late g e, no_distance g e, add-zero c) (omega arith)
