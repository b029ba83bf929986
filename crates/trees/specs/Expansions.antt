-- What an expansion of a sheet's instance came from, and that it is made: a leaf's or a division's. Laws above this file speak of these two
-- records, not of the text of the instance.
use Rattle.std.specs.Prelude.{ℕ, ◌+◌, ◌*◌, ◌/◌, ◌%◌, ◌≤◌, ◌<◌, ◌≡◌, Bool, true, false, cond, List, ◌⊎◌, eqb, leb, ltb, length}
use Rattle.std.proofs.Math.Path.{refl}
use Rattle.std.proofs.Common.{sym, ap, div-add-mod', arith}
use Rattle.std.proofs.Math.Logic.{inl, inr}
use Rattle.std.proofs.Math.Option.{Option, none, some, Option-elim, none-ne-some, some-injective}
use borrow.Author.Tests.{eqb-true, leb-true, ltb-true, eq-eqb, le-leb}
use Rattle.slices.specs.Test.{and_both}
use Rattle.sheet.specs.Sheet.{Rule, division, leaf, Sheet}
use Rattle.derivations.specs.Derivation.{Item, Expansion}
use Rattle.trees.specs.ValidTrees.{inside, onsets_before, rule_at, may_divide, token}
use Rattle.trees.specs.Instance.{onsets_in, early_count, late_count, at_leaf, at_division, expand_by, instance_of}

-- what a division that is allowed tells: "k divides the length and at least one onset lies inside"
pub may_divide_lem : (s : Sheet) (k left len : ℕ) → may_divide s k left len ≡ true → (len % k ≡ 0) × (0 < onsets_in s left len)
unfolding may_divide onsets_in
may_divide_lem s k left len e =
    let p = and_both (eqb (len % k) 0) (ltb 0 (length (inside s left len))) e in
    (eqb-true _ _ p.0, ltb-true _ _ p.1)

-- k equal parts make up the whole
pub parts_whole : (k n : ℕ) → n % k ≡ 0 → k * (n / k) ≡ n
parts_whole k n e = omega (arith, div-add-mod' n k, e)

-- a leaf rule at the item g, that c onsets are carried into
pub record LeafStep (s : Sheet) (g : Item) (c r : ℕ) (m : Expansion) : Type 0 where
  pub weight : ℕ
  pub n : ℕ
  pub rule : rule_at s r ≡ some (leaf g.nonterminal weight n)
  pub few_late : late_count s g.left g.len ≤ 3
  pub kind_fits : n ≡ token (c + early_count s g.left g.len) (onsets_before s g.left)
  pub is : m ≡ at_leaf s g

-- a division at the item g
pub record DivisionStep (s : Sheet) (g : Item) (c r : ℕ) (m : Expansion) : Type 0 where
  pub weight : ℕ
  pub kids : List ℕ
  pub rule : rule_at s r ≡ some (division g.nonterminal weight kids)
  pub allowed : may_divide s (length kids) g.left g.len ≡ true
  pub is : m ≡ at_division g c kids

abbrev pub Step : Sheet → Item → ℕ → ℕ → Expansion → Type 0
Step s g c r m = LeafStep s g c r m ⊎ DivisionStep s g c r m

-- a test before a value
cond_some : {X : Type 0} (b : Bool) (x : Option X) (y : X) → cond b x none ≡ some y → (b ≡ true) × (x ≡ some y)
cond_some true x y e = (refl, e)
cond_some false x y e = absurd (none-ne-some _ e)

elim_some : {X Y : Type 0} (o : Option X) (f : X → Option Y) (y : Y) → Option-elim o none f ≡ some y
    → (x : X) × (o ≡ some x) × (f x ≡ some y)
unfolding Option-elim
elim_some none f y e = absurd (none-ne-some _ e)
elim_some (some x) f y e = (x, refl, e)

module _ (s : Sheet) (g : Item) (c r : ℕ) (m : Expansion) where
  step_by : (ru : Rule) → rule_at s r ≡ some ru → expand_by s g c ru ≡ some m → Step s g c r m
  unfolding expand_by
  step_by (leaf h w n) e d =
      let (t₁, d₁) = cond_some (eqb h g.nonterminal) _ m d in
      let (t₂, d₂) = cond_some (leb (late_count s g.left g.len) 3) _ m d₁ in
      let (t₃, d₃) = cond_some (eqb n (token (c + early_count s g.left g.len) (onsets_before s g.left))) _ m d₂ in
      inl (record {
        weight = w;
        n = n;
        rule = rw (← eqb-true h g.nonterminal t₁) e;
        few_late = leb-true _ _ t₂;
        kind_fits = eqb-true _ _ t₃;
        is = some-injective _ _ (sym d₃);
      })
  step_by (division h w ks) e d =
      let (t₁, d₁) = cond_some (eqb h g.nonterminal) _ m d in
      let (t₂, d₂) = cond_some (may_divide s (length ks) g.left g.len) _ m d₁ in
      inr (record {
        weight = w;
        kids = ks;
        rule = rw (← eqb-true h g.nonterminal t₁) e;
        allowed = t₂;
        is = some-injective _ _ (sym d₂);
      })

  -- an expansion is a leaf's or a division's
  pub step_of : (instance_of s).expand g c r ≡ some m → Step s g c r m
  unfolding instance_of
  step_of e = let (ru, e₁, e₂) = elim_some (rule_at s r) (expand_by s g c) m e in step_by ru e₁ e₂

  -- and each of them is made
  pub leaf_expands : LeafStep s g c r m → (instance_of s).expand g c r ≡ some m
  unfolding instance_of expand_by Option-elim
  leaf_expands l =
      rw (l.rule, eq-eqb g.nonterminal g.nonterminal refl, le-leb _ _ l.few_late, eq-eqb _ _ l.kind_fits)
      (ap some (sym l.is))

  pub division_expands : DivisionStep s g c r m → (instance_of s).expand g c r ≡ some m
  unfolding instance_of expand_by Option-elim
  division_expands d = rw (d.rule, eq-eqb g.nonterminal g.nonterminal refl, d.allowed) (ap some (sym d.is))
