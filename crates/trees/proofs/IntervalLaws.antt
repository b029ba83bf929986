-- Where the items of a sheet lie: the left bound of an item is a multiple of its length from its bar's start, so a length and one onset
-- inside name the interval.
use Rattle.std.specs.Prelude.{ℕ, ◌+◌, ◌-◌, ◌*◌, ◌/◌, ◌%◌, ◌≤◌, ◌<◌, ◌≡◌, length, replicate}
use Rattle.std.proofs.Common.{sym, ap, ◌∙◌, mul_assoc, add-mul, add-zero, mul-le-mul_right, suc-mul}
use Rattle.std.proofs.Math.Option.{some}
use Rattle.std.proofs.Math.Nat.{mul-add-div_right, div-eq_of_lt}
use native.Mathlib.Omega.{arith}
use Rattle.std.proofs.Math.ListN.{get_elem?}
use Rattle.slices.specs.Every.{Every, every_some}
use Rattle.sheet.specs.Sheet.{Sheet, bar_units}
use Rattle.derivations.specs.Derivation.{Item, Expansion}
use Rattle.trees.specs.ValidTrees.{bars}
use Rattle.trees.specs.Instance.{instance_of}
use Rattle.trees.specs.Expansions.{may_divide_lem, parts_whole}
use Rattle.trees.proofs.Laws.{adjoining_every, part_of, each_part}
use Rattle.trees.specs.Intervals.{Aligned}

-- part j of k: the (times × k + j)-th interval of its length
pub aligned_part : (start : ℕ) (g : Item) (k j q : ℕ) → Aligned start g → g.len % k ≡ 0 → j < k
    → Aligned start (part_of g k j q)
aligned_part start g k j q a z h = record { times = a.times * k + j; is = same; ends = inside }
  where
    p : ℕ
    p = g.len / k

    whole : k * p ≡ g.len
    whole = parts_whole k g.len z

    same : g.left + j * p ≡ start + (a.times * k + j) * p
    same = omega (arith, a.is, ap (a.times *◌) whole, mul_assoc a.times k p, add-mul (a.times * k) j p)

    inside : g.left + j * p + p ≤ start + bar_units
    inside = omega (arith, a.ends, whole, mul-le-mul_right p h, suc-mul j p)

module _ (s : Sheet) where
  -- the parts of every expansion lie so if the item does
  pub aligned_parts : (start : ℕ) (g : Item) (c r : ℕ) (m : Expansion) → (instance_of s).expand g c r ≡ some m → Aligned start g
      → Every (Aligned start) m.parts
  aligned_parts start g c r m e a =
      each_part s (Aligned start) g c r m e
      (λ w ks rule d j q h. aligned_part start g (length ks) j q a (may_divide_lem s (length ks) g.left g.len d).0 h)

  -- the items of a sheet: the bars, and the parts of each expansion of an item
  pub data Occurs : Item → Type 0 where
    bar : (g : Item) (b : ℕ) → get_elem? (bars s) b ≡ some g → Occurs g
    part : (g h : Item) (c r i : ℕ) (m : Expansion) → Occurs g → (instance_of s).expand g c r ≡ some m → get_elem? m.parts i ≡ some h
        → Occurs h

  bars_aligned : Every (λ (g : Item). (b : ℕ) × Aligned (b * bar_units) g) (bars s)
  unfolding bars
  bars_aligned =
      adjoining_every _ 0 bar_units (replicate s.playing.bars s.grammar.start)
      (λ j q h. (j, record { times = 0; is = omega arith; ends = omega arith }))

  -- every item of a sheet lies in one bar, at a multiple of its length from the bar's start
  pub occurs_aligned : (g : Item) → Occurs g → (b : ℕ) × Aligned (b * bar_units) g
  occurs_aligned _ (bar g b e) = every_some _ (bars s) b g bars_aligned e
  occurs_aligned _ (part g h c r i m o e k) =
      let (b, a) = occurs_aligned g o in
      (b, every_some _ m.parts i h (aligned_parts (b * bar_units) g c r m e a) k)

-- so its length and one onset inside, both counted from the bar's start, name its left bound
pub named : (start : ℕ) (g : Item) (u : ℕ) → Aligned start g → g.left ≤ start + u → start + u < g.left + g.len
    → g.left ≡ start + u / g.len * g.len
named start g u a lo hi =
    let t = a.times in
    let n = g.len in
    let e : u ≡ t * n + (start + u - g.left) = omega (arith, a.is) in
    let q : (t * n + (start + u - g.left)) / n ≡ t
    = mul-add-div_right (omega arith) t (start + u - g.left) ∙ ap (t +◌) (div-eq_of_lt (omega arith)) ∙ add-zero t in
    a.is ∙ ap (λ (x : ℕ). start + x * n) (sym (ap (λ (x : ℕ). x / n) e ∙ q))
