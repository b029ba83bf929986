-- Packed cells: 64 times a total, and the first rule that comes to it. Of at most 64 rules, the minimum of what is packed so holds the
-- least total and its first rule; so a loop over the rules lowers one number for both.
use Prim.Native.Nat.{ℕ, zero, suc, ◌+◌, ◌*◌, ◌/◌, ◌%◌, ◌≤◌, ◌<◌, min}
use Rattle.std.specs.Prelude.{◌≡◌}
use Rattle.std.proofs.Math.Path.{refl}
use Rattle.std.proofs.Math.Decide.{dec_le}
use Rattle.std.proofs.Math.Numerals.{add-one}
use native.Mathlib.Omega.{arith}
use Rattle.sheet.specs.Sheet.{Sheet}
use Rattle.sheet.specs.Good.{GoodRules}
use Rattle.derivations.specs.Minima.{lowest, lowest_cap, lowest_le, FirstPlace}
use Rattle.trees.specs.ValidTrees.{rule_at}
use Rattle.trees.specs.LeastTotal.{NONE}
use Rattle.plan.specs.Leaves.{rule_count, leaf_cost, least_leaf}

-- ---- a packed minimum

-- the least of 64 times the cap and of the values of f, packed with their places
abbrev pub packed : (cap : ℕ) → (ℕ → ℕ) → ℕ → ℕ
packed cap f n = lowest (64 * cap) (λ r. 64 * f r + r) n

module _ (cap : ℕ) (f : ℕ → ℕ) where
  -- r is what the packed minimum of n places holds beside the minimum
  record Packs (n r : ℕ) : Type 0 where
    is : packed cap f n ≡ 64 * lowest cap f n + r
    small : r < 64
    within : r ≤ n
    first : lowest cap f n < cap → FirstPlace f n r
    value : lowest cap f n < cap → lowest cap f n ≡ f r

  packs_more : (n r : ℕ) → n < 64 → Packs n r → (x : ℕ) × Packs (suc n) x
  unfolding lowest
  packs_more n r h b = elim (dec_le (lowest cap f n) (f n)) [
    | yes k ↦ (
      r,
      record {
        is = omega (arith, b.is, b.within);
        small = b.small;
        within = omega (arith, b.within);
        first = λ low.
            let below : lowest cap f n < cap = omega arith in (
              omega (arith, (b.first below).0),
              (λ i hi. omega (arith, lowest_le cap f (suc n) i hi, b.value below)),
              (b.first below).2,
            );
        value = λ low. omega (arith, b.value (omega arith));
      },
    )
    | no k ↦ (
      n,
      record {
        is = omega (arith, b.is);
        small = h;
        within = omega arith;
        first = λ low.
            (omega arith, (λ i hi. omega (arith, lowest_le cap f (suc n) i hi)), λ i hi. omega (arith, lowest_le cap f n i hi));
        value = λ low. omega arith;
      },
    )
  ]

  packs_of : (n : ℕ) → n ≤ 64 → (r : ℕ) × Packs n r
  unfolding lowest
  packs_of zero h = (
    0,
    record {
      is = omega arith;
      small = omega arith;
      within = omega arith;
      first = λ low. absurd (omega arith);
      value = λ low. absurd (omega arith);
    },
  )
  packs_of (suc n) h = let b = packs_of n (omega arith) in packs_more n b.0 (omega arith) b.1

  pub packed_cap : (n : ℕ) → packed cap f n ≤ 64 * cap
  packed_cap n = lowest_cap (64 * cap) (λ r. 64 * f r + r) n

  module _ (n : ℕ) (h : n ≤ 64) where
    -- the quotient is the minimum
    pub packed_total : packed cap f n / 64 ≡ lowest cap f n
    packed_total = go (packs_of n h).0 (packs_of n h).1
      where
        go : (r : ℕ) → Packs n r → packed cap f n / 64 ≡ lowest cap f n
        go r b = omega (arith, b.is, b.small)

    -- below the cap the remainder is its first place
    pub packed_first : lowest cap f n < cap
        → FirstPlace f n (packed cap f n % 64) × (lowest cap f n ≡ f (packed cap f n % 64))
    packed_first low = go (packs_of n h).0 (packs_of n h).1
      where
        go : (r : ℕ) → Packs n r → FirstPlace f n (packed cap f n % 64) × (lowest cap f n ≡ f (packed cap f n % 64))
        go r b =
            let rest : packed cap f n % 64 ≡ r = omega (arith, b.is, b.small) in
            rw rest (b.first low, b.value low)

  -- one place more
  pub packed_next : (n : ℕ) → packed cap f (n + 1) ≡ min (packed cap f n) (64 * f n + n)
  unfolding lowest
  packed_next n = rw add-one refl

-- ---- the packed leaves of a sheet

-- the least of the leaf rules of a kind
unfoldable pub packed_leaf : Sheet → (q n : ℕ) → ℕ
packed_leaf s q n = packed NONE (λ r. leaf_cost s.grammar.multiplier q n (rule_at s r)) (rule_count s)

pub packed_leaf_most : (s : Sheet) (q n : ℕ) → packed_leaf s q n ≤ 64 * NONE
unfolding packed_leaf
packed_leaf_most s q n = packed_cap NONE (λ r. leaf_cost s.grammar.multiplier q n (rule_at s r)) (rule_count s)

module _ (s : Sheet) (good : GoodRules s.grammar) where
  -- a packed least leaf is the least leaf
  pub packed_leaf_is : (q n : ℕ) → packed_leaf s q n / 64 ≡ least_leaf s q n
  unfolding packed_leaf least_leaf
  packed_leaf_is q n = packed_total NONE (λ r. leaf_cost s.grammar.multiplier q n (rule_at s r)) (rule_count s) good.most
