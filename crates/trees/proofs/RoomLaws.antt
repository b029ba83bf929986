-- How large a tree can be: each item has room for so many nodes, and its onsets can be so far from their places; what an expansion uses and
-- what its parts have is no more. So a tree of a sheet has at most B + 80 × N nodes, and no total reaches 2^49.
use Rattle.std.specs.Prelude.{ℕ, suc, ◌+◌, ◌*◌, ◌/◌, ◌%◌, ◌≤◌, ◌<◌, ◌^◌, ◌≡◌, true, List, [], ◌∷◌, ◌++◌, length, replicate}
use Rattle.std.proofs.Math.Path.{refl}
use Rattle.std.proofs.Common.{ap, ◌∙◌, inl, inr, div-le_self, mul-le-mul, mul-le-mul_left, zero-mul}
use Rattle.std.proofs.Math.Option.{Option, none, some, Option-elim}
use Rattle.std.proofs.Math.Nat.{mul-le-mul_right}
use native.Mathlib.Omega.{arith}
use Rattle.std.proofs.Math.ListN.{get_elem?, length-replicate}
use Rattle.slices.specs.Every.{every_some}
use Rattle.sheet.specs.Sheet.{Rule, division, leaf, Sheet, bar_units}
use Rattle.sheet.specs.Good.{GoodRule, GoodRules, GoodDivision, Good}
use Rattle.derivations.specs.Derivation.{Item, Expansion, Price, derive}
use Rattle.derivations.specs.Bound.{sum_of, sum-append, sum-at, nodes_bound, distance_bound, weight_bound}
use Rattle.trees.specs.ValidTrees.{adjoining, bars, rule_at, may_divide, weight_of, weight_at, total_of}
use Rattle.trees.specs.Instance.{onsets_in, at_leaf, at_division, instance_of}
use Rattle.trees.specs.Expansions.{Step, may_divide_lem, parts_whole, step_of}
use Rattle.trees.proofs.Onsets.{onsets-add, onsets_none, onsets_most, divided_long, own_distance_most}
use Rattle.trees.specs.Depth.{depth, depth_bar, depth_falls}
use Rattle.trees.specs.Room.{tree_most, share, room, reach, Stretch}

module _ (s : Sheet) where
  -- over items in a row
  share_adjoining : (b : ℕ) (f : ℕ → ℕ) (l p : ℕ) (qs : List ℕ)
      → sum_of (share s b f) (adjoining l p qs) ≡ length qs * b + f p * onsets_in s l (length qs * p)
  share_adjoining b f l p [] = rw (zero-mul p, onsets_none s l) (omega arith)
  share_adjoining b f l p (q ∷ qs) =
      let e : suc (length qs) * p ≡ p + length qs * p = omega arith in
      rw (e, onsets-add s l p (length qs * p)) (omega (arith, share_adjoining b f (l + p) p qs))

  -- over the parts of a division, which make up the whole
  share_parts : (b : ℕ) (f : ℕ → ℕ) (g : Item) (ks : List ℕ) → g.len % length ks ≡ 0
      → sum_of (share s b f) (adjoining g.left (g.len / length ks) ks)
      ≡ length ks * b + f (g.len / length ks) * onsets_in s g.left g.len
  share_parts b f g ks e =
      share_adjoining b f g.left (g.len / length ks) ks
      ∙ ap (λ (n : ℕ). length ks * b + f (g.len / length ks) * onsets_in s g.left n) (parts_whole (length ks) g.len e)

  -- what an expansion uses, and its parts have, is no more than the item has
  abbrev Pays : (Expansion → ℕ) → (Item → ℕ) → Type 0
  Pays pay have = (g : Item) (c r : ℕ) (m : Expansion) → (instance_of s).expand g c r ≡ some m → pay m + sum_of have m.parts ≤ have g

  pub reach_pays : Pays (λ m. m.distance) (reach s)
  unfolding at_leaf at_division
  reach_pays g c r m e = go (step_of s g c r m e)
    where
      go : Step s g c r m → m.distance + sum_of (reach s) m.parts ≤ (reach s) g
      go (inl l) = rw l.is (omega (arith, own_distance_most s g.left g.len))
      go (inr d) =
          let z = (may_divide_lem s (length d.kids) g.left g.len d.allowed).0 in
          rw (d.is, share_parts 0 (λ n. n) g d.kids z)
          (omega (arith, mul-le-mul_right (onsets_in s g.left g.len) (div-le_self g.len (length d.kids))))

  module _ (good : GoodRules s.grammar) where
    -- a good sheet's divisions have 2 to 8 parts
    pub good_division : (r h w : ℕ) (ks : List ℕ) → rule_at s r ≡ some (division h w ks) → GoodDivision s.grammar.nonterminals h w ks
    good_division r h w ks e = every_some (GoodRule s.grammar.nonterminals) s.grammar.rules r (division h w ks) good.rules e

    -- and each of its parts allows one division less
    pub division_deep : (r h w : ℕ) (ks : List ℕ) (left len : ℕ) → rule_at s r ≡ some (division h w ks)
        → may_divide s (length ks) left len ≡ true → suc (depth (len / length ks)) ≤ depth len
    division_deep r h w ks left len e d =
        let k = good_division r h w ks e in
        depth_falls (length ks) k.two k.eight len (divided_long s (length ks) left len d) (may_divide_lem s (length ks) left len d).0

    pub room_pays : Pays (λ m. 1) (room s)
    unfolding at_leaf at_division
    room_pays g c r m e = go (step_of s g c r m e)
      where
        go : Step s g c r m → 1 + sum_of (room s) m.parts ≤ (room s) g
        go (inl l) = rw l.is (omega arith)
        go (inr d) =
            let k = good_division r g.nonterminal d.weight d.kids d.rule in
            let (z, o) = may_divide_lem s (length d.kids) g.left g.len d.allowed in
            let f = division_deep r g.nonterminal d.weight d.kids g.left g.len d.rule d.allowed in
            rw (d.is, share_parts 1 (λ n. 8 * depth n) g d.kids z)
            (omega (arith, k.eight, o, mul-le-mul_right (onsets_in s g.left g.len) (mul-le-mul_left 8 f)))

    pub weight_most : (r : ℕ) → (instance_of s).weight r ≤ 65535
    unfolding instance_of weight_at Option-elim
    weight_most r = go (rule_at s r) refl
      where
        by : (ru : Rule) → GoodRule s.grammar.nonterminals ru → weight_of ru ≤ 65535
        by (division h w ks) k = k.weight
        by (leaf h w n) k = k.weight

        go : (o : Option Rule) → rule_at s r ≡ o → Option-elim o 0 weight_of ≤ 65535
        go none e = omega arith
        go (some ru) e = by ru (every_some (GoodRule s.grammar.nonterminals) s.grammar.rules r ru good.rules e)

  -- a sheet's bars
  pub bars_room : sum_of (room s) (bars s) ≤ s.playing.bars + 80 * length s.playing.onsets
  unfolding bars
  bars_room =
      let n = length-replicate s.playing.bars s.grammar.start in
      omega (
        arith,
        n,
        rw depth_bar at (share_adjoining 1 (λ n. 8 * depth n) 0 bar_units (replicate s.playing.bars s.grammar.start)),
        onsets_most s 0 (length (replicate s.playing.bars s.grammar.start) * bar_units),
      )

  pub bars_reach : sum_of (reach s) (bars s) ≤ bar_units * length s.playing.onsets
  unfolding bars
  bars_reach =
      omega (
        arith,
        share_adjoining 0 (λ n. n) 0 bar_units (replicate s.playing.bars s.grammar.start),
        onsets_most s 0 (length (replicate s.playing.bars s.grammar.start) * bar_units),
      )

  pub stretch_bars : Good s → Stretch s (bars s)
  stretch_bars good =
      record {
        nodes = omega (arith, bars_room, good.onsets.sixty_four, good.onsets.most);
        distances = omega (arith, bars_reach, good.onsets.most);
      }

  pub stretch_front : (gs hs : List Item) → Stretch s (gs ++ hs) → Stretch s gs
  stretch_front gs hs t =
      record { nodes = omega (arith, sum-append (room s) gs hs, t.nodes); distances = omega (arith, sum-append (reach s) gs hs, t.distances) }

  pub stretch_expands : GoodRules s.grammar → (g : Item) (gs : List Item) (c r : ℕ) (m : Expansion) → (instance_of s).expand g c r ≡ some m
      → Stretch s (g ∷ gs) → Stretch s (m.parts ++ gs)
  stretch_expands good g gs c r m e t =
      record {
        nodes = omega (arith, sum-append (room s) m.parts gs, room_pays good g c r m e, t.nodes);
        distances = omega (arith, sum-append (reach s) m.parts gs, reach_pays g c r m e, t.distances);
      }

  pub stretch_at : (gs : List Item) (i : ℕ) (g : Item) → get_elem? gs i ≡ some g → Stretch s gs → Stretch s (g ∷ [])
  stretch_at gs i g e t =
      record { nodes = omega (arith, sum-at (room s) gs i g e, t.nodes); distances = omega (arith, sum-at (reach s) gs i g e, t.distances) }

  -- what is read against a stretch totals less than 2^49
  pub total_small : GoodRules s.grammar → (bs : List ℕ) (gs : List Item) (c : ℕ) (p : Price) → Stretch s gs
      → derive (instance_of s) bs gs c ≡ some p → total_of s p.weight p.distance < 2 ^ 49
  total_small good bs gs c p t h =
      let n = nodes_bound (instance_of s) (room s) (room_pays good) bs gs c p h in
      let w : p.weight ≤ 65535 * tree_most = omega (arith, weight_bound (instance_of s) 65535 (weight_most good) bs gs c p h, n, t.nodes) in
      omega (arith, mul-le-mul good.multiplier w, distance_bound (instance_of s) (reach s) reach_pays bs gs c p h, t.distances)
