-- The steps of `build`. The least cell names the rule (`build_chosen`). A leaf is built by its byte alone (`built_leaf`), a division by its
-- byte and its parts (`build_parts_entry`, `built_division`), which are shorter (`parts_shorter`).
use Prim.Native.Nat.{ℕ, ◌+◌, ◌*◌, ◌%◌, ◌≤◌, ◌<◌}
use mathlib.Core.Path.{◌≡◌, refl, sym, ap, ◌∙◌}
use mathlib.Core.List.{List, [], ◌∷◌}
use mathlib.Core.Logic.{inl, inr}
use mathlib.Core.Option.{Option, none, some}
use native.Mathlib.Nat.{mul-le-mul_right}
use native.Mathlib.Omega.{arith}
use lib.ListN.{length, set, length-set}
use Rattle.slices.specs.Over.{over_from_nil}
use Rattle.sheet.specs.declared.clock.Units.{Units}
use Rattle.sheet.specs.Sheet.{Sheet}
use Rattle.sheet.specs.Good.{GoodRules}
use Rattle.derivations.specs.Derivation.{Item, Expansion, unspent}
use Rattle.derivations.specs.First.{first_nil}
use Rattle.trees.specs.Instance.{onsets_in, late_count, at_leaf, instance_of}
use Rattle.trees.specs.LeastTotal.{NONE}
use Rattle.trees.specs.Expansions.{Step, step_of, may_divide_lem}
use Rattle.trees.proofs.RoomLaws.{room_pays, good_division}
use Rattle.expansions.specs.declared.Placed.{Placed}
use Rattle.expansions.specs.Items.{interval, Here, PlacedAt}
use Rattle.plan.specs.declared.Split.{Split}
use Rattle.plan.specs.Plan.{length_at, length_cell, Divides, NoDivision}
use Rattle.plan.specs.PlanLaws.{lengths_most, length_positive}
use Rattle.rows.specs.declared.slots.Bar.{Bar}
use Rattle.rows.specs.Vectors.{LowCells}
use Rattle.rows.specs.VectorLaws.{low_cells, lowest_same, vec_at}
use Rattle.rows.specs.PackedLaws.{packed_cell, packed_cell_most}
use Rattle.rows.specs.Slots.{item_at}
use Rattle.rows.specs.Rows.{parts_at}
use Rattle.building.specs.declared.Built.{Built}
use Rattle.building.specs.Clauses.{at, Chosen, BuiltAs, BuildPre, PartsBuildPre}
use Rattle.building.specs.RebuildLaws.{built_rule}
use Rattle.building.proofs.RuleSteps.{total_none, not_both, division_expanded, division_totals}
use Rattle.building.specs.ChoosingLaws.{least_cell, cell_chosen}

module _ {s : Sheet} {plan us rows tree : List ℕ} {bar : Bar} {q l : ℕ} {left : Units} {from c : ℕ} {y v : List ℕ} {to : ℕ}
    (h : BuildPre s plan us rows tree bar q l left from c y v to) where
  abbrev g : Item
  g = item_at s q l left

  abbrev rules : GoodRules s.grammar
  rules = h.entry.stands.in_bar_lem.prepared.good

  pub build_room : to < length tree
  build_room = omega (arith, h.fits)

  pub build_low : LowCells y
  build_low = low_cells y (packed_cell s g c) h.row_is (packed_cell_most s g c)

  pub build_length : l < 84
  build_length = omega (arith, h.entry.stands.length_in, lengths_most s)

  -- the onsets inside, as `place` is asked for them, and how many are late
  module _ (len : ℕ) (el : len ≡ length_cell plan l) where
    is_length : len ≡ length_at s l
    is_length = el ∙ h.entry.stands.in_bar_lem.prepared.length-at l build_length

    pub build_here : Here s us (interval left.0 len) from
    build_here = record {
      onsets = h.entry.stands.in_bar_lem.onsets;
      within = omega (
        arith,
        is_length,
        h.entry.stands.aligned.ends,
        h.entry.stands.in_bar_lem.bar_in,
        h.entry.stands.in_bar_lem.onsets.good.sixty_four,
      );
      first = h.entry.stands.first;
    }

    pub late_placed : (p : Placed) → PlacedAt s (interval left.0 len) p → p.late ≡ late_count s left.0 (length_at s l)
    late_placed p placed = placed.late ∙ ap (late_count s left.0) is_length

  -- the rule
  pub build_chosen : (x : ℕ) → x ≡ least_cell y v → Chosen s g (at v) c (x % 64)
  build_chosen x e =
      cell_chosen s rules g (at v) h.low c h.entry.few h.reached x
      (e ∙ lowest_same (64 * NONE) (λ m. at y m + 64 * at v m) (λ m. packed_cell s g c m + 64 * at v m) 4
      (λ m hm. ap (◌+ 64 * at v m) (ap (λ (z : List ℕ). at z m) h.row_is ∙ vec_at (packed_cell s g c) m hm)))

  module _ (r : ℕ) (chosen : Chosen s g (at v) c r) where
    -- the rule makes something of the item
    made : (X : Type 0) → ((m : Expansion) → (instance_of s).expand g c r ≡ some m → Step s g c r m → X) → X
    made X f = go ((instance_of s).expand g c r) refl
      where
        go : (o : Option Expansion) → (instance_of s).expand g c r ≡ o → X
        go none e = absurd (omega (arith, total_none s g (at v) c r e, chosen.total, chosen.reached))
        go (some m) e = f m e (step_of s g c r m e)

    -- a leaf
    pub built_leaf : NoDivision s q l r → (late : ℕ) → late ≡ late_count s left.0 (length_at s l)
        → BuiltAs s rows tree (set tree to r) (g ∷ []) (at v) c to (record { to = to + 1; carry = late })
    unfolding at_leaf
    built_leaf undivided late el = made (BuiltAs s rows tree (set tree to r) (g ∷ []) (at v) c to (record { to = to + 1; carry = late })) by
      where
        none_left : BuiltAs s rows (set tree to r) (set tree to r) [] (at v) late (to + 1) (record { to = to + 1; carry = late })
        none_left =
            record {
              bytes = [];
              price = unspent late;
              first = first_nil (instance_of s) s.grammar.multiplier (at v) late;
              carry_is = refl;
              next_is = omega arith;
              written = sym (over_from_nil (to + 1) (set tree to r));
              sound = h.entry.sound;
            }

        by : (m : Expansion) → (instance_of s).expand g c r ≡ some m → Step s g c r m
            → BuiltAs s rows tree (set tree to r) (g ∷ []) (at v) c to (record { to = to + 1; carry = late })
        by m e (inl k) =
            let parts : m.parts ≡ [] = ap (λ (x : Expansion). x.parts) k.is in
            let carry : m.carry ≡ late = ap (λ (x : Expansion). x.carry) k.is ∙ sym el in
            built_rule s rules rows tree (set tree to r) g (at v) c r to m _ h.entry.few chosen e build_room
            (rw (parts, carry) none_left)
        by m e (inr d) = absurd (undivided d.weight d.kids d.rule (may_divide_lem s _ _ _ d.allowed).0)

    -- a division
    module _ (p : Split) (by : Divides s q l r p.arity p.part) where
      pub inhabited : 0 < onsets_in s left.0 (length_at s l)
      inhabited = made (0 < onsets_in s left.0 (length_at s l)) one
        where
          one : (m : Expansion) → (instance_of s).expand g c r ≡ some m → Step s g c r m → 0 < onsets_in s left.0 (length_at s l)
          one m e (inl k) = absurd (not_both s r q k.weight k.n q by.weight by.parts k.rule by.rule)
          one m e (inr d) = (may_divide_lem s _ _ _ d.allowed).1

      abbrev made_parts : Expansion
      made_parts = record { parts = parts_at s p.part left by.parts; carry = c; distance = 0 }

      pub expanded : (instance_of s).expand g c r ≡ some made_parts
      expanded = division_expanded s rules q l left c r p.arity p.part by inhabited

      abbrev pub build_parts_entry : PartsBuildPre s plan us rows (set tree to r) bar r p.arity p.part left from c v (to + 1)
      build_parts_entry = record {
        parts = record {
          in_bar_lem = h.entry.stands.in_bar_lem;
          q = q;
          whole = l;
          start = left.0;
          divides = by;
          whole_in = h.entry.stands.length_in;
          aligned = h.entry.stands.aligned;
          part_in = omega arith;
          left_is = omega arith;
          first = h.entry.stands.first;
          few = h.entry.few;
          sound = h.entry.sound;
        };
        low = h.low;
        reached = omega (
          arith,
          chosen.total,
          chosen.reached,
          division_totals s rules q l left c r p.arity p.part by inhabited (at v),
        );
        fits = omega (arith, h.fits, room_pays s rules g c r made_parts expanded, length-set tree to r);
      }

      pub built_division : (rows' then : List ℕ) (b : Built)
          → BuiltAs s rows' (set tree to r) then (parts_at s p.part left by.parts) (at v) c (to + 1) b
          → BuiltAs s rows' tree then (g ∷ []) (at v) c to b
      built_division rows' then b built =
          built_rule s rules rows' tree then g (at v) c r to made_parts b h.entry.few chosen expanded build_room built

      -- the parts are shorter
      pub parts_shorter : 2 * length_cell plan p.part + 1 < 2 * length_cell plan l
      parts_shorter =
          let at-l = h.entry.stands.in_bar_lem.prepared.length-at l (omega (arith, h.entry.stands.length_in, lengths_most s)) in
          let at-h = h.entry.stands.in_bar_lem.prepared.length-at p.part (omega (arith, by.shorter, lengths_most s)) in
          let two : 2 ≤ p.arity = omega (arith, (good_division s rules r q by.weight by.parts by.rule).two, by.count) in
          omega (arith, at-l, at-h, by.whole, length_positive s rules p.part by.shorter, mul-le-mul_right (length_at s p.part) two)
