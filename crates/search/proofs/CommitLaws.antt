-- Laws of committing: bars into which nothing is carried may be built by themselves. What is written of them is then the front of the first
-- least list, whatever bars follow.
use Prim.Native.Nat.{ℕ, ◌+◌, ◌*◌, ◌≤◌, ◌<◌}
use mathlib.Core.Path.{◌≡◌, refl, sym, ap, subst, ◌∙◌}
use mathlib.Core.List.{List, [], ◌++◌}
use mathlib.Core.Logic.{◌⊎◌, inl, inr}
use mathlib.Core.Option.{some}
use native.Mathlib.Decide.{dec_lt, ℕ_discrete}
use native.Mathlib.Omega.{arith}
use lib.ListN.{length, take, drop, take-append-drop}
use Rattle.slices.specs.Every.{Every, every_all}
use Rattle.slices.specs.Over.{over, over_from, length-over_from, over-drop, take-over}
use Rattle.sheet.specs.Sheet.{Sheet}
use Rattle.sheet.specs.Good.{GoodRules}
use Rattle.derivations.specs.Derivation.{Item, Price, ◌⊞◌, unspent, derive}
use Rattle.derivations.specs.Bound.{sum_of, sum-append, nodes_bound}
use Rattle.derivations.specs.Minima.{only, only_same, only_below}
use Rattle.derivations.specs.Least.{Least, total, carry_fits}
use Rattle.derivations.specs.First.{First, first_nil, first_total, first-append}
use Rattle.derivations.specs.Folds.{Exact, backward_least, parts_least}
use Rattle.derivations.specs.Interchange.{Interchangeable, first_interchanged, first_raised}
use Rattle.trees.specs.ValidTrees.{bars}
use Rattle.trees.specs.Instance.{instance_of}
use Rattle.trees.specs.LeastTotal.{NONE, carries, cell_of}
use Rattle.trees.proofs.Laws.{lawful}
use Rattle.trees.specs.Room.{room}
use Rattle.trees.proofs.RoomLaws.{room_pays, bars_room}
use Rattle.trees.proofs.Found.{cells_least}
use Rattle.sizes.specs.Sizes.{tree_bytes}
use Rattle.building.specs.Clauses.{Partway, BuiltAs}
use Rattle.building.specs.RebuildLaws.{partway_done}
use Rattle.rows.specs.Slots.{Sound}
use Rattle.search.specs.Clauses.{bars_from, bars_to, bar_suffix_costs, prefix_costs, CutPoint, OnPath, Committed}
use Rattle.search.proofs.BarLaws.{bars_none, bars_cut, total_least, path_busy, path_cut}

-- before the first bar
pub committed_none : (s : Sheet) (tree : List ℕ) → tree_bytes s ≤ length tree → Committed s tree 0 0
committed_none s tree room = record {
  bytes = [];
  price = unspent 0;
  first = first_nil (instance_of s) s.grammar.multiplier (only NONE 0) 0;
  carry_none = refl;
  count_is = refl;
  front = refl;
  room = room;
}

module _ (s : Sheet) (good : GoodRules s.grammar) where
  abbrev a : ℕ
  a = s.grammar.multiplier

  every : (gs : List Item) → Every (Exact (instance_of s) a NONE carries (cell_of s)) gs
  every gs = every_all (Exact (instance_of s) a NONE carries (cell_of s)) (cells_least s good) gs

  -- what the bars before bar b total, to a carry state
  prefix_least : (b c : ℕ) → c < carries → Least (instance_of s) a NONE (bars_to s b) (only NONE c) 0 (prefix_costs s b c)
  prefix_least b c hc =
      parts_least (lawful s) a NONE (cell_of s) (bars_to s b) 0 c (omega arith) hc (every (bars_to s b))

  -- bars that are committed total the least
  committed_total : {tree : List ℕ} {b n : ℕ} → prefix_costs s b 0 < NONE → (p : Committed s tree b n)
      → a * p.price.weight + p.price.distance ≡ prefix_costs s b 0
  committed_total {tree} {b} low p =
      omega (
        arith,
        first_total (instance_of s) a NONE (bars_to s b) (only NONE 0) 0 (prefix_costs s b 0) p.bytes p.price
            (prefix_least b 0 (omega arith)) low
            p.first,
        ap (only NONE 0) p.carry_none,
        only_same NONE 0,
      )

  module _ (e : ℕ) (reached : prefix_costs s e 0 < NONE) (b : ℕ) (hb : b ≤ e) (cut : CutPoint s b) where
    abbrev u : ℕ → ℕ
    u = bar_suffix_costs s e b

    on : OnPath s e b 0
    on = path_cut s e good reached b hb cut

    pub cut_reached : bar_suffix_costs s e b 0 < NONE
    cut_reached = omega (arith, on)

    -- a list of them from which something is carried on is not the front of a least list
    carried_more : (c : ℕ) → 0 < c → c < carries → prefix_costs s e 0 < prefix_costs s b c + u c
    carried_more c over-0 hc = elim (dec_lt (prefix_costs s e 0) (prefix_costs s b c + u c)) [
      | yes h ↦ h
      | no h ↦ absurd (path_busy s e good reached b c hb over-0 hc (omega arith) (cut c over-0 hc))
    ]

    module _ {tree : List ℕ} {n : ℕ} (p : Committed s tree b n) where
      alike : Interchangeable (instance_of s) a (bars_to s b) u (λ m. only NONE 0 m + u 0) 0 (prefix_costs s e 0)
      alike = record { reached = (p.bytes, p.price, p.first.reads, own); each = each }
        where
          own : prefix_costs s e 0 ≡ total a u p.price
          own =
              omega (
                arith,
                committed_total (omega (arith, on)) p,
                ap u p.carry_none,
                on,
                total_least s e good b 0 hb (omega arith),
              )

          each : (bs : List ℕ) (q : Price) → derive (instance_of s) bs (bars_to s b) 0 ≡ some q
              → (only NONE 0 q.carry + u 0 ≡ u q.carry)
              ⊎ ((prefix_costs s e 0 < total a u q) × (prefix_costs s e 0 < total a (λ m. only NONE 0 m + u 0) q))
          each bs q h = elim (ℕ_discrete q.carry 0) [
            | yes z ↦ inl (omega (arith, ap (only NONE 0) z, ap u z, only_same NONE 0))
            | no z ↦
                let few = carry_fits (lawful s) bs (bars_to s b) 0 q h (omega arith) in
                inr (
                  omega (
                    arith,
                    carried_more q.carry (omega arith) few,
                    (prefix_least b q.carry few).below bs q h,
                    only_same NONE q.carry,
                  ),
                  above q.carry z,
                )
          ]
            where
              above : (c : ℕ) → (c ≡ 0 → ⊥) → prefix_costs s e 0 < a * q.weight + q.distance + (only NONE 0 c + u 0)
              above c z = elim (dec_lt (only NONE 0 c) NONE) [
                | yes k ↦ absurd (z (only_below NONE 0 c k))
                | no k ↦ omega arith
              ]

      -- the bars from bar b on follow
      then : (xs : List ℕ) (q : Price) → First (instance_of s) a (bars_from s e b) (only NONE 0) 0 xs q
          → First (instance_of s) a (bars_to s e) (only NONE 0) 0 (p.bytes ++ xs) (p.price ⊞ q)
      then xs q f =
          subst (λ (gs : List Item). First (instance_of s) a gs (only NONE 0) 0 (p.bytes ++ xs) (p.price ⊞ q)) (sym (bars_cut s e b hb))
          (first-append (lawful s) a NONE (bars_to s b) (bars_from s e b) (only NONE 0) u 0 p.bytes xs p.price q (omega arith)
          (λ m hm. backward_least (lawful s) a NONE (cell_of s) (bars_from s e b) (only NONE 0) m (every (bars_from s e b)) hm)
          (omega (arith, ap u p.carry_none, cut_reached))
          (first_interchanged alike (first_raised (u 0) p.first))
          (subst (λ (c : ℕ). First (instance_of s) a (bars_from s e b) (only NONE 0) c xs q) (sym p.carry_none) f))

      rooms : e ≤ s.playing.bars → n + sum_of (room s) (bars_from s e b) ≤ length tree
      unfolding bars tree_bytes
      rooms he =
          omega (
            arith,
            p.count_is,
            nodes_bound (instance_of s) (room s) (room_pays s good) p.bytes (bars_to s b) 0 p.price p.first.reads,
            ap (sum_of (room s)) (bars_cut s e b hb),
            sum-append (room s) (bars_to s b) (bars_from s e b),
            ap (sum_of (room s)) (bars_cut s s.playing.bars e he),
            sum-append (room s) (bars_to s e) (bars_from s s.playing.bars e),
            bars_room s,
            p.room,
          )

      -- so building goes on from them
      pub partway_committed : e ≤ s.playing.bars → Partway s tree tree (bars_to s e) (bars_from s e b) (only NONE 0) 0 0 0 n
      unfolding over_from
      partway_committed he = record {
        bytes = p.bytes;
        price = p.price;
        carry_is = sym p.carry_none;
        few = omega arith;
        and_then = then;
        reached = cut_reached;
        next_is = p.count_is ∙ omega arith;
        written = written;
        fits = rooms he;
      }
        where
          written : tree ≡ over p.bytes tree
          written =
              sym (over-drop p.bytes tree (omega (arith, p.count_is, rooms he))
              ∙ ap (◌++ drop (length p.bytes) tree) (sym p.front) ∙ take-append-drop (length p.bytes) tree)

  -- all of them are built
  pub committed_built : (e : ℕ) → prefix_costs s e 0 < NONE → {rows tree now : List ℕ} {carry n : ℕ} → Sound s rows
      → Partway s tree now (bars_to s e) (bars_from s e e) (only NONE 0) 0 0 carry n → tree_bytes s ≤ length tree → Committed s now e n
  unfolding over_from
  committed_built e reached {rows} {tree} {now} {carry} {n} sound p fits = record {
    bytes = built.bytes;
    price = built.price;
    first = built.first;
    carry_none = only_below NONE 0 built.price.carry (omega (arith, whole));
    count_is = built.next_is ∙ omega arith;
    front = ap (take (length built.bytes)) built.written ∙ take-over built.bytes tree (omega (arith, p.fits, built.next_is));
    room = omega (arith, fits, ap length built.written, length-over_from 0 built.bytes tree);
  }
    where
      built : BuiltAs s rows tree now (bars_to s e) (only NONE 0) 0 0 (record { to = n; carry = carry })
      built =
          partway_done s good rows tree now (bars_to s e) (only NONE 0) 0 0 carry n _ sound
          (subst (λ (gs : List Item). Partway s tree now (bars_to s e) gs (only NONE 0) 0 0 carry n) (bars_none s e) p) refl refl

      whole : total a (only NONE 0) built.price ≡ prefix_costs s e 0
      whole =
          first_total (instance_of s) a NONE (bars_to s e) (only NONE 0) 0 (prefix_costs s e 0) built.bytes built.price
          (prefix_least e 0 (omega arith)) reached
          built.first
