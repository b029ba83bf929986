-- Laws of building: an item by its rule, and a row of items from left to right.
use Rattle.std.specs.Prelude.{ℕ, ◌+◌, ◌*◌, ◌≤◌, ◌<◌, ◌≡◌, refl, length, drop, get_or}
use Rattle.std.proofs.Math.Path.{sym, ap}
use Rattle.std.proofs.Common.{subst, ◌∙◌, length-append}
use mathlib.Core.List.{List, [], ◌∷◌, ◌++◌, append-nil, append_assoc}
use Rattle.std.proofs.Math.Option.{some}
use native.Mathlib.Omega.{arith}
use Rattle.std.proofs.Math.ListN.{set}
use Rattle.slices.specs.Lookup.{drop-step}
use Rattle.slices.specs.Over.{over_from, over_from_nil, over_from_more, over_from-append}
use Rattle.sheet.specs.Sheet.{Sheet}
use Rattle.sheet.specs.Good.{GoodRules}
use Rattle.derivations.specs.Derivation.{Item, Expansion, Price, ◌⊞◌, price_of, unspent, unspent_⊞, ⊞_assoc}
use Rattle.derivations.specs.Bound.{sum_of, nodes_bound}
use Rattle.derivations.specs.Least.{carry_fits}
use Rattle.derivations.specs.First.{First, first_nil}
use Rattle.derivations.specs.Folds.{Exact}
use Rattle.derivations.specs.Rebuild.{suffix_below, first_next, first_chosen}
use Rattle.derivations.specs.Interchange.{Interchangeable, first_interchanged}
use Rattle.trees.specs.ValidTrees.{adjoining}
use Rattle.trees.specs.Instance.{instance_of}
use Rattle.trees.specs.LeastTotal.{NONE, carries, cell_of}
use Rattle.trees.proofs.Laws.{lawful}
use Rattle.trees.proofs.Found.{cells_least}
use Rattle.trees.specs.Room.{room}
use Rattle.trees.proofs.RoomLaws.{room_pays}
use Rattle.rows.specs.Slots.{Sound}
use Rattle.building.specs.declared.Built.{Built}
use Rattle.building.specs.Clauses.{at, suffix_costs, rest_total, Chosen, BuiltAs, Partway}

-- ---- the parts of a division

pub row-drop : (left len : ℕ) (ks : List ℕ) (j : ℕ) → j < length ks
    → adjoining (left + j * len) len (drop j ks) ≡ record { nonterminal = get_or ks j 0; left = left + j * len; len = len } ∷ adjoining
    (left + (j + 1) * len) len (drop (j + 1) ks)
row-drop left len ks j h =
    let e : left + j * len + len ≡ left + (j + 1) * len = omega arith in
    ap (adjoining (left + j * len) len) (drop-step ks j h) ∙ ap (λ (x : ℕ). record {
      nonterminal = get_or ks j 0;
      left = left + j * len;
      len = len;
    } ∷ adjoining x len (drop (j + 1) ks)) e

-- ---- one item more is built

module _ (s : Sheet) (good : GoodRules s.grammar) where
  abbrev a : ℕ
  a = s.grammar.multiplier

  abbrev exact : (g : Item) → Exact (instance_of s) a NONE carries (cell_of s) g
  exact = cells_least s good

  -- before the first item
  pub partway_none : (tree : List ℕ) (gs : List Item) (v : ℕ → ℕ) (c to : ℕ) → c < carries → suffix_costs s gs v c < NONE
      → to + sum_of (room s) gs ≤ length tree → Partway s tree tree gs gs v c to c to
  partway_none tree gs v c to hc reached fits =
      record {
        bytes = [];
        price = unspent c;
        carry_is = refl;
        few = hc;
        and_then = λ xs q f. subst (First (instance_of s) a gs v c xs) (sym (unspent_⊞ c q)) f;
        reached = reached;
        next_is = omega arith;
        written = sym (over_from_nil to tree);
        fits = fits;
      }

  -- an item is built with suffix costs that are interchangeable with those behind it, and then the next
  pub partway_next : (rows tree now then : List ℕ) (gs : List Item) (g : Item) (rest : List Item) (v : ℕ → ℕ) (c to carry next : ℕ)
      (x : List ℕ) (goal : ℕ) (b : Built) → Partway s tree now gs (g ∷ rest) v c to carry next
      → Interchangeable (instance_of s) a (g ∷ []) (suffix_costs s rest v) (at x) carry goal → BuiltAs s rows now then (g ∷ []) (at x) carry
      next b
      → Partway s tree then gs rest v c to b.carry b.to
  partway_next rows tree now then gs g rest v c to carry next x goal b p alike built =
      record {
        bytes = p.bytes ++ built.bytes;
        price = p.price ⊞ built.price;
        carry_is = built.carry_is;
        few = small;
        and_then = further;
        reached = below;
        next_is = omega (arith, built.next_is, p.next_is, length-append p.bytes built.bytes);
        written = built.written ∙ ap (over_from next built.bytes) p.written ∙ joined;
        fits = omega (arith, p.fits, built.next_is, most);
      }
    where
      small : b.carry < carries
      small = rw built.carry_is (carry_fits (lawful s) built.bytes (g ∷ []) carry built.price built.first.reads p.few)

      one : First (instance_of s) a (g ∷ []) (suffix_costs s rest v) carry built.bytes built.price
      one = first_interchanged alike built.first

      below : suffix_costs s rest v b.carry < NONE
      below = rw built.carry_is (suffix_below (lawful s) a NONE (cell_of s) exact g rest v carry built.bytes built.price p.few
          p.reached one)

      most : length built.bytes ≤ room s g
      most = omega (
        arith,
        nodes_bound (instance_of s) (room s) (room_pays s good) built.bytes (g ∷ []) carry built.price
            built.first.reads,
      )

      joined : over_from next built.bytes (over_from to p.bytes tree) ≡ over_from to (p.bytes ++ built.bytes) tree
      joined = rw p.next_is (over_from-append to p.bytes built.bytes tree (omega (arith, p.fits, p.next_is)))

      further : (xs : List ℕ) (q : Price) → First (instance_of s) a rest v b.carry xs q
          → First (instance_of s) a gs v c ((p.bytes ++ built.bytes) ++ xs) ((p.price ⊞ built.price) ⊞ q)
      further xs q f =
          let both = first_next (lawful s) a NONE (cell_of s) exact g rest v carry built.bytes xs built.price q p.few
          p.reached one
          (rw built.carry_is at f) in
          let all = p.and_then (built.bytes ++ xs) (built.price ⊞ q) both in
          rw (append_assoc, ⊞_assoc) all

  -- behind the last item
  pub partway_done : (rows tree then : List ℕ) (gs : List Item) (v : ℕ → ℕ) (c to carry next : ℕ) (b : Built) → Sound s rows
      → Partway s tree then gs [] v c to carry next → b.carry ≡ carry → b.to ≡ next → BuiltAs s rows tree then gs v c to b
  partway_done rows tree then gs v c to carry next b sound p ec en =
      let all = p.and_then [] (unspent carry) (first_nil (instance_of s) a v carry) in
      record {
        bytes = p.bytes;
        price = p.price ⊞ unspent carry;
        first = rw append-nil at all;
        carry_is = ec;
        next_is = en ∙ p.next_is;
        written = p.written;
        sound = sound;
      }

  -- an item by its rule: the rule's byte, and then the first list of its parts
  pub built_rule : (rows tree then : List ℕ) (g : Item) (v : ℕ → ℕ) (c r to : ℕ) (m : Expansion) (b : Built) → c < carries
      → Chosen s g v c r → (instance_of s).expand g c r ≡ some m → to < length tree
      → BuiltAs s rows (set tree to r) then m.parts v m.carry (to + 1) b → BuiltAs s rows tree then (g ∷ []) v c to b
  unfolding rest_total instance_of
  built_rule rows tree then g v c r to m b hc chosen e ht built =
      record {
        bytes = r ∷ built.bytes;
        price = price_of ((instance_of s).weight r) m ⊞ built.price;
        first = first_chosen (lawful s) a NONE (cell_of s) exact g v c r hc chosen.place (omega (arith, chosen.total, chosen.reached)) m
            built.bytes built.price e built.first;
        carry_is = built.carry_is;
        next_is = omega (arith, built.next_is);
        written = built.written ∙ ap (over_from (to + 1) built.bytes) one
            ∙ over_from-append to (r ∷ []) built.bytes tree (omega arith);
        sound = built.sound;
      }
    where
      one : set tree to r ≡ over_from to (r ∷ []) tree
      one = let z : to + 0 ≡ to = omega arith in sym (ap (λ (n : ℕ). set (over_from to [] tree) n r) z
          ∙ ap (λ (t : List ℕ). set t to r) (over_from_nil to tree)) ∙ over_from_more to [] tree r (omega arith)
