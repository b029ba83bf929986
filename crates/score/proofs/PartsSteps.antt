-- Intervals in a row, written one after another: the parts of a division, and the bars of the piece.
use Prim.Native.Nat.{ℕ, ◌+◌, ◌*◌, ◌/◌, ◌%◌, ◌≤◌, ◌<◌}
use mathlib.Core.Path.{◌≡◌, refl, sym, ap, subst, ◌∙◌}
use mathlib.Core.List.{List, ◌∷◌, ◌++◌}
use mathlib.Core.Option.{some}
use native.Mathlib.Nat.{div-lt_self, suc-mul, zero-mul}
use native.Mathlib.Numerals.{add-one}
use native.Mathlib.Omega.{arith}
use lib.ListN.{length, drop, get_or}
use lib.Seq.{drop-length}
use Rattle.slices.specs.Over.{over_from}
use Rattle.slices.specs.Lookup.{drop-step}
use Rattle.sheet.specs.Sheet.{Sheet}
use Rattle.derivations.specs.Derivation.{Item, derive}
use Rattle.trees.specs.ValidTrees.{adjoining, placed_from}
use Rattle.trees.specs.Instance.{instance_of}
use Rattle.trees.specs.Expansions.{may_divide_lem, parts_whole}
use Rattle.trees.proofs.Onsets.{divided_long}
use Rattle.trees.proofs.RoomLaws.{good_division}
use Rattle.trees.specs.Leaves.{leaves_from}
use Rattle.trees.proofs.LeafLaws.{leaves_divided}
use Rattle.trees.specs.LeafBounds.{InOneBar}
use Rattle.trees.proofs.LeafBoundLaws.{part_in_bar}
use Rattle.expansions.specs.declared.Interval.{Interval}
use Rattle.expansions.specs.Items.{interval, item_of}
use Rattle.score.specs.declared.tree.Place.{Place}
use Rattle.score.specs.Score.{entry_lines}
use Rattle.expansions.specs.Tables.{RulesHeld}
use Rattle.score.specs.Clauses.{OnsetsHeld, carried_into, text_left, Ahead, WentOn, TreePre, TreeWritten}
use Rattle.score.proofs.TreeSteps.{behind_rule, DivisionHere, front}

-- intervals of `len` units in a row from `left` on are to be written, and then the items that follow
pub record PartsPre (s : Sheet) (rest : List Item) (ks cells us ps list : List ℕ) (left len : ℕ) (p : Place) (score : List ℕ) : Type 0
  where
    pub rules : RulesHeld s cells
    pub onsets : OnsetsHeld s us ps
    pub in_bars : (j : ℕ) → j < length ks → InOneBar s (left + j * len) len
    pub ahead : Ahead s list left (adjoining left len ks ++ rest) p score

-- the items that are left after j intervals
abbrev pub items_from : (left len : ℕ) (ks : List ℕ) (rest : List Item) (j : ℕ) → List Item
items_from left len ks rest j = adjoining (left + j * len) len (drop j ks) ++ rest

-- j intervals are written
pub record PartsUpto (s : Sheet) (rest : List Item) (ks list : List ℕ) (left len : ℕ) (p : Place) (score : List ℕ) (j : ℕ) (x : Place)
    (score' : List ℕ) : Type 0 where
  pub ahead : Ahead s list (left + j * len) (items_from left len ks rest j) x score'
  pub went_on : WentOn s list (adjoining left len ks ++ rest) p score (items_from left len ks rest j) x score'

went_on_twice : {s : Sheet} {list : List ℕ} {gs hs is : List Item} {p x y : Place} {a b c : List ℕ} → WentOn s list gs p a hs x b
    → WentOn s list hs x b is y c → WentOn s list gs p a is y c
went_on_twice v w = record { text = w.text ∙ v.text; end = w.end ∙ v.end }

-- where the intervals begin
none_left : (left len : ℕ) → left ≡ left + 0 * len
none_left left len = omega (arith, zero-mul len)

next_left : (left len j : ℕ) → left + j * len + len ≡ left + (j + 1) * len
next_left left len j = rw add-one (omega (arith, suc-mul j len))

one_left : (l left len j : ℕ) → l ≡ left + j * len → l + len ≡ left + (j + 1) * len
one_left l left len j e = ap (◌+ len) e ∙ next_left left len j

module _ {s : Sheet} {rest : List Item} {ks cells us ps list : List ℕ} {left len : ℕ} {p : Place} {score : List ℕ}
    (h : PartsPre s rest ks cells us ps list left len p score) where
  abbrev Upto : ℕ → Place → List ℕ → Type 0
  Upto = PartsUpto s rest ks list left len p score

  pub parts_none : Upto 0 p score
  parts_none =
      let same = sym (none_left left len) in
      record { ahead = rw same h.ahead; went_on = rw same (record { text = refl; end = refl }) }

  -- the next interval begins at l
  module _ (j : ℕ) (k : j < length ks) (l : ℕ) (at : l ≡ left + j * len) (x : Place) (score' : List ℕ) (u : Upto j x score') where
    -- the items behind it
    abbrev pub following : List Item
    following = items_from left len ks rest (j + 1)

    items_next : items_from left len ks rest j ≡ item_of (get_or ks j 0) (interval l len) ∷ following
    items_next =
        ap (λ y. adjoining y len (drop j ks) ++ rest) (sym at) ∙ ap (λ qs. adjoining l len qs ++ rest) (drop-step ks j k)
        ∙ ap (λ y. item_of (get_or ks j 0) (interval l len) ∷ (adjoining y len (drop (j + 1) ks) ++ rest)) (one_left l left len j at)

    pub part_entry : TreePre s (get_or ks j 0) following cells us ps list (interval l len) x score'
    part_entry =
        record {
          rules = h.rules;
          onsets = h.onsets;
          in_bar_lem = rw at (h.in_bars j k);
          ahead =
              subst (λ y. Ahead s list y (item_of (get_or ks j 0) (interval l len) ∷ following) x score') (sym at)
              (rw items_next at u.ahead);
        }

    pub part_done : (y : Place) (score'' : List ℕ) → TreeWritten s (get_or ks j 0) following list (interval l len) x y score' score''
        → Upto (j + 1) y score''
    part_done y score'' w =
        record {
          ahead = subst (λ z. Ahead s list z following y score'') (one_left l left len j at) w.ahead;
          went_on = went_on_twice (rw items_next at u.went_on) w.went_on;
        }

  -- none is left
  pub parts_all : (j : ℕ) (x : Place) (score' : List ℕ) → Upto j x score' → j ≡ length ks
      → Ahead s list (left + length ks * len) rest x score' × WentOn s list (adjoining left len ks ++ rest) p score rest x score'
  parts_all j x score' u e =
      let v : Upto (length ks) x score' = rw e at u in
      (rw (drop-length ks) at v.ahead, rw (drop-length ks) at v.went_on)

-- ---- the parts of a division

module _ {s : Sheet} {q : ℕ} {rest : List Item} {cells us ps list : List ℕ} {over : Interval} {p : Place} {score ks : List ℕ} {k : ℕ}
    (h : TreePre s q rest cells us ps list over p score) (size : length ks ≡ k)
    (d : DivisionHere s q rest list over p (get_or list p.at 0) ks) where
  abbrev left' : ℕ
  left' = over.left.0

  abbrev len' : ℕ
  len' = over.len.0

  -- a division has two parts or more, and they are shorter
  pub two_parts : 2 ≤ k
  two_parts = omega (arith, (good_division s h.rules.good (get_or list p.at 0) q d.weight ks d.rule).two, size)

  pub part_shorter : len' / k < len'
  part_shorter = div-lt_self (divided_long s (length ks) left' len' d.allowed) two_parts

  even : len' % k ≡ 0
  even = rw size at (may_divide_lem s (length ks) left' len' d.allowed).0

  text_division : text_left s list (item_of q over ∷ rest) p ≡ text_left s list (adjoining left' (len' / k) ks ++ rest) (behind_rule p)
  text_division =
      rw (← size)
      (ap (λ xs. entry_lines (placed_from s (carried_into s p) (leaves_from s xs (item_of q over ∷ rest)))) (front h)
      ∙ ap (λ ls. entry_lines (placed_from s (carried_into s p) ls)) (leaves_divided s (item_of q over) rest _ q d.weight ks _ d.rule))

  pub parts_entry : PartsPre s rest ks cells us ps list left' (len' / k) (behind_rule p) score
  parts_entry =
      record {
        rules = h.rules;
        onsets = h.onsets;
        in_bars = λ j i. part_in_bar s (item_of q over) k j q h.in_bar_lem even (omega (arith, size, i));
        ahead = record {
          stands = record { first = h.ahead.stands.first; before = h.ahead.stands.before; few = h.ahead.stands.few };
          price = d.price;
          read =
              subst
              (λ n. derive (instance_of s) (drop (p.at + 1) list) (adjoining left' (len' / n) ks ++ rest) p.carried ≡ some d.price)
              size
              d.read;
          room = omega (arith, h.ahead.room, ap length text_division);
        };
      }

  pub division_done : (j : ℕ) (x : Place) (score' : List ℕ)
      → PartsUpto s rest ks list left' (len' / k) (behind_rule p) score j x score' → j ≡ k → TreeWritten s q rest list over p x score score'
  division_done j x score' u e = go (parts_all parts_entry j x score' u (e ∙ sym size))
    where
      whole : length ks * (len' / k) ≡ len'
      whole = rw size (parts_whole k len' even)

      go : Ahead s list (left' + length ks * (len' / k)) rest x score'
          × WentOn s list (adjoining left' (len' / k) ks ++ rest) (behind_rule p) score rest x score'
          → TreeWritten s q rest list over p x score score'
      go (a, w) =
          record {
            ahead = rw whole at a;
            went_on = record {
              text = w.text ∙ ap (λ xs. over_from p.to xs score) (sym text_division);
              end = omega (arith, w.end, ap length text_division);
            };
          }
