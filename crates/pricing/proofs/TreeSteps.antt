-- The steps of `read_tree`: the list at its end (`list_ends`), a rule that is refused (`rule_refused`), a leaf (`leaf_walked`), a division
-- and its parts (`parts_walked`), which are shorter (`parts_fall`).
use Prim.Native.Nat.{ℕ, ◌+◌, ◌-◌, ◌*◌, ◌/◌, ◌≤◌, ◌<◌}
use mathlib.Core.Path.{◌≡◌, refl, sym, ap, subst, ◌∙◌}
use mathlib.Core.List.{List, [], ◌∷◌, map}
use mathlib.Core.Option.{none, some, Option-elim}
use native.Mathlib.Nat.{mul-le-mul_right, div-lt_self}
use native.Mathlib.Omega.{arith}
use lib.ListN.{length, take, drop, get_or, drop_of_length-le}
use Rattle.slices.specs.Every.{every_some}
use Rattle.slices.specs.Lookup.{some_below, drop-step}
use Rattle.slices.specs.Pad.{length-pad}
use Rattle.sheet.specs.Sheet.{Rule, division, leaf, Sheet, bar_units}
use Rattle.sheet.specs.Good.{GoodDivision, GoodRule, GoodRules}
use Rattle.sheet.specs.Held.{parts_of, flat, child_cells}
use Rattle.sheet.specs.Children.{parts_of_lem}
use Rattle.derivations.specs.Derivation.{Item, ◌⊞◌, unspent, price_of}
use Rattle.derivations.specs.Reads as reading
use Rattle.derivations.specs.Reads.{reads_nil, reads_rule, stuck_rule, stuck_parts, stuck_end}
use Rattle.trees.specs.ValidTrees.{rule_at, weight_of, weight_at}
use Rattle.trees.specs.Instance.{onsets_in, at_leaf, at_division, instance_of}
use Rattle.trees.specs.Expansions.{may_divide_lem, parts_whole}
use Rattle.trees.proofs.Onsets.{early_late, own_distance_most, divided_long}
use Rattle.expansions.specs.declared.Interval.{Interval}
use Rattle.expansions.specs.declared.Expansion.{Expansion}
use Rattle.expansions.specs.declared.Expansion.TheVariants.{Leaf, Division}
use Rattle.expansions.specs.Items.{interval, first_at, item_of, At, LeafMade, DivisionMade, Expands}
use Rattle.expansions.specs.Places.{first_next, first_most}
use Rattle.pricing.specs.declared.Progress.{Progress}
use Rattle.std.proofs.Common.{Option, Some, None}
use Rattle.pricing.specs.Clauses.{progress_behind, Room, NotPassed, ItemPre, ItemWalked, ForestPre, ForestWalked}

-- the weights of a sheet's rules
weight_at_lem : (s : Sheet) (r : ℕ) (ru : Rule) (w : ℕ) → rule_at s r ≡ some ru → weight_of ru ≡ w → (instance_of s).weight r ≡ w
unfolding instance_of weight_at Option-elim
weight_at_lem s r ru w e f = rw e f

good_rule : (s : Sheet) → GoodRules s.grammar → (r : ℕ) (ru : Rule) → rule_at s r ≡ some ru → GoodRule s.grammar.nonterminals ru
good_rule s g r ru e = every_some (GoodRule s.grammar.nonterminals) s.grammar.rules r ru g.rules e

module _ {s : Sheet} {cells children units list : List ℕ} {over : Interval} {p : Progress}
    (h : ItemPre s cells children units list over p) where
  -- what `expand` asks
  pub item_at_lem : At s cells units over p.from p.carried
  item_at_lem =
      record {
        rules = h.lent.rules;
        entered =
            record {
              here = record { onsets = h.lent.onsets; within = h.within; first = h.first };
              few = h.sized.few;
            };
      }

  pub children_length : length children ≡ 512
  unfolding child_cells
  children_length = ap length h.lent.kids ∙ length-pad 512 0 (flat (map parts_of s.grammar.rules))

  pub list_ends : (q : ℕ) → length list ≤ p.at → NotPassed s list (item_of q over ∷ []) p
  list_ends q k = subst (λ xs. reading.Stuck (instance_of s) (item_of q over ∷ []) p.carried xs) (sym (drop_of_length-le list k))
      (stuck_end (instance_of s) (item_of q over) p.carried)

  -- the list from a rule on
  front : p.at < length list → drop p.at list ≡ get_or list p.at 0 ∷ drop (p.at + 1) list
  front k = drop-step list p.at k

  -- the rule there, and the list behind it
  abbrev r : ℕ
  r = get_or list p.at 0

  abbrev rest : List ℕ
  rest = drop (p.at + 1) list

  module _ (q : ℕ) (k : p.at < length list) where
    abbrev g : Item
    g = item_of q over

    -- what `expand` tells, by its result x
    abbrev Told : Option Expansion → Type 0
    Told x = At s cells units over p.from p.carried → Expands s g p.carried r x

    told : (x y : Option Expansion) → x ≡ y → Told x → Expands s g p.carried r y
    told x y e f = subst (Expands s g p.carried r) e (f item_at_lem)

    pub leaf_told : {w e l d : ℕ} (x : Option Expansion) → x ≡ Some (Leaf w e l d) → Told x → LeafMade s g p.carried r w e l d
    leaf_told x e f = told x _ e f

    pub division_told : {w a : ℕ} (x : Option Expansion) → x ≡ Some (Division w a) → Told x → DivisionMade s g p.carried r w a
    division_told x e f = told x _ e f

    no_expansion : (instance_of s).expand g p.carried r ≡ none → NotPassed s list (g ∷ []) p
    no_expansion e = subst (λ xs. reading.Stuck (instance_of s) (g ∷ []) p.carried xs) (sym (front k))
        (stuck_rule (instance_of s) g p.carried r rest e)

    pub rule_refused : (x : Option Expansion) → x ≡ None → Told x → NotPassed s list (g ∷ []) p
    rule_refused x e f = no_expansion (told x None e f)

    -- ---- a leaf

    module _ {w e l d : ℕ} (m : LeafMade s g p.carried r w e l d) where
      inside : e + l ≡ onsets_in s over.left.0 over.len.0
      inside = omega (arith, m.fits.counts.early, m.fits.counts.late, early_late s over.left.0 over.len.0)

      from_next : p.from + (e + l) ≡ first_at s (over.left.0 + over.len.0)
      from_next = omega (arith, inside, h.first, first_next s h.lent.onsets.good over.left.0 over.len.0)

      far : d ≤ bar_units * (e + l)
      far =
          let most = mul-le-mul_right (onsets_in s over.left.0 over.len.0) h.in_bar_lem in
          rw inside (omega (arith, most, m.fits.counts.distance, own_distance_most s over.left.0 over.len.0))

      light : w ≤ 65535
      light = (good_rule s h.lent.rules.good r (leaf q w m.n) m.rule).weight

      pub leaf_room : Room p (e + l) w d
      leaf_room =
          record {
            at = omega (arith, h.sized.in_list, h.sized.short);
            from = omega (arith, from_next, first_most s h.lent.onsets.good (over.left.0 + over.len.0));
            weight_most = omega (arith, h.sized.in_list, h.sized.short, h.sized.weight, light);
            distance_most =
                omega (arith, from_next, first_most s h.lent.onsets.good (over.left.0 + over.len.0), h.sized.distance, far);
          }

      walked : ItemWalked s list q over p (Some (progress_behind p (e + l) l w d))
      unfolding at_leaf
      walked = (
        record {
          price = price_of ((instance_of s).weight r) (at_leaf s g) ⊞ unspent (at_leaf s g).carry;
          reads = λ hs. rw (front k) (
              reads_rule (instance_of s) g p.carried r rest rest
              (at_leaf s g) (unspent (at_leaf s g).carry) m.expands
              (reads_nil (instance_of s) (at_leaf s g).carry rest) hs);
          carried = m.fits.counts.late;
          weight = omega (arith, weight_at_lem s r (leaf q w m.n) w m.rule refl);
          distance = omega (arith, m.fits.counts.distance);
          sized =
              record {
                in_list = omega arith;
                short = h.sized.short;
                onsets = leaf_room.from;
                few = m.fits.few;
                weight = omega (arith, h.sized.weight, light);
                distance = omega (arith, h.sized.distance, far);
              };
        },
        from_next,
      )

      pub leaf_walked : (b : Progress) → b ≡ progress_behind p (e + l) l w d → ItemWalked s list q over p (Some b)
      leaf_walked b f = subst (λ b. ItemWalked s list q over p (Some b)) (sym f) walked

    -- ---- a division

    module _ {w a : ℕ} (m : DivisionMade s g p.carried r w a) where
      good_parts : GoodDivision s.grammar.nonterminals q w m.parts
      good_parts = good_rule s h.lent.rules.good r (division q w m.parts) m.rule

      -- the parts are shorter, and together as long as the whole
      pub parts_fall : (over.len.0 / a < over.len.0) × (a * (over.len.0 / a) ≡ over.len.0)
      parts_fall = rw m.count (
        div-lt_self (divided_long s (length m.parts) over.left.0 over.len.0 m.allowed) good_parts.two,
        parts_whole (length m.parts) over.len.0 (may_divide_lem s (length m.parts) over.left.0 over.len.0 m.allowed).0,
      )

      pub arity_small : (2 ≤ a) × (a ≤ 8) × (r < 64)
      arity_small = (
        omega (arith, m.count, good_parts.two),
        omega (arith, m.count, good_parts.eight),
        omega (arith, some_below s.grammar.rules r _ m.rule, h.lent.rules.good.most),
      )

      pub rule_room : Room p 0 w 0
      rule_room =
          record {
            at = omega (arith, h.sized.in_list, h.sized.short);
            from = omega (arith, h.first, first_most s h.lent.onsets.good over.left.0);
            weight_most = omega (arith, h.sized.in_list, h.sized.short, h.sized.weight, good_parts.weight);
            distance_most = omega (arith, h.first, first_most s h.lent.onsets.good over.left.0, h.sized.distance);
          }

      -- the table has the nonterminals of the parts
      pub kids_are : take (8 * r + a - 8 * r) (drop (8 * r) children) ≡ m.parts
      kids_are =
          let e : 8 * r + a - 8 * r ≡ a = omega arith in
          rw (e, h.lent.kids, m.count)
          (parts_of_lem s.grammar.rules r q w m.parts m.rule good_parts.eight h.lent.rules.good.most)

      row_entry : ForestPre s cells children units list m.parts (interval over.left.0 (over.len.0 / a))
          (progress_behind p 0 p.carried w 0)
      row_entry =
          record {
            lent = h.lent;
            within = omega (arith, h.within, parts_fall.1, ap (λ x. x * (over.len.0 / a)) m.count);
            in_bar_lem = omega (arith, h.in_bar_lem, parts_fall.0);
            from = omega (arith, h.first);
            sized =
                record {
                  in_list = omega arith;
                  short = h.sized.short;
                  onsets = rule_room.from;
                  few = h.sized.few;
                  weight = omega (arith, h.sized.weight, good_parts.weight);
                  distance = omega (arith, h.sized.distance);
                };
          }

      pub parts_entry : (kids : List ℕ) (n : Progress) → kids ≡ m.parts → n ≡ progress_behind p 0 p.carried w 0
          → ForestPre s cells children units list kids (interval over.left.0 (over.len.0 / a)) n
      parts_entry kids n e f = rw (e, f) row_entry

      division_walked : (x : Option Progress)
          → ForestWalked s list m.parts (interval over.left.0 (over.len.0 / a)) (progress_behind p 0 p.carried w 0) x
          → ItemWalked s list q over p x
      unfolding at_division
      division_walked None t =
          subst (λ xs. reading.Stuck (instance_of s) (g ∷ []) p.carried xs) (sym (front k))
          (stuck_parts (instance_of s) g p.carried r rest
          (at_division g p.carried m.parts) m.expands (rw m.count at t))
      division_walked (Some n) (t, f) =
          let t' = rw m.count at t in (
            record {
              price = price_of ((instance_of s).weight r) (at_division g p.carried m.parts) ⊞ t'.price;
              reads = λ hs. rw (front k) (
                  reads_rule (instance_of s) g p.carried r rest (drop n.at list)
                  (at_division g p.carried m.parts) t'.price m.expands t'.reads hs);
              carried = t'.carried;
              weight = omega (arith, weight_at_lem s r (division q w m.parts) w m.rule refl, t'.weight);
              distance = omega (arith, t'.distance);
              sized = t'.sized;
            },
            f ∙ ap (first_at s) (omega (arith, parts_fall.1, ap (λ x. x * (over.len.0 / a)) m.count)),
          )

      pub parts_walked : (kids : List ℕ) (n : Progress) → kids ≡ m.parts → n ≡ progress_behind p 0 p.carried w 0 → (x : Option Progress)
          → (ForestPre s cells children units list kids (interval over.left.0 (over.len.0 / a)) n
          → ForestWalked s list kids (interval over.left.0 (over.len.0 / a)) n x)
          → ItemWalked s list q over p x
      parts_walked kids n e f x t =
          let first = interval over.left.0 (over.len.0 / a) in
          let row = subst (λ ks. ForestWalked s list ks first n x) e (t (parts_entry kids n e f)) in
          division_walked x (subst (λ n. ForestWalked s list m.parts first n x) f row)
