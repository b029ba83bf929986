-- The steps of `build_parts`: the parts of a division from left to right. `InParts` is the loop's invariant: it begins with no part
-- (`in_parts_none`), goes on by a part (`in_parts_more`) and ends with all (`in_parts_all`). A part is built with its row (`part_entry`)
-- and the suffix costs behind it (`part_behind`).
use Prim.Native.Nat.{ℕ, ◌+◌, ◌*◌, ◌≤◌, ◌<◌}
use mathlib.Core.Path.{◌≡◌, refl, ap, subst, ◌∙◌}
use mathlib.Core.List.{List, [], ◌∷◌}
use native.Mathlib.Omega.{arith}
use lib.ListN.{length, drop, drop_of_length-le}
use Rattle.slices.specs.Over.{length-over_from}
use Rattle.sheet.specs.declared.clock.Units.{Units}
use Rattle.sheet.specs.Sheet.{Sheet}
use Rattle.sheet.specs.Good.{GoodRules}
use Rattle.sheet.specs.Held.{units}
use Rattle.derivations.specs.Derivation.{Item}
use Rattle.trees.specs.ValidTrees.{adjoining}
use Rattle.trees.specs.LeastTotal.{carries, cell_of}
use Rattle.expansions.specs.Tables.{last_unit}
use Rattle.expansions.specs.Items.{first_at}
use Rattle.plan.specs.Plan.{length_at, length_cell, child_cell}
use Rattle.plan.specs.PlanLaws.{child_at}
use Rattle.rows.specs.declared.slots.Bar.{Bar}
use Rattle.rows.specs.Vectors.{totals_of}
use Rattle.rows.specs.VectorLaws.{vec_at}
use Rattle.rows.specs.Slots.{item_at, Sound}
use Rattle.rows.specs.Rows.{Entry, Row, parts_at}
use Rattle.rows.specs.PartLaws.{parts-length, next_near, next_stands}
use Rattle.rows.specs.TurnLaws.{row_totals, row_low}
use Rattle.building.specs.declared.Built.{Built}
use Rattle.building.specs.Clauses.{at, parts_from, SuffixPre, SuffixCosts, BuiltAs, BuildPre, PartsBuildPre, Partway}
use Rattle.building.specs.RebuildLaws.{row-drop, partway_none, partway_next, partway_done}
use Rattle.building.specs.InterchangeLaws.{interchangeable_suffix, interchangeable_reached}

-- j parts are built, and the next begins at `lo`
pub record InParts (s : Sheet) (rows tree now : List ℕ) (l : ℕ) (left : Units) (kids v : List ℕ) (c to : ℕ) (j lo from carry next : ℕ)
    : Type 0 where
  pub partway : Partway s tree now (parts_at s l left kids) (parts_from s l left kids j) (at v) c to carry next
  pub first : from ≡ first_at s lo
  pub sound : Sound s rows

module _ {s : Sheet} {plan us rows tree : List ℕ} {bar : Bar} {r k l : ℕ} {left : Units} {from c : ℕ} {v : List ℕ} {to : ℕ}
    (h : PartsBuildPre s plan us rows tree bar r k l left from c v to) where
  abbrev kids : List ℕ
  kids = h.parts.divides.parts

  abbrev good : GoodRules s.grammar
  good = h.parts.in_bar_lem.prepared.good

  pub in_parts_none : InParts s rows tree tree l left kids v c to 0 left.0 from c to
  in_parts_none =
      record {
        partway = subst (λ (gs : List Item). Partway s tree tree (parts_at s l left kids) gs (at v) c to c to) all
            (partway_none s good tree (parts_at s l left kids) (at v) c to h.parts.few h.reached h.fits);
        first = h.parts.first;
        sound = h.parts.sound;
      }
    where
      all : parts_at s l left kids ≡ parts_from s l left kids 0
      all = ap (λ (x : ℕ). adjoining x (length_at s l) kids) (omega arith)

  -- one part more
  module _ {now rows' : List ℕ} {j lo from' carry next : ℕ} {len : ℕ}
      (in_parts : InParts s rows' tree now l left kids v c to j lo from' carry next) (hj : j < k) (el : len ≡ length_cell plan l)
      (is : lo ≡ left.0 + j * len) where
    pub same_len : len ≡ length_at s l
    same_len = el ∙ h.parts.in_bar_lem.prepared.length-at l (parts-length h.parts)

    lo_is : lo ≡ left.0 + j * length_at s l
    lo_is = is ∙ ap (λ (n : ℕ). left.0 + j * n) same_len

    pub there : lo ≡ h.parts.start + j * length_at s l
    there = omega (arith, lo_is, h.parts.left_is)

    pub part_near : lo + len ≤ last_unit
    part_near = omega (arith, same_len, next_near h.parts j lo hj there)

    module _ {q : ℕ} (eq : q ≡ child_cell plan r j) where
      abbrev part : Item
      part = item_at s q l (units lo)

      abbrev rest : List Item
      rest = parts_from s l left kids (j + 1)

      split_off : parts_from s l left kids j ≡ part ∷ rest
      split_off =
          let kid = eq ∙ child_at s plan h.parts.in_bar_lem.prepared r h.parts.q h.parts.divides.weight kids
          h.parts.divides.rule j
          (omega (arith, h.parts.divides.count)) in
          rw (kid, lo_is) (row-drop left.0 (length_at s l) kids j (omega (arith, h.parts.divides.count)))

      pub on : Partway s tree now (parts_at s l left kids) (part ∷ rest) (at v) c to carry next
      on = subst (λ (gs : List Item). Partway s tree now (parts_at s l left kids) gs (at v) c to carry next) split_off
          in_parts.partway

      -- its row
      pub part_entry : Entry s plan us rows' bar q l (units lo) from' carry
      part_entry = record {
        stands = next_stands h.parts j lo hj there q from' eq
            in_parts.first;
        few = on.few;
        sound = in_parts.sound;
      }

      module _ {rows'' y x : List ℕ} (row_is : Row s rows'' part carry y) (ex : x ≡ totals_of y) {to' : ℕ} (eto : to' ≡ first_at s (lo + len))
        where
          totals_are : (m : ℕ) → m < carries → at x m ≡ cell_of s part carry m
          totals_are m hm =
              ap (λ (z : List ℕ). at z m) (row_totals good on.few row_is ex) ∙ vec_at (cell_of s part carry) m hm

          -- the suffix costs behind it
          abbrev pub part_behind : SuffixPre s plan us rows'' bar r (j + 1) k l (units (lo + len)) to' 0 x v
          part_behind = record {
            parts = record {
              in_bar_lem = h.parts.in_bar_lem;
              q = h.parts.q;
              whole = h.parts.whole;
              start = h.parts.start;
              divides = h.parts.divides;
              whole_in = h.parts.whole_in;
              aligned = h.parts.aligned;
              part_in = omega arith;
              left_is = omega (arith, there, same_len);
              first = eto;
              few = omega arith;
              sound = row_is.sound;
            };
            low_row = row_low good on.few row_is ex;
            low = h.low;
          }

          module _ {rows''' w : List ℕ} (b : SuffixCosts s rows''' (parts_at s l (units (lo + len)) (drop (j + 1) kids)) x v w) where
            suffix_rest : SuffixCosts s rows''' rest x v w
            suffix_rest =
                subst (λ (n : ℕ). SuffixCosts s rows''' (adjoining n (length_at s l) (drop (j + 1) kids)) x v w)
                (omega (arith, lo_is, same_len)) b

            pub part_build : BuildPre s plan us rows''' now bar q l (units lo) from' carry y w next
            part_build =
                record {
                  entry = record { stands = part_entry.stands; few = on.few; sound = b.sound };
                  row_is = row_is.is;
                  low = b.low;
                  reached = interchangeable_reached s good part carry on.few totals_are suffix_rest on.reached;
                  fits = omega (arith, on.fits, ap length on.written, length-over_from to on.bytes tree);
                }

            pub in_parts_more : {rows'''' then : List ℕ} {built : Built} → BuiltAs s rows'''' now then (part ∷ []) (at w) carry next built
                → InParts s rows'''' tree then l left kids v c to (j + 1) (lo + len) to' built.carry built.to
            in_parts_more {rows''''} {then} {built} made =
                record {
                  partway = partway_next s good rows'''' tree now then (parts_at s l left kids) part rest (at v) c to carry next w _ built on
                      (interchangeable_suffix s good part carry on.few totals_are suffix_rest on.reached) made;
                  first = eto;
                  sound = made.sound;
                }

  pub in_parts_all : {now rows' : List ℕ} {j lo from' carry next : ℕ} → InParts s rows' tree now l left kids v c to j lo from' carry next
      → j ≡ k → BuiltAs s rows' tree now (parts_at s l left kids) (at v) c to (record { to = next; carry = carry })
  in_parts_all {now} {rows'} {j} {lo} {from'} {carry} {next} p ej =
      partway_done s good rows' tree now (parts_at s l left kids) (at v) c to carry next _ p.sound
      (subst (λ (gs : List Item). Partway s tree now (parts_at s l left kids) gs (at v) c to carry next) none p.partway) refl refl
    where
      none : parts_from s l left kids j ≡ []
      none = rw ej (ap (adjoining (left.0 + k * length_at s l) (length_at s l))
          (drop_of_length-le kids {i = k} (omega (arith, h.parts.divides.count))))
