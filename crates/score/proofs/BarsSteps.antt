-- The steps of `write_bars` and `write_text`: the bars of a valid tree are intervals in a row from the piece's begin on.
use Prim.Native.Nat.{ℕ, ◌<◌}
use mathlib.Core.Path.{◌≡◌, refl, sym, ap, ◌∙◌}
use mathlib.Core.List.{List, [], ◌∷◌, ◌++◌, append-nil}
use mathlib.Core.Option.{some}
use native.Mathlib.Omega.{arith}
use lib.ListN.{length, drop, replicate, length-replicate}
use Rattle.slices.specs.Over.{over_from, over_from_nil}
use Rattle.sheet.specs.Sheet.{Sheet, bar_units}
use Rattle.derivations.specs.Derivation.{Price, derive}
use Rattle.trees.specs.ValidTrees.{adjoining, bars, placed_from, Priced}
use Rattle.trees.specs.Instance.{instance_of, Derived}
use Rattle.trees.proofs.Equivalence.{valid_derived}
use Rattle.trees.proofs.Found.{own_price}
use Rattle.trees.specs.Leaves.{leaves_from, entries_of}
use Rattle.expansions.specs.Places.{first_zero}
use Rattle.score.specs.declared.tree.Place.{Place}
use Rattle.score.specs.Score.{leaf_lines, entry_lines}
use Rattle.score.specs.Clauses.{carried_into, text_left, BarsPre, BarsWritten}
use Rattle.score.proofs.PartsSteps.{PartsPre, PartsUpto, parts_all}

-- the piece's begin
abbrev pub begin : (to : ℕ) → Place
begin to = record { at = 0; from = 0; carried = 0; to = to }

-- the nonterminals of the bars
abbrev pub roots : Sheet → List ℕ
roots s = replicate s.playing.bars s.grammar.start

abbrev pub BarsUpto : Sheet → (list : List ℕ) (to : ℕ) (score : List ℕ) (b : ℕ) (x : Place) (score' : List ℕ) → Type 0
BarsUpto s list to score = PartsUpto s [] (roots s) list 0 bar_units (begin to) score

bars_row : (s : Sheet) → adjoining 0 bar_units (roots s) ++ [] ≡ bars s
unfolding bars
bars_row s = append-nil (adjoining 0 bar_units (roots s))

-- no item is left: no text is left
nothing_left : (s : Sheet) (list : List ℕ) (x : Place) → text_left s list [] x ≡ []
unfolding leaves_from placed_from leaf_lines
nothing_left s list x = go (drop x.at list)
  where
    go : (xs : List ℕ) → entry_lines (placed_from s (carried_into s x) (leaves_from s xs [])) ≡ []
    go [] = refl
    go (r ∷ xs) = refl

module _ {s : Sheet} {cells us ps list : List ℕ} {count to : ℕ} {score : List ℕ} (h : BarsPre s cells us ps list count to score) where
  read : (price : Price) × (derive (instance_of s) list (bars s) 0 ≡ some price)
  unfolding Derived
  read = go (own_price s list h.valid)
    where
      go : (R : ℕ) × (D : ℕ) × Priced s list R D → (price : Price) × (derive (instance_of s) list (bars s) 0 ≡ some price)
      go (R, D, v) = (_, valid_derived s list R D v)

  whole_text : text_left s list (adjoining 0 bar_units (roots s) ++ []) (begin to) ≡ entry_lines (entries_of s list)
  whole_text = ap (λ gs. entry_lines (placed_from s [] (leaves_from s list gs))) (bars_row s)

  -- bar b is one of them
  pub bar_left : {b : ℕ} → b < count → b < length (roots s)
  bar_left k = omega (arith, k, h.bars, length-replicate s.playing.bars s.grammar.start)

  pub bars_entry : PartsPre s [] (roots s) cells us ps list 0 bar_units (begin to) score
  bars_entry =
      record {
        rules = h.rules;
        onsets = h.onsets;
        in_bars = λ j i.
            record {
              bar = j;
              below = omega (arith, i, length-replicate s.playing.bars s.grammar.start);
              begins = omega arith;
              ends = omega arith;
            };
        ahead = record {
          stands = record { first = sym (first_zero s h.onsets.units.good); before = omega arith; few = omega arith };
          price = read.0;
          read = ap (λ gs. derive (instance_of s) list gs 0) (bars_row s) ∙ read.1;
          room = omega (arith, h.room, ap length whole_text);
        };
      }

  pub bars_done : (b : ℕ) (x : Place) (score' : List ℕ) → BarsUpto s list to score b x score' → b ≡ count
      → BarsWritten s list to x.to score score'
  bars_done b x score' u e =
      let size = length-replicate s.playing.bars s.grammar.start in
      let w = (parts_all bars_entry b x score' u (omega (arith, e, h.bars, size))).1 in
      let none = nothing_left s list x in
      record {
        text =
            sym (over_from_nil x.to score') ∙ ap (λ xs. over_from x.to xs score') (sym none) ∙ w.text
            ∙ ap (λ xs. over_from to xs score) whole_text;
        end = omega (arith, w.end, ap length none, ap length whole_text);
      }
