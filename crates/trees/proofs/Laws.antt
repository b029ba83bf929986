-- What the theory of derivations asks of a sheet's instance: it has so many rules, the carry never passes 3, and lengths fall from an item
-- to its parts.
use Rattle.std.specs.Prelude.{ℕ, suc, ◌+◌, ◌-◌, ◌*◌, ◌/◌, ◌<◌, ◌≡◌, true, List, [], ◌∷◌, ◌++◌}
use Rattle.std.proofs.Common.{ap, subst, ◌∙◌, inl, inr, arith}
use Rattle.std.proofs.Math.Option.{none, some, Option-elim}
use Rattle.std.proofs.Math.Nat.{div-lt_self}
use Rattle.std.proofs.Math.ListN.{length}
use Rattle.slices.specs.Every.{Every}
use Rattle.slices.specs.Lookup.{past_end}
use Rattle.sheet.specs.Sheet.{division, Sheet}
use Rattle.sheet.specs.Good.{GoodRules}
use Rattle.derivations.specs.Derivation.{Item, Expansion, Lawful}
use Rattle.derivations.specs.Cells.{Falls}
use Rattle.trees.specs.ValidTrees.{adjoining, rule_at, may_divide}
use Rattle.trees.specs.Instance.{at_leaf, at_division, instance_of}
use Rattle.trees.specs.Expansions.{Step, step_of}
use Rattle.trees.proofs.Onsets.{divided_long}
use Rattle.trees.proofs.RoomLaws.{good_division}

-- a property of the intervals in a row, by their places
pub adjoining_every : (X : Item → Type 0) (l p : ℕ) (qs : List ℕ)
    → ((j q : ℕ) → j < length qs → X (record { nonterminal = q; left = l + j * p; len = p })) → Every X (adjoining l p qs)
adjoining_every X l p [] h = tt
adjoining_every X l p (q ∷ qs) h = (
  at_left (omega arith) (h 0 q (omega arith)),
  adjoining_every X (l + p) p qs
      (λ j k i. at_left (omega arith) (h (suc j) k (omega arith))),
)
  where
    at_left : {x y k : ℕ} → x ≡ y → X (record { nonterminal = k; left = x; len = p }) → X (record { nonterminal = k; left = y; len = p })
    at_left {k = k} e t = subst (λ (z : ℕ). X (record { nonterminal = k; left = z; len = p })) e t

-- intervals in a row, then more of them
pub adjoining-append : (l p : ℕ) (xs ys : List ℕ) → adjoining l p (xs ++ ys) ≡ adjoining l p xs ++ adjoining (l + length xs * p) p ys
adjoining-append l p [] ys = ap (λ (x : ℕ). adjoining x p ys) (omega arith)
adjoining-append l p (x ∷ xs) ys =
    ap (λ (gs : List Item). record { nonterminal = x; left = l; len = p } ∷ gs) (adjoining-append (l + p) p xs ys
    ∙ ap (λ (z : ℕ). adjoining (l + p) p xs ++ adjoining z p ys) (omega arith))

-- part j of the item g, divided into k, under nonterminal q
abbrev pub part_of : Item → (k j q : ℕ) → Item
part_of g k j q = record { nonterminal = q; left = g.left + j * (g.len / k); len = g.len / k }

module _ (s : Sheet) where
  -- four carry states: the carry never passes 3
  pub lawful : Lawful (instance_of s) 4
  unfolding instance_of Option-elim
  lawful = record { ends = λ g c r h. rw (past_end s.grammar.rules r h); fits = λ g c r m h e. fits g c r m h (step_of s g c r m e) }
    where
      fits : (g : Item) (c r : ℕ) (m : Expansion) → c < 4 → Step s g c r m → m.carry < 4
      fits g c r m h (inl l) = rw l.is (omega (arith, l.few_late))
      fits g c r m h (inr d) = rw d.is h

  -- a property of the parts of each expansion, by their places: a leaf has none, a division its k
  pub each_part : (X : Item → Type 0) (g : Item) (c r : ℕ) (m : Expansion) → (instance_of s).expand g c r ≡ some m
      → ((w : ℕ) (ks : List ℕ) → rule_at s r ≡ some (division g.nonterminal w ks) → may_divide s (length ks) g.left g.len ≡ true
      → (j q : ℕ) → j < length ks → X (part_of g (length ks) j q))
      → Every X m.parts
  unfolding at_leaf at_division
  each_part X g c r m e h = go (step_of s g c r m e)
    where
      go : Step s g c r m → Every X m.parts
      go (inl l) = rw l.is tt
      go (inr d) =
          rw d.is (adjoining_every X g.left (g.len / length d.kids) d.kids (h d.weight d.kids d.rule d.allowed))

  -- a division's parts are shorter: it has two or more, and an onset lies inside
  pub falls : GoodRules s.grammar → Falls (instance_of s) (λ g. g.len)
  falls good g c r m e =
      each_part (λ (h : Item). h.len < g.len) g c r m e
      (λ w ks rule d j q i.
      div-lt_self (divided_long s (length ks) g.left g.len d) (good_division s good r g.nonterminal w ks rule).two)
