-- What finding promises of valid trees, from `Finds` alone: demand 3 in its own words. With slices of the required lengths number 0 is
-- given exactly when some list of bytes is a valid tree, and 11 exactly when no list of any length is; with a shorter slice or a refused
-- text neither is. What is handed back is valid, its figures are its own, no valid tree totals less, and it is the first of the least.
use Prim.Native.Nat.{ℕ, zero, suc, ◌≤◌, ◌<◌}
use Rattle.std.specs.Prelude.{◌≡◌, refl, Bool, true, false, ◌⊎◌, take, drop, replicate}
use Rattle.std.proofs.Common.{sym, subst, ◌∙◌, inl, inr}
use Rattle.std.proofs.Math.Path.{ap}
use mathlib.Core.List.{List, []}
use Rattle.std.proofs.Math.Option.{some, none-ne-some}
use Rattle.std.proofs.Math.Decide.{dec_lt}
use native.Mathlib.Omega.{arith}
use borrow.Author.Tests.{lt-ltb, ltb-true}
use Rattle.std.proofs.Math.ListN.{length}
use Rattle.slices.specs.Every.{Every, every_weaken}
use Rattle.slices.specs.Over.{over, length-over, take-over, drop-over}
use Rattle.sheet.specs.Sheet.{Sheet, bar_units}
use Rattle.sheet.specs.Outcome.{Outcome, refused, accepted}
use Rattle.sheet.specs.Accepted.{Refuses, Accepts}
use Rattle.sheet.proofs.AcceptedLaws.{accepted_good, refuses_or_accepts, on_refusal, on_sheet_lem}
use Rattle.sheet.specs.Numbers.{ReadingNumber, reading_apart, reading_number}
use Rattle.sheet.specs.Good.{Good}
use Rattle.sizes.specs.Sizes.{tree_bytes, work_cells}
use Rattle.derivations.specs.Derivation.{Price, derive}
use Rattle.trees.specs.ValidTrees.{adjoining, bars, ValidTree, total_of}
use Rattle.trees.specs.Instance.{instance_of, Derived}
use Rattle.trees.proofs.Equivalence.{valid_derived}
use Rattle.trees.specs.LeastTotal.{NONE, least_total}
use Rattle.trees.specs.LeastTrees.{FirstTree}
use Rattle.trees.proofs.Found.{own_price, first_tree, least_total_below}
use Rattle.trees.proofs.Theorems.{valid_bytes, node_count, total_below}
use Rattle.pricing.specs.declared.Priced.{Priced}
use Rattle.pricing.specs.Pricing.{price_sheet, priced_of, Answer, figures_of, figures_in}
use Rattle.pricing.specs.PricingLaws.{tree_priced}
use Rattle.finding.specs.Finding.{has_tree, Search, no_tree, found, find_sheet, find_text, number_of, cleared, FoundTree, Gives, Finds}
use Rattle.finding.specs.Outcomes.{work_short, tree_short, none_found, one_found, by_lengths}
use Rattle.sheet.specs.Refusal.{outcome_of, answer_number}

-- ---- whether there is a tree

module _ (s : Sheet) (ok : Good s) where
  -- a tree of the sheet fits a tree slice of the required length
  pub tree_fits : (bs : List ℕ) → ValidTree s bs → length bs ≤ tree_bytes s
  unfolding tree_bytes
  tree_fits bs v = node_count s ok bs v

  -- where some list is a valid tree
  pub has_tree_lem : (bs : List ℕ) → ValidTree s bs → has_tree s ≡ true
  unfolding has_tree
  has_tree_lem bs v =
      let (R, D, p) = own_price s bs v in
      lt-ltb (least_total s) NONE (omega (arith, least_total_below s ok.rules bs R D p, total_below s ok bs R D p))

  -- and nowhere else: it is one of bytes, and the first of the least
  pub some_tree : has_tree s ≡ true
      → (bs : List ℕ) × (R : ℕ) × (D : ℕ) × FirstTree s bs R D × Every (λ (b : ℕ). b < 256) bs
  unfolding has_tree
  some_tree e =
      let (bs, R, D, f, same) = first_tree s ok.rules (ltb-true (least_total s) NONE e) in (
        bs,
        R,
        D,
        f,
        every_weaken _ _ (λ r h. omega (arith, h, ok.rules.most)) bs (valid_bytes s bs f.tree.valid.valid),
      )

  -- where no list of any length is one
  pub has_none : ((bs : List ℕ) → ValidTree s bs → ⊥) → has_tree s ≡ false
  has_none h = go (has_tree s) refl
    where
      go : (b : Bool) → has_tree s ≡ b → b ≡ false
      go true e = let t = some_tree e in absurd (h t.0 t.3.tree.valid.valid)
      go false e = refl

  -- no byte is no tree
  pub no_bytes : ValidTree s [] → ⊥
  unfolding Derived derive bars
  no_bytes v =
      let (R, D, p) = own_price s [] v in
      go s.playing.bars ok.onsets.one (valid_derived s [] R D p)
    where
      go : (b : ℕ) → 1 ≤ b → {p : Price} → derive (instance_of s) [] (adjoining 0 bar_units (replicate b s.grammar.start)) 0 ≡ some p → ⊥
      go zero h e = omega arith
      go (suc b) h e = none-ne-some _ e

-- ---- demand 3

-- what number 0 tells of a sheet
pub record TreeHandedBack (s : Sheet) (tree treeAfter work workAfter : List ℕ) (answer : Answer) : Type 0 where
  pub outcome : find_sheet s (length tree) (length work) ≡ accepted (found s)
  -- the tree handed back is the bytes at the front of the tree slice: a valid tree with the figures given, none totals less, and of those
  -- that total as much it is the first
  pub first : FirstTree s (take (figures_in answer).nodes treeAfter) (figures_in answer).weight (figures_in answer).distance
  pub total : (figures_in answer).total ≡ total_of s (figures_in answer).weight (figures_in answer).distance
  -- the answer is what pricing it gives
  pub own : outcome_of answer ≡ priced_of (price_sheet s (take (figures_in answer).nodes treeAfter))
  pub within : (figures_in answer).nodes ≤ length treeAfter
  -- the bytes behind them are kept
  pub written : treeAfter ≡ over (take (figures_in answer).nodes treeAfter) tree
  pub kept : drop (figures_in answer).nodes treeAfter ≡ drop (figures_in answer).nodes tree
  pub clear : workAfter ≡ cleared s work

-- and of a text
pub record HandedBack (text tree treeAfter work workAfter : List ℕ) (answer : Answer) : Type 0 where
  pub sheet : Sheet
  pub accepts : Accepts text sheet
  pub back : TreeHandedBack sheet tree treeAfter work workAfter answer

module _ (s : Sheet) (ok : Good s) {tree treeAfter work workAfter : List ℕ} {answer : Answer} where
  from_tree : find_sheet s (length tree) (length work) ≡ accepted (found s) → tree_bytes s ≤ length tree → FoundTree s tree treeAfter answer
      → workAfter ≡ cleared s work → TreeHandedBack s tree treeAfter work workAfter answer
  from_tree o room t c =
      record {
        outcome = o;
        first = rw (front, weight, distance) t.first;
        total = ap (λ (p : Outcome Priced). (figures_of p).total) t.figures ∙ rw (weight, distance) refl;
        own =
            t.figures ∙ ap priced_of (sym (tree_priced s t.bytes t.weight t.distance t.first.tree.valid))
            ∙ ap (λ (bs : List ℕ). priced_of (price_sheet s bs)) (sym front);
        within = omega (arith, nodes, fits, ap length t.tree_written, length-over t.bytes tree);
        written = t.tree_written ∙ ap (λ (bs : List ℕ). over bs tree) (sym front);
        kept = rw (nodes, t.tree_written) (drop-over t.bytes tree fits);
        clear = c;
      }
    where
      nodes : (figures_in answer).nodes ≡ length t.bytes
      nodes = ap (λ (p : Outcome Priced). (figures_of p).nodes) t.figures

      weight : (figures_in answer).weight ≡ t.weight
      weight = ap (λ (p : Outcome Priced). (figures_of p).weight) t.figures

      distance : (figures_in answer).distance ≡ t.distance
      distance = ap (λ (p : Outcome Priced). (figures_of p).distance) t.figures

      fits : length t.bytes ≤ length tree
      fits = omega (arith, room, tree_fits s ok t.bytes t.first.tree.valid.valid)

      front : take (figures_in answer).nodes treeAfter ≡ t.bytes
      front = rw (nodes, t.tree_written) (take-over t.bytes tree fits)

  -- number 0: a tree is handed back
  pub tree_handed_back : Gives (find_sheet s (length tree) (length work)) tree treeAfter work workAfter answer → answer_number answer ≡ 0
      → TreeHandedBack s tree treeAfter work workAfter answer
  tree_handed_back f z = by_lengths s (length tree) (length work) Back nine ten eleven tree_given f
    where
      Back : Outcome Search → Type 0
      Back o = Gives o tree treeAfter work workAfter answer → TreeHandedBack s tree treeAfter work workAfter answer

      nine : find_sheet s (length tree) (length work) ≡ refused 9 0 → Back (refused 9 0)
      nine q g = let f : ⊥ = omega (arith, g.number) in absurd f

      ten : find_sheet s (length tree) (length work) ≡ refused 10 0 → Back (refused 10 0)
      ten q g = let f : ⊥ = omega (arith, g.number) in absurd f

      eleven : tree_bytes s ≤ length tree → find_sheet s (length tree) (length work) ≡ accepted (no_tree s) → Back (accepted (no_tree s))
      eleven t q g = let f : ⊥ = omega (arith, g.number) in absurd f

      tree_given : tree_bytes s ≤ length tree → find_sheet s (length tree) (length work) ≡ accepted (found s) → Back (accepted (found s))
      tree_given t q g = from_tree q t g.result.0 g.result.1

-- what finding comes to is what it comes to on the sheet that the text means, or the text's refusal
module _ (text : List ℕ) (tree work : ℕ) where
  pub refused_found : (k n : ℕ) → Refuses text k n → find_text text tree work ≡ refused k n
  unfolding find_text
  refused_found = on_refusal text (λ s. find_sheet s tree work)

  pub sheet_found : (s : Sheet) → Accepts text s → find_text text tree work ≡ find_sheet s tree work
  unfolding find_text
  sheet_found = on_sheet_lem text (λ s. find_sheet s tree work)

module _ (text : List ℕ) {tree treeAfter work workAfter : List ℕ} {answer : Answer} where
  module _ (f : Finds text tree treeAfter work workAfter answer) where
    -- of a text that is refused the number is reading's
    pub refused_number : (k n : ℕ) → Refuses text k n → (answer_number answer ≡ k) × ReadingNumber k
    refused_number k n e = (f.number ∙ ap number_of (refused_found text _ _ k n e), reading_number text k n e)

    -- number 0: a tree is handed back
    pub handed_back : answer_number answer ≡ 0 → HandedBack text tree treeAfter work workAfter answer
    handed_back z = elim (refuses_or_accepts text) [
      | inl (k, n, e) ↦ let (q, of-reading) = refused_number k n e in absurd ((reading_apart k of-reading).0 (sym q ∙ z))
      | inr (s, a) ↦
          let at-sheet = subst (λ o. Gives o tree treeAfter work workAfter answer) (sheet_found text _ _ s a) f in
          record { sheet = s; accepts = a; back = tree_handed_back s (accepted_good text s a) at-sheet z }
    ]

    -- a refused text: neither 0 nor 11
    pub refused_neither : (k n : ℕ) → Refuses text k n → (answer_number answer ≡ 0 → ⊥) × (answer_number answer ≡ 11 → ⊥)
    refused_neither k n e =
        let (q, of-reading) = refused_number k n e in
        let apart = reading_apart k of-reading in
        (λ z. apart.0 (sym q ∙ z), λ z. apart.1 11 (omega arith) (omega arith) (sym q ∙ z))

    module _ (s : Sheet) (a : Accepts text s) where
      ok : Good s
      ok = accepted_good text s a

      numbered : (o : Outcome Search) → find_sheet s (length tree) (length work) ≡ o → answer_number answer ≡ number_of o
      numbered o e = f.number ∙ ap number_of (sheet_found text _ _ s a ∙ e)

      -- a slice that is shorter than required: neither
      pub short_neither : (length work < work_cells s) ⊎ (length tree < tree_bytes s)
          → (answer_number answer ≡ 0 → ⊥) × (answer_number answer ≡ 11 → ⊥)
      short_neither short = elim (dec_lt (length work) (work_cells s)) [
        | yes w ↦ let q = numbered _ (work_short s _ _ w) in (λ z. omega arith, λ z. omega arith)
        | no w ↦ elim short [
          | inl v ↦ let f : ⊥ = omega arith in absurd f
          | inr t ↦ let q = numbered _ (tree_short s _ _ (omega arith) t) in (λ z. omega arith, λ z. omega arith)
        ]
      ]

      -- slices of the required lengths
      module _ (w : work_cells s ≤ length work) (t : tree_bytes s ≤ length tree) where
        pub some_then_zero : (bs : List ℕ) → ValidTree s bs → answer_number answer ≡ 0
        some_then_zero bs v = numbered _ (one_found s _ _ w t (has_tree_lem s ok bs v))

        pub none_then_eleven : ((bs : List ℕ) → ValidTree s bs → ⊥) → answer_number answer ≡ 11
        none_then_eleven h = numbered _ (none_found s _ _ w t (has_none s ok h))

        by_tree : (has_tree s ≡ true) ⊎ (has_tree s ≡ false)
        by_tree = go (has_tree s) refl
          where
            go : (b : Bool) → has_tree s ≡ b → (has_tree s ≡ true) ⊎ (has_tree s ≡ false)
            go true e = inl e
            go false e = inr e

        -- 0 only where some list of bytes is a valid tree
        pub zero_then_some : answer_number answer ≡ 0 → (bs : List ℕ) × ValidTree s bs × Every (λ (b : ℕ). b < 256) bs
        zero_then_some z = elim by_tree [
          | inl e ↦ let x = some_tree s ok e in (x.0, x.3.tree.valid.valid, x.4)
          | inr e ↦ let q = numbered _ (none_found s _ _ w t e) in let f : ⊥ = omega arith in absurd f
        ]

        -- 11 only where no list, of any length, is one
        pub eleven_then_none : answer_number answer ≡ 11 → (bs : List ℕ) → ValidTree s bs → ⊥
        eleven_then_none z bs v = let q = some_then_zero bs v in omega arith
