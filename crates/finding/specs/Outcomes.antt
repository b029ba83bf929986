-- Steps towards the laws of finding: what it comes to by the lengths of the slices, and the number and the line of a result.
use Rattle.std.specs.Prelude.{ℕ, ◌≤◌, ◌<◌, ◌≡◌, Bool, true, false, List}
use Rattle.std.proofs.Math.Path.{refl, ap}
use Rattle.std.proofs.Common.{sym, subst, arith}
use Rattle.std.proofs.Math.Decide.{dec_lt}
use borrow.Author.Tests.{lt-ltb, le-ltb}
use Rattle.sheet.specs.Sheet.{Sheet}
use Rattle.sheet.specs.Outcome.{Outcome, refused, accepted, number_in, line_in}
use Rattle.sizes.specs.Sizes.{tree_bytes, work_cells}
use Rattle.pricing.specs.declared.Priced.{Priced}
use Rattle.pricing.specs.Pricing.{priced_of, Answer}
use Rattle.finding.specs.Finding.{has_tree, Search, no_tree, found, find_sheet, Result, Gives}
use Rattle.sheet.specs.Refusal.{answer_number, answer_line}

-- ---- finding on a sheet, by the lengths of the slices

module _ (s : Sheet) (tree work : ℕ) where
  pub work_short : work < work_cells s → find_sheet s tree work ≡ refused 9 0
  unfolding find_sheet
  work_short h = rw (lt-ltb work (work_cells s) h) refl

  module _ (w : work_cells s ≤ work) where
    pub tree_short : tree < tree_bytes s → find_sheet s tree work ≡ refused 10 0
    unfolding find_sheet
    tree_short h = rw (le-ltb work (work_cells s) w, lt-ltb tree (tree_bytes s) h) refl

    module _ (t : tree_bytes s ≤ tree) where
      pub none_found : has_tree s ≡ false → find_sheet s tree work ≡ accepted (no_tree s)
      unfolding find_sheet
      none_found e = rw (le-ltb work (work_cells s) w, le-ltb tree (tree_bytes s) t, e) refl

      pub one_found : has_tree s ≡ true → find_sheet s tree work ≡ accepted (found s)
      unfolding find_sheet
      one_found e = rw (le-ltb work (work_cells s) w, le-ltb tree (tree_bytes s) t, e) refl

  -- there is no other way
  pub by_lengths : (P : Outcome Search → Type 0) → (find_sheet s tree work ≡ refused 9 0 → P (refused 9 0))
      → (find_sheet s tree work ≡ refused 10 0 → P (refused 10 0))
      → (tree_bytes s ≤ tree → find_sheet s tree work ≡ accepted (no_tree s) → P (accepted (no_tree s)))
      → (tree_bytes s ≤ tree → find_sheet s tree work ≡ accepted (found s) → P (accepted (found s))) → P (find_sheet s tree work)
  by_lengths P nine ten eleven tree_given =
      elim (dec_lt work (work_cells s)) [
        | yes h ↦ let e = work_short h in subst P (sym e) (nine e)
        | no h ↦ elim (dec_lt tree (tree_bytes s)) [
          | yes k ↦ let e = tree_short (omega arith) k in subst P (sym e) (ten e)
          | no k ↦ go (has_tree s) refl (omega arith) (omega arith)
        ]
      ]
    where
      go : (b : Bool) → has_tree s ≡ b → work_cells s ≤ work → tree_bytes s ≤ tree → P (find_sheet s tree work)
      go true h w t = let e = one_found w t h in subst P (sym e) (tree_given t e)
      go false h w t = let e = none_found w t h in subst P (sym e) (eleven t e)

-- ---- the number and the line of a result are the outcome's

module _ {tree treeAfter work workAfter : List ℕ} {r : Answer} where
  given : (o : Outcome Search) → Result o tree treeAfter work workAfter r → Gives o tree treeAfter work workAfter r
  given (refused k n) x = let e = x.0.is in record { number = ap number_in e; line = ap line_in e; result = x }
  given (accepted (no_tree s)) x = let e = x.0.is in record { number = ap number_in e; line = ap line_in e; result = x }
  given (accepted (found s)) x = let e = x.0.figures in record { number = ap number_in e; line = ap line_in e; result = x }

  pub gives : (o o' : Outcome Search) → o ≡ o' → Result o' tree treeAfter work workAfter r → Gives o tree treeAfter work workAfter r
  gives o o' e x = subst (λ (o : Outcome Search). Gives o tree treeAfter work workAfter r) (sym e) (given o' x)
