-- `suffix_step` meets its contract: the rows of a bar are low, so their sums with a low vector fit. Each cell is the least of a row's sums
-- (`Least`). Assumes nothing.
-- ---- places
-- ---- each cell, of a sheet s where the rows of the bars before bar e are stored
-- ---- the needs
use Prim.Native.Nat.{ℕ, ◌+◌, ◌*◌, ◌/◌}
use mathlib.Core.Path.{◌≡◌}
use native.Mathlib.Omega.{arith}
use lib.ListN.{get_or}
use Rattle.sheet.specs.Sheet.{Sheet}
use Rattle.derivations.specs.Minima.{lowest}
use Rattle.trees.specs.LeastTotal.{NONE, carries}
use Rattle.rows.specs.Memo.{row_at}
use Rattle.search.specs.Clauses.{SuffixStepPre}
use Rattle.search.proofs.BackSteps.{suffix_step_asked, suffix_step_cell, suffix_step_all}
use Rattle.search.proofs.commit.suffix_step.Goals.{After-dot, After-dot-2, After-dot-3, After-dot-4}
use Rattle.search.proofs.commit.suffix_step.Goals as goal

zeroth : (c : After-dot) (s : Sheet) (e : ℕ) → (SuffixStepPre s c.args.roots.now e c.args.b c.args.v) → (let a = c.args in
    c.dot.result ≡ lowest NONE (λ x. get_or (row_at a.roots.now (4 * (4 * a.b + 0))) x 0 / 64 + get_or a.v x 0) carries)
zeroth c s e h =
    suffix_step_cell h 0 (omega arith) (16 * c.args.b) (omega arith) c.load.ensures
    c.totals.ensures
    c.dot.ensures

first : (c : After-dot-2) (s : Sheet) (e : ℕ) → (SuffixStepPre s c.args.roots.now e c.args.b c.args.v)
    → (let a = c.args in
    c.dot-2.result ≡ lowest NONE (λ x. get_or (row_at a.roots.now (4 * (4 * a.b + 1))) x 0 / 64 + get_or a.v x 0) carries)
first c s e h =
    suffix_step_cell h 1 (omega arith) (16 * c.args.b + 4) (omega arith) c.load-2.ensures
    c.totals-2.ensures c.dot-2.ensures

second : (c : After-dot-3) (s : Sheet) (e : ℕ) → (SuffixStepPre s c.args.roots.now e c.args.b c.args.v)
    → (let a = c.args in
    c.dot-3.result ≡ lowest NONE (λ x. get_or (row_at a.roots.now (4 * (4 * a.b + 2))) x 0 / 64 + get_or a.v x 0) carries)
second c s e h =
    suffix_step_cell h 2 (omega arith) (16 * c.args.b + 8) (omega arith) c.load-3.ensures
    c.totals-3.ensures c.dot-3.ensures

third : (c : After-dot-4) (s : Sheet) (e : ℕ) → (SuffixStepPre s c.args.roots.now e c.args.b c.args.v)
    → (let a = c.args in
    c.dot-4.result ≡ lowest NONE (λ x. get_or (row_at a.roots.now (4 * (4 * a.b + 3))) x 0 / 64 + get_or a.v x 0) carries)
third c s e h =
    suffix_step_cell h 3 (omega arith) (16 * c.args.b + 12) (omega arith) c.load-4.ensures
    c.totals-4.ensures c.dot-4.ensures

pub dot-requires : goal.dot-requires
dot-requires c =
    suffix_step_asked c.requires.2 0 (omega arith) (16 * c.args.b) (omega arith) c.load.ensures
    c.totals.ensures

pub dot-requires-2 : goal.dot-requires-2
dot-requires-2 c =
    suffix_step_asked c.requires.2 1 (omega arith) (16 * c.args.b + 4) (omega arith) c.load-2.ensures
    c.totals-2.ensures

pub dot-requires-3 : goal.dot-requires-3
dot-requires-3 c =
    suffix_step_asked c.requires.2 2 (omega arith) (16 * c.args.b + 8) (omega arith) c.load-3.ensures
    c.totals-3.ensures

pub dot-requires-4 : goal.dot-requires-4
dot-requires-4 c =
    suffix_step_asked c.requires.2 3 (omega arith) (16 * c.args.b + 12) (omega arith) c.load-4.ensures
    c.totals-4.ensures

-- the four are the vector
pub returns : goal.returns
returns c =
    λ s e h.
    suffix_step_all h (zeroth (goal.at.returns c).After-dot s e h) (first (goal.at.returns c).After-dot-2 s e h)
    (second (goal.at.returns c).After-dot-3 s e h) (third (goal.at.returns c).After-dot-4 s e h)
