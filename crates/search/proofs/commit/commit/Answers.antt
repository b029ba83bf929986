-- `commit` meets its contract: the vectors that `backward` makes are those that the bars are built with. Assumes nothing.
-- ---- where the vectors are made
-- ---- the needs
use Rattle.sheet.specs.Sheet.{Sheet}
use Rattle.search.specs.Clauses.{BarsBuildPre, CommitPre}
use Rattle.search.proofs.CommitSteps.{commit_back, commit_build}
use Rattle.search.proofs.commit.commit.Goals.{After-backward}
use Rattle.search.proofs.commit.commit.Goals as goal

entry : (c : After-backward) (s : Sheet) → let a = c.args in
    CommitPre s a.plan.now a.units.now a.rows.now a.tree.now a.roots.now a.vectors.now a.start a.from
    a.end a.n
    → BarsBuildPre s a.plan.now a.units.now a.rows.now a.tree.now c.backward.new.vectors a.roots.now a.start
    a.from a.end a.n
entry c s h = commit_build h (c.backward.ensures s (commit_back h))

pub backward-requires : goal.backward-requires
backward-requires c =
    (c.requires.0, commit_back c.requires.1)

pub build_bars-requires : goal.build_bars-requires
build_bars-requires c =
    (c.requires.0, entry (goal.at.build_bars-requires c).After-backward _ c.requires.1)

pub returns : goal.returns
returns c =
    λ s h. c.build_bars.ensures s (entry (goal.at.returns c).After-backward s h)
