-- `prepare` meets its contract: the sections are laid from the sheet's tables, whatever the array held. Assumes nothing.
use Prim.Native.Nat.{◌≤◌}
use mir.Syntax.{w32, w64}
use mir.Val.{Fits}
use lib.ListN.{get_or}
use Rattle.expansions.specs.Tables.{RulesHeld}
use Rattle.plan.specs.Sections.{Small}
use Rattle.plan.proofs.PlanSteps.{few_rules, few_heads, few_lengths, falling, tables_of, prepared}
use borrow.Author.Rules.{rules}
use Rattle.plan.proofs.fill.prepare.Goals.{Start}
use Rattle.plan.proofs.fill.prepare.Goals as goal

rules-few : (c : Start) → c.args.grammar.count ≤ 64
rules-few c = few_rules c.args.grammar c.requires.0 c.requires.1 c.requires.2

-- a child is a byte, and a length fits 32 bits
children-small : (c : Start) → Small c.args.grammar.children
children-small c i = let f : Fits w32 (get_or c.args.grammar.children i 0) = search rules in f.fits

lengths-small : (c : Start) → Small c.args.reached.cells
lengths-small c i = let f : Fits w32 (get_or c.args.reached.cells i 0) = search rules in f.fits

pub least_leaves-leaves-requires : goal.least_leaves-leaves-requires
least_leaves-leaves-requires c = rules-few (goal.at.least_leaves-leaves-requires c).Start

pub by_head-groups-requires : goal.by_head-groups-requires
by_head-groups-requires c = rules-few (goal.at.by_head-groups-requires c).Start

pub lay_sections-requires : goal.lay_sections-requires
lay_sections-requires c =
    let told = c.args in
    let pre = c.requires in (
      search rules,
      children-small (goal.at.lay_sections-requires c).Start,
      (λ i. let f : Fits w64 (get_or c.least_leaves-leaves.result i 0) = search rules in f.fits),
      lengths-small (goal.at.lay_sections-requires c).Start,
      falling pre.0 told.reached pre.3,
      few_heads told.grammar pre.0 pre.1 pre.2,
      few_lengths pre.0 told.reached pre.3,
      rules-few (goal.at.lay_sections-requires c).Start,
    )

pub returns : goal.returns
returns c =
    let told = c.args in
    λ s good e lens.
    let tables =
    tables_of s good told.grammar e c.pack_rules-rules.result c.least_leaves-leaves.result told.reached
    c.pack_rules-rules.ensures c.least_leaves-leaves.ensures lens in
    let held : RulesHeld s c.pack_rules-rules.result = record { good = good; rules = tables.rules_are } in
    prepared s _ _ _ _ _ _ _ _ tables (c.by_head-groups.ensures s held tables.n_is) c.lay_sections.ensures
