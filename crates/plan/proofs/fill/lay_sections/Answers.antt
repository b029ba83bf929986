-- `lay_sections` meets its contract: each section keeps those before it. Assumes nothing.
use Rattle.plan.proofs.LaySteps.{sections_laid}
use Rattle.plan.proofs.fill.lay_sections.Goals as goal

pub returns : goal.returns
returns c =
    sections_laid c.lay_tables.ensures c.lay_parts.ensures c.lay_groups.ensures c.lay_numbers.ensures
    c.lay_ways.ensures c.requires.6
