pub mod RuleSteps
pub mod LeafSteps
pub mod SavedSteps
pub mod KeySteps
pub mod LaySteps
pub mod PartSteps
pub mod WaySteps
pub mod PlanSteps
