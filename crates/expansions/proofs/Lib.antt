pub mod PlaceSteps
pub mod ExpandSteps
pub mod RuleCellSteps
pub mod UnitCellSteps
