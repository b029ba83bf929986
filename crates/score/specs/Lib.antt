pub mod Score
pub mod ScoreLaws
pub mod LeafRules
pub mod Writing
pub mod WritingLaws
pub mod Clauses
pub mod Cases
pub mod Refuted
