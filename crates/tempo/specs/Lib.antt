pub mod Tempo
pub mod TempoLaws
pub mod RemarkLaws
pub mod Floats
pub mod Signs
pub mod Clauses
pub mod Cases
pub mod Refuted
