pub mod Entries
pub mod OneAnswer
pub mod Refuted
