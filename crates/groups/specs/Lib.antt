pub mod Sums
pub mod Groups
pub mod CountLaws
pub mod GroupLaws
pub mod Cases
