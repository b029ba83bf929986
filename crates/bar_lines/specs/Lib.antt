pub mod Lines
pub mod ClockLaws
