pub mod Flats
pub mod RuleLoop
pub mod Tables
