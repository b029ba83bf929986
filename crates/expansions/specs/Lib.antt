pub mod Tables
pub mod RuleCells
pub mod Items
pub mod Places
