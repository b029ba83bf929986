pub mod Sizes
pub mod Held
pub mod Members
pub mod Divisors
pub mod Collect
pub mod SizesLaws
pub mod Cases
