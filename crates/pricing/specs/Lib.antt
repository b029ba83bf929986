pub mod Pricing
pub mod PricingLaws
pub mod PriceLaws
pub mod Clauses
pub mod Cases
