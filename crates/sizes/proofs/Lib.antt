pub mod CursorSteps
pub mod FlagSteps
pub mod AritySteps
pub mod ReachedSteps
pub mod LengthSteps
pub mod BarSteps
pub mod Products
