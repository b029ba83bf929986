pub mod BadSteps
pub mod DigitSteps
pub mod FieldSteps
pub mod LineSteps
pub mod PackSteps
pub mod SevenSteps
pub mod WriteSteps
