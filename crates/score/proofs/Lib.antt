pub mod LineSteps
pub mod CountSteps
pub mod LeafSteps
pub mod TreeSteps
pub mod PartsSteps
pub mod BarsSteps
pub mod TextSteps
pub mod WriteSteps
