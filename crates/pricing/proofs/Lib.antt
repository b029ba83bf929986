pub mod ForestSteps
pub mod TreeSteps
pub mod BarSteps
