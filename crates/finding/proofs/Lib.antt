pub mod FigureSteps
pub mod FindSteps
