pub mod Cells
pub mod TapLoop
pub mod StepSteps
