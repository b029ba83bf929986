pub mod OnsetSteps
pub mod Tables
pub mod OnsetLoop
pub mod HeadLine
pub mod Moments
