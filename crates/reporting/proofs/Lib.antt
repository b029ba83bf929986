pub mod ReportSteps
