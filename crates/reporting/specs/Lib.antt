pub mod Reporting
pub mod Restoring
pub mod OneAnswer
pub mod ReportingLaws
pub mod ReportingCases
pub mod ReportLaws
