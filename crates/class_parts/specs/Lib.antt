pub mod Passing
pub mod ReportParts
