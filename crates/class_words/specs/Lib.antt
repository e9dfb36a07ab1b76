pub mod Words
pub mod ReportCalls
