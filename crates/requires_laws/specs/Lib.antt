pub mod ReportCode
pub mod MadeCode
