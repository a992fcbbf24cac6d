pub mod ReportLaws
pub mod MadeLaws
