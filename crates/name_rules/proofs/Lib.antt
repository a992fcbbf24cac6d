pub mod FailLaws
pub mod RowLaws
pub mod TellLaws
pub mod RewriteLaws
