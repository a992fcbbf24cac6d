pub mod FaultLaws
pub mod RowLaws
