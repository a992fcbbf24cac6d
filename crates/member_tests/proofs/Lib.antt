pub mod RowLaws
pub mod MapLaws
