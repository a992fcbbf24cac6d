pub mod RowTestLaws
pub mod NameLaws
pub mod TableLaws
