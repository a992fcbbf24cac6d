pub mod RowLaws
pub mod MoreRowLaws
pub mod SplicedRowLaws
pub mod EdgeRowLaws
