pub mod RowLaws
pub mod ExportLaws
pub mod NumberingLaws
pub mod AttributeLaws
pub mod OutsideLaws
pub mod TableLaws
