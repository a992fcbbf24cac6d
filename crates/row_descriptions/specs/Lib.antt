pub mod RowLists
pub mod UserTexts
pub mod TokenTables
pub mod RowDescriptions
