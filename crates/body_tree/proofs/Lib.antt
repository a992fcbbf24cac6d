pub mod GuardLaws
pub mod TableLaws
pub mod CopyLaws
pub mod DivisionLaws
