pub mod OrderLaws
pub mod OutsideLaws
pub mod KnownLaws
pub mod RowLaws
pub mod TokenLaws
pub mod CutLaws
pub mod ProgramLaws
