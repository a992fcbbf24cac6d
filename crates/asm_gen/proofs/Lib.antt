pub mod SizeLaws
pub mod HeaderLaws
pub mod SampleLaws
pub mod BlankLaws
pub mod FinishLaws
