pub mod WrapperLaws
pub mod TestLaws
pub mod ThrowGroupLaws
