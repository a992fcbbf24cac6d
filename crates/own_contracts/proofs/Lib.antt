pub mod BestLaws
pub mod FoundLaws
pub mod OnceLaws
pub mod EndLaws
pub mod PlainLaws
pub mod PlainOwnLaws
