pub mod HeightLaws
pub mod UniqueLaws
pub mod ListLaws
pub mod UnreadLaws
