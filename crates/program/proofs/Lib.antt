pub mod ReadingLaws
pub mod LayerLaws
pub mod AnswerLaws
