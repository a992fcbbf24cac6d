pub mod AnswerLaws
pub mod BackLaws
pub mod FitLaws
pub mod FreshLaws
pub mod PlainLaws
