pub mod SkipLaws
pub mod TurnLaws
