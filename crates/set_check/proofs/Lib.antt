pub mod SetLaws
pub mod BodyLaws
