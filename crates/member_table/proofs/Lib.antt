pub mod BaseLaws
pub mod EnvironmentLaws
pub mod NoteLaws
