pub mod HandlingLaws
pub mod LeaveLaws
