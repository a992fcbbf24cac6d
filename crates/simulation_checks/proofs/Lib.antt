pub mod NewFrameLaws
pub mod MakeLaws
