pub mod Failures
pub mod Rets
pub mod Inline
