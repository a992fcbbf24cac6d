pub mod Invariants
pub mod Effective
