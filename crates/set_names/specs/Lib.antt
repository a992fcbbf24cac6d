pub mod Names
pub mod Paths
pub mod Distinct
pub mod Cycles
