pub mod Grown
pub mod Looks
pub mod Runs
