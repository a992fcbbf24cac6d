pub mod Copies
pub mod Division
