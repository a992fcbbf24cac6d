pub mod Grown
pub mod Orderly
pub mod Kept
