pub mod Expansion
pub mod Labels
