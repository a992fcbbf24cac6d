pub mod CoreBases
pub mod Supers
pub mod Sources
pub mod Slots
pub mod Overriding
