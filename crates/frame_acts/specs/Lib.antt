pub mod Meant
pub mod Stored
