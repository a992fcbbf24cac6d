pub mod Done
pub mod Fields
pub mod Owners
