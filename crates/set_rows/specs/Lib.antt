pub mod Sets
pub mod Owners
