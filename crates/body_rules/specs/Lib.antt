pub mod Faults
pub mod Sets
