pub mod Everything
pub mod Samples
pub mod Rows
