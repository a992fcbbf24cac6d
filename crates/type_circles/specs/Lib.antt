pub mod RowGraphs
pub mod Structs
