pub mod CodedAssemblies
pub mod RowKinds
pub mod Counts
