pub mod ParameterCounts
pub mod BlobKinds
