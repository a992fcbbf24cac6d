pub mod OwnerLaws
pub mod BlobLaws
