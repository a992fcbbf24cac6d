pub mod BlobLaws
pub mod PassLaws
