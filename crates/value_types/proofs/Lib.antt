pub mod BlobLaws
pub mod CodedLaws
pub mod NameLaws
