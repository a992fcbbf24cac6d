pub mod Blobs
pub mod Spelling
pub mod Shapes
