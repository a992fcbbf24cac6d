pub mod BadBlobs
pub mod Readings
