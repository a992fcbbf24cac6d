pub mod Layout
pub mod Reading
pub mod Blank
pub mod Samples
