pub mod Flow
pub mod CallKinds
pub mod Parts
pub mod Closures
