pub mod Tables
pub mod Wrapped
pub mod Flow
