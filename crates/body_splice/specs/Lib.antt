pub mod Splice
pub mod Rewrite
