pub mod Numbers
pub mod Bytes
pub mod Packed
pub mod Tokens
pub mod Causes
pub mod Rules
pub mod Refusals
