pub mod Bases
pub mod Rules
pub mod Places
pub mod Attributes
