pub mod Signatures
pub mod Descriptions
pub mod Programs
pub mod WholePrograms
pub mod Facts
pub mod TokenFacts
pub mod TypeFacts
