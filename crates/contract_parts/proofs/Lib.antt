pub mod LookupLaws
pub mod PassLaws
