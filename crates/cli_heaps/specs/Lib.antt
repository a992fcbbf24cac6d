pub mod Root
pub mod RootRules
pub mod Entries
pub mod Split
