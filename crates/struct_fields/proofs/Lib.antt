pub mod OwnedLaws
pub mod WithinLaws
