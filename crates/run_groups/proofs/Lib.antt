pub mod EntryLaws
pub mod SkipLaws
