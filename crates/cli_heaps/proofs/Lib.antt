pub mod EntryLaws
pub mod UserStringLaws
pub mod StreamLaws
pub mod RootLaws
pub mod AcceptedLaws
