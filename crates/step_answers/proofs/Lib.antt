pub mod LeadLaws
pub mod SiteLaws
pub mod CopyLaws
pub mod JoinLaws
pub mod EntryLaws
pub mod RunLaws
pub mod ObjectLaws
