pub mod OneRequiresCode
pub mod OneRequiresLaws
pub mod FoundLaws
pub mod WholeLaws
pub mod RootLaws
pub mod BaseLaws
