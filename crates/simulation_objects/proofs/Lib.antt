pub mod DispatchLaws
pub mod RefLaws
pub mod StoredLaws
pub mod CallLaws
pub mod VirtualLaws
pub mod NewLaws
pub mod CallStepLaws
