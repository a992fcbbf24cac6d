mod MemberLaws
mod NewValidLaws
mod ExceptionValidLaws
mod TypeLaws
mod VirtualValidLaws
mod VirtualStepLaws
pub mod CallStepLaws
pub mod DispatchLaws
