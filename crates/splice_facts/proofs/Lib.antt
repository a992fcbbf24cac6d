pub mod ComesLaws
pub mod StaticLaws
pub mod Small
pub mod AskFrameLaws
pub mod StoreLaws
pub mod ThrowLaws
pub mod ExceptionLaws
