pub mod PointerLaws
pub mod EnterLaws
pub mod PerformLaws
pub mod DelegateLaws
pub mod ReturnLaws
pub mod StepLaws
pub mod OutsideLaws
