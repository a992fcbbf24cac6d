pub mod LandLaws
pub mod WriteLaws
pub mod CallLaws
pub mod MemberLaws
pub mod FormLaws
pub mod StepLaws
pub mod RunLaws
