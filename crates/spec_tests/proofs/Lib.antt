pub mod StrayLaws
pub mod UseLaws
pub mod InstanceLaws
