pub mod AmongLaws
pub mod BoundLaws
pub mod WholeLaws
