pub mod PlaceLaws
pub mod BoundLaws
