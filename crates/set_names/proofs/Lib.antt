pub mod NameLaws
pub mod PathLaws
pub mod PlaceLaws
