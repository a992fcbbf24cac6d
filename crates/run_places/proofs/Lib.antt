pub mod PathLaws
pub mod CellLaws
pub mod FrameLaws
pub mod BelowLaws
pub mod SameLaws
pub mod OwnerLaws
pub mod LayoutLaws
