pub mod InstrLaws
pub mod SectionLaws
pub mod PlaceLaws
pub mod MappedLaws
pub mod ReadLaws
pub mod BodyLaws
pub mod SmallLaws
