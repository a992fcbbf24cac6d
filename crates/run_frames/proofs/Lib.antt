pub mod ArgumentLaws
pub mod TypeLaws
