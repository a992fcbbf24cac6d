pub mod NestedLaws
pub mod BlockLaws
pub mod SearchLaws
pub mod GrowthLaws
pub mod CodeLaws
pub mod ClauseLaws
