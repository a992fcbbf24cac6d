pub mod ArgumentLaws
pub mod CutLaws
pub mod TypesLaws
pub mod PlaceLaws
pub mod NumberingLaws
pub mod NotedLaws
pub mod KeptLaws
pub mod KindLaws
