pub mod AnyLaws
pub mod ListLaws
pub mod RankLaws
pub mod StepLaws
pub mod SearchLaws
pub mod DepthLaws
