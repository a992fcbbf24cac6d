pub mod ExceptionLaws
pub mod NumberLaws
pub mod TestLaws
pub mod MethodLaws
pub mod ReachLaws
pub mod SegmentLaws
pub mod CheckLaws
pub mod LocalLaws
