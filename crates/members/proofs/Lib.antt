pub mod ListLaws
pub mod KeyLaws
pub mod NotedLaws
pub mod DeclaredLaws
pub mod ScanLaws
pub mod OutsideLaws
pub mod BaseLaws
