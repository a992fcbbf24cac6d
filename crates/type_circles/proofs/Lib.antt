pub mod ListLaws
pub mod RealLaws
pub mod NumberLaws
pub mod SetLaws
pub mod EntangledLaws
pub mod StructLaws
pub mod KindLaws
